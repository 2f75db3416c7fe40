-- The walk over a geometry and those in it, one after another, as a loop does.
use Rattle.std.proofs.Common.{◌≡◌, ◌≢◌, ℕ, zero, suc, ◌-◌, List, Result, Ok, Err, refl, sub-one}
use Rattle.std.specs.Option.{ok_or, is_some}
use Rattle.serde_json.specs.Data.{Data}
use Rattle.serde_json.specs.Find.{as_object}
use Rattle.tgap_model.specs.declared.fault.MapFault.{MapFault}
use Rattle.tgap_model.specs.declared.fault.MapFault.TheVariants.{Shape}
use Rattle.line_forms.specs.Lines.{◌>>=◌}
use Rattle.line_forms.specs.Json.{ensured, try_fold}
use Rattle.topology_forms.specs.Topology.{Walk, met, geometry_of, members_of, shapes_of, kind_of, polygon_read, geometry_read}
use Rattle.topo_read.specs.Walk.{own_read}

-- ---- a geometry is itself, and then those in it

-- the geometries in it, and the walk after its own polygons
abbrev both : {M W F : Type 0} → M → W → Result (M × W) F
both members own = Ok (members, own)

-- its own walk, and those in it, put together before or after
last_step : {M W F : Type 0} (members : M) (own : Result W F) (deeper : W → M → Result W F)
    → (own >>= λ w. deeper w members) ≡ ((own >>= both members) >>= λ x. deeper x.1 x.0)
last_step members (Ok w) deeper = refl
last_step members (Err f) deeper = refl

all_steps : {T M S W F : Type 0} (top : Result T F) (members : Result M F) (shapes : Result S F) (own : S → Result W F) (deeper : W → M → Result W F)
    → (top >>= λ t. members >>= λ m. shapes >>= λ s. own s >>= λ w. deeper w m)
    ≡ (((top >>= λ t. members) >>= λ m. shapes >>= λ s. own s >>= both m) >>= λ x. deeper x.1 x.0)
all_steps (Ok t) (Ok m) (Ok s) own deeper = last_step m (own s) deeper
all_steps (Ok t) (Ok m) (Err f) own deeper = refl
all_steps (Ok t) (Err f) shapes own deeper = refl
all_steps (Err f) members shapes own deeper = refl

one_deeper : (depth n : ℕ) (property : List ℕ) (walk : Walk) (d : Data)
    → geometry_read (suc depth) n property walk d ≡ (own_read n property walk d >>= λ x. try_fold (geometry_read depth n property) x.1 x.0)
unfolding geometry_read own_read
one_deeper depth n property walk d =
    all_steps (ensured (is_some (as_object d)) (Shape 8 walk.geometries)) (ok_or (members_of (geometry_of d) d) (Shape 8 walk.geometries)) (ok_or (shapes_of (geometry_of d) d) (Shape 9 walk.geometries))
    (λ shapes. try_fold (polygon_read n (kind_of property d)) (met walk) shapes) (try_fold (geometry_read depth n property))

-- ---- the loop over the geometries in one

-- at depth 0 nothing is met
pub not_deeper : (depth n : ℕ) (property : List ℕ) (walk : Walk) (d : Data) → depth ≡ 0 → geometry_read depth n property walk d ≡ Ok walk
unfolding geometry_read
not_deeper depth n property walk d e = rw e refl

-- the geometries in one are met where its own polygons are put
pub members_first : (depth n : ℕ) (property : List ℕ) (walk own : Walk) (d : Data) (members : List Data) → depth ≢ 0 → own_read n property walk d ≡ Ok (members, own)
    → try_fold (geometry_read (depth - 1) n property) own members ≡ geometry_read depth n property walk d
members_first zero n property walk own d members h e = absurd (h refl)
members_first (suc depth) n property walk own d members h e = rw (sub-one (suc depth), one_deeper depth n property walk d, e) refl

-- the geometry itself has a fault
pub own_stop : (depth n : ℕ) (property : List ℕ) (walk : Walk) (d : Data) (f : MapFault) → depth ≢ 0 → own_read n property walk d ≡ Err f
    → geometry_read depth n property walk d ≡ Err f
own_stop zero n property walk d f h e = absurd (h refl)
own_stop (suc depth) n property walk d f h e = rw (one_deeper depth n property walk d, e) refl
