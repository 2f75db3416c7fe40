-- An edit that is not refused has passed its tests.
use Rattle.std.proofs.Common.{◌≡◌, ℕ, ◌-◌, Bool, true, false, not, nat_lt, List, length, set, Option, Some, None, Result, Ok, IsTrue, refl, subst, arith}
use Rattle.std.specs.Prelude.{unwrap_or}
use Rattle.std.specs.Option.{ok_or}
use Rattle.std.proofs.lemmas.Bool.{ltb-true}
use Rattle.tgap_model.specs.declared.geometry.Point.{Point}
use Rattle.tgap_model.specs.declared.base.BaseArc.{BaseArc}
use Rattle.tgap_model.specs.declared.limits.TheConstants.{MAX_POINTS}
use Rattle.tgap_model.specs.Base.{BaseMap, is_base, count_points}
use Rattle.line_forms.specs.Json.{ensured}
use Rattle.tgap_model.proofs.BaseFacts.{base_facts, rules_facts}
use Rattle.line_forms.specs.Lines.{◌>>=◌}
use Rattle.face_cuts.specs.Fusions.{fuse_faces}
use Rattle.face_cuts.specs.Cuts.{cut_face}
use Rattle.face_cuts.proofs.FusionsKeep.{fusions_keep}
use Rattle.face_cuts.proofs.CutsKeep.{cuts_keep}
use Rattle.edit_laws.specs.Edits.{named, set_class, has_point, is_node, move_all, put_between, take_out, change_first, turns_back, move_point, add_point, drop_point}
use Rattle.edit_laws.specs.Edits.{Cut, cut_named, fuse_named}
use Rattle.edit_laws.specs.EditLaws.{FitsLimits, ClassesKeepMaps, MovesKeepMaps, AddsKeepMaps, DropsKeepMaps}
use Rattle.edit_laws.proofs.Numbers.{named_most}
use Rattle.edit_laws.proofs.Laws.{classes_again, move_again, add_again, drop_again}

pub classes_keep : ClassesKeepMaps
unfolding set_class
classes_keep m e face class base made =
    by (named 1 (length m.classes) face) (named 0 (length m.rules.weights - 1) class) refl made
  where
    by : (f k : Option ℕ) → named 0 (length m.rules.weights - 1) class ≡ k
        → (let result : Result BaseMap ℕ = ok_or f 2 >>= λ at. ok_or k 2 >>= λ set_to. Ok (record m { classes = set m.classes (at - 1) set_to }) in
        let wanted : Result BaseMap ℕ = Ok e in result ≡ wanted)
        → IsTrue (is_base e)
    by None k read made = absurd cc
    by (Some at) None read made = absurd cc
    by (Some at) (Some set_to) read made =
        (let same : record m { classes = set m.classes (at - 1) set_to } ≡ e = cc in
        let most = named_most 0 (length m.rules.weights - 1) class set_to read in
        let some = (rules_facts m.rules (base_facts m base).rules).some_class in
        subst (λ (x : BaseMap). IsTrue (is_base x)) same (classes_again m (at - 1) set_to base (omega arith)))

pub moves_keep : MovesKeepMaps
unfolding move_point
moves_keep m e old new base limits made = by (has_point old m.arcs) (has_point new m.arcs) refl made
  where
    moved : BaseMap
    moved = record m { arcs = move_all old new m.arcs }

    by : (there taken : Bool) → has_point new m.arcs ≡ taken
        → (let result : Result BaseMap ℕ = ensured there 3 >>= λ t. ensured (not taken) 4 >>= λ f. Ok moved in let wanted : Result BaseMap ℕ = Ok e in result ≡ wanted)
        → IsTrue (is_base e)
    by true false free made = (let same : moved ≡ e = cc in subst (λ (x : BaseMap). IsTrue (is_base x)) same (move_again m old new base limits free))
    by true true free made = absurd cc
    by false taken free made = absurd cc

pub adds_keep : AddsKeepMaps
unfolding add_point
adds_keep m e a b new base limits made =
    by (change_first (put_between a b new) m.arcs) (has_point new m.arcs) (nat_lt (count_points m.arcs) MAX_POINTS) refl refl refl made
  where
    by : (found : Option (List BaseArc)) (taken room : Bool) → change_first (put_between a b new) m.arcs ≡ found → has_point new m.arcs ≡ taken
        → nat_lt (count_points m.arcs) MAX_POINTS ≡ room
        → (let result : Result BaseMap ℕ = ok_or found 5 >>= λ arcs. ensured (not taken) 4 >>= λ f. ensured room 8 >>= λ r. Ok (record m { arcs = arcs }) in
        let wanted : Result BaseMap ℕ = Ok e in result ≡ wanted)
        → IsTrue (is_base e)
    by None taken room found free fits made = absurd cc
    by (Some arcs) true room found free fits made = absurd cc
    by (Some arcs) false false found free fits made = absurd cc
    by (Some arcs) false true found free fits made =
        (let same : record m { arcs = arcs } ≡ e = cc in
        subst (λ (x : BaseMap). IsTrue (is_base x)) same
        (add_again m a b new arcs base limits free found (ltb-true (count_points m.arcs) MAX_POINTS fits)))

pub drops_keep : DropsKeepMaps
unfolding drop_point
drops_keep m e old base made =
    by (has_point old m.arcs) (is_node old m.arcs) (turns_back old m.arcs) (change_first (take_out old) m.arcs) refl refl made
  where
    by : (there node back : Bool) (found : Option (List BaseArc)) → turns_back old m.arcs ≡ back → change_first (take_out old) m.arcs ≡ found
        → (let result : Result BaseMap ℕ = ensured there 3 >>= λ t. ensured (not node) 6 >>= λ i. ensured (not back) 7 >>= λ k. Ok (record m { arcs = unwrap_or found m.arcs }) in
        let wanted : Result BaseMap ℕ = Ok e in result ≡ wanted)
        → IsTrue (is_base e)
    by true false false None apart found made = (let same : m ≡ e = cc in subst (λ (x : BaseMap). IsTrue (is_base x)) same base)
    by true false false (Some arcs) apart found made =
        (let same : record m { arcs = arcs } ≡ e = cc in subst (λ (x : BaseMap). IsTrue (is_base x)) same (drop_again m old arcs base apart found))
    by true false true found apart e1 made = absurd cc
    by true true back found apart e1 made = absurd cc
    by false node back found apart e1 made = absurd cc

-- a cut and a fusion of faces that are named keep a base map one, as those of the faces do
pub named_cuts_keep : (m e : BaseMap) (face class : List ℕ) (points : List Point) → IsTrue (is_base m) → FitsLimits (Cut face class points)
    → cut_named m face class points ≡ Ok e → IsTrue (is_base e)
unfolding cut_named
named_cuts_keep m e face class points base fits made = by (named 1 (length m.classes) face) (named 0 (length m.rules.weights - 1) class) made
  where
    by : (f k : Option ℕ) → (ok_or f 2 >>= λ at. ok_or k 2 >>= λ new. cut_face m at new points) ≡ Ok e → IsTrue (is_base e)
    by None k made = absurd cc
    by (Some f) None made = absurd cc
    by (Some f) (Some k) made = cuts_keep m e f k points base fits.0 fits.1 made

pub named_fusions_keep : (m e : BaseMap) (kept gone : List ℕ) → IsTrue (is_base m) → fuse_named m kept gone ≡ Ok e → IsTrue (is_base e)
unfolding fuse_named
named_fusions_keep m e kept gone base made = by (named 1 (length m.classes) kept) (named 1 (length m.classes) gone) made
  where
    by : (f g : Option ℕ) → (ok_or f 2 >>= λ one. ok_or g 2 >>= λ other. fuse_faces m one other) ≡ Ok e → IsTrue (is_base e)
    by None g made = absurd cc
    by (Some f) None made = absurd cc
    by (Some f) (Some g) made = fusions_keep m e f g base made
