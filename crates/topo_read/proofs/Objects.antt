-- The members of an object, beside the entries of the map that stands for it.
use Rattle.std.proofs.Common.{◌≡◌, ◌<◌, suc, List, [], ◌∷◌, length, slice_get, Some, Ok, Err, refl, ap, arith}
use Rattle.serde_json.specs.View.{view, members_view}
use Rattle.serde_json.proofs.Views.{Entry}
use Rattle.tgap_model.specs.declared.fault.MapFault.TheVariants.{ManyObjects}
use Rattle.topology_forms.specs.Topology.{count_members, only_member}

-- there are as many members as entries
count_of : (es : List Entry) → count_members (members_view es) ≡ length es
count_of [] = refl
count_of (e ∷ es) = ap suc (count_of es)

-- the first entry is the only member
pub only_one : (es : List Entry) (e : Entry) → length es ≡ 1 → slice_get es 0 ≡ Some e → only_member (members_view es) ≡ Ok (view e.1)
only_one [] e one first = absurd (omega arith)
only_one (x ∷ []) e one first = let same : x ≡ e = cc in ap (λ (y : Entry). Ok (view y.1)) same
only_one (x ∷ y ∷ es) e one first = absurd (omega arith)

-- several members
pub several : (es : List Entry) → 0 < length es → (length es ≡ 1 → ⊥) → only_member (members_view es) ≡ Err (ManyObjects (length es))
several [] some more = absurd (omega arith)
several (x ∷ []) some more = absurd (more refl)
several (x ∷ y ∷ es) some more = ap (λ n. Err (ManyObjects (suc (suc n)))) (count_of es)
