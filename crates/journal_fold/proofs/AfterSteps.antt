-- The map that a batch makes, from what the calls tell.
use Rattle.std.proofs.Common.{◌≡◌, ℕ, List, Option, Some, None, Result, Ok, Err, sym, ap, ◌∙◌, subst}
use Rattle.tgap_model.specs.declared.failure.Or.{Or}
use Rattle.tgap_model.specs.declared.failure.Or.TheVariants.{Fault}
use Rattle.tgap_model.specs.declared.fault.MapFault.{MapFault}
use Rattle.tgap_model.specs.Base.{BaseMap}
use Rattle.tgap_model.specs.Partition.{map_fault}
use Rattle.edit_laws.specs.Edits.{edited}
use Rattle.map_version.specs.declared.fault.EditFault.{EditFault}
use Rattle.map_version.specs.Faults.{told_fault, GivesEdited}
use Rattle.journal_fold.specs.JournalFolds.{sound_of, map_after}

-- a line is at fault
pub after_edit : (m : BaseMap) (bytes batch : List ℕ) (fault : EditFault) (result : Result BaseMap (Or EditFault)) → bytes ≡ batch
    → GivesEdited result (edited m bytes) → result ≡ Err (Fault fault) → map_after m batch ≡ None
unfolding map_after
after_edit m bytes batch fault result same gives is =
    let told : edited m bytes ≡ Err (told_fault fault) = subst (λ (r : Result BaseMap (Or EditFault)). GivesEdited r (edited m bytes)) is gives in
    ap (λ (b : List ℕ). sound_of (edited m b)) (sym same) ∙ ap sound_of told

-- the edited map has a fault
pub after_fault : (m next : BaseMap) (bytes batch : List ℕ) (fault : MapFault) → bytes ≡ batch → edited m bytes ≡ Ok next → map_fault next ≡ Some fault
    → map_after m batch ≡ None
unfolding map_after
after_fault m next bytes batch fault same is bad =
    ap (λ (b : List ℕ). sound_of (edited m b)) (sym same) ∙ ap sound_of is
    ∙ ap (λ (o : Option MapFault). elim o [ None ↦ Some next | Some f ↦ None ]) bad

-- it has none
pub after_sound : (m next checked : BaseMap) (bytes batch : List ℕ) → bytes ≡ batch → edited m bytes ≡ Ok next → (checked ≡ next) × (map_fault next ≡ None)
    → map_after m batch ≡ Some checked
unfolding map_after
after_sound m next checked bytes batch same is good =
    ap (λ (b : List ℕ). sound_of (edited m b)) (sym same) ∙ ap sound_of is
    ∙ ap (λ (o : Option MapFault). elim o [ None ↦ Some next | Some f ↦ None ]) good.1 ∙ ap (λ (e : BaseMap). Some e) (sym good.0)
