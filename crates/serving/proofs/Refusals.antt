-- Why a map is not served.
use Rattle.std.proofs.Common.{◌≡◌, ◌⊎◌, inl, inr, Some, Result, Ok, Err, refl}
use Rattle.std.specs.Prelude.{IfErr}
use Rattle.std.specs.Result.{IsErrAnd}
use Rattle.tgap_model.specs.declared.failure.Or.{Or}
use Rattle.tgap_model.specs.declared.failure.Or.TheVariants.{Fault, Memory}
use Rattle.tgap_model.specs.declared.fault.MapFault.{MapFault}
use Rattle.tgap_model.specs.Base.{BaseMap}
use Rattle.tgap_model.specs.Partition.{IsPartition, base_segments, map_fault}
use Rattle.grid_geo.specs.Evidence.{IsShownBy}
use Rattle.plain_io.specs.declared.files.Which.{Which}
use Rattle.plain_io.specs.Loads.{Told}
use Rattle.std.proofs.Common.{ℕ, List}
use Rattle.commands.specs.declared.outcome.Outcome.{Outcome}
use Rattle.commands.specs.declared.outcome.Outcome.TheVariants.{OutOfMemory, Refused}
use Rattle.commands.specs.Outcomes.{refusal}
use Rattle.commands.specs.Command.{Source}
use Rattle.commands.specs.MapFile.{files_of_map, OfMap, of_map}
use Rattle.commands.specs.Answers.{Answering, ReadsMap}
use Rattle.commands.specs.Check.{IsFirstFault, SaysCheck, check_outcome}
use Rattle.commands.proofs.Loads.{with_map}

-- a map that is refused by its check, or memory is wanting
pub refused_here : {A : Type 0} (m : BaseMap) (e : Or MapFault) (r : Result A Outcome) → IsErrAnd r (λ o. o ≡ refusal e)
    → (let told : Or MapFault → Result BaseMap (Or MapFault) = λ x. Err x in
    ((fault : MapFault) → told e ≡ told (Fault fault) → map_fault m ≡ Some fault)
    × ((fault : MapFault) → told e ≡ told (Fault fault) → IsShownBy (base_segments m) fault)
    × ((fault : MapFault) → told e ≡ told (Fault fault) → ¬ (IsPartition (base_segments m))))
    → IfErr r (λ o. (o ≡ OutOfMemory) ⊎ ((fault : MapFault) × (o ≡ Refused fault) × (map_fault m ≡ Some fault) × IsFirstFault m fault))
refused_here m e (Ok x) same h = absurd same
refused_here m (Fault fault) (Err o) same h = inr (fault, same, h.0 fault refl, (h.2 fault refl, h.1 fault refl))
refused_here m Memory (Err o) same h = inl same

-- so it is as its check says
pub refused_map : {A : Type 0} (source : Source) (told : Which → List ℕ → Told) (rose : Which → Type 0) (m : BaseMap) (r : Result A Outcome)
    → ReadsMap source told rose (Ok m)
    → IfErr r (λ o. (o ≡ OutOfMemory) ⊎ ((fault : MapFault) × (o ≡ Refused fault) × (map_fault m ≡ Some fault) × IsFirstFault m fault))
    → IfErr r (λ o. Answering (files_of_map source) (OfMap source SaysCheck) (of_map source check_outcome) told rose o)
unfolding check_outcome
refused_map source told rose m (Ok x) read h = tt
refused_map source told rose m (Err o) read (inl memory) = inr (inl memory)
refused_map source told rose m (Err o) read (inr h) =
    with_map source told rose SaysCheck check_outcome m o read (inr (rw h.1 (h.3, rw (h.2, check_outcome) refl, tt)))
