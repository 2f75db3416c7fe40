-- That the texts that are kept are replies of the versions.
use Rattle.std.specs.Prelude.{◌≡◌, List, All, Some, slice_get}
use Rattle.tgap_model.specs.Base.{BaseMap}
use Rattle.session.specs.declared.answer.Answer.{Answer}
use Rattle.session.specs.declared.kept_texts.KeptText.{KeptText}
use Rattle.session.specs.Answers.{route_answer}
use Rattle.session.specs.Outcomes.{sent}
use Rattle.session.specs.Versions.{Seen}

-- it has the bytes of the reply with the answer that the version of its number gives to who asks for it
abbrev pub IsKept : List BaseMap → KeptText → Type 0
IsKept history kept =
    (m : BaseMap) × (answer : Answer) × (slice_get history kept.key.number ≡ Some m)
    × (route_answer kept.key.number m kept.key.asked ≡ Some answer) × (kept.text ≡ sent kept.key.number kept.key.close answer)

-- each of them is
abbrev pub AreKept : List BaseMap → List KeptText → Type 0
AreKept history kept = All (IsKept history) kept

-- what is kept at a desk is that of the versions that are seen
abbrev pub IsDeskOf : Seen → List KeptText → Type 0
IsDeskOf seen desk = AreKept seen.history desk
