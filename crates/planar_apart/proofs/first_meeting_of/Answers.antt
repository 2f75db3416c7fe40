-- What the search says of the least pair.
use Rattle.std.proofs.Common.{◌≡◌, Some, None, AllPairs, sym, ap, ◌∙◌}
use Rattle.std.specs.Option.{option_map}
use Rattle.std.proofs.lemmas.Result.{IfOk-weaker}
use Rattle.tgap_model.specs.Partition.{AreApart, meeting_from}
use Rattle.grid_geo.specs.Evidence.{IsFirstMeeting}
use Rattle.planar_apart.specs.declared.meeting.Meeting.{Meeting}
use Rattle.planar_apart.specs.declared.search.Known.{Known}
use Rattle.planar_apart.specs.Meetings.{meets}
use Rattle.planar_apart.proofs.Pairs.{all_apart, is_first}
use Rattle.planar_apart.proofs.first_meeting_of.Goals as goal

pub returns-clause-found : goal.returns-clause-found
returns-clause-found c =
    let segments = c.args.segments.now in
    IfOk-weaker c.first_pair.result (λ (known : Known). option_map meets known.meeting ≡ meeting_from 0 segments)
    (λ (known : Known). (m : Meeting) → known.meeting ≡ Some m → IsFirstMeeting segments m.i m.j m.at)
    (λ known exact m e. is_first segments m c.requires.proper (sym exact ∙ ap (option_map meets) e)) c.first_pair.ensures.exact

pub returns-clause-apart : goal.returns-clause-apart
returns-clause-apart c =
    let segments = c.args.segments.now in
    IfOk-weaker c.first_pair.result (λ (known : Known). option_map meets known.meeting ≡ meeting_from 0 segments)
    (λ (known : Known). known.meeting ≡ None → AllPairs AreApart segments)
    (λ known exact e. all_apart segments c.requires.proper (sym exact ∙ ap (option_map meets) e)) c.first_pair.ensures.exact
