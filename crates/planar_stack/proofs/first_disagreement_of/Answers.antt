-- What the answer says of the segments it says of those that are given; they have their ends within the limits.
use Rattle.std.proofs.Common.{List, None, AllPairs, IfOk, All, true, ◌≡◌, sym, subst}
use Rattle.std.proofs.lemmas.List.Elements.{All-weaker}
use Rattle.std.proofs.lemmas.List.Sums.{AllPass-from_list_all}
use Rattle.tgap_model.specs.declared.segment.LabelledSegment.{LabelledSegment}
use Rattle.tgap_model.specs.Bounds.{HasNearEnds}
use Rattle.tgap_model.specs.Partition.{AreApart, is_proper}
use Rattle.tgap_model.proofs.Proper.{near_ends}
use Rattle.grid_geo.specs.Evidence.{IsFirstStackGap}
use Rattle.planar_stack.specs.Sweep.{FacesAgree}
use Rattle.planar_stack.proofs.Swept.{answer_agrees, answer_only, answer_shown}
use Rattle.planar_stack.proofs.first_disagreement_of.Goals as goal

pub first_gap-requires-clause-near : goal.first_gap-requires-clause-near
first_gap-requires-clause-near g c = λ _ _.
    subst (λ (ss : List LabelledSegment). All (λ s. HasNearEnds s.segment) ss) (sym c.into_vec.ensures)
    (All-weaker (λ (s : LabelledSegment). is_proper s ≡ true) (λ s. HasNearEnds s.segment) near_ends c.args.segments (AllPass-from_list_all is_proper c.args.segments c.requires.proper))

pub returns-clause-found : goal.returns-clause-found
returns-clause-found g c =
    λ gap some. subst (λ (ss : List LabelledSegment). IsFirstStackGap ss gap.line gap.place gap.upper gap.lower) c.into_vec.ensures
    (answer_shown c.into_vec.result.items c.first_gap.result gap c.first_gap.ensures some)

pub returns-clause-agree : goal.returns-clause-agree
returns-clause-agree g c =
    λ none. subst FacesAgree c.into_vec.ensures
    (answer_agrees c.into_vec.result.items c.first_gap.result (subst (λ (ss : List LabelledSegment). AllPairs AreApart ss) (sym c.into_vec.ensures) c.requires.apart) c.first_gap.ensures none)

pub returns-clause-only : goal.returns-clause-only
returns-clause-only g c =
    subst (λ (ss : List LabelledSegment). IfOk c.first_gap.result (λ gap. FacesAgree ss → gap ≡ None)) c.into_vec.ensures
    (answer_only c.into_vec.result.items c.first_gap.result c.first_gap.ensures)
