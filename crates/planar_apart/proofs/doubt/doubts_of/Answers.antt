-- The others are apart, or all are doubtful.
use Rattle.std.proofs.Common.{◌≡◌, true, List, length, AllPairs, sym, ap, ◌∙◌, subst, arith}
use Rattle.std.specs.List.{list_all}
use Rattle.tgap_model.specs.declared.segment.LabelledSegment.{LabelledSegment}
use Rattle.tgap_model.specs.Partition.{AreApart, is_proper}
use Rattle.planar_apart.specs.Doubts.{others, AreDoubts}
use Rattle.planar_apart.proofs.Doubts.{others_proper, others_fewer, others_apart, all_doubtful}
use Rattle.planar_apart.proofs.doubt.doubts_of.Goals as goal

pub all_apart-requires-clause-proper : goal.all_apart-requires-clause-proper
all_apart-requires-clause-proper c =
    let segments = c.args.segments.now in
    let is = c.as_slice.ensures ∙ c.in_ok-others.ensures ∙ ap (others segments) c.deref.ensures.value in
    subst (λ (ss : List LabelledSegment). list_all is_proper ss ≡ true) (sym is) (others_proper segments c.in_ok-doubts.doubts.items c.requires.proper)

pub all_apart-requires-clause-few : goal.all_apart-requires-clause-few
all_apart-requires-clause-few c =
    let segments = c.args.segments.now in
    let is = c.as_slice.ensures ∙ c.in_ok-others.ensures ∙ ap (others segments) c.deref.ensures.value in
    omega (arith, c.requires.few, others_fewer segments c.in_ok-doubts.doubts.items c.requires.proper, ap length is)

pub returns-then-not-apart : goal.returns-then-not-apart
returns-then-not-apart c = subst (AreDoubts c.args.segments.now) (sym c.new.ensures.items) (all_doubtful c.args.segments.now)

pub returns : goal.returns
returns c =
    let segments = c.args.segments.now in
    let is = c.as_slice.ensures ∙ c.in_ok-others.ensures ∙ ap (others segments) c.deref.ensures.value in
    others_apart segments c.in_ok-doubts.doubts.items c.requires.proper (subst (λ (ss : List LabelledSegment). AllPairs AreApart ss) is (c.in_ok-apart.ensures c.if-not-apart.false))
