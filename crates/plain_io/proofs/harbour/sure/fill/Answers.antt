use Rattle.std.proofs.Common.{[], ◌∷◌, ◌+◌, ◌++◌, length, ap, ◌∙◌, append_assoc, length-append}
use Rattle.std.proofs.lemmas.List.Elements.{All-same, All-push}
use Rattle.plain_io.specs.SureDoors.{IsUnused, IsEmpty}
use Rattle.plain_io.proofs.harbour.sure.fill.Goals as goal

-- the door that was made stands after the others, is unused and has no links
pub loop-preserved : goal.loop-preserved
loop-preserved g c =
    let ready = c.in_ok-add.ensures.ready in
    let made = c.loop.invariant.more in
    record {
      unused = All-same IsUnused _ _ ready (All-push IsUnused _ _ c.loop.invariant.unused c.in_ok-door.ensures.unused);
      more = (
        made.0 ++ c.in_ok-door.door ∷ [],
        ready ∙ ap (λ doors. doors ++ c.in_ok-door.door ∷ []) made.1 ∙ append_assoc _ made.0 _,
        All-push IsEmpty made.0 _ made.2 (c.in_ok-door.ensures.left ∙ c.new.ensures),
      );
      told = c.in_ok-add.ensures.told ∙ c.loop.invariant.told;
      count = ap length ready ∙ length-append _ _ ∙ ap (λ n. n + 1) c.loop.invariant.count;
    }
