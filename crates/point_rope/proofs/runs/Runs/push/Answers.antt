use Rattle.std.proofs.Common.{◌++◌, ◌∷◌, [], ℕ, List, length, sym, ap, ◌∙◌, arith}
use Rattle.tgap_model.specs.declared.geometry.Point.{Point}
use Rattle.point_rope.specs.Runs.{joined, starts_from}
use Rattle.point_rope.proofs.Joined.{count_push}
use Rattle.point_rope.proofs.Places.{starts_push}
use Rattle.point_rope.proofs.runs.Runs.push.Goals as goal

pub invariant_of-self-2 : goal.invariant_of-self-2
invariant_of-self-2 c =
    let runs = c.self.inside.runs.items in
    let before = c.reserve.ensures.items ∙ c.self.invariant.begin in
    record {
      begin =
          c.push_reserved.ensures.items ∙ ap (λ (ns : List ℕ). ns ++ c.self.inside.count ∷ []) before
          ∙ ap (λ (n : ℕ). starts_from 0 runs ++ n ∷ []) c.self.invariant.counted
          ∙ sym (ap (starts_from 0) c.in_ok-push.ensures.items ∙ starts_push runs _);
      counted =
          omega (arith, c.in_ok-count.ensures, c.len.ensures, c.self.invariant.counted, ap (λ (rs : List (List Point)). length (joined rs)) c.in_ok-push.ensures.items, count_push runs c.args.run);
    }
