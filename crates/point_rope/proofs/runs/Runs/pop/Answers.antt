use Rattle.std.proofs.Common.{◌≡◌, ◌++◌, ◌∷◌, [], List, length, ap, ◌∙◌, arith}
use Rattle.tgap_model.specs.declared.geometry.Point.{Point}
use Rattle.point_rope.specs.Runs.{joined, starts_from}
use Rattle.point_rope.proofs.Joined.{count_push}
use Rattle.point_rope.proofs.Places.{starts_push, popped}
use Rattle.point_rope.proofs.runs.Runs.pop.Goals as goal

pub overflow_sub-self : goal.overflow_sub-self
overflow_sub-self c =
    omega (arith, c.len.ensures, c.self.invariant.counted, ap (λ (rs : List (List Point)). length (joined rs)) c.in_ok-run.ensures.items, count_push c.pop.new.self.items c.in_ok-run.run')

pub invariant_of-self-2 : goal.invariant_of-self-2
invariant_of-self-2 c =
    let starts = c.self.inside.starts in
    let rest = c.pop.new.self.items in
    let run = c.in_ok-run.run' in
    let is : starts.items ≡ starts_from 0 rest ++ length (joined rest) ∷ [] = c.self.invariant.begin ∙ ap (starts_from 0) c.in_ok-run.ensures.items ∙ starts_push rest run in
    record {
      begin =
          popped _ _ starts.items c.pop-2.new.self.items (starts_from 0 rest) (length (joined rest)) c.pop-2.result starts.len c.pop-2.ensures.items c.pop-2.ensures.cases
          (omega (arith, starts.ok.0)) is;
      counted = omega (arith, c.len.ensures, c.self.invariant.counted, ap (λ (rs : List (List Point)). length (joined rs)) c.in_ok-run.ensures.items, count_push rest run);
    }
