use Rattle.std.proofs.Common.{List, length, map, reverse, ap, ◌∙◌, arith}
use Rattle.tgap_model.specs.declared.geometry.Point.{Point}
use Rattle.point_rope.specs.Runs.{joined}
use Rattle.point_rope.proofs.Joined.{whole_written, reverse-joined}
use Rattle.point_rope.proofs.joining.turn.Goals as goal

pub returns : goal.returns
returns c =
    let runs = c.args.runs.now.items in
    let turned = c.reverse.new.self.items in
    let written = whole_written turned c.turn_each.new.runs c.reverse.new.self.len
    (omega (arith, c.turn_each.auto.runs, ap (λ (l : List (List Point)). length l) c.deref_mut.ensures.value)) (omega (arith, c.reverse.new.self.ok.0)) in
    ap joined (written ∙ c.turn_each.ensures ∙ ap (map reverse) (c.deref_mut.ensures.value ∙ c.reverse.ensures.items)) ∙ reverse-joined runs
