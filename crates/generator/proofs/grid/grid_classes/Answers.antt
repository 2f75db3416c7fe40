-- One more cell, and one more row.
use Rattle.std.proofs.Common.{◌≡◌, ℕ, ◌++◌, ◌∷◌, [], List, map, ap, ◌∙◌, arith}
use Rattle.std.specs.List.{range_with_len}
use Rattle.generator.specs.GridMap.{cell_class, row_classes}
use Rattle.generator.proofs.Ranges.{map_range_more, flat_map_range_more}
use Rattle.generator.proofs.grid.grid_classes.Goals as goal

pub loop-i-preserved : goal.loop-i-preserved
loop-i-preserved c =
    c.in_ok-push.ensures.items
    ∙ ap (λ (classes : List ℕ). classes ++ cell_class c.loop-i.i c.loop-j.j ∷ []) c.loop-i.invariant
    ∙ map_range_more (λ i. cell_class i c.loop-j.j) c.loop-j.classes.items c.loop-i.i

pub loop-j-preserved : goal.loop-j-preserved
loop-j-preserved c =
    let all : c.loop-i.i ≡ c.args.n = omega (arith, c.loop-i-test.false, c.loop-i.auto.i-end) in
    c.loop-i.invariant
    ∙ ap (λ (n : ℕ). c.loop-j.classes.items ++ map (λ i. cell_class i c.loop-j.j) (range_with_len 0 n)) all
    ∙ ap (λ (classes : List ℕ). classes ++ row_classes c.args.n c.loop-j.j) c.loop-j.invariant
    ∙ flat_map_range_more (row_classes c.args.n) [] c.loop-j.j
