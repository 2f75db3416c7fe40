-- One more row, and one more column.
use Rattle.std.proofs.Common.{◌≡◌, ℕ, ◌+◌, ◌++◌, List, [], flat_map, sym, ap, ◌∙◌, arith}
use Rattle.std.specs.List.{range_with_len}
use Rattle.std.proofs.lemmas.List.{append-nil}
use Rattle.tgap_model.specs.declared.base.BaseArc.{BaseArc}
use Rattle.generator.specs.GridMap.{level_row, upright_column, level_arcs}
use Rattle.generator.proofs.Ranges.{flat_map_range_more}
use Rattle.generator.proofs.grid.grid_arcs.Goals as goal

pub loop-j-preserved : goal.loop-j-preserved
loop-j-preserved c =
    c.in_ok-push_row.ensures
    ∙ ap (λ (arcs : List BaseArc). arcs ++ level_row c.args.n c.loop-j.j) c.loop-j.invariant
    ∙ flat_map_range_more (level_row c.args.n) [] c.loop-j.j

pub loop-i-init : goal.loop-i-init
loop-i-init c =
    let all : c.loop-j.j ≡ c.args.n + 1 = omega (arith, c.loop-j-test.false, c.loop-j.auto.j-end) in
    c.loop-j.invariant ∙ ap (λ (n : ℕ). flat_map (level_row c.args.n) (range_with_len 0 n)) all ∙ sym (append-nil (level_arcs c.args.n))

pub loop-i-preserved : goal.loop-i-preserved
loop-i-preserved c =
    c.in_ok-push_column.ensures
    ∙ ap (λ (arcs : List BaseArc). arcs ++ upright_column c.args.n c.loop-i.i) c.loop-i.invariant
    ∙ flat_map_range_more (upright_column c.args.n) (level_arcs c.args.n) c.loop-i.i

pub returns : goal.returns
returns c =
    let all : c.loop-i.i ≡ c.args.n + 1 = omega (arith, c.loop-i-test.false, c.loop-i.auto.i-end) in
    c.from.ensures ∙ c.loop-i.invariant ∙ ap (λ (n : ℕ). level_arcs c.args.n ++ flat_map (upright_column c.args.n) (range_with_len 0 n)) all
