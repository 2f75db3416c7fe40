-- What the tests of two slanted segments say.
use Rattle.std.proofs.Common.{sym, ◌∙◌}
use Rattle.tgap_model.proofs.Points.{same_point-true}
use Rattle.planar_sweep.proofs.Strict.{apart_at_both, apart_at_ends, apart_at_starts, are_end_to_start}
use Rattle.planar_sweep.proofs.over.slanted_stands_over.Goals as goal

pub returns-then-are_end_to_start : goal.returns-then-are_end_to_start
returns-then-are_end_to_start c = λ _. are_end_to_start c.args.s c.args.t c.requires.slanted_s c.requires.slanted_t (sym c.are_end_to_start.ensures ∙ c.if-are_end_to_start.true)

pub returns-then-eq : goal.returns-then-eq
returns-then-eq c = λ h. apart_at_ends c.args.s c.args.t c.requires.slanted_s c.requires.slanted_t
    (same_point-true c.args.s.a c.args.t.a (sym c.eq.ensures ∙ c.if-eq.true)) (c.ends_apart.ensures h)

pub returns-then-eq-2 : goal.returns-then-eq-2
returns-then-eq-2 c = λ h. apart_at_starts c.args.s c.args.t c.requires.slanted_s c.requires.slanted_t
    (same_point-true c.args.s.b c.args.t.b (sym c.eq-else-eq.ensures ∙ c.if-eq-2.true)) (c.starts_apart.ensures h)

pub returns-then-starts_apart : goal.returns-then-starts_apart
returns-then-starts_apart c = λ h. apart_at_both c.args.s c.args.t c.requires.slanted_s c.requires.slanted_t
    (c.starts_apart-else-eq-2.ensures c.if-starts_apart.true) (c.ends_apart-then-starts_apart.ensures h)
