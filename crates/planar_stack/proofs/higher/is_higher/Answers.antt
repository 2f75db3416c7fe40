use Rattle.std.proofs.Common.{◌≡◌, ◌<ℤ◌, ℤ, to_z, of_z, sym, subst, subst₂, arith}
use Rattle.std.specs.Int.{w64}
use Rattle.std.proofs.lemmas.Int.{ints}
use Rattle.lemmas.proofs.Signs.{Decides-int_lt}
use Rattle.tgap_model.specs.Segment.{line_after}
use Rattle.planar_stack.specs.Sweep.{no_segment, segment_at, higher_at}
use Rattle.grid_geo.proofs.Heights.{greater_test}
use Rattle.planar_stack.proofs.Apart.{higher_from_ordinates, lower_from_ordinates}
use Rattle.planar_stack.proofs.Slabs.{after_is_rational}
use Rattle.planar_stack.proofs.higher.is_higher.Goals as goal

pub returns-then-highest-lowest : goal.returns-then-highest-lowest
returns-then-highest-lowest c =
    let starts = c.args.starts.now in
    let s = segment_at starts c.args.number in
    let t = segment_at starts c.args.other in
    let high : to_z w64 (of_z w64 c.highest.result) ≡ c.highest.result = omega (arith, ints) in
    let low : to_z w64 (of_z w64 c.lowest.result) ≡ c.lowest.result = omega (arith, ints) in
    let tested = (Decides-int_lt (to_z w64 (of_z w64 c.highest.result)) (to_z w64 (of_z w64 c.lowest.result))).0 c.if-highest-lowest.true in
    let less : c.highest.result <ℤ c.lowest.result = subst₂ (λ (x y : ℤ). x <ℤ y) high low tested in
    let apart = subst₂ (λ (x y : ℤ). x <ℤ y) c.highest.ensures c.lowest.ensures less in
    sym (higher_from_ordinates (line_after c.args.line) (after_is_rational c.args.line) s.segment t.segment c.requires.crossed c.requires.other_crossed apart)

pub returns-then-highest-lowest-2 : goal.returns-then-highest-lowest-2
returns-then-highest-lowest-2 c =
    let starts = c.args.starts.now in
    let s = segment_at starts c.args.number in
    let t = segment_at starts c.args.other in
    let high : to_z w64 (of_z w64 c.highest-2.result) ≡ c.highest-2.result = omega (arith, ints) in
    let low : to_z w64 (of_z w64 c.lowest-2.result) ≡ c.lowest-2.result = omega (arith, ints) in
    let tested = (Decides-int_lt (to_z w64 (of_z w64 c.highest-2.result)) (to_z w64 (of_z w64 c.lowest-2.result))).0 c.if-highest-lowest-2.true in
    let less : c.highest-2.result <ℤ c.lowest-2.result = subst₂ (λ (x y : ℤ). x <ℤ y) high low tested in
    let apart = subst₂ (λ (x y : ℤ). x <ℤ y) c.highest-2.ensures c.lowest-2.ensures less in
    sym (lower_from_ordinates (line_after c.args.line) (after_is_rational c.args.line) t.segment s.segment c.requires.other_crossed c.requires.crossed apart)

pub cmp_on_line-requires-clause-near_s : goal.cmp_on_line-requires-clause-near_s
cmp_on_line-requires-clause-near_s c = c.requires.near c.args.number no_segment c.requires.known

pub cmp_on_line-requires-clause-near_t : goal.cmp_on_line-requires-clause-near_t
cmp_on_line-requires-clause-near_t c = c.requires.near c.args.other no_segment c.requires.other_known

pub returns : goal.returns
returns c =
    let v = to_z w64 (of_z w64 c.args.line) in
    let e : v ≡ c.args.line = omega (arith, ints) in
    let starts = c.args.starts.now in
    let s = segment_at starts c.args.number in
    let t = segment_at starts c.args.other in
    subst (λ (z : ℤ). c.eq.result ≡ higher_at z starts c.args.number c.args.other) e
    (sym (greater_test (line_after v) s.segment t.segment c.cmp_on_line.result c.eq.result c.cmp_on_line.ensures c.eq.ensures))
