use Rattle.std.proofs.Common.{◌≡◌, ◌∙◌, ◌==◌, ◌&&◌, Bool, true, false, if◌then◌else◌, Less, Equal, Greater, ℤ, to_z, of_z, refl, sym, ap, ap₂, subst, arith}
use Rattle.std.specs.Int.{w64, int_min}
use Rattle.std.specs.Ordering.{ordering_index}
use Rattle.std.proofs.lemmas.Int.{ints}
use Rattle.std.specs.declared.cmp.Ordering.{Ordering}
use Rattle.tgap_model.specs.Segment.{crosses, is_higher, line_after}
use Rattle.ring_walk.specs.Areas.{line_of}
use Rattle.ring_probe.proofs.RowSegments.{own_line}
use Rattle.ring_probe.proofs.segments.is_over.Goals as goal

-- the first of two is higher exactly where the comparison says so
greater_is : (h k : Bool) → (ordering_index (if h then Greater else (if k then Less else Equal)) == 2) ≡ h
greater_is true k = refl
greater_is false true = refl
greater_is false false = refl

pub cmp_on_line-requires-clause-crosses_t : goal.cmp_on_line-requires-clause-crosses_t
cmp_on_line-requires-clause-crosses_t c =
    let a = c.args.probe.a.x in
    let b = c.args.probe.b.x in
    let ea : to_z w64 (of_z w64 a) ≡ a = omega (arith, ints) in
    let eb : to_z w64 (of_z w64 b) ≡ b = omega (arith, ints) in
    let whole : to_z w64 (of_z w64 c.min-line.result) ≡ c.min-line.result = omega (arith, ints) in
    let line : to_z w64 (of_z w64 c.min-line.result) ≡ int_min a b = whole ∙ c.min-line.ensures.value ∙ ap₂ int_min ea eb in
    subst (λ (z : ℤ). crosses (line_after z) c.args.probe ≡ true) (sym line) (own_line c.args.probe c.requires.leaning)

pub returns-then-crosses : goal.returns-then-crosses
returns-then-crosses c =
    let probe = c.args.probe in
    let s = c.args.s in
    let a = probe.a.x in
    let b = probe.b.x in
    let ea : to_z w64 (of_z w64 a) ≡ a = omega (arith, ints) in
    let eb : to_z w64 (of_z w64 b) ≡ b = omega (arith, ints) in
    let whole : to_z w64 (of_z w64 c.min-line.result) ≡ c.min-line.result = omega (arith, ints) in
    let line : to_z w64 (of_z w64 c.min-line.result) ≡ int_min a b = whole ∙ c.min-line.ensures.value ∙ ap₂ int_min ea eb in
    let higher : c.eq.result ≡ is_higher (line_of probe) s probe =
    c.eq.ensures ∙ ap (λ (o : Ordering). ordering_index o == 2) c.cmp_on_line.ensures
    ∙ greater_is (is_higher (line_after (to_z w64 (of_z w64 c.min-line.result))) s probe) (is_higher (line_after (to_z w64 (of_z w64 c.min-line.result))) probe s)
    ∙ ap (λ (z : ℤ). is_higher (line_after z) s probe) line in
    let cross : crosses (line_of probe) s ≡ true = ap (λ (z : ℤ). crosses (line_after z) s) (sym line) ∙ sym c.crosses.ensures ∙ c.if-crosses.true in
    higher ∙ sym (ap (λ (t : Bool). t && is_higher (line_of probe) s probe) cross)
