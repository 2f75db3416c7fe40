-- The set has the place from then on, or has it no longer, and all others as before.
use Rattle.std.proofs.Common.{◌≡◌, ℕ, ℤ, Bool, true, false, nat_lt, cond, sym, ◌∙◌, ap, subst, arith}
use Rattle.std.specs.Int.{w128}
use Rattle.std.specs.Ordering.{is_eq}
use Rattle.std.specs.BTreeSet.{contains}
use Rattle.std.proofs.lemmas.Int.{to_z-of_z}
use Rattle.std.proofs.lemmas.Bool.Decides.{nat_tests}
use Rattle.face_merge.specs.Queue.{place_cmp}
use Rattle.face_merge.proofs.queue.Queue.place.Goals as goal

none : (k : ℕ) → k ≡ 0 → nat_lt 0 k ≡ false
none k e = grind (arith, nat_tests)

some : (k : ℕ) → (k ≡ 0 → ⊥) → nat_lt 0 k ≡ true
some k n = grind (arith, nat_tests)

pub returns-then-permitted-eq0-clause-waits : goal.returns-then-permitted-eq0-clause-waits
returns-then-permitted-eq0-clause-waits c = λ i n s.
    subst (λ (z : ℤ). contains place_cmp c.remove.new.self (i, n, s) ≡ cond (is_eq (place_cmp (z, c.args.number, c.args.slot) (i, n, s))) false (contains place_cmp c.args.self.now.faces (i, n, s)))
    (to_z-of_z w128 c.args.importance c.ranges.importance) (c.remove.ensures.updates.0 (i, n, s))
    ∙ ap (λ (b : Bool). cond (is_eq (place_cmp (c.args.importance, c.args.number, c.args.slot) (i, n, s))) b (contains place_cmp c.args.self.now.faces (i, n, s))) (sym (none c.args.permitted c.if-permitted-eq0.true))

pub returns-clause-waits : goal.returns-clause-waits
returns-clause-waits c = λ i n s.
    subst (λ (z : ℤ). contains place_cmp c.insert.new.self (i, n, s) ≡ cond (is_eq (place_cmp (z, c.args.number, c.args.slot) (i, n, s))) true (contains place_cmp c.args.self.now.faces (i, n, s)))
    (to_z-of_z w128 c.args.importance c.ranges.importance) (c.in_ok-insert.ensures.updates.0 (i, n, s))
    ∙ ap (λ (b : Bool). cond (is_eq (place_cmp (c.args.importance, c.args.number, c.args.slot) (i, n, s))) b (contains place_cmp c.args.self.now.faces (i, n, s))) (sym (some c.args.permitted c.if-permitted-eq0.false))
