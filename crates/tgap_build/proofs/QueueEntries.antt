-- What a queue lists after an entry comes or the first one goes, and that none is left below the first one.
use Rattle.std.proofs.Common.{◌≡◌, ◌⊎◌, inl, inr, ℕ, ◌<◌, ◌≤◌, ◌==◌, ◌&&◌, ◌||◌, nat_le, Bool, true, false, cond, true≢false, List, [], ◌∷◌, IsPermutation, Less, Equal, Greater, refl, sym, ap, ap₂, ◌∙◌, arith}
use Rattle.std.specs.BinaryHeap.{IsUpperBound}
use Rattle.std.specs.Ordering.{is_lt, nat_cmp, ordering_then}
use Rattle.std.specs.declared.cmp.Reverse.{Reverse}
use Rattle.std.proofs.lemmas.Bool.{and_parts, eq-eqb, eqb-true, le-leb, lt-leb, lt-ltb, cases_lt}
use Rattle.std.proofs.lemmas.List.Sorted.{list_any-IsPermutation}
use Rattle.tgap_build.specs.declared.corner_queue.Entry.{Entry}
use Rattle.tgap_build.specs.Queue.{entry_cmp, is_queued}

abbrev tells : ℕ → ℕ → Reverse Entry → Bool
tells k n x = (x.0.key == k) && nat_le x.0.area n

either : (a b : Bool) → (a || b) ≡ true → (a ≡ true) ⊎ (b ≡ true)
either true b h = inl refl
either false b h = inr h

or_right : (a b : Bool) → b ≡ true → (a || b) ≡ true
or_right true b h = refl
or_right false b h = h

off : (a : Bool) → (a && false) ≡ false
off true = refl
off false = refl

-- one more
pub pushed_entry : (x : Reverse Entry) (old new : List (Reverse Entry)) → IsPermutation (x ∷ old) new → (n : ℕ) → x.0.area ≤ n → is_queued new x.0.key n ≡ true
pushed_entry x old new moved n le =
    sym (list_any-IsPermutation (tells x.0.key n) (x ∷ old) new moved)
    ∙ ap₂ (λ (a b : Bool). (a && b) || is_queued old x.0.key n) (eq-eqb x.0.key x.0.key refl) (le-leb x.0.area n le)

pub pushed_others : (x : Reverse Entry) (old new : List (Reverse Entry)) → IsPermutation (x ∷ old) new → (k n : ℕ) → is_queued old k n ≡ true → is_queued new k n ≡ true
pushed_others x old new moved k n h =
    sym (list_any-IsPermutation (tells k n) (x ∷ old) new moved) ∙ or_right (tells k n x) (is_queued old k n) h

-- one less
pub popped_others : (x : Reverse Entry) (old new : List (Reverse Entry)) → IsPermutation old (x ∷ new) → (k n : ℕ) → is_queued old k n ≡ true → (k ≡ x.0.key) ⊎ (is_queued new k n ≡ true)
popped_others x old new moved k n h = elim (either (tells k n x) (is_queued new k n) (sym (list_any-IsPermutation (tells k n) old (x ∷ new) moved) ∙ h)) [
  | inl t ↦ inl (sym (eqb-true x.0.key k (and_parts (x.0.key == k) (nat_le x.0.area n) t).0))
  | inr t ↦ inr t
]

-- the area of the first one is the least
least_first : (x y : Reverse Entry) → is_lt (entry_cmp x y) ≡ false → x.0.area ≤ y.0.area
least_first x y h = elim (cases_lt y.0.area x.0.area) [
  | inl l ↦ absurd (true≢false (sym (ap (λ (b : Bool). is_lt (ordering_then (cond b Less (cond (y.0.area == x.0.area) Equal Greater)) (nat_cmp y.0.key x.0.key))) (lt-ltb y.0.area x.0.area l)) ∙ h))
  | inr le ↦ le
]

pub none_small : (x : Reverse Entry) (n : ℕ) → n < x.0.area → (queue : List (Reverse Entry)) → IsUpperBound entry_cmp x queue → (k : ℕ) → is_queued queue k n ≡ false
none_small x n l [] h k = refl
none_small x n l (y ∷ queue) h k =
    let le = least_first x y h.0 in
    ap₂ (λ (a b : Bool). ((y.0.key == k) && a) || b) (lt-leb y.0.area n (omega (arith, l, le))) (none_small x n l queue h.1 k)
    ∙ ap (λ (a : Bool). a || false) (off (y.0.key == k))
