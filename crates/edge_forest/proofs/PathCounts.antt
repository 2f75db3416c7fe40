-- On the way from a step to the root an edge is met once where its range holds the step, and else not at all.
use Rattle.std.proofs.Common.{◌≡◌, ◌≢◌, ◌⊎◌, inl, inr, ℕ, zero, suc, ◌+◌, ◌-◌, ◌*◌, ◌/◌, ◌%◌, ◌^◌, ◌<◌, ◌≤◌, ◌&&◌, Bool, true, false, cond, nat_le, nat_lt, List, [], ◌∷◌, ◌++◌, sum_by, All, refl, sym, ap, ap₂, ◌∙◌, eq-eqb, arith}
use Rattle.std.proofs.Math.Nat.{pow-succ'}
use Rattle.std.proofs.lemmas.Bool.{cases_eq, cases_lt, cases_order, ne_eqb, and_from, and_left, and_right, lt-ltb, le-ltb, le-leb, lt-leb, ltb-true, true≢false}
use Rattle.std.proofs.lemmas.List.Elements.{All-nil, All-cons, All-append, All-head, All-tail, All-weaker}
use Rattle.std.proofs.lemmas.List.Sums.{sum_by-cons}
use Rattle.lemmas.specs.Parity.{is_odd}
use Rattle.lemmas.proofs.Counts.{sum_by-agree}
use Rattle.edge_forest.specs.Index.{listed_nodes, path_up, times}
use Rattle.edge_forest.proofs.Times.{times-same, times-other, times-append, times-none}

-- ---- which nodes they are

-- the nodes of this level and of those above come before those of the level below
pub listed_below : (levels low high : ℕ) → high ≤ 2 ^ levels → All (λ y. y < 2 ^ levels) (listed_nodes levels low high)
listed_below zero low high h = All-nil (λ (y : ℕ). y < 2 ^ 0)
listed_below (suc levels) low high h =
    let double = pow-succ' 2 levels in
    by (nat_lt low high) refl (listed_below levels ((low + 1) / 2) (high / 2) (omega arith))
  where
    one_if : (b : Bool) (y : ℕ) → y < 2 ^ suc levels → All (λ y. y < 2 ^ suc levels) (cond b (y ∷ []) [])
    one_if true y l = All-cons (λ (y : ℕ). y < 2 ^ suc levels) y [] l (All-nil (λ (y : ℕ). y < 2 ^ suc levels))
    one_if false y l = All-nil (λ (y : ℕ). y < 2 ^ suc levels)

    one_unless : (b : Bool) (y : ℕ) → y < 2 ^ suc levels → All (λ y. y < 2 ^ suc levels) (cond b [] (y ∷ []))
    one_unless true y l = All-nil (λ (y : ℕ). y < 2 ^ suc levels)
    one_unless false y l = All-cons (λ (y : ℕ). y < 2 ^ suc levels) y [] l (All-nil (λ (y : ℕ). y < 2 ^ suc levels))

    by : (b : Bool) → nat_lt low high ≡ b → All (λ y. y < 2 ^ levels) (listed_nodes levels ((low + 1) / 2) (high / 2))
        → All (λ y. y < 2 ^ suc levels) (cond b ((cond (is_odd low) (low ∷ []) []) ++ ((cond (is_odd (high - 1)) [] ((high - 1) ∷ [])) ++ listed_nodes levels ((low + 1) / 2) (high / 2))) [])
    by true e above =
        let less = ltb-true low high e in
        let double = pow-succ' 2 levels in
        All-append (λ (y : ℕ). y < 2 ^ suc levels) (cond (is_odd low) (low ∷ []) []) ((cond (is_odd (high - 1)) [] ((high - 1) ∷ [])) ++ listed_nodes levels ((low + 1) / 2) (high / 2))
        (one_if (is_odd low) low (omega arith))
        (All-append (λ (y : ℕ). y < 2 ^ suc levels) (cond (is_odd (high - 1)) [] ((high - 1) ∷ [])) (listed_nodes levels ((low + 1) / 2) (high / 2))
        (one_unless (is_odd (high - 1)) (high - 1) (omega arith))
        (All-weaker (λ (y : ℕ). y < 2 ^ levels) (λ y. y < 2 ^ suc levels) (λ y l. omega arith) (listed_nodes levels ((low + 1) / 2) (high / 2)) above))
    by false e above = All-nil (λ (y : ℕ). y < 2 ^ suc levels)

pub path_below : (levels x : ℕ) → x < 2 ^ levels → All (λ y. y < 2 ^ levels) (path_up levels x)
path_below zero x h = All-nil (λ (y : ℕ). y < 2 ^ 0)
path_below (suc levels) x h =
    let double = pow-succ' 2 levels in
    All-cons (λ (y : ℕ). y < 2 ^ suc levels) x (path_up levels (x / 2)) h
    (All-weaker (λ (y : ℕ). y < 2 ^ levels) (λ y. y < 2 ^ suc levels) (λ y l. omega arith) (path_up levels (x / 2)) (path_below levels (x / 2) (omega arith)))

-- ---- how often they are met

unfoldable pub holds : ℕ → ℕ → ℕ → ℕ
holds low high x = cond (nat_le low x && nat_lt x high) 1 0

held : (low high x : ℕ) → low ≤ x → x < high → holds low high x ≡ 1
unfolding holds
held low high x h k = ap (λ (b : Bool). cond b 1 0) (and_from (nat_le low x) (nat_lt x high) (le-leb low x h) (lt-ltb x high k))

not_held : (low high x : ℕ) → (x < low) ⊎ (high ≤ x) → holds low high x ≡ 0
unfolding holds
not_held low high x (inl h) = ap (λ (b : Bool). cond b 1 0) (and_left (nat_le low x) (nat_lt x high) (lt-leb low x h))
not_held low high x (inr h) = ap (λ (b : Bool). cond b 1 0) (and_right (nat_le low x) (nat_lt x high) (le-ltb x high h))

odd_is : (n : ℕ) → n % 2 ≡ 1 → is_odd n ≡ true
odd_is n h = eq-eqb (n % 2) 1 h

even_is : (n : ℕ) → n % 2 ≡ 0 → is_odd n ≡ false
even_is n h = ne_eqb (n % 2) 1 (λ e. omega arith)

-- at the first node of the level, where it is listed there
module _ (low x : ℕ) where
  abbrev pub at_low : ℕ
  at_low = times x (cond (is_odd low) (low ∷ []) [])

  met_low : low % 2 ≡ 1 → low ≡ x → at_low ≡ 1
  met_low h e = ap (λ (b : Bool). times x (cond b (low ∷ []) [])) (odd_is low h) ∙ times-same x low [] e

  even_low : low % 2 ≡ 0 → at_low ≡ 0
  even_low h = ap (λ (b : Bool). times x (cond b (low ∷ []) [])) (even_is low h)

  other_low : low ≢ x → at_low ≡ 0
  other_low e = by (is_odd low)
    where
      by : (b : Bool) → times x (cond b (low ∷ []) []) ≡ 0
      by true = times-other x low [] e
      by false = refl

-- at the last one
module _ (last x : ℕ) where
  abbrev pub at_last : ℕ
  at_last = times x (cond (is_odd last) [] (last ∷ []))

  met_last : last % 2 ≡ 0 → last ≡ x → at_last ≡ 1
  met_last h e = ap (λ (b : Bool). times x (cond b [] (last ∷ []))) (even_is last h) ∙ times-same x last [] e

  odd_last : last % 2 ≡ 1 → at_last ≡ 0
  odd_last h = ap (λ (b : Bool). times x (cond b [] (last ∷ []))) (odd_is last h)

  other_last : last ≢ x → at_last ≡ 0
  other_last e = by (is_odd last)
    where
      by : (b : Bool) → times x (cond b [] (last ∷ [])) ≡ 0
      by true = refl
      by false = times-other x last [] e

parity : (n : ℕ) → (n % 2 ≡ 0) ⊎ (n % 2 ≡ 1)
parity n = elim (cases_eq (n % 2) 0) [ inl e ↦ inl e | inr e ↦ inr (omega arith) ]

-- on one level, and on those above it
level_sum : (low high x : ℕ) → low < high → at_low low x + (at_last (high - 1) x + holds ((low + 1) / 2) (high / 2) (x / 2)) ≡ holds low high x
level_sum low high x less = elim (cases_order low x) [
  | inl e ↦ elim (parity low) [
    | inl even ↦ elim (cases_eq (high - 1) x) [
      | inl f ↦ omega (arith, even_low low x even, met_last (high - 1) x (omega arith) f, not_held ((low + 1) / 2) (high / 2) (x / 2) (inr (omega arith)), held low high x (omega arith) (omega arith))
      | inr f ↦ omega (arith, even_low low x even, other_last (high - 1) x f, held ((low + 1) / 2) (high / 2) (x / 2) (omega arith) (omega arith), held low high x (omega arith) (omega arith))
    ]
    | inr odd ↦ elim (cases_eq (high - 1) x) [
      | inl f ↦ omega (arith, met_low low x odd e, odd_last (high - 1) x (omega arith), not_held ((low + 1) / 2) (high / 2) (x / 2) (inl (omega arith)), held low high x (omega arith) (omega arith))
      | inr f ↦ omega (arith, met_low low x odd e, other_last (high - 1) x f, not_held ((low + 1) / 2) (high / 2) (x / 2) (inl (omega arith)), held low high x (omega arith) (omega arith))
    ]
  ]
  | inr (inl after) ↦ elim (cases_order x (high - 1)) [
    | inl f ↦ elim (parity (high - 1)) [
      | inl even ↦ omega (arith, other_low low x (λ g. omega arith), met_last (high - 1) x even (sym f), not_held ((low + 1) / 2) (high / 2) (x / 2) (inr (omega arith)), held low high x (omega arith) (omega arith))
      | inr odd ↦ omega (arith, other_low low x (λ g. omega arith), odd_last (high - 1) x odd, held ((low + 1) / 2) (high / 2) (x / 2) (omega arith) (omega arith), held low high x (omega arith) (omega arith))
    ]
    | inr (inl within) ↦ omega (arith, other_low low x (λ g. omega arith), other_last (high - 1) x (λ g. omega arith), held ((low + 1) / 2) (high / 2) (x / 2) (omega arith) (omega arith), held low high x (omega arith) (omega arith))
    | inr (inr past) ↦ omega (arith, other_low low x (λ g. omega arith), other_last (high - 1) x (λ g. omega arith), not_held ((low + 1) / 2) (high / 2) (x / 2) (inr (omega arith)), not_held low high x (inr (omega arith)))
  ]
  | inr (inr before) ↦ omega (arith, other_low low x (λ g. omega arith), other_last (high - 1) x (λ g. omega arith), not_held ((low + 1) / 2) (high / 2) (x / 2) (inl (omega arith)), not_held low high x (inl (omega arith)))
]

-- how often the nodes of a range are on the way up from a node
abbrev pub met : ℕ → ℕ → ℕ → ℕ → ℕ
met levels low high x = sum_by (λ y. times y (listed_nodes levels low high)) (path_up levels x)

pub nothing : (f : ℕ → ℕ) (ys : List ℕ) → All (λ y. f y ≡ 0) ys → sum_by f ys ≡ 0
nothing f [] h = refl
nothing f (y ∷ ys) h = sum_by-cons f y ys ∙ ap₂ (λ (m n : ℕ). m + n) (All-head (λ z. f z ≡ 0) y ys h) (nothing f ys (All-tail (λ z. f z ≡ 0) y ys h))

pub met_is : (levels low high x : ℕ) → 2 ^ levels ≤ 2 * low → high ≤ 2 ^ levels → 2 ^ levels ≤ 2 * x + 1 → x < 2 ^ levels → met levels low high x ≡ holds low high x
met_is zero low high x lows highs up down = sym (not_held low high x (inl (omega arith)))
met_is (suc levels) low high x lows highs up down =
    let double = pow-succ' 2 levels in
    by (nat_lt low high) refl (cases_lt low high) (met_is levels ((low + 1) / 2) (high / 2) (x / 2) (omega arith) (omega arith) (omega arith) (omega arith))
  where
    nodes : List ℕ
    nodes = (cond (is_odd low) (low ∷ []) []) ++ ((cond (is_odd (high - 1)) [] ((high - 1) ∷ [])) ++ listed_nodes levels ((low + 1) / 2) (high / 2))

    three : (y : ℕ) → times y nodes ≡ at_low low y + (at_last (high - 1) y + times y (listed_nodes levels ((low + 1) / 2) (high / 2)))
    three y =
        times-append y (cond (is_odd low) (low ∷ []) []) ((cond (is_odd (high - 1)) [] ((high - 1) ∷ [])) ++ listed_nodes levels ((low + 1) / 2) (high / 2))
        ∙ ap (λ (n : ℕ). at_low low y + n) (times-append y (cond (is_odd (high - 1)) [] ((high - 1) ∷ [])) (listed_nodes levels ((low + 1) / 2) (high / 2)))

    by : (b : Bool) → nat_lt low high ≡ b → (low < high) ⊎ (high ≤ low) → met levels ((low + 1) / 2) (high / 2) (x / 2) ≡ holds ((low + 1) / 2) (high / 2) (x / 2)
        → sum_by (λ y. times y (cond b nodes [])) (x ∷ path_up levels (x / 2)) ≡ holds low high x
    by true e (inl less) h =
        let double = pow-succ' 2 levels in
        let here : times x (listed_nodes levels ((low + 1) / 2) (high / 2)) ≡ 0 = times-none x (listed_nodes levels ((low + 1) / 2) (high / 2))
        (All-weaker (λ (y : ℕ). y < 2 ^ levels) (λ y. y ≢ x) (λ y l f. omega arith) (listed_nodes levels ((low + 1) / 2) (high / 2))
        (listed_below levels ((low + 1) / 2) (high / 2) (omega arith))) in
        let later : sum_by (λ y. times y nodes) (path_up levels (x / 2)) ≡ met levels ((low + 1) / 2) (high / 2) (x / 2)
        = sum_by-agree (λ (y : ℕ). times y nodes) (λ y. times y (listed_nodes levels ((low + 1) / 2) (high / 2))) (path_up levels (x / 2))
        (All-weaker (λ (y : ℕ). y < 2 ^ levels) (λ y. times y nodes ≡ times y (listed_nodes levels ((low + 1) / 2) (high / 2)))
        (λ y l. three y ∙ omega (arith, other_low low y (λ f. omega arith), other_last (high - 1) y (λ f. omega arith)))
        (path_up levels (x / 2)) (path_below levels (x / 2) (omega arith))) in
        let first = sum_by-cons (λ (y : ℕ). times y nodes) x (path_up levels (x / 2)) in
        let level = level_sum low high x less in
        let split = three x in
        omega arith
    by true e (inr more) h = absurd (true≢false (sym e ∙ le-ltb low high more))
    by false e (inl less) h = absurd (true≢false (sym (lt-ltb low high less) ∙ e))
    by false e (inr more) h = nothing (λ (y : ℕ). times y []) (x ∷ path_up levels (x / 2)) (λ k d l. refl) ∙ sym (not_held low high x (elim (cases_lt x low) [ inl l ↦ inl l | inr g ↦ inr (omega arith) ]))
