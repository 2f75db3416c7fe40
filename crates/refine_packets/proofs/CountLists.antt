-- Counts by face, while more sides are counted, or two change places.
use Rattle.std.proofs.Common.{◌≡◌, inl, inr, ℕ, ◌+◌, ◌<◌, ◌≤◌, ◌==◌, Bool, true, false, cond, List, [], ◌∷◌, ◌++◌, length, get_or, replicate, take, eq-eqb, refl, sym, ap, ◌∙◌, arith}
use Rattle.std.specs.List.{SwappedAt}
use Rattle.std.proofs.lemmas.Bool.{eqb-true, eqb-false}
use Rattle.std.proofs.lemmas.Bool.Decides.{leb_tells}
use Rattle.std.proofs.lemmas.List.{take_more, get_or-replicate, get_or_past, length-replicate}
use Rattle.std.proofs.lemmas.List.Sums.{sum_by-append, sum_by-take-le}
use Rattle.tgap_model.specs.declared.slice.Edge.{Edge}
use Rattle.refine_packets.specs.Counts.{count_at, one_at, read_for, sides_at}

-- two in each other's place
pub counts_swapped : (counts after : List ℕ) (made winner : ℕ) → SwappedAt counts after made winner → (f : ℕ)
    → count_at after f ≡ count_at counts (read_for made winner f)
counts_swapped counts after made winner swaps f = by (f == winner) refl (f == made) refl
  where
    by : (b : Bool) → (f == winner) ≡ b → (c : Bool) → (f == made) ≡ c → count_at after f ≡ count_at counts (cond b made (cond c winner f))
    by true e c g = ap (count_at after) (eqb-true _ _ e) ∙ swaps.1 0
    by false e true g = ap (count_at after) (eqb-true _ _ g) ∙ swaps.0 0
    by false e false g = swaps.2 f 0 (eqb-false _ _ g) (eqb-false _ _ e)

pub one_self : (f : ℕ) → one_at f f ≡ 1
one_self f = ap (λ (b : Bool). cond b 1 0) (eq-eqb f f refl)

abbrev sides : ℕ → Edge → ℕ
sides f e = one_at f e.left + one_at f e.right

-- the sides of one edge more are some of all sides
pub sides_next : (f : ℕ) (edges : List Edge) (i : ℕ) (e : Edge) → i < length edges → e ≡ get_or edges i e
    → sides_at f (take i edges) + (one_at f e.left + one_at f e.right) ≤ sides_at f edges
sides_next f edges i e within is =
    let one : sides_at f (e ∷ []) ≡ one_at f e.left + one_at f e.right = omega arith in
    let more : sides_at f (take (i + 1) edges) ≡ sides_at f (take i edges) + sides_at f (e ∷ [])
    = ap (sides_at f) (take_more edges i e within ∙ ap (λ (x : Edge). take i edges ++ x ∷ []) (sym is)) ∙ sum_by-append (sides f) (take i edges) (e ∷ []) in
    omega (arith, one, more, sum_by-take-le (sides f) edges (i + 1))

-- no side is counted where no count is more than 0
pub none_counted : (n f : ℕ) → count_at (replicate n 0) f ≡ 0
none_counted n f = elim (leb_tells n f) [
  | inl past ↦ get_or_past (replicate n 0) f 0 (omega (arith, length-replicate {A = ℕ} n 0, past.1))
  | inr within ↦ get_or-replicate n f 0 0 within.1
]
