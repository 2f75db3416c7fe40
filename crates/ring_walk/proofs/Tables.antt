-- The table of next sides as it is written.
use Rattle.std.proofs.Common.{◌≡◌, ◌⊎◌, inl, inr, ℕ, ◌+◌, ◌*◌, ◌<◌, List, length, get_or, set, All, IsPermutation, refl, sym, ap, ◌∙◌, subst, arith}
use Rattle.std.proofs.lemmas.List.{get_or-set_other, get_or_default}
use Rattle.std.proofs.lemmas.Grind.{get_or-set_at}
use Rattle.std.proofs.lemmas.Bool.{cases_eq}
use Rattle.ring_walk.specs.declared.span.Span.{Span}
use Rattle.ring_walk.specs.declared.side.Side.{Side}
use Rattle.ring_walk.specs.declared.spoke.Spoke.{Spoke}
use Rattle.ring_walk.specs.Sides.{side_number, numbered, turned, sides}
use Rattle.ring_walk.specs.Rings.{next_side}
use Rattle.ring_walk.specs.Spans.{IsSide, IsSpokeOf, AreNext, AreOrdered, IsInFront, sides_in}
use Rattle.ring_walk.proofs.Spokes.{next_of_turned, side_of_spoke}
use Rattle.ring_walk.proofs.SideNumbers.{side_number-inj, side_number-numbered, numbered_within, number_within, turned-turned, sides_contain}

-- the table has the next side of this side
pub record IsToldAt (spans : List Span) (table : List Side) (s : Side) : Type 0 where
  pub next : (d : Side) → get_or table (side_number s) d ≡ next_side spans s
  pub within : IsSide (length spans) (next_side spans s)

-- the side that is written, and each that was written before
pub written : (spans : List Span) (table : List Side) (s t : Side) → side_number s < length table → t ≡ next_side spans s → IsSide (length spans) t → IsToldAt spans (set table (side_number s) t) s
written spans table s t l e w = record { next = λ d. get_or-set_at table (side_number s) (side_number s) t d refl l ∙ e; within = subst (IsSide (length spans)) e w }

pub still_written : (spans : List Span) (table : List Side) (s t u : Side) → side_number s < length table → t ≡ next_side spans s → IsSide (length spans) t → IsToldAt spans table u → IsToldAt spans (set table (side_number s) t) u
still_written spans table s t u l e w h = by (cases_eq (side_number u) (side_number s))
  where
    by : (side_number u ≡ side_number s) ⊎ (side_number u ≡ side_number s → ⊥) → IsToldAt spans (set table (side_number s) t) u
    by (inl same) = subst (IsToldAt spans (set table (side_number s) t)) (side_number-inj s u (sym same)) (written spans table s t l e w)
    by (inr other) = record { next = λ d. get_or-set_other table (side_number s) (side_number u) t d other ∙ h.next d; within = h.within }

-- a table in which all are told
pub all_told : (spans : List Span) (table : List Side) → length table ≡ 2 * length spans → ((s : Side) → IsSide (length spans) s → IsToldAt spans table s) → AreNext spans table
all_told spans table long told = record {
  long = long;
  each = λ s w. (told s w).next s;
  within = λ k d l.
      let s = numbered k in
      let h = told s (numbered_within (length spans) k (omega (arith, l, long))) in
      subst (IsSide (length spans)) (sym (ap (λ i. get_or table i d) (sym (side_number-numbered k)) ∙ h.next d)) h.within;
}

module _ (spans : List Span) (spokes : List Spoke) (each : All (IsSpokeOf spans) spokes) (same : IsPermutation (sides (length spans)) (sides_in spokes)) (o : AreOrdered spokes) where
  -- the table tells the next sides of the sides that arrive by the first i spokes
  abbrev pub AreTold : List Side → ℕ → Type 0
  AreTold table i = (k : ℕ) (d : Spoke) → k < i → IsToldAt spans table (turned (get_or spokes k d).side)

  -- one more is written
  pub told_more : (table : List Side) (i j m : ℕ) (p q : Spoke) → i < length spokes → j < length spokes → p ≡ get_or spokes i p → q ≡ get_or spokes j q → IsInFront spokes i j
      → m ≡ side_number (turned p.side) → length table ≡ 2 * length spans → AreTold table i → AreTold (set table m q.side) (i + 1)
  told_more table i j m p q l short ep eq front em long told k d below =
      let s = turned p.side in
      let is_p : (e : Spoke) → get_or spokes i e ≡ p = λ e. get_or_default spokes i e p l ∙ sym ep in
      let is_q : get_or spokes j p ≡ q = get_or_default spokes j p q short ∙ sym eq in
      let within : IsSide (length spans) p.side = subst (λ (r : Spoke). IsSide (length spans) r.side) (is_p p) (each i p l).side in
      let inside : side_number s < length table = let w = number_within (length spans) s within in omega (arith, w, long) in
      let next : q.side ≡ next_side spans s = sym (ap (λ (r : Spoke). next_side spans (turned r.side)) (sym (is_p p)) ∙ next_of_turned spans spokes each same o i j p l front ∙ ap (λ (r : Spoke). r.side) is_q) in
      let valid : IsSide (length spans) q.side = subst (λ (r : Spoke). IsSide (length spans) r.side) is_q (each j p short).side in
      subst (λ n. IsToldAt spans (set table n q.side) (turned (get_or spokes k d).side)) (sym em)
      (elim (cases_eq k i) [
        | inl e ↦ subst (λ (r : Spoke). IsToldAt spans (set table (side_number s) q.side) (turned r.side)) (sym (ap (λ n. get_or spokes n d) e ∙ is_p d)) (written spans table s q.side inside next valid)
        | inr n ↦ still_written spans table s q.side (turned (get_or spokes k d).side) inside next valid (told k d (omega (arith, below, n)))
      ])

  -- all are told in the end
  pub told_all : (table : List Side) → length table ≡ 2 * length spans → AreTold table (length spokes) → AreNext spans table
  told_all table long told = all_told spans table long (λ s w.
      let c = side_of_spoke spans spokes each same o (turned s) (sides_contain (length spans) (turned s) w) in
      subst (IsToldAt spans table) (ap (λ (p : Spoke). turned p.side) c.1.2 ∙ ap turned c.2 ∙ turned-turned s) (told c.1.0 c.0 c.1.1))

-- what is read of the table
module _ (spans : List Span) (table : List Side) (h : AreNext spans table) (s : Side) (w : IsSide (length spans) s) (m : ℕ) (d : Side) (e : m ≡ side_number s) where
  inside : side_number s < length table
  inside = let l = number_within (length spans) s w in let long = h.long in omega (arith, l, long)

  pub read_next : get_or table m d ≡ next_side spans s
  read_next = ap (λ i. get_or table i d) e ∙ get_or_default table (side_number s) d s inside ∙ h.each s w

  pub read_within : IsSide (length spans) (get_or table m d)
  read_within = h.within m d (omega (arith, e, inside))
