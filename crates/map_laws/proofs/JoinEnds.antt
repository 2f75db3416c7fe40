-- The ends of paths at a point that is no junction: as many as the ends of their arcs there.
use Rattle.std.proofs.Common.{◌≡◌, ◌⊎◌, inl, inr, ℕ, ◌+◌, ◌≤◌, ◌||◌, Bool, true, false, cond, List, [], ◌∷◌, sum_by, refl, sym, ap, ◌∙◌, subst, arith}
use Rattle.std.proofs.lemmas.Bool.{false_from_ne_true, or_left, or_right}
use Rattle.std.proofs.lemmas.List.Sums.{sum_by-cons}
use Rattle.tgap_model.specs.declared.geometry.Point.{Point}
use Rattle.tgap_model.specs.declared.base.BaseArc.{BaseArc}
use Rattle.tgap_model.specs.Base.{same_point}
use Rattle.tgap_model.specs.Merged.{MergedMap, is_border}
use Rattle.tgap_model.specs.Chains.{first_point, last_point, arc_number, border_numbers, ends_at, degree, Link, Chain, link_start, link_end, chain_start, chain_end, touches}
use Rattle.map_laws.proofs.Lists.{sum_passing}
use Rattle.map_laws.proofs.ChainWalks.{IsRow}
use Rattle.tgap_model.proofs.Points.{same_point-true, same_point-from}
use Rattle.map_laws.proofs.JoinPaths.{Meets, IsPath}

-- points that are not one fail the test
pub same_point-apart : (p q : Point) → (p ≡ q → ⊥) → same_point p q ≡ false
same_point-apart p q ne = false_from_ne_true (same_point p q) (λ e. ne (same_point-true p q e))

-- how many ends of the chain are at a point
abbrev pub chain_ends : List BaseArc → Point → Chain → ℕ
chain_ends arcs p c = cond (same_point (chain_start arcs c) p) 1 0 + cond (same_point (chain_end arcs c) p) 1 0

-- one at least where it touches the point, and none where it does not
some_end : (s t : Bool) → (s || t) ≡ true → 1 ≤ cond {A = ℕ} s 1 0 + cond {A = ℕ} t 1 0
some_end true true h = omega arith
some_end true false h = omega arith
some_end false true h = omega arith
some_end false false h = absurd cc

no_end : (s t : Bool) → (s || t) ≡ false → cond {A = ℕ} s 1 0 + cond {A = ℕ} t 1 0 ≡ 0
no_end true t h = absurd cc
no_end false true h = absurd cc
no_end false false h = refl

two_ends : (s t : Bool) → cond {A = ℕ} s 1 0 + cond {A = ℕ} t 1 0 ≡ 2 → (s ≡ true) × (t ≡ true)
two_ends true true h = (refl, refl)
two_ends true false h = absurd (omega arith)
two_ends false true h = absurd (omega arith)
two_ends false false h = absurd (omega arith)

pub touching_ends : (arcs : List BaseArc) (p : Point) (c : Chain) → touches arcs p c ≡ true → 1 ≤ chain_ends arcs p c
touching_ends arcs p c h = some_end (same_point (chain_start arcs c) p) (same_point (chain_end arcs c) p) h

pub other_ends : (arcs : List BaseArc) (p : Point) (c : Chain) → touches arcs p c ≡ false → chain_ends arcs p c ≡ 0
other_ends arcs p c h = no_end (same_point (chain_start arcs c) p) (same_point (chain_end arcs c) p) h

-- with two it starts and ends there
pub both_ends : (arcs : List BaseArc) (p : Point) (c : Chain) → chain_ends arcs p c ≡ 2 → (chain_start arcs c ≡ p) × (chain_end arcs c ≡ p)
both_ends arcs p c h =
    let parts = two_ends (same_point (chain_start arcs c) p) (same_point (chain_end arcs c) p) h in
    (same_point-true _ _ parts.0, same_point-true _ _ parts.1)

-- the ends of an arc are those of its link
pub link_ends : (arcs : List BaseArc) (p : Point) (d : Link)
    → ends_at p (arc_number arcs d.arc) ≡ cond (same_point (link_start arcs d) p) 1 0 + cond (same_point (link_end arcs d) p) 1 0
link_ends arcs p d = by d.turned
  where
    first : Point
    first = first_point (arc_number arcs d.arc).points

    last : Point
    last = last_point (arc_number arcs d.arc).points

    by : (t : Bool) → ends_at p (arc_number arcs d.arc) ≡ cond (same_point (cond t last first) p) 1 0 + cond (same_point (cond t first last) p) 1 0
    by true = omega arith
    by false = refl

module _ (arcs : List BaseArc) (J : Point → Type 0) (p : Point) (fresh : J p → ⊥) where
  -- the ends of the arcs of a row, at a point that is no junction
  row_ends : (d : Link) (c : Chain) → IsRow (Meets arcs J) (d ∷ c)
      → sum_by (λ e. ends_at p (arc_number arcs e.arc)) (d ∷ c) ≡ chain_ends arcs p (d ∷ c)
  row_ends d [] r =
      let g : Link → ℕ = λ (e : Link). ends_at p (arc_number arcs e.arc) in
      omega (arith, sum_by-cons g d [], link_ends arcs p d)
  row_ends d (e ∷ c) r =
      let g : Link → ℕ = λ (e : Link). ends_at p (arc_number arcs e.arc) in
      let away : same_point (link_end arcs d) p ≡ false = same_point-apart _ _ (λ s. fresh (subst J s r.0.1)) in
      let after : same_point (link_start arcs e) p ≡ false = same_point-apart _ _ (λ s. fresh (subst J (r.0.0 ∙ s) r.0.1)) in
      let here : cond {A = ℕ} (same_point (link_end arcs d) p) 1 0 ≡ 0 = ap (λ (b : Bool). cond {A = ℕ} b 1 0) away in
      let there : cond {A = ℕ} (same_point (link_start arcs e) p) 1 0 ≡ 0 = ap (λ (b : Bool). cond {A = ℕ} b 1 0) after in
      omega (arith, sum_by-cons g d (e ∷ c), link_ends arcs p d, row_ends e c r.1, here, there)

  pub path_ends : (c : Chain) → IsPath arcs J c → sum_by (λ e. ends_at p (arc_number arcs e.arc)) c ≡ chain_ends arcs p c
  path_ends [] q = let none = q.links in absurd cc
  path_ends (d ∷ c) q = row_ends d c q.row

-- ---- at a junction

-- one end at least
end_there : (arcs : List BaseArc) (p : Point) (d : Link) → (link_start arcs d ≡ p) ⊎ (link_end arcs d ≡ p) → 1 ≤ ends_at p (arc_number arcs d.arc)
end_there arcs p d t =
    let touched : (same_point (link_start arcs d) p || same_point (link_end arcs d) p) ≡ true = elim t [
      | inl s ↦ or_left _ (same_point (link_end arcs d) p) (same_point-from _ _ s)
      | inr s ↦ or_right (same_point (link_start arcs d) p) _ (same_point-from _ _ s)
    ] in
    omega (arith, link_ends arcs p d, some_end (same_point (link_start arcs d) p) (same_point (link_end arcs d) p) touched)

-- two arcs of a path end at each of its junctions
row_junctions : (arcs : List BaseArc) (J K : Point → Type 0) (c : Chain) → IsRow (Meets arcs J) c
    → ((p : Point) → J p → 2 ≤ sum_by (λ e. ends_at p (arc_number arcs e.arc)) c → K p) → IsRow (Meets arcs K) c
row_junctions arcs J K [] r on = tt
row_junctions arcs J K (d ∷ []) r on = tt
row_junctions arcs J K (d ∷ e ∷ c) r on = (
  (
    r.0.0,
    on (link_end arcs d) r.0.1 (
        let g : Link → ℕ = λ (f : Link). ends_at (link_end arcs d) (arc_number arcs f.arc) in
        omega (
          arith,
          sum_by-cons g d (e ∷ c),
          sum_by-cons g e c,
          end_there arcs (link_end arcs d) d (inr refl),
          end_there arcs (link_end arcs d) e (inl (sym r.0.0)),
        )),
  ),
  row_junctions arcs J K (e ∷ c) r.1 (λ p j two. on p j (omega (arith, sum_by-cons (λ (f : Link). ends_at p (arc_number arcs f.arc)) d (e ∷ c)))),
)

pub path_junctions : (arcs : List BaseArc) (J K : Point → Type 0) (c : Chain) → IsPath arcs J c
    → ((p : Point) → J p → 2 ≤ sum_by (λ e. ends_at p (arc_number arcs e.arc)) c → K p) → IsPath arcs K c
path_junctions arcs J K c q on = record { links = q.links; row = row_junctions arcs J K c q.row on }

-- the ends of the border arcs at a point are its degree
pub border_ends : (h : MergedMap) (k : ℕ) (p : Point) → sum_by (λ i. ends_at p (arc_number h.base.arcs i)) (border_numbers h k) ≡ degree h k p
border_ends h k p = sum_passing (ends_at p) (is_border h k) h.base.arcs (record { left = 0; right = 0; points = [] })
