-- The lines one half beyond a whole abscissa, by how many whole abscissas from 0 on stand at their left.
use Rattle.std.proofs.Common.{◌≡◌, ◌⊎◌, inl, inr, ℕ, suc, ◌<◌, ◌≤◌, true, ℤ, pos, negsuc, ◌<ℤ◌, ◌≤ℤ◌, arith}
use Rattle.std.proofs.lemmas.Int.{ints}
use Rattle.std.proofs.lemmas.Bool.{or_cases, or_left, or_right, cases_lt}
use Rattle.tgap_model.specs.declared.geometry.Seg.{Seg}
use Rattle.tgap_model.specs.Segment.{line_after, crosses, passes}
use Rattle.grid_geo.proofs.Heights.{passes_parts}
use Rattle.planar_stack.proofs.Crossings.{passes_from}

pub columns : ℤ → ℕ
columns (pos n) = suc n
columns (negsuc n) = 0

-- what stands at the left of the line one half beyond v, where there are n, and what at its right
pub record AreLeft (v : ℤ) (n : ℕ) : Type 0 where
  pub at_left : (x : ℕ) → x < n → pos x ≤ℤ v
  pub at_right : (x : ℕ) → n ≤ x → v <ℤ pos x

pub columns_left : (v : ℤ) → AreLeft v (columns v)
unfolding columns
columns_left (pos n) = record { at_left = λ x h. omega (arith, ints); at_right = λ x h. omega (arith, ints) }
columns_left (negsuc n) = record { at_left = λ x h. absurd (omega arith); at_right = λ x h. omega (arith, ints) }

module _ (v : ℤ) (n : ℕ) (left : AreLeft v n) where
  passes_left : (x y : ℕ) → x < n → n ≤ y → passes (line_after v) (pos x) (pos y) ≡ true
  passes_left x y h k = let at_x = left.at_left x h in let at_y = left.at_right y k in passes_from (line_after v) (pos x) (pos y) (omega (arith, ints)) (omega (arith, ints))

  -- a segment is crossed where one end stands at the left and the other at the right
  pub crosses_rightward : (s : Seg) (x y : ℕ) → s.a.x ≡ pos x → s.b.x ≡ pos y → x < n → n ≤ y → crosses (line_after v) s ≡ true
  crosses_rightward s x y e f h k = or_left (passes (line_after v) s.a.x s.b.x) (passes (line_after v) s.b.x s.a.x) (rw e (rw f (passes_left x y h k)))

  pub crosses_leftward : (s : Seg) (x y : ℕ) → s.a.x ≡ pos x → s.b.x ≡ pos y → y < n → n ≤ x → crosses (line_after v) s ≡ true
  crosses_leftward s x y e f h k = or_right (passes (line_after v) s.a.x s.b.x) (passes (line_after v) s.b.x s.a.x) (rw e (rw f (passes_left y x h k)))

  sides_of_line : (x y : ℕ) → passes (line_after v) (pos x) (pos y) ≡ true → (x < n) × (n ≤ y)
  sides_of_line x y e =
      let parts = passes_parts (line_after v) (pos x) (pos y) e in (
        elim (cases_lt x n) [ inl h ↦ h | inr h ↦ let at = left.at_right x h in absurd (omega (arith, ints, parts.0)) ],
        elim (cases_lt y n) [ inl h ↦ let at = left.at_left y h in absurd (omega (arith, ints, parts.1)) | inr h ↦ h ],
      )

  pub ends_of_crossed : (s : Seg) (x y : ℕ) → s.a.x ≡ pos x → s.b.x ≡ pos y → crosses (line_after v) s ≡ true → ((x < n) × (n ≤ y)) ⊎ ((y < n) × (n ≤ x))
  ends_of_crossed s x y e f h = elim (or_cases (passes (line_after v) s.a.x s.b.x) (passes (line_after v) s.b.x s.a.x) h) [
    | inl p ↦ inl (sides_of_line x y (rw e at (rw f at p)))
    | inr p ↦ inr (sides_of_line y x (rw e at (rw f at p)))
  ]
