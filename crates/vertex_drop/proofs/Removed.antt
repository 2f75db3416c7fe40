-- Which vertex is removed.
use Rattle.std.proofs.Common.{◌≡◌, ◌*◌, ◌==◌, ℕ, ℤ, pos, Bool, true, false, ◌&&◌, ◌||◌, int_le, List}
use Rattle.std.specs.List.{list_all}
use Rattle.std.proofs.lemmas.Bool.{eq-eqb, ne_eqb}
use Rattle.tgap_model.specs.declared.geometry.Point.{Point}
use Rattle.tgap_model.specs.declared.geometry.Seg.{Seg}
use Rattle.tgap_model.specs.Clear.{is_clear}
use Rattle.tgap_model.specs.Point.{area2}
use Rattle.tgap_model.specs.Removals.{is_removable}

-- the three tests in turn
flat_or : (p q r : Bool) → p ≡ true → true ≡ (p || (q && r))
flat_or p q r e = cc

large_or : (p q r s : Bool) → p ≡ false → s ≡ q → s ≡ false → s ≡ (p || (q && r))
large_or p q r s e f g = cc

small_or : (p q r s t : Bool) → p ≡ false → s ≡ q → s ≡ true → t ≡ r → t ≡ (p || (q && r))
small_or p q r s t e f g h = cc

module _ (ratio : ℕ) (area : ℤ) (others : List Seg) (a b c : Point) where
  -- three points on one line
  pub removed_flat : area2 a b c ≡ 0 → true ≡ is_removable ratio area others a b c
  unfolding is_removable
  removed_flat e = flat_or (area2 a b c == 0) (int_le (pos (ratio * area2 a b c)) area) (list_all (is_clear a b c) others) (eq-eqb (area2 a b c) 0 e)

  -- a triangle that is too large
  pub kept_large : {s : Bool} → ¬ (area2 a b c ≡ 0) → s ≡ int_le (pos (ratio * area2 a b c)) area → s ≡ false → s ≡ is_removable ratio area others a b c
  unfolding is_removable
  kept_large {s} n e f =
      large_or (area2 a b c == 0) (int_le (pos (ratio * area2 a b c)) area) (list_all (is_clear a b c) others) s (ne_eqb (area2 a b c) 0 n) e f

  -- a triangle that is small enough
  pub removed_clear : {s t : Bool} → ¬ (area2 a b c ≡ 0) → s ≡ int_le (pos (ratio * area2 a b c)) area → s ≡ true → t ≡ list_all (is_clear a b c) others
      → t ≡ is_removable ratio area others a b c
  unfolding is_removable
  removed_clear {s} {t} n e f h =
      small_or (area2 a b c == 0) (int_le (pos (ratio * area2 a b c)) area) (list_all (is_clear a b c) others) s t (ne_eqb (area2 a b c) 0 n) e f h
