-- Laws of boxes.
use Rattle.std.specs.Int.Signed.{≤ℤ_refl}
use Rattle.tgap_model.specs.declared.geometry.Window.{Window}
use Rattle.lemmas.proofs.Signs.{le_le_trans}
use Rattle.grid_index.specs.Boxes.{Covers}

-- a box holds itself, and what is held by a box that it holds
pub Covers-refl : (a : Window) → Covers a a
Covers-refl a = record { left = ≤ℤ_refl a.x0; right = ≤ℤ_refl a.x1; low = ≤ℤ_refl a.y0; high = ≤ℤ_refl a.y1 }

pub Covers-trans : {a b c : Window} → Covers a b → Covers b c → Covers a c
Covers-trans h k = record {
  left = le_le_trans h.left k.left;
  right = le_le_trans k.right h.right;
  low = le_le_trans h.low k.low;
  high = le_le_trans k.high h.high;
}
