-- What holds a box that meets the area meets it.
use Rattle.std.proofs.Common.{◌≡◌, true, ℤ, ◌≤ℤ◌, int_le}
use Rattle.std.specs.Cmp.Derive.{both_true}
use Rattle.std.proofs.lemmas.Bool.{and_parts}
use Rattle.tgap_model.specs.declared.geometry.Window.{Window}
use Rattle.lemmas.proofs.Signs.{Decides-int_le, le_le_trans}
use Rattle.grid_index.specs.Boxes.{overlap, meets, Covers}

-- a range that holds one which has a number in common with another has it too
overlap_wider : (n0 n1 a0 a1 b0 b1 : ℤ) → a0 ≤ℤ b0 → b1 ≤ℤ a1 → overlap n0 n1 b0 b1 ≡ true → overlap n0 n1 a0 a1 ≡ true
overlap_wider n0 n1 a0 a1 b0 b1 l r h =
    let p = and_parts (int_le n0 b1) (int_le b0 n1) h in
    both_true ((Decides-int_le n0 a1).1 (le_le_trans ((Decides-int_le n0 b1).0 p.0) r)) ((Decides-int_le a0 n1).1 (le_le_trans l ((Decides-int_le b0 n1).0 p.1)))

pub meets_wider : (area up down : Window) → Covers up down → meets area down ≡ true → meets area up ≡ true
meets_wider area up down c h =
    let p = and_parts (overlap area.x0 area.x1 down.x0 down.x1) (overlap area.y0 area.y1 down.y0 down.y1) h in
    both_true (overlap_wider area.x0 area.x1 up.x0 up.x1 down.x0 down.x1 c.left c.right p.0) (overlap_wider area.y0 area.y1 up.y0 up.y1 down.y0 down.y1 c.low c.high p.1)
