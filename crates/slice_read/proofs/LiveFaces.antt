-- The live faces are faces of the tree.
use Rattle.std.proofs.Common.{◌≤◌, ◌+◌, ℕ, length, All, arith}
use Rattle.std.specs.List.{range_with_len}
use Rattle.std.proofs.lemmas.List.Elements.{All-filter}
use Rattle.std.proofs.lemmas.List.FromFn.{length-range_with_len, get_or-range_with_len}
use Rattle.face_tree.specs.Tree.{FaceHistory, IsFace, is_live, live_after}

pub live_are_faces : (t : FaceHistory) (k : ℕ) → k ≤ length t.steps → All (IsFace t) (live_after t k)
live_are_faces t k inside = All-filter (is_live t k) (IsFace t) (range_with_len 1 (t.faces + k)) made
  where
    made : All (IsFace t) (range_with_len 1 (t.faces + k))
    made i d short =
        let place = get_or-range_with_len 1 (t.faces + k) i d (omega (arith, short, length-range_with_len 1 (t.faces + k))) in
        record { above = omega (arith, place); below = omega (arith, place, inside, short, length-range_with_len 1 (t.faces + k)) }
