use Rattle.std.proofs.Common.{◌≡◌, ℕ, ◌+◌, ◌<◌, List, [], ◌∷◌, ◌++◌, length, get_or, set, take, drop, map, ◌∙◌, arith, append_assoc}
use Rattle.std.proofs.lemmas.List.{drop_more, map_more, set_at, get_or_at, length-map, length-take-le}
use Rattle.tgap_model.proofs.bordered.take_marks_off.Goals as goal

-- one more entry is changed in place
map_in_place : (f : ℕ → ℕ) (xs ys : List ℕ) (i : ℕ) → i < length ys → xs ≡ map f (take i ys) ++ drop i ys
    → set xs i (f (get_or xs i 0)) ≡ map f (take (i + 1) ys) ++ drop (i + 1) ys
map_in_place f xs ys i l e =
    let split = drop_more ys i 0 l in
    let front = length-map (take i ys) f ∙ length-take-le i ys (omega arith) in
    let read = get_or_at (map f (take i ys)) (get_or ys i 0) (drop (i + 1) ys) 0 i front in
    let written = set_at (map f (take i ys)) (get_or ys i 0) (drop (i + 1) ys) (f (get_or ys i 0)) i front in
    let more = map_more f ys i 0 l in
    let joined = append_assoc (map f (take i ys)) (f (get_or ys i 0) ∷ []) (drop (i + 1) ys) in
    cc

pub loop-entry-preserved : goal.loop-entry-preserved
loop-entry-preserved c = map_in_place _ _ _ _ c.loop-entry-test.true c.loop-entry.invariant
