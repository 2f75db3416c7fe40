-- What is left of a row from a place on.
use Rattle.std.proofs.Common.{◌≡◌, ⊎_elim, ℕ, min, ◌+◌, ◌<◌, ◌≤◌, Option, None, Some, List, ◌++◌, length, drop, sym, ap, ◌∙◌, append_assoc, arith}
use Rattle.std.specs.Option.{unwrap_or}
use Rattle.std.proofs.lemmas.List.{drop-append-le, drop_all, length-append}
use Rattle.std.proofs.lemmas.Bool.{cases_lt}
use Rattle.std.proofs.lemmas.List.Elements.{All-drop}
use Rattle.std.proofs.Math.Seq.{drop-append-add}
use Rattle.tgap_model.specs.declared.geometry.Point.{Point}
use Rattle.point_rope.specs.declared.run.Run.{Run}
use Rattle.point_rope.specs.declared.run.Summary.{Summary}
use Rattle.point_rope.specs.Corners.{least_area}
use Rattle.point_rope.specs.Held.{IsHeld}
use Rattle.point_rope.specs.Rows.{IsRun, IsSummary}
use Rattle.point_rope.proofs.LeastAreas.{least_rest}
use Rattle.point_rope.proofs.SmallAreas.{some_same}

-- what is left of a run is a run of a row that begins with it
pub run_before : (here behind : List Point) (i : ℕ) (run : Run) → i < length here → IsRun here i run → IsRun (here ++ behind) i run
run_before here behind i run short h = record {
  there =
      (h.there.0 ++ behind, drop-append-le i here behind (omega (arith, short)) ∙ ap (λ (zs : List Point). zs ++ behind) h.there.1 ∙ append_assoc run.points.now h.there.0 behind);
  some = λ l. h.some short;
  known = h.known;
}

-- and of one that ends with it
pub run_behind : (before last : List Point) (i : ℕ) (run : Run) → IsRun last i run → IsRun (before ++ last) (length before + i) run
run_behind before last i run h = record {
  there = (h.there.0, drop-append-add before last i ∙ h.there.1);
  some = λ l. h.some (omega (arith, l, length-append before last));
  known = h.known;
}

pub run_among : (before here behind : List Point) (i : ℕ) (run : Run) → i < length here → IsRun here i run → IsRun (before ++ (here ++ behind)) (length before + i) run
run_among before here behind i run short h = run_behind before (here ++ behind) i run (run_before here behind i run short h)

-- what is known of points is known of those that are left
pub summary_rest : (points : List Point) (i : ℕ) (s : Summary) → IsSummary points s → IsSummary (drop i points) s
summary_rest points i s h = record {
  held = All-drop (IsHeld s.bounds) i points h.held;
  least = λ n e. let all = least_rest i points n e in omega (arith, h.least all.0 all.1, all.2);
  small = h.small;
}

-- the least corner bounds all corners, and nothing does where there is none
pub least_bound : (points : List Point) (o : Option ℕ) (n : ℕ) → o ≡ least_area points → least_area points ≡ Some n → unwrap_or o 0 ≤ n
least_bound points None n e f = omega arith
least_bound points (Some m) n e f = let is : m ≡ n = some_same (e ∙ f) in omega (arith, is)

pub least_within : (points : List Point) (o : Option ℕ) (bound : ℕ) → o ≡ least_area points → ((n : ℕ) → least_area points ≡ Some n → n ≤ bound) → unwrap_or o 0 ≤ bound
least_within points None bound e small = omega arith
least_within points (Some m) bound e small = small m (sym e)

-- past the end nothing is left
pub drop_within : {X : Type 0} (xs : List X) (i n : ℕ) → n ≡ min i (length xs) → drop n xs ≡ drop i xs
drop_within xs i n is = ⊎_elim inner outer (cases_lt i (length xs))
  where
    inner : i < length xs → drop n xs ≡ drop i xs
    inner l = ap (λ (k : ℕ). drop k xs) (omega (arith, is, l))

    outer : length xs ≤ i → drop n xs ≡ drop i xs
    outer l = drop_all n xs (omega (arith, is, l)) ∙ sym (drop_all i xs l)
