-- The vertices that come back of a row of points, run by run.
use Rattle.std.proofs.Common.{◌≡◌, ℕ, ◌+◌, ◌≤◌, Bool, false, cond, List, [], ◌∷◌, ◌++◌, append_assoc, drop, length, All, refl, sym, ap, ◌∙◌, arith}
use Rattle.std.proofs.lemmas.List.{drop-drop, drop_at, length-append, length-drop}
use Rattle.std.proofs.lemmas.List.Elements.{All-head, All-tail}
use Rattle.tgap_model.specs.declared.geometry.Point.{Point}
use Rattle.tgap_model.specs.declared.record.Put.{Put}
use Rattle.tgap_model.specs.declared.slice.Removal.{Removal}
use Rattle.tgap_model.specs.Removals.{is_removed}
use Rattle.tgap_model.specs.Records.{puts_from}
use Rattle.point_rope.specs.declared.run.Run.{Run}
use Rattle.point_rope.specs.Rows.{IsRun}
use Rattle.tgap_build.specs.Running.{has_point}

module _ (now : List Removal) where
  puts_append : (i : ℕ) (xs ys : List Point) → puts_from now i (xs ++ ys) ≡ puts_from now i xs ++ puts_from now (i + length xs) ys
  puts_append i [] ys = ap (λ (n : ℕ). puts_from now n ys) (omega arith)
  puts_append i (x ∷ xs) ys =
      let here : List Put = cond (is_removed now x) (record { at = i; point = x } ∷ []) [] in
      ap (λ (ps : List Put). here ++ ps) (puts_append (i + 1) xs ys)
      ∙ sym (append_assoc here (puts_from now (i + 1) xs) (puts_from now (i + 1 + length xs) ys))
      ∙ ap (λ (n : ℕ). here ++ puts_from now (i + 1) xs ++ puts_from now n ys) (omega arith)

  -- none of points of which none is in the set
  pub puts_none : (gone : List Point) → ((p : Point) → has_point gone p ≡ is_removed now p) → (i : ℕ) (xs : List Point)
      → All (λ p. has_point gone p ≡ false) xs → puts_from now i xs ≡ []
  puts_none gone same i [] none = refl
  puts_none gone same i (x ∷ xs) none =
      ap (λ (b : Bool). cond b (record { at = i; point = x } ∷ []) [] ++ puts_from now (i + 1) xs) (sym (same x) ∙ All-head (λ (p : Point). has_point gone p ≡ false) x xs none)
      ∙ puts_none gone same (i + 1) xs (All-tail (λ (p : Point). has_point gone p ≡ false) x xs none)

  -- those of a run, and of the points behind it
  pub run_puts : (row : List Point) (place : ℕ) (run : Run) → IsRun row place run
      → puts_from now place (drop place row) ≡ puts_from now place run.points.now ++ puts_from now (place + length run.points.now) (drop (place + length run.points.now) row)
  run_puts row place run known =
      let points = run.points.now in
      let behind = sym (drop-drop (length points) place row) ∙ ap (drop (length points)) known.there.1 ∙ drop_at points known.there.0 (length points) refl in
      ap (puts_from now place) known.there.1 ∙ puts_append place points known.there.0
      ∙ ap (λ (ps : List Point). puts_from now place points ++ puts_from now (place + length points) ps) (sym behind)

-- a run ends within its row
pub run_within : (row : List Point) (place : ℕ) (run : Run) → IsRun row place run → place ≤ length row → place + length run.points.now ≤ length row
run_within row place run known l =
    omega (arith, l, ap length known.there.1, length-append run.points.now known.there.0, length-drop place row)
