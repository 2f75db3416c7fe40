-- The places at which the runs begin, and the run of a place.
use Rattle.std.proofs.Common.{◌≡◌, ⊎_elim, ℕ, zero, suc, ◌+◌, ◌-◌, ◌<◌, ◌≤◌, Option, None, Some, option_to_list, MatchOption, List, [], ◌∷◌, ◌++◌, length, take, drop, set, get_or, refl, sym, ap, ◌∙◌, subst, arith}
use Rattle.std.proofs.lemmas.Bool.{cases_lt}
use Rattle.std.proofs.lemmas.List.{length-append, take_all, take_more, take_more_set}
use Rattle.std.proofs.Math.Seq.{take-append_seam}
use Rattle.tgap_model.specs.declared.geometry.Point.{Point}
use Rattle.point_rope.specs.declared.run.Run.{Run}
use Rattle.point_rope.specs.Rows.{IsRun}
use Rattle.point_rope.specs.Runs.{joined, starts_from}
use Rattle.point_rope.proofs.Joined.{joined_at, count_more}
use Rattle.point_rope.proofs.Rests.{run_among}

starts_length : (n : ℕ) (xss : List (List Point)) → length (starts_from n xss) ≡ length xss
unfolding starts_from
starts_length n [] = refl
starts_length n (x ∷ xss) = ap suc (starts_length (n + length x) xss)

pub starts_size : (starts : List ℕ) (xss : List (List Point)) → starts ≡ starts_from 0 xss → length starts ≡ length xss
starts_size starts xss are = ap length are ∙ starts_length 0 xss

starts_push_from : (n : ℕ) (xss : List (List Point)) (x : List Point) → starts_from n (xss ++ x ∷ []) ≡ starts_from n xss ++ (n + length (joined xss)) ∷ []
unfolding starts_from
starts_push_from n [] x = ap (λ (k : ℕ). k ∷ []) (omega arith)
starts_push_from n (y ∷ xss) x =
    ap (λ (zs : List ℕ). n ∷ zs)
    (starts_push_from (n + length y) xss x
    ∙ ap (λ (k : ℕ). starts_from (n + length y) xss ++ k ∷ []) (omega (arith, length-append y (joined xss))))

-- one run more begins behind the others
pub starts_push : (xss : List (List Point)) (x : List Point) → starts_from 0 (xss ++ x ∷ []) ≡ starts_from 0 xss ++ length (joined xss) ∷ []
starts_push xss x = starts_push_from 0 xss x ∙ ap (λ (k : ℕ). starts_from 0 xss ++ k ∷ []) (omega arith)

pub no_starts : starts_from 0 [] ≡ []
unfolding starts_from
no_starts = refl

-- where one start more is written
pub starts_more : (xss : List (List Point)) (starts : List ℕ) (i start : ℕ) (d : List Point) → i < length xss → i < length starts → take i starts ≡ starts_from 0 (take i xss)
    → start ≡ length (joined (take i xss)) → take (i + 1) (set starts i start) ≡ starts_from 0 (take (i + 1) xss)
starts_more xss starts i start d short room h e =
    take_more_set starts i start room ∙ ap (λ (zs : List ℕ). zs ++ start ∷ []) h
    ∙ ap (λ (k : ℕ). starts_from 0 (take i xss) ++ k ∷ []) e
    ∙ sym (ap (starts_from 0) (take_more xss i d short) ∙ starts_push (take i xss) (get_or xss i d))

starts_get : (n : ℕ) (xss : List (List Point)) (k d : ℕ) → k < length xss → get_or (starts_from n xss) k d ≡ n + length (joined (take k xss))
unfolding starts_from
starts_get n [] k d short = absurd (omega arith)
starts_get n (x ∷ xss) zero d short = omega arith
starts_get n (x ∷ xss) (suc k) d short = omega (arith, starts_get (n + length x) xss k d (omega arith), length-append x (joined (take k xss)))

-- a run begins behind the points of those before it
pub start_at : (starts : List ℕ) (xss : List (List Point)) (k d : ℕ) → starts ≡ starts_from 0 xss → k < length xss → get_or starts k d ≡ length (joined (take k xss))
start_at starts xss k d are short = omega (arith, ap (λ (zs : List ℕ). get_or zs k d) are, starts_get 0 xss k d short)

-- a row with a point has a run
pub some_run : (xss : List (List Point)) → 0 < length (joined xss) → 0 < length xss
some_run [] some = some
some_run (x ∷ xss) some = omega arith

-- ---- the last run taken

-- a list and what was taken off its end
pub popped : {X : Type 0} (B C : Type 0) (old new rest : List X) (x : X) (o : Option X) (n : ℕ) → old ≡ new ++ option_to_list o → MatchOption o ((n ≡ 0) × C) (λ _. B) → n ≡ length old
    → old ≡ rest ++ x ∷ [] → new ≡ rest
popped B C old new rest x None n e m size is = absurd (omega (arith, m.0, size, ap length is, length-append rest (x ∷ [])))
popped B C old new rest x (Some y) n e m size is =
    let count : length new ≡ length rest = omega (arith, ap length e, length-append new (y ∷ []), ap length is, length-append rest (x ∷ [])) in
    sym (take-append_seam new (y ∷ [])) ∙ ap (take (length new)) (sym e ∙ is) ∙ ap (λ (k : ℕ). take k (rest ++ x ∷ [])) count ∙ take-append_seam rest (x ∷ [])

-- ---- the run of a place

module _ (starts : List ℕ) (xss : List (List Point)) (place k : ℕ) (are : starts ≡ starts_from 0 xss) (short : k < length xss) (within : place < length (joined xss))
    (begun : 0 < k → get_or starts k 0 ≤ place) (next : k + 1 < length starts → place < get_or starts (k + 1) 0) where
  -- it begins up to the place
  pub start_low : length (joined (take k xss)) ≤ place
  start_low = ⊎_elim later first (cases_lt 0 k)
    where
      later : 0 < k → length (joined (take k xss)) ≤ place
      later l = omega (arith, begun l, start_at starts xss k 0 are short)

      first : k ≤ 0 → length (joined (take k xss)) ≤ place
      first le =
          let none : k ≡ 0 = omega arith in
          let nothing : length (joined (take k xss)) ≡ 0 = ap (λ (j : ℕ). length (joined (take j xss))) none in
          omega (arith, nothing)

  -- and ends behind it
  pub start_high : (d : List Point) → place < length (joined (take k xss)) + length (get_or xss k d)
  start_high d = ⊎_elim inner last (cases_lt (k + 1) (length xss))
    where
      inner : k + 1 < length xss → place < length (joined (take k xss)) + length (get_or xss k d)
      inner l = omega (arith, next (omega (arith, starts_size starts xss are)), start_at starts xss (k + 1) 0 are l, count_more xss k d short)

      last : length xss ≤ k + 1 → place < length (joined (take k xss)) + length (get_or xss k d)
      last le =
          let all : length (joined (take (k + 1) xss)) ≡ length (joined xss) = ap (λ (zss : List (List Point)). length (joined zss)) (take_all (k + 1) xss le) in
          omega (arith, all, count_more xss k d short)

  -- the rest of that run is a run of the row
  pub run_found : (d : List Point) (start : ℕ) (run : Run) → start ≡ length (joined (take k xss)) → IsRun (get_or xss k d) (place - start) run → IsRun (joined xss) place run
  run_found d start run is h =
      let before = joined (take k xss) in
      let here = get_or xss k d in
      let there : length before + (place - start) ≡ place = omega (arith, is, start_low) in
      subst (λ (zs : List Point). IsRun zs place run) (sym (joined_at xss k d short))
      (subst (λ (p : ℕ). IsRun (before ++ (here ++ joined (drop (k + 1) xss))) p run) there
      (run_among before here (joined (drop (k + 1) xss)) (place - start) run (omega (arith, is, start_low, start_high d)) h))
