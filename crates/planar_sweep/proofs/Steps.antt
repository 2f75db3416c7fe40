-- A row after one change more.
use Rattle.std.proofs.Common.{◌≡◌, ◌⊎◌, inl, inr, ⊎_elim, ℕ, ◌+◌, ◌<◌, ◌≤◌, ◌==◌, List, [], ◌∷◌, ◌++◌, length, take, drop, All, Contains, IsPermutation, pos, sym, ap, subst, true≢false}
use Rattle.std.proofs.lemmas.List.Elements.{Contains-append_cases, Contains-append_left, Contains-append_right}
use Rattle.std.proofs.lemmas.List.Sorted.{IsPermutation-insert}
use Rattle.std.proofs.lemmas.Bool.Decides.{Decides-eqb}
use Rattle.std.proofs.lemmas.Map.Steps.{length-le_from_distinct_below}
use Rattle.std.proofs.lemmas.Map.Made.{IsDistinct-from_AllPairs}
use Rattle.std.proofs.lemmas.Map.Views.{Contains-from_any}
use Rattle.lemmas.proofs.Members.{All-from_members, in_cases, in_head, in_none}
use Rattle.tgap_model.specs.declared.geometry.Seg.{Seg}
use Rattle.planar_sweep.specs.Rows.{Adjacent, Over, Change, coming, leaving, Moment, IsRow, HasCome, HasLeft}
use Rattle.planar_sweep.proofs.Neighbours.{adjacent_insert, adjacent_remove, removed, once_more, once_less, member_more, stays_more, comes_in, member_less, stays_less}

module _ (segs : List Seg) (done : List Change) (n : ℕ) (old new : List ℕ) (row : IsRow segs done old) where
  -- what was done is done, and the change is done now
  still_done : (c f : Change) → Contains done f → Contains (done ++ c ∷ []) f
  still_done c f found = Contains-append_left done (c ∷ []) f found

  now_done : (c : Change) → Contains (done ++ c ∷ []) c
  now_done c = Contains-append_right done (c ∷ []) c (in_head c [])

  done_cases : (c f : Change) → Contains (done ++ c ∷ []) f → Contains done f ⊎ (c ≡ f)
  done_cases c f found = ⊎_elim inl (λ h. ⊎_elim inr (λ i. absurd (in_none f i)) (in_cases c [] f h)) (Contains-append_cases done (c ∷ []) f found)

  -- it comes

  pub row_with : n < length segs → (Contains done (leaving n) → ⊥) → HasCome segs n old new → IsRow segs (done ++ coming n ∷ []) new
  row_with known not_left come = record {
    ordered = subst (Adjacent (Over segs)) (sym come.placed) (adjacent_insert (Over segs) old come.place n 0 come.within row.ordered come.above come.below);
    once = once_more n old new moved row.once come.fresh;
    into = λ m c. elim (member_more n old new moved m c) [
      | inl same ↦ subst Into same (known, now_done (coming n), out n not_left)
      | inr h ↦ let i = row.into m h in (i.0, still_done (coming n) (coming m) i.1, out m i.2)
    ];
    back = λ m inside came out. elim (done_cases (coming n) (coming m) came) [
      | inl h ↦ stays_more n old new moved m (row.back m inside h (λ left. out (still_done (coming n) (leaving m) left)))
      | inr f ↦ subst (Contains new) (ap (λ c. c.number) f) (comes_in n old new moved)
    ];
  }
    where
      moved : IsPermutation (n ∷ old) new
      moved = subst (IsPermutation (n ∷ old)) (sym come.placed) (IsPermutation-insert old come.place n)

      Into : ℕ → Type 0
      Into m = (m < length segs) × Contains (done ++ coming n ∷ []) (coming m) × (Contains (done ++ coming n ∷ []) (leaving m) → ⊥)

      out : (m : ℕ) → (Contains done (leaving m) → ⊥) → Contains (done ++ coming n ∷ []) (leaving m) → ⊥
      out m h left = ⊎_elim h (λ e. true≢false (ap (λ c. c.comes) e)) (done_cases (coming n) (leaving m) left)

  -- it leaves

  pub row_without : HasLeft segs n old new → IsRow segs (done ++ leaving n ∷ []) new
  row_without left = record {
    ordered = subst (Adjacent (Over segs)) (sym left.without) (adjacent_remove (Over segs) old left.place 0 left.within row.ordered left.joined);
    once = (once_less n old new moved row.once).0;
    into = λ m c.
        let i = row.into m (member_less n old new moved m c) in
        (i.0, still_done (leaving n) (coming m) i.1, λ h. ⊎_elim i.2 (λ e. gone (subst (Contains new) (sym (ap (λ (f : Change). f.number) e)) c)) (done_cases (leaving n) (leaving m) h));
    back = λ m inside came out. elim (done_cases (leaving n) (coming m) came) [
      | inl h ↦ stays_less n old new moved m (row.back m inside h (λ i. out (still_done (leaving n) (leaving m) i))) (λ same. out (subst (λ (j : ℕ). Contains (done ++ leaving n ∷ []) (leaving j)) same (now_done (leaving n))))
      | inr e ↦ absurd (true≢false (sym (ap (λ c. c.comes) e)))
    ];
  }
    where
      moved : IsPermutation old (n ∷ new)
      moved = subst (λ (ns : List ℕ). IsPermutation old (n ∷ ns)) (sym left.without)
          (subst (λ (m : ℕ). IsPermutation old (m ∷ (take left.place old ++ drop (left.place + 1) old))) left.there (removed old left.place 0 left.within))

      gone : Contains new n → ⊥
      gone = (once_less n old new moved row.once).1

-- ---- as the sweep takes them

-- the members of a row are numbers of segments
pub row_known : (segs : List Seg) (done : List Change) (row : List ℕ) → IsRow segs done row → All (λ n. n < length segs) row
row_known segs done row is = All-from_members (λ n. n < length segs) row (λ n c. (is.into n c).0)

-- so there are no more of them
pub row_few : (segs : List Seg) (done : List Change) (row : List ℕ) → IsRow segs done row → length row ≤ length segs
row_few segs done row is = length-le_from_distinct_below row (length segs) (IsDistinct-from_AllPairs {eq = ◌==◌} Decides-eqb row is.once)
    (λ n found. (is.into n (Contains-from_any {eq = ◌==◌} (λ a b. (Decides-eqb a b).0) n row found)).0)

-- the event at a place, where there is one
abbrev pub no_event : Moment
no_event = record { time = pos 0; changes = [] }
