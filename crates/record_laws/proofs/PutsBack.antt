-- The vertices that a step takes out come back at their places.
use Rattle.std.proofs.Common.{◌≡◌, inl, inr, ℕ, zero, suc, ◌+◌, ◌-◌, ◌<◌, ◌≤◌, ◌==◌, Bool, true, false, not, nat_lt, cond, List, [], ◌∷◌, ◌++◌, filter, length, append_assoc, eq-eqb, ne_eqb, refl, sym, ap, ap₂, ◌∙◌, arith}
use Rattle.std.specs.Prelude.{insert}
use Rattle.std.proofs.lemmas.Bool.{lt-ltb}
use Rattle.std.proofs.lemmas.List.{length-append}
use Rattle.std.proofs.lemmas.List.Edits.{insert-append_right}
use Rattle.std.proofs.lemmas.List.Elements.{filter-append}
use Rattle.lemmas.proofs.Members.{filter_none}
use Rattle.tgap_model.specs.declared.geometry.Point.{Point}
use Rattle.tgap_model.specs.declared.slice.Removal.{Removal}
use Rattle.tgap_model.specs.declared.record.Put.{Put}
use Rattle.tgap_model.specs.Merged.{MergedMap, step_number, face_area}
use Rattle.tgap_model.specs.Chains.{chains_at}
use Rattle.tgap_model.specs.Removals.{is_removed, without, removals_to, removed_at, sweep, edges_of}
use Rattle.tgap_model.specs.Records.{puts_from, put_in}
use Rattle.map_laws.proofs.ChainMembers.{Among, append_among}
use Rattle.map_laws.proofs.Lists.{all_members, map_among}
use Rattle.removal_laws.proofs.Less.{without_both}
use Rattle.record_laws.specs.PieceLaws.{PutsComeBack}

-- ---- puts into a row of points

-- one more point of a row in front of others
pub move_front : {A : Type 0} (front : List A) (x : A) (rest : List A) → (front ++ x ∷ []) ++ rest ≡ front ++ x ∷ rest
move_front front x rest = append_assoc front (x ∷ []) rest

-- a put behind some points
pub insert_there : (i : ℕ) (front : List Point) (p : Point) (rest : List Point) → length front ≡ i
    → insert (front ++ rest) i p ≡ (front ++ p ∷ []) ++ rest
insert_there i front p rest l =
    let none : i - i ≡ 0 = omega arith in
    insert-append_right front rest i i p l (omega arith)
    ∙ ap (λ (n : ℕ). front ++ insert rest n p) none
    ∙ sym (move_front front p rest)

-- behind some points, the puts bring back what was left out
pub puts_behind : (now : List Removal) (i : ℕ) (front points : List Point) → length front ≡ i
    → put_in (puts_from now i points) (front ++ without now points) ≡ front ++ points
puts_behind now i front [] l = refl
puts_behind now i front (p ∷ points) l =
    by (is_removed now p) (puts_behind now (i + 1) (front ++ p ∷ []) points (omega (arith, l, length-append front (p ∷ []))))
  where
    puts : List Put
    puts = puts_from now (i + 1) points

    rest : List Point
    rest = without now points

    by : (v : Bool) → put_in puts ((front ++ p ∷ []) ++ rest) ≡ (front ++ p ∷ []) ++ points
        → put_in ((cond v (record { at = i; point = p } ∷ []) []) ++ puts) (front ++ cond (not v) (p ∷ rest) rest) ≡ front ++ p ∷ points
    by true e = ap (put_in puts) (insert_there i front p rest l) ∙ e ∙ move_front front p points
    by false e = ap (put_in puts) (sym (move_front front p rest)) ∙ e ∙ move_front front p points

-- ---- what a step lists

-- all members pass
filter_all : {A : Type 0} (p : A → Bool) (xs : List A) → ((x : A) → Among x xs → p x ≡ true) → filter p xs ≡ xs
filter_all p [] h = refl
filter_all {A} p (x ∷ xs) h =
    ap₂ (λ (b : Bool) (ys : List A). cond b (x ∷ ys) ys) (h x (inl refl)) (filter_all p xs (λ y m. h y (inr m)))

module _ (h : MergedMap) where
  -- what was listed so far has one of the steps so far
  listed_before : (k : ℕ) (r : Removal) → Among r (removals_to h k) → r.step ≤ k
  unfolding removals_to
  listed_before zero r m = absurd m
  listed_before (suc k) r m = by (nat_lt k (length h.steps)) m (listed_before k r)
    where
      by : (v : Bool) → Among r (cond v (removals_to h k ++ removed_at h (suc k) (removals_to h k)) (removals_to h k))
          → (Among r (removals_to h k) → r.step ≤ k) → r.step ≤ suc k
      by true n rest = elim (append_among (removals_to h k) (removed_at h (suc k) (removals_to h k)) r n) [
        | inl o ↦ (let l = rest o in omega arith)
        | inr o ↦
            (let p = map_among (λ (p : Point). record { point = p; step = suc k })
            (sweep h.base.rules.ratio (face_area h (suc k - 1) (step_number h (suc k)).loser) (step_number h (suc k)).made
            (edges_of h (suc k) (removals_to h k) (chains_at h (suc k)))) r o in
            let s : suc k ≡ r.step = ap (λ (q : Removal). q.step) p.2 in
            omega arith)
      ]
      by false n rest = let l = rest n in omega arith

  -- those of one step follow the ones before
  pub listed_at : (k : ℕ) → k < length h.steps
      → removals_to h (suc k) ≡ removals_to h k ++ filter (λ (r : Removal). r.step == suc k) (removals_to h (suc k))
  unfolding removals_to
  listed_at k l = next ∙ ap (λ (rs : List Removal). removals_to h k ++ rs) (sym now)
    where
      new : List Removal
      new = removed_at h (suc k) (removals_to h k)

      next : removals_to h (suc k) ≡ removals_to h k ++ new
      next = ap (λ (v : Bool). cond v (removals_to h k ++ new) (removals_to h k)) (lt-ltb k (length h.steps) l)

      old : filter (λ (r : Removal). r.step == suc k) (removals_to h k) ≡ []
      old = filter_none (λ (r : Removal). r.step == suc k) (removals_to h k)
          (all_members (λ (r : Removal). (r.step == suc k) ≡ false) (removals_to h k) (λ r m.
          ne_eqb r.step (suc k) (λ e. absurd (omega (arith, listed_before k r m, e)))))

      whole : filter (λ (r : Removal). r.step == suc k) new ≡ new
      whole = filter_all (λ (r : Removal). r.step == suc k) new (λ r m.
          let p = map_among (λ (p : Point). record { point = p; step = suc k })
          (sweep h.base.rules.ratio (face_area h (suc k - 1) (step_number h (suc k)).loser) (step_number h (suc k)).made
          (edges_of h (suc k) (removals_to h k) (chains_at h (suc k)))) r m in
          eq-eqb r.step (suc k) (sym (ap (λ (q : Removal). q.step) p.2)))

      now : filter (λ (r : Removal). r.step == suc k) (removals_to h (suc k)) ≡ new
      now =
          ap (filter (λ (r : Removal). r.step == suc k)) next
          ∙ filter-append (λ (r : Removal). r.step == suc k) (removals_to h k) new
          ∙ ap₂ (λ (xs ys : List Removal). xs ++ ys) old whole

  -- a row less all that is listed is the row as it was before the step, less what the step takes out
  pub without_step : (j : ℕ) → 1 ≤ j → j ≤ length h.steps → (points : List Point)
      → without (removals_to h j) points
      ≡ without (filter (λ (r : Removal). r.step == j) (removals_to h j)) (without (removals_to h (j - 1)) points)
  without_step zero one last points = absurd (omega arith)
  without_step (suc k) one last points =
      let back : k ≡ suc k - 1 = omega arith in
      ap (λ (rs : List Removal). without rs points) (listed_at k (omega (arith, last)))
      ∙ sym (without_both (removals_to h k) (filter (λ (r : Removal). r.step == suc k) (removals_to h (suc k))) points)
      ∙ ap (λ (i : ℕ). without (filter (λ (r : Removal). r.step == suc k) (removals_to h (suc k))) (without (removals_to h i) points)) back

pub puts_come_back : PutsComeBack
puts_come_back h j points one last =
    ap (put_in (puts_from now 0 (without (removals_to h (j - 1)) points))) (without_step h j one last points)
    ∙ puts_behind now 0 [] (without (removals_to h (j - 1)) points) refl
  where
    now : List Removal
    now = filter (λ (r : Removal). r.step == j) (removals_to h j)
