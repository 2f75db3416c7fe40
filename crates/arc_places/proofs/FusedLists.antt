-- The arcs that are listed for faces: as they come to be listed, and where two faces become one.
use Rattle.std.proofs.Common.{◌≡◌, ◌≢◌, ◌∙◌, ℕ, ◌+◌, ◌≤◌, ◌<◌, eqb, nat_lt, Bool, true, false, ◌&&◌, ◌||◌, cond, List, [], length, refl, sym, ap, subst, arith}
use Rattle.std.proofs.lemmas.Bool.{false≢true, and_from, and_parts, ltb-true, ltb-false, eqb-true, eqb-false, eq-eqb, cond-true, cond-false}
use Rattle.tgap_model.specs.declared.base.BaseArc.{BaseArc}
use Rattle.tgap_model.specs.Base.{borders_face}
use Rattle.tgap_model.specs.Chains.{arc_number}
use Rattle.face_cuts.specs.Fusions.{joined, renumbered}
use Rattle.face_cuts.proofs.Cases.{by_test, not_held, or_left, or_right}
use Rattle.arc_places.specs.Slots.{is_there}
use Rattle.arc_places.specs.Places.{arc_passes, is_among}
use Rattle.arc_places.specs.Borders.{CoversFaces, is_beside}
use Rattle.arc_places.proofs.Listed.{passes_at, passes_past}

-- ---- how the arcs are listed

-- the arcs before this number are listed
abbrev pub FacesBelow : ℕ → (ℕ → List ℕ) → List BaseArc → Type 0
FacesBelow n lists arcs = (f i : ℕ) → i < n → arc_passes (is_beside f) arcs i ≡ true → is_among i (lists f) ≡ true

-- one more is
pub faces_more : (before after : ℕ → List ℕ) (arcs : List BaseArc) (n : ℕ) (a : BaseArc) → n < length arcs → a ≡ arc_number arcs n
    → ((f i : ℕ) → is_among i (after f) ≡ (is_among i (before f) || (eqb n i && borders_face f a)))
    → FacesBelow n before arcs → FacesBelow (n + 1) after arcs
faces_more before after arcs n a short same listed covers f i lt here =
    listed f i
    ∙ by_test (eqb n i)
    (λ t.
    let at : is_beside f (arc_number arcs n) ≡ true = sym (passes_at (is_beside f) arcs n short) ∙ subst (λ (m : ℕ). arc_passes (is_beside f) arcs m ≡ true) (sym (eqb-true n i t)) here in
    let parts = and_parts (is_there (arc_number arcs n)) (borders_face f (arc_number arcs n)) at in
    or_right (is_among i (before f)) (eqb n i && borders_face f a) (and_from (eqb n i) (borders_face f a) t (ap (borders_face f) same ∙ parts.1)))
    (λ e. or_left (is_among i (before f)) (eqb n i && borders_face f a) (let apart = eqb-false n i e in covers f i (by_apart n i lt apart) here))
  where
    by_apart : (m j : ℕ) → j < m + 1 → (m ≡ j → ⊥) → j < m
    by_apart m j h apart = omega (arith, apart)

pub faces_all : (lists : ℕ → List ℕ) (arcs : List BaseArc) (n : ℕ) → length arcs ≤ n → FacesBelow n lists arcs → CoversFaces lists arcs
faces_all lists arcs n le covers f i e =
    by_test (nat_lt i n)
    (λ t. covers f i (ltb-true i n t) e)
    (λ g. absurd (false≢true (sym (passes_past (is_beside f) arcs i (let past = ltb-false i n g in omega arith)) ∙ e)))

-- ---- two faces that become one

apart_test : (a b : ℕ) → a ≢ b → eqb a b ≡ false
apart_test a b h = not_held (eqb a b) (λ e. h (eqb-true a b e))

-- what is listed for the faces by their new numbers, and what was listed for the one that is gone after that of the other one was taken
pub record AreFused (n kept gone : ℕ) (all : List ℕ) (first b1 last : ℕ → List ℕ) : Type 0 where
  pub both : last (renumbered n kept gone kept) ≡ all
  pub others : (f : ℕ) → f ≤ n → f ≢ kept → f ≢ gone → last (renumbered n kept gone f) ≡ first f
  pub second : b1 gone ≡ first gone

module _ (n kept gone : ℕ) (all : List ℕ) (first : ℕ → List ℕ) (b1 b2 b3 last : ℕ → List ℕ)
    (apart : kept ≢ gone) (kept_is : kept ≤ n) (gone_is : gone ≤ n)
    (one : (f : ℕ) → b1 f ≡ cond (eqb f kept) [] (first f))
    (two : (f : ℕ) → b2 f ≡ cond (eqb f gone) [] (b1 f))
    (three : (f : ℕ) → b3 f ≡ cond (eqb f kept) all (b2 f))
    (four : (f : ℕ) → f < n → last f ≡ cond (eqb f gone) (b3 n) (b3 f)) where
  kept_after : b3 kept ≡ all
  kept_after = three kept ∙ cond-true (eqb kept kept) all (b2 kept) (eq-eqb kept kept refl)

  others_after : (f : ℕ) → f ≢ kept → f ≢ gone → b3 f ≡ first f
  others_after f k g =
      three f ∙ cond-false (eqb f kept) all (b2 f) (apart_test f kept k)
      ∙ two f ∙ cond-false (eqb f gone) [] (b1 f) (apart_test f gone g)
      ∙ one f ∙ cond-false (eqb f kept) [] (first f) (apart_test f kept k)

  -- the face that has the number of the one that is gone, and one that keeps its number
  moved : gone < n → last gone ≡ b3 n
  moved l = four gone l ∙ cond-true (eqb gone gone) (b3 n) (b3 gone) (eq-eqb gone gone refl)

  stays : (f : ℕ) → f < n → f ≢ gone → last f ≡ b3 f
  stays f l g = four f l ∙ cond-false (eqb f gone) (b3 n) (b3 f) (apart_test f gone g)

  -- a face that is not gone, by its new number
  by_number : (f : ℕ) → f ≤ n → f ≢ gone → last (renumbered n kept gone f) ≡ b3 f
  by_number f l g =
      let same : joined kept gone f ≡ f = cond-false (eqb f gone) kept f (apart_test f gone g) in
      let number : renumbered n kept gone f ≡ cond (eqb f n) gone f = ap (λ (m : ℕ). cond (eqb m n) gone m) same in
      by_test (eqb f n)
      (λ t.
      let is = eqb-true f n t in
      ap last (number ∙ cond-true (eqb f n) gone f t) ∙ moved (below gone n gone_is (λ e. g (is ∙ sym e))) ∙ ap b3 (sym is))
      (λ t.
      let not = eqb-false f n t in
      ap last (number ∙ cond-false (eqb f n) gone f t) ∙ stays f (below f n l not) g)
    where
      below : (m k : ℕ) → m ≤ k → (m ≡ k → ⊥) → m < k
      below m k le ne = omega (arith, ne)

  pub are_fused : AreFused n kept gone all first b1 last
  are_fused = record {
    both = by_number kept kept_is apart ∙ kept_after;
    others = λ f l k g. by_number f l g ∙ others_after f k g;
    second = one gone ∙ cond-false (eqb gone kept) [] (first gone) (apart_test gone kept (λ e. apart (sym e)));
  }

-- The lists still have each arc that is there for its two faces, where each arc that is there afterwards was there, with faces that have other numbers now.
pub fused_covers : (n kept gone : ℕ) (before after : ℕ → List ℕ) (slots left : List BaseArc)
    → ((i : ℕ) → is_among i (after (renumbered n kept gone kept)) ≡ (is_among i (before kept) || is_among i (before gone)))
    → ((f : ℕ) → f ≤ n → f ≢ kept → f ≢ gone → after (renumbered n kept gone f) ≡ before f)
    → ((g i : ℕ) → arc_passes (is_beside g) left i ≡ true → (f : ℕ) × (f ≤ n) × (arc_passes (is_beside f) slots i ≡ true) × (g ≡ renumbered n kept gone f))
    → CoversFaces before slots → CoversFaces after left
fused_covers n kept gone before after slots left both others came covers g i e =
    let h = came g i e in
    let among : is_among i (before h.0) ≡ true = covers h.0 i h.2 in
    ap (λ (m : ℕ). is_among i (after m)) h.3
    ∙ by_test (eqb h.0 kept)
    (λ t. ap (λ (m : ℕ). is_among i (after (renumbered n kept gone m))) (eqb-true h.0 kept t) ∙ both i
    ∙ or_left (is_among i (before kept)) (is_among i (before gone)) (subst (λ (m : ℕ). is_among i (before m) ≡ true) (eqb-true h.0 kept t) among))
    (λ k. by_test (eqb h.0 gone)
    (λ t. ap (λ (m : ℕ). is_among i (after m)) (ap (renumbered n kept gone) (eqb-true h.0 gone t) ∙ as_kept)
    ∙ both i ∙ or_right (is_among i (before kept)) (is_among i (before gone)) (subst (λ (m : ℕ). is_among i (before m) ≡ true) (eqb-true h.0 gone t) among))
    (λ m. ap (is_among i) (others h.0 h.1 (eqb-false h.0 kept k) (eqb-false h.0 gone m)) ∙ among))
  where
    -- the face that is gone and the one that it is a part of have one number
    as_kept : renumbered n kept gone gone ≡ renumbered n kept gone kept
    as_kept = ap (λ (m : ℕ). cond (eqb m n) gone m) (cond-true (eqb gone gone) kept gone (eq-eqb gone gone refl) ∙ sym (either (eqb kept gone)))
      where
        either : (b : Bool) → cond b kept kept ≡ kept
        either true = refl
        either false = refl
