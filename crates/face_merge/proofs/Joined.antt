-- The links of one slot go to another: one link at a time, and all of them.
use Rattle.std.proofs.Common.{◌≡◌, ◌≢◌, ◌⊎◌, inl, inr, ℕ, ◌+◌, true, false, ◌&&◌, ◌||◌, ◌==◌, List, get_or, Option, Some, None, unwrap_or, cond, refl, sym, ◌∙◌, ap, subst, arith, eq-eqb, ne_eqb}
use Rattle.std.specs.List.{All}
use Rattle.std.proofs.lemmas.Bool.{cond-true, cond-false, cond_both, cases_eq}
use Rattle.std.proofs.lemmas.Bool.Decides.{nat_tests}
use Rattle.std.proofs.lemmas.Option.{slice_get_within, get_or_from_slice_get}
use Rattle.face_merge.specs.declared.links.Link.{Link}
use Rattle.face_merge.specs.Links.{AreLinksOf, ArePaired, IsPassed, has_pair, with_length, with_more, without, plus, joined}

abbrev pub Lengths : Type 0
Lengths = ℕ → ℕ → Option ℕ

-- ---- what `joined` is at each pair

-- nothing at the slot that is left, or from a slot to itself
joined_none : (w : Lengths) (from to s t : ℕ) → ((s == from) || (t == from) || ((s == to) && (t == to))) ≡ true → joined w from to s t ≡ None
joined_none w from to s t e = cond-true _ None _ e

at_left : (from to t : ℕ) → ((from == from) || (t == from) || ((from == to) && (t == to))) ≡ true
at_left from to t = grind (arith, nat_tests)

at_right : (from to s : ℕ) → ((s == from) || (from == from) || ((s == to) && (from == to))) ≡ true
at_right from to s = grind (arith, nat_tests)

at_both : (from to : ℕ) → ((to == from) || (to == from) || ((to == to) && (to == to))) ≡ true
at_both from to = grind (arith, nat_tests)

elsewhere : (from to s t : ℕ) → s ≢ from → t ≢ from → (s ≡ to → t ≢ to) → ((s == from) || (t == from) || ((s == to) && (t == to))) ≡ false
elsewhere from to s t a b d = grind (arith, nat_tests)

pub joined_from : (w : Lengths) (from to t : ℕ) → joined w from to from t ≡ None
joined_from w from to t = joined_none w from to from t (at_left from to t)

pub joined_from_right : (w : Lengths) (from to s : ℕ) → joined w from to s from ≡ None
joined_from_right w from to s = joined_none w from to s from (at_right from to s)

pub joined_itself : (w : Lengths) (from to : ℕ) → joined w from to to to ≡ None
joined_itself w from to = joined_none w from to to to (at_both from to)

pub joined_to : (w : Lengths) (from to t : ℕ) → from ≢ to → t ≢ from → t ≢ to → joined w from to to t ≡ plus (w to t) (w from t)
joined_to w from to t apart a b =
    cond-false _ None _ (elsewhere from to to t (λ e. apart (sym e)) a (λ _. b)) ∙ cond-true (to == to) (plus (w to t) (w from t)) _ (eq-eqb to to refl)

pub joined_to_right : (w : Lengths) (from to s : ℕ) → from ≢ to → s ≢ from → s ≢ to → joined w from to s to ≡ plus (w s to) (w s from)
joined_to_right w from to s apart a b =
    cond-false _ None _ (elsewhere from to s to a (λ e. apart (sym e)) (λ e. absurd (b e)))
    ∙ (cond-false (s == to) (plus (w to to) (w from to)) _ (ne_eqb s to b) ∙ cond-true (to == to) (plus (w s to) (w s from)) (w s to) (eq-eqb to to refl))

pub joined_other : (w : Lengths) (from to s t : ℕ) → s ≢ from → s ≢ to → t ≢ from → t ≢ to → joined w from to s t ≡ w s t
joined_other w from to s t a b d e =
    cond-false _ None _ (elsewhere from to s t a d (λ h. absurd (b h)))
    ∙ (cond-false (s == to) (plus (w to t) (w from t)) _ (ne_eqb s to b) ∙ cond-false (t == to) (plus (w s to) (w s from)) (w s t) (ne_eqb t to e))

-- what holds of it at each kind of pair holds of it at all
pub by_pairs : (P : ℕ → ℕ → Type 0) (from to : ℕ) → ((t : ℕ) → P from t) → ((s : ℕ) → P s from) → P to to
    → ((t : ℕ) → t ≢ from → t ≢ to → P to t) → ((s : ℕ) → s ≢ from → s ≢ to → P s to)
    → ((s t : ℕ) → s ≢ from → s ≢ to → t ≢ from → t ≢ to → P s t) → (s t : ℕ) → P s t
by_pairs P from to p q r f g h s t = chosen (cases_eq s from) (cases_eq t from) (cases_eq s to) (cases_eq t to)
  where
    chosen : (s ≡ from) ⊎ (s ≡ from → ⊥) → (t ≡ from) ⊎ (t ≡ from → ⊥) → (s ≡ to) ⊎ (s ≡ to → ⊥) → (t ≡ to) ⊎ (t ≡ to → ⊥) → P s t
    chosen (inl a) _ _ _ = subst (λ (x : ℕ). P x t) (sym a) (p t)
    chosen (inr a) (inl b) _ _ = subst (P s) (sym b) (q s)
    chosen (inr a) (inr b) (inl d) (inl e) = rw (d, e) r
    chosen (inr a) (inr b) (inl d) (inr e) = rw d (f t b e)
    chosen (inr a) (inr b) (inr d) (inl e) = rw e (g s a d)
    chosen (inr a) (inr b) (inr d) (inr e) = h s t a d b e

-- ---- one link

-- the lengths at one pair changed
changed_other : (w : Lengths) (a b : ℕ) (x : Option ℕ) (s t : ℕ) → (s ≡ a → t ≢ b) → with_length w a b x s t ≡ w s t
changed_other w a b x s t n = cond-false (has_pair a b s t) x (w s t) (apart_pair a b s t n)
  where
    apart_pair : (a b s t : ℕ) → (s ≡ a → t ≢ b) → ((a == s) && (b == t)) ≡ false
    apart_pair a b s t n = grind (arith, nat_tests)

changed_here : (w : Lengths) (a b : ℕ) (x : Option ℕ) → with_length w a b x a b ≡ x
changed_here w a b x = cond-true (has_pair a b a b) x (w a b) (same_pair a b)
  where
    same_pair : (a b : ℕ) → ((a == a) && (b == b)) ≡ true
    same_pair a b = grind (arith, nat_tests)

-- one more length
plus_more : (x : Option ℕ) (n : ℕ) → Some (unwrap_or x 0 + n) ≡ plus x (Some n)
plus_more None n = ap Some (omega arith)
plus_more (Some m) n = refl

plus_none : (x : Option ℕ) → plus x None ≡ x
plus_none None = refl
plus_none (Some m) = refl

-- a slot that has no such link passes none
pub passed_none : (w v : Lengths) (from to other : ℕ) → ArePaired w → w from other ≡ None → ((s t : ℕ) → v s t ≡ without w from other s t) → IsPassed from to other w v
passed_none w v from to other paired e new = record {
  paired = record { turned = λ s t. same s t ∙ (paired.turned s t ∙ sym (same t s)); itself = λ s. same s s ∙ paired.itself s };
  together = λ s t. rw (same to t, same from t, same s to, same s from, same s t) refl;
  gone = same from other ∙ e;
  left = λ t. same from t ∙ chosen t (cases_eq t other);
} where
  same : (s t : ℕ) → v s t ≡ w s t
  same s t = new s t ∙ at (cases_eq s from) (cases_eq t other)
    where
      at : (s ≡ from) ⊎ (s ≡ from → ⊥) → (t ≡ other) ⊎ (t ≡ other → ⊥) → without w from other s t ≡ w s t
      at (inl a) (inl b) = rw (a, b) (changed_here w from other None ∙ sym e)
      at (inl a) (inr b) = changed_other w from other None s t (λ _. b)
      at (inr a) _ = changed_other w from other None s t (λ h. absurd (a h))

  chosen : (t : ℕ) → (t ≡ other) ⊎ (t ≡ other → ⊥) → w from t ≡ cond (t == other) None (w from t)
  chosen t (inl a) = rw (cond-true (t == other) None (w from t) (eq-eqb t other a), a) e
  chosen t (inr a) = sym (cond-false (t == other) None (w from t) (ne_eqb t other a))

module _ (w v : Lengths) (from to other n : ℕ) (apart : from ≢ to) (paired : ArePaired w) (has : w from other ≡ Some n) where
  -- a slot has no link with itself
  other_from : other ≢ from
  other_from e = let none : w from from ≡ None = paired.itself from in let same : w from from ≡ Some n = subst (λ (t : ℕ). w from t ≡ Some n) e has in cc

  -- ---- where the neighbour is the other slot, the link is lost

  module _ (is : other ≡ to) (new : (s t : ℕ) → v s t ≡ without (without w from other) other from s t) where
    lost_here : v from other ≡ None
    lost_here =
        new from other ∙ (changed_other (without w from other) other from None from other (λ e. absurd (other_from (sym e))) ∙ changed_here w from other None)

    lost_turned : v other from ≡ None
    lost_turned = new other from ∙ changed_here (without w from other) other from None

    lost_kept : (s t : ℕ) → (s ≡ from → t ≢ other) → (s ≡ other → t ≢ from) → v s t ≡ w s t
    lost_kept s t a b = new s t ∙ (changed_other (without w from other) other from None s t b ∙ changed_other w from other None s t a)

    lost_pairs : (s t : ℕ) → v s t ≡ v t s
    lost_pairs = by_pairs (λ s t. v s t ≡ v t s) from other
        (λ t. at_from t (cases_eq t other))
        (λ s. sym (at_from s (cases_eq s other)))
        refl
        (λ t a b. kept other t (λ e. absurd (other_from e)) (λ _. a) (λ e. absurd (a e)) (λ e. absurd (b e)))
        (λ s a b. kept s other (λ e. absurd (a e)) (λ e. absurd (b e)) (λ e. absurd (other_from e)) (λ _. a))
        (λ s t a b d e. kept s t (λ _. e) (λ _. d) (λ _. b) (λ _. a))
      where
        kept : (s t : ℕ) → (s ≡ from → t ≢ other) → (s ≡ other → t ≢ from) → (t ≡ from → s ≢ other) → (t ≡ other → s ≢ from) → v s t ≡ v t s
        kept s t a b d e = lost_kept s t a b ∙ (paired.turned s t ∙ sym (lost_kept t s d e))

        at_from : (t : ℕ) → (t ≡ other) ⊎ (t ≡ other → ⊥) → v from t ≡ v t from
        at_from t (inl e) = rw e (lost_here ∙ sym lost_turned)
        at_from t (inr n) = kept from t (λ _. n) (λ e. absurd (other_from (sym e))) (λ _ e. other_from (sym e)) (λ e. absurd (n e))

    pub passed_lost : IsPassed from to other w v
    passed_lost = record {
      paired = record {
        turned = lost_pairs;
        itself = λ s. lost_kept s s (λ e d. other_from (sym d ∙ e)) (λ e d. other_from (sym e ∙ d)) ∙ paired.itself s;
      };
      together = by_pairs (λ s t. joined v from to s t ≡ joined w from to s t) from to
          (λ t. joined_from v from to t ∙ sym (joined_from w from to t))
          (λ s. joined_from_right v from to s ∙ sym (joined_from_right w from to s))
          (joined_itself v from to ∙ sym (joined_itself w from to))
          (λ t a b. joined_to v from to t apart a b ∙ (both (kept to t (λ e. absurd (apart (sym e))) (λ _. a)) (kept from t (λ _. b) (λ e. absurd (apart e))) ∙ sym (joined_to w from to t apart a b)))
          (λ s a b. joined_to_right v from to s apart a b ∙ (both (kept s to (λ e. absurd (a e)) (λ e. absurd (b e))) (kept s from (λ e. absurd (a e)) (λ e. absurd (b e))) ∙ sym (joined_to_right w from to s apart a b)))
          (λ s t a b d e. joined_other v from to s t a b d e ∙ (kept s t (λ h. absurd (a h)) (λ h. absurd (b h)) ∙ sym (joined_other w from to s t a b d e)));
      gone = lost_here;
      left = λ t. at_left_side t (cases_eq t other);
    } where
      kept : (s t : ℕ) → (s ≡ from → t ≢ to) → (s ≡ to → t ≢ from) → v s t ≡ w s t
      kept s t a b = lost_kept s t (λ e d. a e (d ∙ is)) (λ e. b (e ∙ is))

      both : {a b d e : Option ℕ} → a ≡ b → d ≡ e → plus a d ≡ plus b e
      both p q = rw (p, q) refl

      at_left_side : (t : ℕ) → (t ≡ other) ⊎ (t ≡ other → ⊥) → v from t ≡ cond (t == other) None (w from t)
      at_left_side t (inl e) = rw (cond-true (t == other) None (w from t) (eq-eqb t other e), e) lost_here
      at_left_side t (inr n) = lost_kept from t (λ _. n) (λ e. absurd (other_from (sym e))) ∙ sym (cond-false (t == other) None (w from t) (ne_eqb t other n))

  -- ---- where it is a third slot, the link goes to the other one

  module _ (not_to : other ≢ to) (new : (s t : ℕ) → v s t ≡ with_more (with_more (without (without w from other) other from) to other n) other to n s t) where
    cut : Lengths
    cut = without (without w from other) other from

    more : Lengths
    more = with_more cut to other n

    cut_kept : (s t : ℕ) → (s ≡ from → t ≢ other) → (s ≡ other → t ≢ from) → cut s t ≡ w s t
    unfolding cut
    cut_kept s t a b = changed_other (without w from other) other from None s t b ∙ changed_other w from other None s t a

    on_kept : (s t : ℕ) → (s ≡ other → t ≢ to) → (s ≡ to → t ≢ other) → (s ≡ from → t ≢ other) → (s ≡ other → t ≢ from) → v s t ≡ w s t
    unfolding cut more
    on_kept s t a b d e = new s t ∙ (changed_other more other to _ s t a ∙ (changed_other cut to other _ s t b ∙ cut_kept s t d e))

    on_here : v from other ≡ None
    unfolding cut more
    on_here = new from other ∙ (changed_other more other to _ from other (λ e. absurd (other_from (sym e))) ∙ (changed_other cut to other _ from other (λ e. absurd (apart e))
        ∙ (changed_other (without w from other) other from None from other (λ e. absurd (other_from (sym e))) ∙ changed_here w from other None)))

    on_turned : v other from ≡ None
    unfolding cut more
    on_turned = new other from ∙ (changed_other more other to _ other from (λ _. apart) ∙ (changed_other cut to other _ other from (λ e. absurd (not_to e))
        ∙ changed_here (without w from other) other from None))

    on_to : v to other ≡ Some (unwrap_or (w to other) 0 + n)
    unfolding cut more
    on_to = new to other ∙ (changed_other more other to _ to other (λ e. absurd (not_to (sym e))) ∙ (changed_here cut to other _
        ∙ ap (λ (x : Option ℕ). Some (unwrap_or x 0 + n)) (cut_kept to other (λ e. absurd (apart (sym e))) (λ e. absurd (not_to (sym e))))))

    on_back : v other to ≡ Some (unwrap_or (w other to) 0 + n)
    unfolding cut more
    on_back = new other to ∙ (changed_here more other to _
        ∙ ap (λ (x : Option ℕ). Some (unwrap_or x 0 + n)) (changed_other cut to other _ other to (λ e. absurd (not_to e)) ∙ cut_kept other to (λ e. absurd (other_from e)) (λ _ e. apart (sym e))))

    on_other : (t : ℕ) → (t ≡ from) ⊎ (t ≡ from → ⊥) → (t ≡ to) ⊎ (t ≡ to → ⊥) → v other t ≡ v t other
    on_other t (inl a) _ = rw a (on_turned ∙ sym on_here)
    on_other t (inr a) (inl b) = rw b (on_back ∙ (ap (λ (x : Option ℕ). Some (unwrap_or x 0 + n)) (paired.turned other to) ∙ sym on_to))
    on_other t (inr a) (inr b) =
        on_kept other t (λ _. b) (λ e. absurd (not_to e)) (λ e. absurd (other_from e)) (λ _. a)
        ∙ (paired.turned other t ∙ sym (on_kept t other (λ _ e. not_to e) (λ e. absurd (b e)) (λ e. absurd (a e)) (λ _. other_from)))

    on_pairs : (s t : ℕ) → (s ≡ other) ⊎ (s ≡ other → ⊥) → (t ≡ other) ⊎ (t ≡ other → ⊥) → v s t ≡ v t s
    on_pairs s t (inl a) _ = rw a (on_other t (cases_eq t from) (cases_eq t to))
    on_pairs s t (inr a) (inl b) = rw b (sym (on_other s (cases_eq s from) (cases_eq s to)))
    on_pairs s t (inr a) (inr b) =
        on_kept s t (λ e. absurd (a e)) (λ _. b) (λ _. b) (λ e. absurd (a e))
        ∙ (paired.turned s t ∙ sym (on_kept t s (λ e. absurd (b e)) (λ _. a) (λ _. a) (λ e. absurd (b e))))

    -- the two lengths together at the other slot, either way round
    on_sum : (t : ℕ) → t ≢ from → t ≢ to → (t ≡ other) ⊎ (t ≡ other → ⊥) → plus (v to t) (v from t) ≡ plus (w to t) (w from t)
    on_sum t a b (inl e) = rw (e, on_to, on_here, has) (plus_more (w to other) n)
    on_sum t a b (inr e) =
        rw (on_kept to t (λ _. b) (λ _. e) (λ h. absurd (apart (sym h))) (λ _. a), on_kept from t (λ _. b) (λ h. absurd (apart h)) (λ _. e) (λ _. a)) refl

    on_sum_back : (s : ℕ) → s ≢ from → s ≢ to → plus (v s to) (v s from) ≡ plus (w s to) (w s from)
    on_sum_back s a b =
        rw (on_pairs s to (cases_eq s other) (cases_eq to other), on_pairs s from (cases_eq s other) (cases_eq from other), paired.turned s to, paired.turned s from)
        (on_sum s a b (cases_eq s other))

    pub passed_on : IsPassed from to other w v
    passed_on = record {
      paired = record {
        turned = λ s t. on_pairs s t (cases_eq s other) (cases_eq t other);
        itself = λ s. on_kept s s (λ e d. not_to (sym e ∙ d)) (λ e d. not_to (sym d ∙ e)) (λ e d. other_from (sym d ∙ e)) (λ e d. other_from (sym e ∙ d)) ∙ paired.itself s;
      };
      together = by_pairs (λ s t. joined v from to s t ≡ joined w from to s t) from to
          (λ t. joined_from v from to t ∙ sym (joined_from w from to t))
          (λ s. joined_from_right v from to s ∙ sym (joined_from_right w from to s))
          (joined_itself v from to ∙ sym (joined_itself w from to))
          (λ t a b. joined_to v from to t apart a b ∙ (on_sum t a b (cases_eq t other) ∙ sym (joined_to w from to t apart a b)))
          (λ s a b. joined_to_right v from to s apart a b ∙ (on_sum_back s a b ∙ sym (joined_to_right w from to s apart a b)))
          (λ s t a b d e. joined_other v from to s t a b d e ∙ (on_kept s t (λ _. e) (λ h. absurd (b h)) (λ h. absurd (a h)) (λ _. d) ∙ sym (joined_other w from to s t a b d e)));
      gone = on_here;
      left = λ t. at_left_side t (cases_eq t other);
    } where
      at_left_side : (t : ℕ) → (t ≡ other) ⊎ (t ≡ other → ⊥) → v from t ≡ cond (t == other) None (w from t)
      at_left_side t (inl e) = rw (cond-true (t == other) None (w from t) (eq-eqb t other e), e) on_here
      at_left_side t (inr e) =
          on_kept from t (λ h. absurd (other_from (sym h))) (λ h. absurd (apart h)) (λ _. e) (λ h. absurd (other_from (sym h)))
          ∙ sym (cond-false (t == other) None (w from t) (ne_eqb t other e))

-- ---- all links

-- with no link left, the lengths are those together
pub all_passed : (w v : Lengths) (from to : ℕ) → from ≢ to → ArePaired v → ((s t : ℕ) → joined v from to s t ≡ joined w from to s t) → ((t : ℕ) → v from t ≡ None)
    → (s t : ℕ) → v s t ≡ joined w from to s t
all_passed w v from to apart paired together none s t = whole s t ∙ together s t
  where
    whole : (s t : ℕ) → v s t ≡ joined v from to s t
    whole = by_pairs (λ s t. v s t ≡ joined v from to s t) from to
        (λ t. none t ∙ sym (joined_from v from to t))
        (λ s. paired.turned s from ∙ (none s ∙ sym (joined_from_right v from to s)))
        (paired.itself to ∙ sym (joined_itself v from to))
        (λ t a b. sym (joined_to v from to t apart a b ∙ (ap (plus (v to t)) (none t) ∙ plus_none (v to t))))
        (λ s a b. sym (joined_to_right v from to s apart a b ∙ (ap (plus (v s to)) (paired.turned s from ∙ none s) ∙ plus_none (v s to))))
        (λ s t a b d e. sym (joined_other v from to s t a b d e))

-- lengths that are the same stay so where one changes
more_same : (u v : Lengths) (a b n : ℕ) → ((s t : ℕ) → u s t ≡ v s t) → (s t : ℕ) → with_more u a b n s t ≡ with_more v a b n s t
more_same u v a b n e s t = rw (e a b, e s t) refl

less_same : (u v : Lengths) (a b : ℕ) → ((s t : ℕ) → u s t ≡ v s t) → (s t : ℕ) → without u a b s t ≡ without v a b s t
less_same u v a b e s t = rw (e s t) refl

-- the four changes of a link that goes to the other face
pub four_changes : (w u1 u2 u3 v : Lengths) (from to other n : ℕ) → ((s t : ℕ) → u1 s t ≡ without w from other s t) → ((s t : ℕ) → u2 s t ≡ without u1 other from s t)
    → ((s t : ℕ) → u3 s t ≡ with_more u2 to other n s t) → ((s t : ℕ) → v s t ≡ with_more u3 other to n s t)
    → (s t : ℕ) → v s t ≡ with_more (with_more (without (without w from other) other from) to other n) other to n s t
four_changes w u1 u2 u3 v from to other n a b d e s t =
    let two : (s t : ℕ) → u2 s t ≡ without (without w from other) other from s t = λ s t. b s t ∙ less_same u1 (without w from other) other from a s t in
    let three : (s t : ℕ) → u3 s t ≡ with_more (without (without w from other) other from) to other n s t = λ s t. d s t ∙ more_same u2 (without (without w from other) other from) to other n two s t in
    e s t ∙ more_same u3 (with_more (without (without w from other) other from) to other n) other to n three s t

-- what is left of the links of a slot, before and after one more of them is passed
pub left_more : (w u v : Lengths) (from to other : ℕ) → IsPassed from to other u v → (t : ℕ) → (u from t ≡ None) ⊎ (u from t ≡ w from t) → (v from t ≡ None) ⊎ (v from t ≡ w from t)
left_more w u v from to other passed t known = chosen (cases_eq t other) known
  where
    chosen : (t ≡ other) ⊎ (t ≡ other → ⊥) → (u from t ≡ None) ⊎ (u from t ≡ w from t) → (v from t ≡ None) ⊎ (v from t ≡ w from t)
    chosen (inl e) _ = inl (passed.left t ∙ cond-true (t == other) None (u from t) (eq-eqb t other e))
    chosen (inr e) (inl k) = inl (passed.left t ∙ (cond-false (t == other) None (u from t) (ne_eqb t other e) ∙ k))
    chosen (inr e) (inr k) = inr (passed.left t ∙ (cond-false (t == other) None (u from t) (ne_eqb t other e) ∙ k))

-- a link that is gone stays so
pub gone_still : (u v : Lengths) (from to other t : ℕ) → IsPassed from to other u v → u from t ≡ None → v from t ≡ None
gone_still u v from to other t passed gone = passed.left t ∙ cond_both (t == other) None (u from t) (λ x. x ≡ None) (λ _. refl) (λ _. gone)

-- each link was one of these, and they are gone
pub none_left : (w v : Lengths) (from : ℕ) (links : List Link) → AreLinksOf w from links → All (λ link. v from link.slot ≡ None) links
    → (t : ℕ) → (v from t ≡ None) ⊎ (v from t ≡ w from t) → v from t ≡ None
none_left w v from links are gone t (inl e) = e
none_left w v from links are gone t (inr e) = chosen (w from t) refl
  where
    chosen : (o : Option ℕ) → w from t ≡ o → v from t ≡ None
    chosen None is = e ∙ is
    chosen (Some n) is =
        let place = are.all t n is in
        let link : Link = record { slot = t; length = n } in
        let here : v from (get_or links place.0 link).slot ≡ None = gone place.0 link (slice_get_within links place.0 link place.1) in
        subst (λ (x : Link). v from x.slot ≡ None) (get_or_from_slice_get links place.0 link link place.1) here
