-- A journal at rest: whole entries, and then a byte 0.
use Rattle.std.proofs.Common.{◌≡◌, ℕ, ◌+◌, ◌≤◌, Bool, true, false, cond, nat_lt, nat_le, ◌||◌, ◌==◌, List, [], ◌∷◌, ◌++◌, get_or, length, sum_by, inl, inr, refl, sym, ◌∙◌, ap, subst, arith, length-append, None}
use Rattle.std.proofs.lemmas.Bool.{or_cases, eqb-true, eq-eqb, leb-true, le-leb}
use Rattle.std.proofs.lemmas.List.{drop_at, append-nil, get_or-drop}
use Rattle.tgap_model.specs.Keeping.{KeptEntry}
use Rattle.edit_journal.specs.Entries.{entry_at, entry_size, entries_of}
use Rattle.edit_journal.specs.Images.{is_closed, IsLeft}
use Rattle.edit_journal.proofs.EntryBytes.{none_at_0}
use Rattle.edit_journal.proofs.EntryLists.{Whole, whole_long, whole_entries, Split, split_entries}

-- nothing behind the entries, which take all the room, or a byte 0 and anything behind it
abbrev pub Closing : ℕ → ℕ → List ℕ → Type 0
Closing most end [] = most ≤ end
Closing most end (byte ∷ more) = byte ≡ 0

pub record AtRest (most : ℕ) (es : List KeptEntry) (image : List ℕ) : Type 0 where
  pub front : List ℕ
  pub rest : List ℕ
  pub split : image ≡ front ++ rest
  pub whole : Whole front es
  pub closing : Closing most (length front) rest
  pub within : length image ≤ most

no_entry : (most end : ℕ) (rest : List ℕ) → Closing most end rest → entry_at rest ≡ None
no_entry most end [] c = refl
no_entry most end (byte ∷ more) c = ap (λ (b : ℕ). entry_at (b ∷ more)) c ∙ none_at_0 more

-- its entries, and where they end
pub rest_entries : (most : ℕ) (es : List KeptEntry) (image : List ℕ) → AtRest most es image → entries_of image ≡ (es, sum_by entry_size es)
rest_entries most es image r =
    ap entries_of r.split ∙ whole_entries r.front r.rest es r.whole (no_entry most (length r.front) r.rest r.closing)

or_first : (a b : Bool) → a ≡ true → (a || b) ≡ true
or_first a b p = cc

or_second : (a b : Bool) → b ≡ true → (a || b) ≡ true
or_second true b p = refl
or_second false b p = p

pub byte_behind : (front rest : List ℕ) (end : ℕ) → length front ≡ end → get_or (front ++ rest) end 1 ≡ get_or rest 0 1
byte_behind front rest end is =
    let at : end + 0 ≡ end = omega arith in
    ap (λ (i : ℕ). get_or (front ++ rest) i 1) (sym at) ∙ sym (get_or-drop end (front ++ rest) 0 1) ∙ ap (λ (l : List ℕ). get_or l 0 1) (drop_at front rest end is)

closed_by : (most end : ℕ) (front rest : List ℕ) → length front ≡ end → Closing most end rest → ((get_or (front ++ rest) end 1 == 0) || nat_le most end) ≡ true
closed_by most end front [] is c = or_second _ _ (le-leb most end c)
closed_by most end front (byte ∷ more) is c = or_first _ _ (eq-eqb _ 0 (byte_behind front (byte ∷ more) end is ∙ c))

pub rest_closed : (most : ℕ) (es : List KeptEntry) (image : List ℕ) → AtRest most es image → is_closed most image ≡ true
rest_closed most es image r =
    let ends : (entries_of image).1 ≡ sum_by entry_size es = ap (λ (p : List KeptEntry × ℕ). p.1) (rest_entries most es image r) in
    let long : length r.front ≡ sum_by entry_size es = whole_long r.front es r.whole in
    let closing : Closing most (sum_by entry_size es) r.rest = subst (λ (n : ℕ). Closing most n r.rest) long r.closing in
    ap (λ (n : ℕ). (get_or image n 1 == 0) || nat_le most n) ends
    ∙ ap (λ (l : List ℕ). (get_or l (sum_by entry_size es) 1 == 0) || nat_le most (sum_by entry_size es)) r.split
    ∙ closed_by most (sum_by entry_size es) r.front r.rest long closing

-- and the other way round: an image that is closed is at rest
closing_from : (most end : ℕ) (front rest : List ℕ) → length front ≡ end → ((get_or (front ++ rest) end 1 == 0) || nat_le most end) ≡ true → length (front ++ rest) ≤ most → Closing most end rest
closing_from most end front [] is closed within = elim (or_cases _ _ closed) [
  | inl zero_there ↦
      let none : get_or (front ++ []) end 1 ≡ 1 = byte_behind front [] end is in
      let there : get_or (front ++ []) end 1 ≡ 0 = eqb-true _ 0 zero_there in
      absurd (omega arith)
  | inr full ↦ leb-true most end full
]
closing_from most end front (byte ∷ more) is closed within = elim (or_cases _ _ closed) [
  | inl zero_there ↦ sym (byte_behind front (byte ∷ more) end is) ∙ eqb-true _ 0 zero_there
  | inr full ↦
      let above : most ≤ end = leb-true most end full in
      absurd (omega (arith, length-append front (byte ∷ more)))
]

pub at_rest : (most : ℕ) (image : List ℕ) → is_closed most image ≡ true → length image ≤ most → AtRest most (entries_of image).0 image
at_rest most image closed within =
    let s : Split image (entries_of image) = split_entries image in
    record {
      front = s.front;
      rest = s.rest;
      split = s.split;
      whole = s.whole;
      closing =
          subst (λ (n : ℕ). Closing most n s.rest) (sym s.end) (closing_from most (entries_of image).1 s.front s.rest s.end (subst (λ (l : List ℕ). ((get_or l (entries_of image).1 1 == 0) || nat_le most (entries_of image).1) ≡ true) s.split closed) (omega (arith, within, ap length s.split)));
      within = within;
    }

cond_same : (b : Bool) → cond {A = List KeptEntry} b [] [] ≡ []
cond_same true = refl
cond_same false = refl

-- a journal at rest is settled with its entries
pub rest_settled : (most : ℕ) (es : List KeptEntry) (image : List ℕ) → AtRest most es image → IsLeft most es [] image
rest_settled most es image r =
    let has : (entries_of image).0 ≡ es = ap (λ (p : List KeptEntry × ℕ). p.0) (rest_entries most es image r) in
    record {
      has = has ∙ sym (append-nil es) ∙ ap (λ (l : List KeptEntry). es ++ l) (sym (cond_same (nat_lt (length es) (length (entries_of image).0))));
      closed = rest_closed most es image r;
      within = r.within;
    }

-- what is settled has its entries
pub settled_has : (most : ℕ) (es : List KeptEntry) (image : List ℕ) → IsLeft most es [] image → (entries_of image).0 ≡ es
settled_has most es image left = left.has ∙ ap (λ (l : List KeptEntry). es ++ l) (cond_same (nat_lt (length es) (length (entries_of image).0))) ∙ append-nil es

pub settled_rest : (most : ℕ) (es : List KeptEntry) (image : List ℕ) → IsLeft most es [] image → AtRest most es image
settled_rest most es image left = subst (λ (l : List KeptEntry). AtRest most l image) (settled_has most es image left) (at_rest most image left.closed left.within)

-- and its entries end where their sizes say
pub settled_end : (most : ℕ) (es : List KeptEntry) (image : List ℕ) → IsLeft most es [] image → entries_of image ≡ (es, sum_by entry_size es)
settled_end most es image left = rest_entries most es image (settled_rest most es image left)
