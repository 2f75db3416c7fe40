-- What stands on the disk within the steps of an append.
use Rattle.std.proofs.Common.{◌≡◌, ℕ, ◌+◌, ◌<◌, ◌≤◌, ◌^◌, true, false, nat_lt, List, [], ◌∷◌, ◌++◌, length, ⊎_elim, refl, sym, ◌∙◌, ap, subst, arith, append_assoc, length-append}
use Rattle.std.proofs.lemmas.Bool.{cond-true, cond-false, lt-ltb, le-ltb}
use Rattle.std.proofs.lemmas.List.{append-nil}
use Rattle.std.proofs.lemmas.Nat.{from_be_bytes-to_be_bytes_4, from_be_bytes-to_be_bytes_8}
use Rattle.std.specs.Int.{w32, w64, to_be_bytes}
use Rattle.tgap_model.specs.Keeping.{KeptEntry}
use Rattle.edit_journal.specs.Disk.{IsWritten, Torn, Follows, Only, LeftOrChanged}
use Rattle.edit_journal.specs.Entries.{entries_of, body_of}
use Rattle.edit_journal.specs.Images.{IsLeft}
use Rattle.edit_journal.proofs.EntryLists.{Whole, whole_long}
use Rattle.edit_journal.proofs.Rest.{AtRest, Closing, rest_entries, rest_closed, settled_rest}
use Rattle.edit_journal.proofs.Crash.{Body, body_long, behind_torn, behind_written, open_torn, open_written, RestsEither}

-- a row's bytes are those of its entry
pub row_body : (e : KeptEntry) → e.number < 2 ^ 64 → length e.batch < 2 ^ 32 → Body e (body_of e)
row_body e number size = record {
  number = to_be_bytes w64 e.number;
  size = to_be_bytes w32 (length e.batch);
  number_long = refl;
  size_long = refl;
  is_number = from_be_bytes-to_be_bytes_8 e.number number;
  is_size = from_be_bytes-to_be_bytes_4 (length e.batch) size;
  all = refl;
}

-- what is at rest without the entry in doubt, or with it, is left where it is in doubt
pub left_without : (most : ℕ) (es ds : List KeptEntry) (image : List ℕ) → AtRest most es image → IsLeft most es ds image
left_without most es ds image r =
    let has : (entries_of image).0 ≡ es = ap (λ (p : List KeptEntry × ℕ). p.0) (rest_entries most es image r) in
    let shorter : nat_lt (length es) (length (entries_of image).0) ≡ false = le-ltb _ _ (omega (arith, ap length has)) in
    record {
      has = has ∙ sym (append-nil es) ∙ ap (λ (l : List KeptEntry). es ++ l) (sym (cond-false (nat_lt (length es) (length (entries_of image).0)) ds [] shorter));
      closed = rest_closed most es image r;
      within = r.within;
    }

pub left_with : (most : ℕ) (es : List KeptEntry) (e : KeptEntry) (image : List ℕ) → AtRest most (es ++ e ∷ []) image → IsLeft most es (e ∷ []) image
left_with most es e image r =
    let has : (entries_of image).0 ≡ es ++ e ∷ [] = ap (λ (p : List KeptEntry × ℕ). p.0) (rest_entries most (es ++ e ∷ []) image r) in
    let longer : nat_lt (length es) (length (entries_of image).0) ≡ true = lt-ltb _ _ (omega (arith, ap length has, length-append es (e ∷ []))) in
    record {
      has = has ∙ ap (λ (l : List KeptEntry). es ++ l) (sym (cond-true (nat_lt (length es) (length (entries_of image).0)) (e ∷ []) [] longer));
      closed = rest_closed most (es ++ e ∷ []) image r;
      within = r.within;
    }

pub left_either : (most : ℕ) (es : List KeptEntry) (e : KeptEntry) (image : List ℕ) → RestsEither most es e image → IsLeft most es (e ∷ []) image
left_either most es e image either = ⊎_elim (left_without most es (e ∷ []) image) (left_with most es e image) either

-- a settled journal with room behind its entries
pub record Ready (most : ℕ) (es : List KeptEntry) (end : ℕ) (image : List ℕ) : Type 0 where
  pub front : List ℕ
  pub more : List ℕ
  pub split : image ≡ front ++ 0 ∷ more
  pub whole : Whole front es
  pub ends : length front ≡ end
  pub within : length image ≤ most

ready_behind : (most : ℕ) (es : List KeptEntry) (end : ℕ) (image front rest : List ℕ) → image ≡ front ++ rest → Whole front es → length front ≡ end → Closing most (length front) rest → end < most → length image ≤ most → Ready most es end image
ready_behind most es end image front [] split whole ends closing room within = absurd (omega arith)
ready_behind most es end image front (byte ∷ more) split whole ends closing room within =
    record { front = front; more = more; split = split ∙ ap (λ (b : ℕ). front ++ b ∷ more) closing; whole = whole; ends = ends; within = within }

pub ready : (most : ℕ) (es : List KeptEntry) (end : ℕ) (image : List ℕ) → IsLeft most es [] image → end ≡ (entries_of image).1 → end < most → Ready most es end image
ready most es end image left is room =
    let r : AtRest most es image = settled_rest most es image left in
    let ends : length r.front ≡ end = front_long most es image r ∙ sym is in
    ready_behind most es end image r.front r.rest r.split r.whole ends r.closing room r.within
  where
    front_long : (most : ℕ) (es : List KeptEntry) (image : List ℕ) (r : AtRest most es image) → length r.front ≡ (entries_of image).1
    front_long most es image r = whole_long r.front es r.whole ∙ sym (ap (λ (p : List KeptEntry × ℕ). p.1) (rest_entries most es image r))

-- the bytes of an entry stand behind the byte 0, and a byte 0 behind them
pub record Staged (most : ℕ) (es : List KeptEntry) (e : KeptEntry) (end : ℕ) (image : List ℕ) : Type 0 where
  pub front : List ℕ
  pub tail : List ℕ
  pub split : image ≡ front ++ 0 ∷ (body_of e ++ 0 ∷ tail)
  pub whole : Whole front es
  pub ends : length front ≡ end
  pub within : length image ≤ most
  pub body : Body e (body_of e)

module _ (most : ℕ) (es : List KeptEntry) (end : ℕ) (image : List ℕ) (r : Ready most es end image) (e : KeptEntry) (body : Body e (body_of e)) (room : end + 14 + length e.batch ≤ most) where
  bytes_long : length (body_of e ++ 0 ∷ []) ≡ 13 + length e.batch
  bytes_long = omega (arith, length-append (body_of e) (0 ∷ []), body_long e (body_of e) body)

  pub behind_fits : end + 1 ≤ length image
  behind_fits = omega (arith, ap length r.split, length-append r.front (0 ∷ r.more), r.ends)

  pub behind_left : (after : List ℕ) → Torn (end + 1) (length (body_of e ++ 0 ∷ [])) image after → AtRest most es after
  behind_left after torn =
      behind_torn most es r.front r.more r.whole end r.ends (length (body_of e ++ 0 ∷ [])) after (subst (λ (l : List ℕ). Torn (end + 1) (length (body_of e ++ 0 ∷ [])) l after) r.split torn) (omega (arith, bytes_long)) (subst (λ (l : List ℕ). length l ≤ most) r.split r.within)

  pub behind_staged : (after : List ℕ) → IsWritten image (end + 1) (body_of e ++ 0 ∷ []) after → length after ≤ most → Staged most es e end after
  behind_staged after written within =
      let stands = behind_written most es r.front r.more r.whole end r.ends (body_of e ++ 0 ∷ []) after (subst (λ (l : List ℕ). IsWritten l (end + 1) (body_of e ++ 0 ∷ []) after) r.split written) in
      record {
        front = r.front;
        tail = stands.0;
        split = stands.1 ∙ ap (λ (l : List ℕ). r.front ++ 0 ∷ l) (append_assoc (body_of e) (0 ∷ []) stands.0);
        whole = r.whole;
        ends = r.ends;
        within = within;
        body = body;
      }

  -- whatever a crash leaves after that write
  pub behind_all : (bytes : List ℕ) (old new : List ℕ → Type 0) → bytes ≡ body_of e ++ 0 ∷ [] → Only image old → Follows (Torn (end + 1) (length bytes)) old new → (after : List ℕ) → new after → AtRest most es after
  behind_all bytes old new spelled only follows after left =
      let from = follows after left in
      behind_left after (subst (λ (b : List ℕ). Torn (end + 1) (length b) image after) spelled (subst (λ (l : List ℕ). Torn (end + 1) (length bytes) l after) (only from.0 from.1) from.2))

  -- and within it
  pub behind_moment : (bytes : List ℕ) (old : List ℕ → Type 0) → bytes ≡ body_of e ++ 0 ∷ [] → Only image old → AtRest most es image → (after : List ℕ) → LeftOrChanged (Torn (end + 1) (length bytes)) old after → IsLeft most es (e ∷ []) after
  behind_moment bytes old spelled only rest after left =
      left_without most es (e ∷ []) after (⊎_elim (λ was. subst (AtRest most es) (sym (only after was)) rest) (λ torn. behind_left after (subst (λ (b : List ℕ). Torn (end + 1) (length b) image after) spelled (subst (λ (l : List ℕ). Torn (end + 1) (length bytes) l after) (only torn.0 torn.1) torn.2))) left)

module _ (most : ℕ) (es : List KeptEntry) (e : KeptEntry) (end : ℕ) (image : List ℕ) (s : Staged most es e end image) where
  pub staged_fits : end ≤ length image
  staged_fits = omega (arith, ap length s.split, length-append s.front (0 ∷ (body_of e ++ 0 ∷ s.tail)), s.ends)

  pub staged_torn : (after : List ℕ) → Torn end 1 image after → RestsEither most es e after
  staged_torn after torn =
      open_torn most es e s.front (body_of e) s.tail s.whole end s.ends s.body after (subst (λ (l : List ℕ). Torn end 1 l after) s.split torn) (subst (λ (l : List ℕ). length l ≤ most) s.split s.within)

  pub staged_written : (after : List ℕ) → IsWritten image end (1 ∷ []) after → AtRest most (es ++ e ∷ []) after
  staged_written after written =
      open_written most es e s.front (body_of e) s.tail s.whole end s.ends s.body after (subst (λ (l : List ℕ). IsWritten l end (1 ∷ []) after) s.split written) (subst (λ (l : List ℕ). length l ≤ most) s.split s.within)

  pub staged_rest : AtRest most es image
  staged_rest =
      record { front = s.front; rest = 0 ∷ (body_of e ++ 0 ∷ s.tail); split = s.split; whole = s.whole; closing = refl; within = s.within }

  -- whatever a crash leaves after the write of the first byte, and within it
  pub staged_all : (old new : List ℕ → Type 0) → Only image old → Follows (Torn end 1) old new → (after : List ℕ) → new after → IsLeft most es (e ∷ []) after
  staged_all old new only follows after left =
      let from = follows after left in
      left_either most es e after (staged_torn after (subst (λ (l : List ℕ). Torn end 1 l after) (only from.0 from.1) from.2))

  pub staged_moment : (old : List ℕ → Type 0) → Only image old → (after : List ℕ) → LeftOrChanged (Torn end 1) old after → IsLeft most es (e ∷ []) after
  staged_moment old only after left =
      ⊎_elim (λ was. left_without most es (e ∷ []) after (subst (AtRest most es) (sym (only after was)) staged_rest)) (λ torn. left_either most es e after (staged_torn after (subst (λ (l : List ℕ). Torn end 1 l after) (only torn.0 torn.1) torn.2))) left
