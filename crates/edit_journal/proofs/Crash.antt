-- What a crash leaves within the steps of an append, and while a journal is closed behind its entries.
use Rattle.std.proofs.Common.{◌≡◌, ◌≢◌, ◌⊎◌, ℕ, ◌+◌, ◌<◌, ◌≤◌, List, [], ◌∷◌, ◌++◌, take, drop, get_or, length, sum_by, None, inl, inr, refl, sym, ◌∙◌, ap, arith, append_assoc, length-append, length-drop, take-append-drop}
use Rattle.std.proofs.lemmas.Bool.{cases_eq}
use Rattle.std.proofs.lemmas.List.{take_at, drop_at, drop_more}
use Rattle.std.specs.Int.{w32, w64, from_be_bytes}
use Rattle.tgap_model.specs.Keeping.{KeptEntry}
use Rattle.edit_journal.specs.Disk.{IsWritten, Torn}
use Rattle.edit_journal.specs.Entries.{entry_at, entry_size, entries_of}
use Rattle.edit_journal.proofs.EntryBytes.{EntryBytes, none_whatever, none_alone, drop_twice}
use Rattle.edit_journal.proofs.EntryLists.{Whole, whole_more, whole_entries}
use Rattle.edit_journal.proofs.Rest.{AtRest}

-- the bytes of an entry behind its first one
pub record Body (e : KeptEntry) (bytes : List ℕ) : Type 0 where
  pub number : List ℕ
  pub size : List ℕ
  pub number_long : length number ≡ 8
  pub size_long : length size ≡ 4
  pub is_number : from_be_bytes w64 number ≡ e.number
  pub is_size : from_be_bytes w32 size ≡ length e.batch
  pub all : bytes ≡ number ++ (size ++ e.batch)

pub opened : (e : KeptEntry) (body : List ℕ) (first : ℕ) → Body e body → first ≢ 0 → EntryBytes e (first ∷ body)
opened e body first b opens = record {
  first = first;
  number = b.number;
  size = b.size;
  opens = opens;
  number_long = b.number_long;
  size_long = b.size_long;
  is_number = b.is_number;
  is_size = b.is_size;
  all = ap (λ (l : List ℕ). first ∷ l) b.all;
}

pub body_long : (e : KeptEntry) (body : List ℕ) → Body e body → length body ≡ 12 + length e.batch
body_long e body b =
    omega (arith, ap length b.all, b.number_long, b.size_long, length-append b.number (b.size ++ e.batch), length-append b.size e.batch)

-- the front of an image and one byte behind it
one_more : (front : List ℕ) (byte : ℕ) (more : List ℕ) → front ++ byte ∷ more ≡ (front ++ byte ∷ []) ++ more
one_more front byte more = sym (append_assoc front (byte ∷ []) more)

long_more : (front : List ℕ) (byte : ℕ) (end : ℕ) → length front ≡ end → length (front ++ byte ∷ []) ≡ end + 1
long_more front byte end is = omega (arith, length-append front (byte ∷ []))

front_more : (front : List ℕ) (byte : ℕ) (more : List ℕ) (end : ℕ) → length front ≡ end → take (end + 1) (front ++ byte ∷ more) ≡ front ++ byte ∷ []
front_more front byte more end is =
    ap (λ (l : List ℕ). take (end + 1) l) (one_more front byte more) ∙ take_at (front ++ byte ∷ []) more (end + 1) (long_more front byte end is)

back_more : (front : List ℕ) (byte : ℕ) (more : List ℕ) (end : ℕ) → length front ≡ end → drop (end + 1) (front ++ byte ∷ more) ≡ more
back_more front byte more end is =
    ap (λ (l : List ℕ). drop (end + 1) l) (one_more front byte more) ∙ drop_at (front ++ byte ∷ []) more (end + 1) (long_more front byte end is)

module _ (most : ℕ) (es : List KeptEntry) (front more : List ℕ) (whole : Whole front es) (end : ℕ) (ends : length front ≡ end) where
  -- a write behind the closing byte leaves that byte where it stands
  pub behind_torn : (n : ℕ) (image : List ℕ) → Torn (end + 1) n (front ++ 0 ∷ more) image → end + 1 + n ≤ most → length (front ++ 0 ∷ more) ≤ most → AtRest most es image
  behind_torn n image torn fits within =
      let start : take (end + 1) image ≡ front ++ 0 ∷ [] = torn.before ∙ front_more front 0 more end ends in
      let split : image ≡ front ++ 0 ∷ drop (end + 1) image = sym (take-append-drop (end + 1) image) ∙ ap (λ (l : List ℕ). l ++ drop (end + 1) image) start ∙ append_assoc front (0 ∷ []) (drop (end + 1) image) in
      record {
        front = front;
        rest = 0 ∷ drop (end + 1) image;
        split = split;
        whole = whole;
        closing = refl;
        within = omega (arith, torn.no_longer);
      }

  -- and where it succeeded, the bytes stand behind it
  pub behind_written : (bytes image : List ℕ) → IsWritten (front ++ 0 ∷ more) (end + 1) bytes image → (tail : List ℕ) × (image ≡ front ++ 0 ∷ (bytes ++ tail))
  behind_written bytes image written = (
    drop (end + 1 + length bytes) (front ++ 0 ∷ more),
    written
        ∙ ap (λ (l : List ℕ). l ++ bytes ++ drop (end + 1 + length bytes) (front ++ 0 ∷ more)) (front_more front 0 more end ends)
        ∙ append_assoc (front ++ 0 ∷ []) bytes (drop (end + 1 + length bytes) (front ++ 0 ∷ more))
        ∙ append_assoc front (0 ∷ []) (bytes ++ drop (end + 1 + length bytes) (front ++ 0 ∷ more)),
  )

one_opens : ◌≢◌ {A = ℕ} 1 0
one_opens is = omega arith

-- with or without one entry more, a journal is at rest
abbrev pub RestsEither : ℕ → List KeptEntry → KeptEntry → List ℕ → Type 0
RestsEither most es e image = AtRest most es image ⊎ AtRest most (es ++ e ∷ []) image

module _ (most : ℕ) (es : List KeptEntry) (e : KeptEntry) (front body tail : List ℕ) (whole : Whole front es) (end : ℕ) (ends : length front ≡ end) (is_body : Body e body) where
  -- an entry behind the closing byte, with a closing byte of its own
  abbrev pub staged : ℕ → List ℕ
  staged first = front ++ first ∷ (body ++ 0 ∷ tail)

  open_rest : (first : ℕ) (image : List ℕ) → first ≢ 0 → image ≡ staged first → length image ≤ most → AtRest most (es ++ e ∷ []) image
  open_rest first image opens is within = record {
    front = front ++ first ∷ body;
    rest = 0 ∷ tail;
    split = is ∙ sym (append_assoc front (first ∷ body) (0 ∷ tail));
    whole = whole_more front (first ∷ body) es e whole (opened e body first is_body opens);
    closing = refl;
    within = within;
  }

  shut_rest : (first : ℕ) (image : List ℕ) → first ≡ 0 → image ≡ staged first → length image ≤ most → AtRest most es image
  shut_rest first image shut is within =
      record { front = front; rest = first ∷ (body ++ 0 ∷ tail); split = is; whole = whole; closing = shut; within = within }

  -- whatever the first byte of the entry becomes, the entry counts or it does not
  pub open_torn : (image : List ℕ) → Torn end 1 (staged 0) image → length (staged 0) ≤ most → RestsEither most es e image
  open_torn image torn within =
      let first = get_or image end 0 in
      let long : end < length image = omega (arith, torn.no_shorter, length-append front (0 ∷ (body ++ 0 ∷ tail))) in
      let start : take end image ≡ front = torn.before ∙ take_at front (0 ∷ (body ++ 0 ∷ tail)) end ends in
      let behind : drop (end + 1) image ≡ body ++ 0 ∷ tail = torn.after ∙ back_more front 0 (body ++ 0 ∷ tail) end ends in
      let split : image ≡ staged first =
      sym (take-append-drop end image) ∙ ap (λ (l : List ℕ). l ++ drop end image) start
      ∙ ap (λ (l : List ℕ). front ++ l) (drop_more image end 0 long ∙ ap (λ (l : List ℕ). first ∷ l) behind) in
      let fits : length image ≤ most = omega (arith, torn.no_longer, length-append front (0 ∷ (body ++ 0 ∷ tail))) in
      elim (cases_eq first 0) [ inl shut ↦ inl (shut_rest first image shut split fits) | inr opens ↦ inr (open_rest first image opens split fits) ]

  -- and where it was written, the entry counts
  pub open_written : (image : List ℕ) → IsWritten (staged 0) end (1 ∷ []) image → length (staged 0) ≤ most → AtRest most (es ++ e ∷ []) image
  open_written image written within =
      let split : image ≡ staged 1 =
      written
      ∙ ap (λ (l : List ℕ). l ++ (1 ∷ []) ++ drop (end + 1) (staged 0)) (take_at front (0 ∷ (body ++ 0 ∷ tail)) end ends)
      ∙ ap (λ (l : List ℕ). front ++ (1 ∷ []) ++ l) (back_more front 0 (body ++ 0 ∷ tail) end ends)
      ∙ append_assoc front (1 ∷ []) (body ++ 0 ∷ tail) in
      open_rest 1 image one_opens split (omega (arith, ap length split, length-append front (0 ∷ (body ++ 0 ∷ tail)), length-append front (1 ∷ (body ++ 0 ∷ tail))))

-- ---- while a journal is closed behind its entries

-- bytes that begin with no entry, nor with a byte 0
abbrev pub IsOpenEnd : List ℕ → Type 0
IsOpenEnd [] = Unit {0}
IsOpenEnd (byte ∷ more) = (byte ≢ 0) × (entry_at (byte ∷ more) ≡ None)

torn_end : (rest after : List ℕ) → IsOpenEnd rest → drop 1 after ≡ drop 1 rest → length rest ≤ length after → entry_at after ≡ None
torn_end [] [] open_end same long = refl
torn_end [] (x ∷ []) open_end same long = none_alone x
torn_end [] (x ∷ y ∷ after) open_end same long = absurd (cc)
torn_end (byte ∷ more) [] open_end same long = absurd (omega arith)
torn_end (byte ∷ more) (x ∷ after) open_end same long =
    ap (λ (l : List ℕ). entry_at (x ∷ l)) same ∙ none_whatever byte x more open_end.0 open_end.1

after_one : (front rest : List ℕ) (end : ℕ) → length front ≡ end → drop (end + 1) (front ++ rest) ≡ drop 1 rest
after_one front rest end is = sym (drop_twice end 1 (front ++ rest)) ∙ ap (λ (l : List ℕ). drop 1 l) (drop_at front rest end is)

module _ (most : ℕ) (es : List KeptEntry) (front rest : List ℕ) (whole : Whole front es) (end : ℕ) (ends : length front ≡ end) (open_end : IsOpenEnd rest) where
  -- a torn byte at the end opens no entry
  pub closing_torn : (image : List ℕ) → Torn end 1 (front ++ rest) image → entries_of image ≡ (es, sum_by entry_size es)
  closing_torn image torn =
      let start : take end image ≡ front = torn.before ∙ take_at front rest end ends in
      let split : image ≡ front ++ drop end image = sym (take-append-drop end image) ∙ ap (λ (l : List ℕ). l ++ drop end image) start in
      let same : drop 1 (drop end image) ≡ drop 1 rest = drop_twice end 1 image ∙ torn.after ∙ after_one front rest end ends in
      let long : length rest ≤ length (drop end image) = omega (arith, torn.no_shorter, length-append front rest, length-drop end image) in
      ap entries_of split ∙ whole_entries front (drop end image) es whole (torn_end rest (drop end image) open_end same long)

  -- and one that was written closes the journal
  pub closing_written : (image : List ℕ) → IsWritten (front ++ rest) end (0 ∷ []) image → end < most → length (front ++ rest) ≤ most → AtRest most es image
  closing_written image written room within =
      let split : image ≡ front ++ 0 ∷ drop (end + 1) (front ++ rest) =
      written
      ∙ ap (λ (l : List ℕ). l ++ (0 ∷ []) ++ drop (end + 1) (front ++ rest)) (take_at front rest end ends)
      ∙ append_assoc front (0 ∷ []) (drop (end + 1) (front ++ rest)) in
      record {
        front = front;
        rest = 0 ∷ drop (end + 1) (front ++ rest);
        split = split;
        whole = whole;
        closing = refl;
        within = omega (arith, ap length split, length-append front (0 ∷ drop (end + 1) (front ++ rest)), length-drop (end + 1) (front ++ rest), length-append front rest);
      }
