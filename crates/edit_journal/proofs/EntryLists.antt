-- The entries of bytes that are whole entries and then something that is none.
use Rattle.std.proofs.Common.{◌≡◌, ℕ, zero, suc, ◌+◌, ◌≤◌, List, [], ◌∷◌, ◌++◌, drop, length, sum_by, Option, Some, None, refl, sym, ◌∙◌, ap, arith, append_assoc, length-append, length-drop}
use Rattle.std.proofs.lemmas.List.{drop_at, append-nil}
use Rattle.std.proofs.lemmas.List.Sums.{sum_by-cons}
use Rattle.tgap_model.specs.Keeping.{KeptEntry}
use Rattle.edit_journal.specs.Entries.{entry_at, entry_size, with_entry, entries_from, entries_of}
use Rattle.edit_journal.proofs.EntryBytes.{EntryBytes, entry_long, at_front, Found, found}

-- these bytes are those of the entries, one after the other
abbrev pub Whole : List ℕ → List KeptEntry → Type 0
Whole bytes [] = bytes ≡ []
Whole bytes (e ∷ es) = (head : List ℕ) × (tail : List ℕ) × (bytes ≡ head ++ tail) × EntryBytes e head × Whole tail es

pub whole_long : (bytes : List ℕ) (es : List KeptEntry) → Whole bytes es → length bytes ≡ sum_by entry_size es
whole_long bytes [] w = ap length w
whole_long bytes (e ∷ es) w =
    omega (arith, ap length w.2, length-append w.0 w.1, entry_long e w.0 w.3, whole_long w.1 es w.4, sum_by-cons entry_size e es)

pub whole_more : (bytes head : List ℕ) (es : List KeptEntry) (e : KeptEntry) → Whole bytes es → EntryBytes e head → Whole (bytes ++ head) (es ++ e ∷ [])
whole_more bytes head [] e w b = (head, [], ap (λ (l : List ℕ). l ++ head) w ∙ sym (append-nil head), b, refl)
whole_more bytes head (k ∷ es) e w b =
    (w.0, w.1 ++ head, ap (λ (l : List ℕ). l ++ head) w.2 ∙ append_assoc w.0 w.1 head, w.3, whole_more w.1 head es e w.4 b)

none_from : (most : ℕ) (bytes : List ℕ) → entry_at bytes ≡ None → entries_from most bytes ≡ ([], 0)
none_from zero bytes none = refl
none_from (suc most) bytes none = ap (λ (o : Option KeptEntry). with_entry o (λ e. entries_from most (drop (entry_size e) bytes))) none

whole_from : (most : ℕ) (bytes rest : List ℕ) (es : List KeptEntry) → Whole bytes es → entry_at rest ≡ None → length (bytes ++ rest) ≤ most → entries_from most (bytes ++ rest) ≡ (es, sum_by entry_size es)
whole_from most bytes rest [] w none fits = ap (λ (l : List ℕ). entries_from most (l ++ rest)) w ∙ none_from most rest none
whole_from zero bytes rest (e ∷ es) w none fits =
    absurd (omega (arith, ap length w.2, length-append w.0 w.1, entry_long e w.0 w.3, length-append bytes rest))
whole_from (suc most) bytes rest (e ∷ es) w none fits =
    let grouped : bytes ++ rest ≡ w.0 ++ (w.1 ++ rest) = ap (λ (l : List ℕ). l ++ rest) w.2 ∙ append_assoc w.0 w.1 rest in
    let first : entry_at (w.0 ++ (w.1 ++ rest)) ≡ Some e = at_front e w.0 (w.1 ++ rest) w.3 in
    let next : drop (entry_size e) (w.0 ++ (w.1 ++ rest)) ≡ w.1 ++ rest = drop_at w.0 (w.1 ++ rest) (entry_size e) (entry_long e w.0 w.3) in
    let short : length (w.1 ++ rest) ≤ most = omega (arith, ap length grouped, length-append w.0 (w.1 ++ rest), entry_long e w.0 w.3) in
    let later : entries_from most (drop (entry_size e) (w.0 ++ (w.1 ++ rest))) ≡ (es, sum_by entry_size es) = ap (entries_from most) next ∙ whole_from most w.1 rest es w.4 none short in
    ap (entries_from (suc most)) grouped
    ∙ ap (λ (o : Option KeptEntry). with_entry o (λ k. entries_from most (drop (entry_size k) (w.0 ++ (w.1 ++ rest))))) first
    ∙ (λ i. (e ∷ (later i).0, entry_size e + (later i).1))
    ∙ ap (λ (n : ℕ). (e ∷ es, n)) (sym (sum_by-cons entry_size e es))

-- whole entries, and then what begins with none: these are the entries, and they end there
pub whole_entries : (bytes rest : List ℕ) (es : List KeptEntry) → Whole bytes es → entry_at rest ≡ None → entries_of (bytes ++ rest) ≡ (es, sum_by entry_size es)
whole_entries bytes rest es w none = whole_from (length (bytes ++ rest)) bytes rest es w none (omega arith)

-- any bytes are whole entries, and then what begins with none
pub record Split (bytes : List ℕ) (entries : List KeptEntry × ℕ) : Type 0 where
  pub front : List ℕ
  pub rest : List ℕ
  pub split : bytes ≡ front ++ rest
  pub whole : Whole front entries.0
  pub end : length front ≡ entries.1
  pub none : entry_at rest ≡ None

no_bytes : (bytes : List ℕ) → length bytes ≤ 0 → bytes ≡ []
no_bytes [] fits = refl
no_bytes (b ∷ bytes) fits = absurd (omega arith)

split_on : (most : ℕ) → ((bytes : List ℕ) → length bytes ≤ most → Split bytes (entries_from most bytes)) → (bytes : List ℕ) → length bytes ≤ suc most
    → (o : Option KeptEntry) → entry_at bytes ≡ o → Split bytes (with_entry o (λ e. entries_from most (drop (entry_size e) bytes)))
split_on most later bytes fits None is = record { front = []; rest = bytes; split = refl; whole = refl; end = refl; none = is }
split_on most later bytes fits (Some e) is =
    let f : Found e bytes = found e bytes is in
    let next : drop (entry_size e) bytes ≡ f.rest = ap (λ (l : List ℕ). drop (entry_size e) l) f.split ∙ drop_at f.front f.rest (entry_size e) (entry_long e f.front f.entry) in
    let short : length (drop (entry_size e) bytes) ≤ most = omega (arith, ap length next, ap length f.split, length-append f.front f.rest, entry_long e f.front f.entry) in
    let s : Split (drop (entry_size e) bytes) (entries_from most (drop (entry_size e) bytes)) = later (drop (entry_size e) bytes) short in
    record {
      front = f.front ++ s.front;
      rest = s.rest;
      split = f.split ∙ ap (λ (l : List ℕ). f.front ++ l) (sym next ∙ s.split) ∙ sym (append_assoc f.front s.front s.rest);
      whole = (f.front, s.front, refl, f.entry, s.whole);
      end = omega (arith, length-append f.front s.front, entry_long e f.front f.entry, s.end);
      none = s.none;
    }

split_from : (most : ℕ) (bytes : List ℕ) → length bytes ≤ most → Split bytes (entries_from most bytes)
split_from zero bytes fits = record { front = []; rest = bytes; split = refl; whole = refl; end = refl; none = ap entry_at (no_bytes bytes fits) }
split_from (suc most) bytes fits = split_on most (split_from most) bytes fits (entry_at bytes) refl

pub split_entries : (bytes : List ℕ) → Split bytes (entries_of bytes)
split_entries bytes = split_from (length bytes) bytes (omega arith)

-- however many entries are allowed, if they are enough
same_from : (m n : ℕ) (bytes : List ℕ) → length bytes ≤ m → length bytes ≤ n → entries_from m bytes ≡ entries_from n bytes
same_from m n bytes fits_m fits_n =
    let s : Split bytes (entries_from n bytes) = split_from n bytes fits_n in
    let any : (most : ℕ) → length bytes ≤ most → entries_from most bytes ≡ ((entries_from n bytes).0, sum_by entry_size (entries_from n bytes).0) =
    λ most fits. ap (entries_from most) s.split ∙ whole_from most s.front s.rest (entries_from n bytes).0 s.whole s.none (omega (arith, fits, ap length s.split)) in
    any m fits_m ∙ sym (any n fits_n)

next_from : (bytes : List ℕ) (e : KeptEntry) → entry_at bytes ≡ Some e → (most : ℕ) → length bytes ≡ most → entries_from most bytes ≡ (e ∷ (entries_of (drop (entry_size e) bytes)).0, entry_size e + (entries_of (drop (entry_size e) bytes)).1)
next_from bytes e is zero long = absurd (cc (ap entry_at (no_bytes bytes (omega arith))))
next_from bytes e is (suc most) long =
    let next : entries_from most (drop (entry_size e) bytes) ≡ entries_of (drop (entry_size e) bytes) = same_from most (length (drop (entry_size e) bytes)) (drop (entry_size e) bytes) (omega (arith, length-drop (entry_size e) bytes)) (omega arith) in
    ap (λ (o : Option KeptEntry). with_entry o (λ k. entries_from most (drop (entry_size k) bytes))) is
    ∙ (λ i. (e ∷ (next i).0, entry_size e + (next i).1))

-- the entries where one stands at the front: that one, and those behind it
pub next_entries : (bytes : List ℕ) (e : KeptEntry) → entry_at bytes ≡ Some e → entries_of bytes ≡ (e ∷ (entries_of (drop (entry_size e) bytes)).0, entry_size e + (entries_of (drop (entry_size e) bytes)).1)
next_entries bytes e is = next_from bytes e is (length bytes) refl

pub no_entries : (bytes : List ℕ) → entry_at bytes ≡ None → entries_of bytes ≡ ([], 0)
no_entries bytes none = none_from (length bytes) bytes none

pub entry_fits : (bytes : List ℕ) (e : KeptEntry) → entry_at bytes ≡ Some e → entry_size e ≤ length bytes
entry_fits bytes e is =
    let f : Found e bytes = found e bytes is in
    omega (arith, ap length f.split, length-append f.front f.rest, entry_long e f.front f.entry)

-- where they end
pub ends_sized : (bytes : List ℕ) → (entries_of bytes).1 ≡ sum_by entry_size (entries_of bytes).0
ends_sized bytes = let s : Split bytes (entries_of bytes) = split_entries bytes in sym s.end ∙ whole_long s.front (entries_of bytes).0 s.whole

pub ends_within : (bytes : List ℕ) → (entries_of bytes).1 ≤ length bytes
ends_within bytes = let s : Split bytes (entries_of bytes) = split_entries bytes in omega (arith, s.end, ap length s.split, length-append s.front s.rest)
