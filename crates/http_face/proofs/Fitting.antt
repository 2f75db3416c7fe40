-- A path that a router finds has the form of one of its rows.
use Rattle.std.proofs.Common.{◌≡◌, ◌⊎◌, inl, inr, ⊎_elim, ℕ, zero, suc, ◌-◌, ◌<◌, ◌≤◌, ◌==◌, Bool, true, false, cond, List, [], ◌∷◌, ◌++◌, length, take, drop, Option, Some, None, refl, sym, ap, ◌∙◌, subst, arith, ltb, nat_lt, nat_eq, ◌&&◌, append-nil, take_all}
use Rattle.std.specs.List.{join_with_byte, ends_with}
use Rattle.std.proofs.Math.Seq.{drop-nil}
use Rattle.std.proofs.lemmas.Bool.{and_parts, ltb-true}
use Rattle.std.proofs.lemmas.Bool.Decides.{nat_tests}
use Rattle.std.proofs.lemmas.List.{take-append-drop}
use Rattle.matchit.specs.Rows.{RowsOf}
use Rattle.matchit.specs.Seek.{seek, step, own, or_else, param_step, segment, has_slash, same_text, cuts, better, longest_from, longest_suffix, with_suffix}
use Rattle.matchit.specs.Level.{IsText}
use Rattle.line_forms.specs.Words.{Row}
use Rattle.http_face.specs.Routes.{are_parameters}
use Rattle.http_face.proofs.Seeking.{slots}
use Rattle.http_face.proofs.Parts.{HaveNoSlash}

-- ---- what a pattern fits

-- What one token fits before what fits the rest: a parameter at least one byte and no slash, a catch-all anything, and a byte itself.
abbrev FitsToken : Bool → Bool → ℕ → (List ℕ → Type 0) → List ℕ → Type 0
FitsToken true all x Rest path =
    (p : List ℕ) × (rest : List ℕ) × (path ≡ p ++ rest) × (nat_lt 0 (length p) ≡ true) × (has_slash p ≡ false) × Rest rest
FitsToken false true x Rest path = Unit {0}
FitsToken false false x Rest path = (rest : List ℕ) × (path ≡ x ∷ rest) × Rest rest

-- the path has the form of this pattern
abbrev pub FitsPattern : List ℕ → List ℕ → Type 0
FitsPattern [] path = path ≡ []
FitsPattern (x ∷ pattern) path = FitsToken (x == 256) (x == 257) x (λ rest. FitsPattern pattern rest) path

-- it has the form of one of these rows
abbrev pub FitsOne : {K : Type 0} → RowsOf K → List ℕ → Type 0
FitsOne [] path = ⊥
FitsOne ((pattern, key) ∷ rows) path = FitsPattern pattern path ⊎ FitsOne rows path

-- ---- the steps of the router

own_fits : {K : Type 0} (rows : RowsOf K) (e : K) → own rows ≡ Some e → FitsOne rows []
own_fits [] e h = absurd cc
own_fits (([], key) ∷ rows) e h = inl refl
own_fits ((x ∷ pattern, key) ∷ rows) e h = inr (own_fits rows e h)

-- a byte
byte_fits : {K : Type 0} (b : ℕ) (rows : RowsOf K) (path : List ℕ) → b < 256 → FitsOne (step b rows) path → FitsOne rows (b ∷ path)
byte_fits b [] path byte h = h
byte_fits b (([], key) ∷ rows) path byte h = inr (byte_fits b rows path byte h)
byte_fits {K} b ((x ∷ pattern, key) ∷ rows) path byte h = by (byte_fits b rows path byte) (x == b) refl h
  where
    by : (FitsOne (step b rows) path → FitsOne rows (b ∷ path)) → (v : Bool) → (x == b) ≡ v
        → FitsOne (cond {A = RowsOf K} v ((pattern, key) ∷ step b rows) (step b rows)) path → FitsOne ((x ∷ pattern, key) ∷ rows) (b ∷ path)
    by next true e k =
        let same : x ≡ b = grind (arith, nat_tests) in
        let no_slot : (x == 256) ≡ false = grind (arith, nat_tests) in
        let no_end : (x == 257) ≡ false = grind (arith, nat_tests) in
        ⊎_elim (λ m. inl (rw (no_slot, no_end) (path, ap (λ y. y ∷ path) (sym same), m))) (λ m. inr (next m)) k
    by next false e k = inr (next k)

-- a parameter
slot_fits : {K : Type 0} (rows : RowsOf K) (path p rest : List ℕ) → path ≡ p ++ rest → nat_lt 0 (length p) ≡ true → has_slash p ≡ false → FitsOne (step 256 rows) rest → FitsOne rows path
slot_fits [] path p rest cut some free h = h
slot_fits (([], key) ∷ rows) path p rest cut some free h = inr (slot_fits rows path p rest cut some free h)
slot_fits {K} ((x ∷ pattern, key) ∷ rows) path p rest cut some free h = by (slot_fits rows path p rest cut some free) (x == 256) refl h
  where
    by : (FitsOne (step 256 rows) rest → FitsOne rows path) → (v : Bool) → (x == 256) ≡ v
        → FitsOne (cond {A = RowsOf K} v ((pattern, key) ∷ step 256 rows) (step 256 rows)) rest → FitsOne ((x ∷ pattern, key) ∷ rows) path
    by next true e k = ⊎_elim (λ m. inl (rw e (p, rest, cut, some, free, m))) (λ m. inr (next m)) k
    by next false e k = inr (next k)

-- a catch-all
end_fits : {K : Type 0} (rows : RowsOf K) (path : List ℕ) (e : K) → own (step 257 rows) ≡ Some e → FitsOne rows path
end_fits [] path e h = absurd cc
end_fits (([], key) ∷ rows) path e h = inr (end_fits rows path e h)
end_fits {K} ((x ∷ pattern, key) ∷ rows) path e h = by (end_fits rows path e) (x == 257) refl h
  where
    by : (own (step 257 rows) ≡ Some e → FitsOne rows path) → (v : Bool) → (x == 257) ≡ v
        → own (cond {A = RowsOf K} v ((pattern, key) ∷ step 257 rows) (step 257 rows)) ≡ Some e → FitsOne ((x ∷ pattern, key) ∷ rows) path
    by next true is k =
        let no_slot : (x == 256) ≡ false = grind (arith, nat_tests) in
        inl (rw (no_slot, is) tt)
    by next false is k = inr (next k)

-- ---- what a parameter takes

segment_within : (path : List ℕ) → length (segment path) ≤ length path
segment_within [] = omega arith
segment_within (b ∷ path) = by (segment_within path) (b == 47) refl
  where
    by : length (segment path) ≤ length path → (v : Bool) → (b == 47) ≡ v → length (segment (b ∷ path)) ≤ length (b ∷ path)
    by next true e = rw e (omega arith)
    by next false e = rw e (omega (arith, next))

-- what ends before a segment does has no slash
front_free : (path : List ℕ) (n : ℕ) → n < length (segment path) → has_slash (take n path) ≡ false
front_free [] n within = absurd (omega arith)
front_free (b ∷ path) zero within = refl
front_free (b ∷ path) (suc n) within = by (front_free path n) (b == 47) refl within
  where
    by : (n < length (segment path) → has_slash (take n path) ≡ false) → (v : Bool) → (b == 47) ≡ v → suc n < length (cond v (b ∷ []) (b ∷ segment path))
        → has_slash (b ∷ take n path) ≡ false
    by next true e k = absurd (omega arith)
    by next false e k = rw e (next (omega arith))

-- a suffix that is chosen is shorter than the segment
suffix_shorter : {K : Type 0} (seg best : List ℕ) (rows : RowsOf K) → (0 < length best → length best < length seg)
    → 0 < length (longest_from seg best rows) → length (longest_from seg best rows) < length seg
suffix_shorter seg best [] h some = h some
suffix_shorter seg best ((t, key) ∷ rows) h some = suffix_shorter seg (better seg best (segment t)) rows (by (ltb (length best) (length (segment t)) && cuts seg (segment t)) refl) some
  where
    by : (v : Bool) → (ltb (length best) (length (segment t)) && cuts seg (segment t)) ≡ v
        → 0 < length (cond v (segment t) best) → length (cond v (segment t) best) < length seg
    by true e k =
        let cut = (and_parts (ltb (length best) (length (segment t))) (cuts seg (segment t)) e).1 in
        ltb-true (length (segment t)) (length seg) (and_parts (ltb (length (segment t)) (length seg)) (ends_with nat_eq seg (segment t)) cut).0
    by false e k = h k

with_suffix_fits : {K : Type 0} (s : List ℕ) (rows : RowsOf K) (path : List ℕ) → FitsOne (with_suffix s rows) path → FitsOne rows path
with_suffix_fits s [] path h = h
with_suffix_fits {K} s ((t, key) ∷ rows) path h = by (with_suffix_fits s rows path) (same_text (segment t) s) h
  where
    by : (FitsOne (with_suffix s rows) path → FitsOne rows path) → (v : Bool)
        → FitsOne (cond {A = RowsOf K} v ((t, key) ∷ with_suffix s rows) (with_suffix s rows)) path → FitsOne ((t, key) ∷ rows) path
    by next true k = ⊎_elim (λ m. inl m) (λ m. inr (next m)) k
    by next false k = inr (next k)

-- a parameter takes at least one byte and no slash, and the rows that go on are of those that there were
abbrev Takes : {K : Type 0} → RowsOf K → List ℕ → ℕ × RowsOf K → List ℕ → Type 0
Takes rows path taken rest = FitsOne rows rest × (0 < taken.0) × (taken.0 ≤ length path) × (has_slash (take taken.0 path) ≡ false)

slot_takes : {K : Type 0} (rows : RowsOf K) (b : ℕ) (path rest : List ℕ) → FitsOne (param_step rows (b ∷ path)).1 rest → Takes rows (b ∷ path) (param_step rows (b ∷ path)) rest
unfolding param_step
slot_takes {K} rows b path rest h = by (ltb 0 (length (longest_suffix (segment (b ∷ path)) rows))) refl h
  where
    whole : (v : Bool) → has_slash (b ∷ path) ≡ v → FitsOne (cond {A = ℕ × RowsOf K} v (0, []) (length (b ∷ path), rows)).1 rest
        → Takes rows (b ∷ path) (cond {A = ℕ × RowsOf K} v (0, []) (length (b ∷ path), rows)) rest
    whole true e k = absurd k
    whole false e k = (k, omega arith, omega arith, ap has_slash (take_all (length (b ∷ path)) (b ∷ path) (omega arith)) ∙ e)

    by : (v : Bool) → ltb 0 (length (longest_suffix (segment (b ∷ path)) rows)) ≡ v
        → FitsOne (cond {A = ℕ × RowsOf K} v (length (segment (b ∷ path)) - length (longest_suffix (segment (b ∷ path)) rows), with_suffix (longest_suffix (segment (b ∷ path)) rows) rows)
        (cond (has_slash (b ∷ path)) (0, []) (length (b ∷ path), rows))).1 rest
        → Takes rows (b ∷ path) (cond {A = ℕ × RowsOf K} v (length (segment (b ∷ path)) - length (longest_suffix (segment (b ∷ path)) rows), with_suffix (longest_suffix (segment (b ∷ path)) rows) rows)
        (cond (has_slash (b ∷ path)) (0, []) (length (b ∷ path), rows))) rest
    by true e k =
        let some = ltb-true 0 (length (longest_suffix (segment (b ∷ path)) rows)) e in
        let less = suffix_shorter (segment (b ∷ path)) [] rows (λ (z : 0 < 0). absurd (omega arith)) some in
        let within = segment_within (b ∷ path) in (
          with_suffix_fits (longest_suffix (segment (b ∷ path)) rows) rows rest k,
          omega arith,
          omega arith,
          front_free (b ∷ path) (length (segment (b ∷ path)) - length (longest_suffix (segment (b ∷ path)) rows)) (omega arith),
        )
    by false e k = whole (has_slash (b ∷ path)) refl k

-- ---- what the router finds

drop_less : (n b : ℕ) (path : List ℕ) → 0 < n → drop (n - 1) path ≡ drop n (b ∷ path)
drop_less zero b path some = absurd (omega arith)
drop_less (suc n) b path some = let less : suc n - 1 ≡ n = omega arith in rw less refl

takes_fits : {K : Type 0} (rows : RowsOf K) (b : ℕ) (path : List ℕ) → FitsOne (param_step (step 256 rows) (b ∷ path)).1 (drop ((param_step (step 256 rows) (b ∷ path)).0 - 1) path) → FitsOne rows (b ∷ path)
takes_fits rows b path h =
    let n = (param_step (step 256 rows) (b ∷ path)).0 in
    let took = slot_takes (step 256 rows) b path (drop (n - 1) path) h in
    let some : nat_lt 0 (length (take n (b ∷ path))) ≡ true = grind (arith, nat_tests) in
    slot_fits rows (b ∷ path) (take n (b ∷ path)) (drop n (b ∷ path)) (sym (take-append-drop n (b ∷ path))) some took.3
    (subst (FitsOne (step 256 rows)) (drop_less n b path took.1) took.0)

-- a path that is found has the form of a row
pub found_fits : {K : Type 0} (k : ℕ) (rows : RowsOf K) (path : List ℕ) (e : K) → IsText path → seek k rows path ≡ Some e → FitsOne rows (drop k path)
unfolding seek
found_fits k rows [] e text h = subst (FitsOne rows) (sym (drop-nil k)) (own_fits rows e h)
found_fits (suc k) rows (b ∷ path) e text h = found_fits k rows path e text.1 h
found_fits {K} zero rows (b ∷ path) e text h =
    by (found_fits 0 (step b rows) path) (found_fits ((param_step (step 256 rows) (b ∷ path)).0 - 1) (param_step (step 256 rows) (b ∷ path)).1 path)
    (seek 0 (step b rows) path) refl (seek ((param_step (step 256 rows) (b ∷ path)).0 - 1) (param_step (step 256 rows) (b ∷ path)).1 path) refl h
  where
    by : ((x : K) → IsText path → seek 0 (step b rows) path ≡ Some x → FitsOne (step b rows) path)
        → ((x : K) → IsText path → seek ((param_step (step 256 rows) (b ∷ path)).0 - 1) (param_step (step 256 rows) (b ∷ path)).1 path ≡ Some x
        → FitsOne (param_step (step 256 rows) (b ∷ path)).1 (drop ((param_step (step 256 rows) (b ∷ path)).0 - 1) path))
        → (o : Option K) → seek 0 (step b rows) path ≡ o
        → (q : Option K) → seek ((param_step (step 256 rows) (b ∷ path)).0 - 1) (param_step (step 256 rows) (b ∷ path)).1 path ≡ q
        → or_else o (or_else q (own (step 257 rows))) ≡ Some e → FitsOne rows (b ∷ path)
    by byte slot (Some x) is q then k = byte_fits b rows path text.0 (byte x text.1 is)
    by byte slot None is (Some x) then k = takes_fits rows b path (slot x text.1 then)
    by byte slot None is None then k = end_fits rows (b ∷ path) e k

-- ---- patterns of bytes and parameters

-- bytes that stand for themselves
abbrev pub After : List ℕ → List ℕ → List ℕ → Type 0
After front pattern path = (rest : List ℕ) × (path ≡ front ++ rest) × FitsPattern pattern rest

pub after_bytes : (front pattern path : List ℕ) → IsText front → FitsPattern (front ++ pattern) path → After front pattern path
after_bytes [] pattern path text h = (path, refl, h)
after_bytes (b ∷ front) pattern path text h =
    let no_slot : (b == 256) ≡ false = grind (arith, nat_tests, text.0) in
    let no_end : (b == 257) ≡ false = grind (arith, nat_tests, text.0) in
    by (λ rest. after_bytes front pattern rest text.1) (rw (no_slot, no_end) at h)
  where
    more : (rest : List ℕ) → path ≡ b ∷ rest → After front pattern rest → After (b ∷ front) pattern path
    more rest cut next = (next.0, cut ∙ ap (λ r. b ∷ r) next.1, next.2)

    by : ((rest : List ℕ) → FitsPattern (front ++ pattern) rest → After front pattern rest)
        → ((rest : List ℕ) × (path ≡ b ∷ rest) × FitsPattern (front ++ pattern) rest) → After (b ∷ front) pattern path
    by next cut = more cut.0 cut.1 (next cut.0 cut.2)

-- so many parameters, with slashes between them
pub record AreSlots (n : ℕ) (path : List ℕ) : Type 0 where
  pub head : List ℕ
  pub tail : Row
  pub joined : path ≡ join_with_byte 47 (head ∷ tail)
  pub free : HaveNoSlash (head ∷ tail)
  pub some : are_parameters n (head ∷ tail) ≡ true

pub slots_fit : (parameters : Row) (path : List ℕ) → FitsPattern (slots parameters) path → AreSlots (suc (length parameters)) path
slots_fit [] path h =
    record {
      head = h.0;
      tail = [];
      joined = h.2 ∙ ap (λ rest. h.0 ++ rest) h.5 ∙ append-nil h.0;
      free = (h.4, tt);
      some = rw h.3 refl;
    }
slots_fit (q ∷ parameters) path h =
    let after = h.5 in
    let next = slots_fit parameters after.0 after.2 in
    record {
      head = h.0;
      tail = next.head ∷ next.tail;
      joined = h.2 ∙ ap (λ rest. h.0 ++ rest) (after.1 ∙ ap (λ rest. 47 ∷ rest) next.joined);
      free = (h.4, next.free);
      some = rw (h.3, next.some) refl;
    }
