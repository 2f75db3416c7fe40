-- Laws of what is told of a head.
use Rattle.std.proofs.Common.{◌≡◌, ◌≢◌, ℕ, ◌+◌, ◌-◌, ◌<◌, ◌≤◌, ◌⊎◌, inl, inr, Bool, true, false, cond, not, codes, nat_lt, List, [], ◌∷◌, ◌++◌, length, take, drop, Result, Ok, Err, refl, sym, ap, subst, ◌∙◌, append_assoc, length-append, arith}
use Rattle.std.specs.List.{list_any}
use Rattle.std.specs.Str.Parse.{digits_value}
use Rattle.std.proofs.lemmas.Bool.{ltb-false}
use Rattle.std.proofs.Math.Seq.{take-append-add, drop-append_seam}
use Rattle.std.proofs.lemmas.List.{take-append-drop, take-append-le, append-nil, length-map}
use Rattle.httparse.specs.Grammar.{RequestHead, print_request, ReadsRequest, HasNoRequest, NeverHasRequest, EndsInTarget, MayBecomeRequest}
use Rattle.httparse.specs.Spans.{RequestOverflows, RequestExceeds}
use Rattle.httparse.specs.declared.Error.{Error}
use Rattle.httparse.specs.declared.Error.TheVariants.{TooManyHeaders}
use Rattle.httparse.proofs.GrammarLemmas.{request_unique, ReadsRequest-append}
use Rattle.http_face.specs.declared.head.HeadEnds.{HeadEnds}
use Rattle.http_face.specs.declared.head.HeadEnds.TheVariants.{Whole, More, Bad}
use Rattle.http_face.specs.declared.head_reading.Found.{Found}
use Rattle.http_face.specs.declared.head_reading.Found.TheVariants as found
use Rattle.http_face.specs.Heads.{Header, is_named, is_length, values_of, body_of_value, body_of_values, closes, IsWithinLimits, headers_of, body_of, told_of, ends_of, StartsWith, HasHead, HasManyHeaders, IsUnfinished, IsHopeless, TellsHead, IsGoodHead, IsOpen}
use Rattle.http_face.specs.Found.{TellsWhole, TellsFound}

-- ---- bytes that follow

pub never_stays : (bytes more : List ℕ) → NeverHasRequest bytes → NeverHasRequest (bytes ++ more)
never_stays bytes more never = λ after h rest reads. never (more ++ after) h rest (subst (λ b. ReadsRequest b h rest) (append_assoc bytes more after) reads)

pub many_stays : (bytes more : List ℕ) → HasManyHeaders bytes → HasManyHeaders (bytes ++ more)
many_stays bytes more many = record {
  lines = (many.lines.0, many.lines.1 ++ more, ap (λ b. b ++ more) many.lines.2 ∙ append_assoc many.lines.0 many.lines.1 more, many.lines.3, many.lines.4, many.lines.5);
  heads = λ after h rest reads. many.heads (more ++ after) h rest (subst (λ b. ReadsRequest b h rest) (append_assoc bytes more after) reads);
}

-- a head of the front is one of the bytes
pub starts_front : (n : ℕ) (bytes rest : List ℕ) (h : RequestHead) → ReadsRequest (take n bytes) h rest → length (print_request h) ≤ 8192 → StartsWith bytes h
starts_front n bytes rest h reads short = record {
  rest = rest ++ drop n bytes;
  reads = subst (λ b. ReadsRequest b h (rest ++ drop n bytes)) (take-append-drop n bytes) (ReadsRequest-append (take n bytes) h rest (drop n bytes) reads);
  short = short;
}

pub starts_stays : (bytes more : List ℕ) (h : RequestHead) → StartsWith bytes h → StartsWith (bytes ++ more) h
starts_stays bytes more h s = record { rest = s.rest ++ more; reads = ReadsRequest-append bytes h s.rest more s.reads; short = s.short }

hopeless_stays : (bytes more : List ℕ) → IsHopeless bytes → IsHopeless (bytes ++ more)
hopeless_stays bytes more (inl never) = inl (never_stays bytes more never)
hopeless_stays bytes more (inr (inl many)) = inr (inl (many_stays bytes more many))
hopeless_stays bytes more (inr (inr long)) =
    let len : 8192 ≤ length bytes = long.0 in
    inr (inr (omega (arith, length-append bytes more), rw take-append-le long.1))

-- what is told stays, where bytes follow, but for an unfinished head
pub told_stays : (bytes more : List ℕ) (told : HeadEnds) → told ≢ More → TellsHead bytes told → TellsHead (bytes ++ more) told
told_stays bytes more (Whole size body close) other h = (h.0, starts_stays bytes more h.0 h.1, h.2)
told_stays bytes more More other h = absurd (other refl)
told_stays bytes more (Bad status) other (inl h) = inl (h.0, starts_stays bytes more h.0 h.1, h.2)
told_stays bytes more (Bad status) other (inr h) = inr (h.0, hopeless_stays bytes more h.1)

-- ---- what is told is told alone

-- a head with too many headers is at fault
many_is_bad : (h : RequestHead) → 64 < length h.fields → ends_of h ≡ Bad 400
many_is_bad h many =
    let more : nat_lt 64 (length (headers_of h)) ≡ true = rw length-map (grind arith) in
    rw more refl

-- the front of 8,192 bytes has the head
front_has : (bytes : List ℕ) (h : RequestHead) → StartsWith bytes h → HasNoRequest (take 8192 bytes) → ⊥
front_has bytes h s none =
    let short : length (print_request h) ≤ 8192 = s.short in
    let whole : 8192 ≡ length (print_request h) + (8192 - length (print_request h)) = omega arith in
    let front : take 8192 bytes ≡ print_request h ++ take (8192 - length (print_request h)) s.rest =
    ap (take 8192) s.reads.1 ∙ ap (λ n. take n (print_request h ++ s.rest)) whole ∙ take-append-add (print_request h) s.rest (8192 - length (print_request h)) in
    none h (take (8192 - length (print_request h)) s.rest) (s.reads.0, front)

-- a whole head and no hope: the head has too many headers
head_hopeless : (bytes : List ℕ) (h : RequestHead) → StartsWith bytes h → IsHopeless bytes → ends_of h ≡ Bad 400
head_hopeless bytes h s (inl never) = absurd (never [] h s.rest (subst (λ b. ReadsRequest b h s.rest) (sym (append-nil bytes)) s.reads))
head_hopeless bytes h s (inr (inl many)) = many_is_bad h (many.heads [] h s.rest (subst (λ b. ReadsRequest b h s.rest) (sym (append-nil bytes)) s.reads))
head_hopeless bytes h s (inr (inr long)) = absurd (front_has bytes h s long.1)

may_open : (bytes : List ℕ) → MayBecomeRequest bytes → NeverHasRequest bytes → (EndsInTarget bytes × NeverHasRequest bytes) ⊎ HasManyHeaders bytes
may_open bytes (inl can) never = absurd (never can.0 can.1 [] can.2)
may_open bytes (inr ends) never = inl (ends, never)

unfinished_hopeless : (bytes : List ℕ) → IsUnfinished bytes → IsHopeless bytes → IsOpen bytes
unfinished_hopeless bytes u (inl never) = record { few = u.few; none = u.none; either = may_open bytes u.may never }
unfinished_hopeless bytes u (inr (inl many)) = record { few = u.few; none = u.none; either = inr many }
unfinished_hopeless bytes u (inr (inr long)) = let few : length bytes < 8192 = u.few in let many : 8192 ≤ length bytes = long.0 in absurd (omega arith)

abbrev Cause : List ℕ → HeadEnds → Type 0
Cause bytes told = HasHead bytes told ⊎ (((told ≡ More) × IsUnfinished bytes) ⊎ ((told ≡ Bad 400) × IsHopeless bytes))

cause_of : (bytes : List ℕ) (told : HeadEnds) → TellsHead bytes told → Cause bytes told
cause_of bytes (Whole size body close) h = inl h
cause_of bytes More h = inr (inl (refl, h))
cause_of bytes (Bad status) (inl h) = inl h
cause_of bytes (Bad status) (inr h) = inr (inr (ap Bad h.0, h.1))

alone_by : (bytes : List ℕ) (told other : HeadEnds) → Cause bytes told → Cause bytes other → (other ≡ told) ⊎ IsOpen bytes
alone_by bytes told other (inl x) (inl y) = inl (sym y.2 ∙ ap ends_of (request_unique bytes y.0 x.0 y.1.rest x.1.rest y.1.reads x.1.reads).0 ∙ x.2)
alone_by bytes told other (inl x) (inr (inl y)) = absurd (y.1.none x.0 x.1.rest x.1.reads)
alone_by bytes told other (inl x) (inr (inr y)) = inl (y.0 ∙ sym (head_hopeless bytes x.0 x.1 y.1) ∙ x.2)
alone_by bytes told other (inr (inl x)) (inl y) = absurd (x.1.none y.0 y.1.rest y.1.reads)
alone_by bytes told other (inr (inl x)) (inr (inl y)) = inl (y.0 ∙ sym x.0)
alone_by bytes told other (inr (inl x)) (inr (inr y)) = inr (unfinished_hopeless bytes x.1 y.1)
alone_by bytes told other (inr (inr x)) (inl y) = inl (sym y.2 ∙ head_hopeless bytes y.0 y.1 x.1 ∙ sym x.0)
alone_by bytes told other (inr (inr x)) (inr (inl y)) = inr (unfinished_hopeless bytes y.1 x.1)
alone_by bytes told other (inr (inr x)) (inr (inr y)) = inl (y.0 ∙ sym x.0)

-- nothing else is told, but in the two open cases
pub told_alone : (bytes : List ℕ) (told other : HeadEnds) → TellsHead bytes told → TellsHead bytes other → (other ≡ told) ⊎ IsOpen bytes
told_alone bytes told other h k = alone_by bytes told other (cause_of bytes told h) (cause_of bytes other k)

-- ---- what the reader finds

never_more : (size : ℕ) (close : Bool) (body : Result ℕ ℕ) → told_of size close body ≡ More → ⊥
never_more size close (Ok n) e = absurd cc
never_more size close (Err status) e = absurd cc

-- a whole head was read
pub found_whole : (bytes : List ℕ) (h : RequestHead) (f : Found) → StartsWith bytes h → TellsWhole h f → TellsFound bytes f
found_whole bytes h (found.Whole size body close method target) s w = (h, s, w)
found_whole bytes h found.More s w = absurd (never_more _ _ (body_of (headers_of h)) w)
found_whole bytes h (found.Bad status) s w = inl (h, s, w)

refused_front : (front : List ℕ) (e : Error) → (e ≢ TooManyHeaders → NeverHasRequest front) → (e ≡ TooManyHeaders → RequestExceeds 64 front) → RequestOverflows 64 front
    → NeverHasRequest front ⊎ HasManyHeaders front
refused_front front TooManyHeaders never exceeds overflows = inr (record { lines = exceeds refl; heads = overflows })
refused_front front e never exceeds overflows = inl (never (λ q. absurd cc))

-- the reader refused the front
pub refused : (bytes : List ℕ) (e : Error) → (e ≢ TooManyHeaders → NeverHasRequest (take 8192 bytes)) → (e ≡ TooManyHeaders → RequestExceeds 64 (take 8192 bytes))
    → RequestOverflows 64 (take 8192 bytes) → IsHopeless bytes
refused bytes e never exceeds overflows = by (refused_front (take 8192 bytes) e never exceeds overflows)
  where
    by : NeverHasRequest (take 8192 bytes) ⊎ HasManyHeaders (take 8192 bytes) → IsHopeless bytes
    by (inl n) = inl (subst NeverHasRequest (take-append-drop 8192 bytes) (never_stays (take 8192 bytes) (drop 8192 bytes) n))
    by (inr m) = inr (inl (subst HasManyHeaders (take-append-drop 8192 bytes) (many_stays (take 8192 bytes) (drop 8192 bytes) m)))

-- ---- the limits

abbrev GoodBody : Result ℕ ℕ → Type 0
GoodBody (Ok body) = body ≤ 1048576
GoodBody (Err status) = (status ≡ 400) ⊎ (status ≡ 413)

good_value : (value : List ℕ) → GoodBody (body_of_value value)
good_value value = by (not (is_length value)) (nat_lt 1048576 (digits_value 10 value)) refl
  where
    by : (b c : Bool) → nat_lt 1048576 (digits_value 10 value) ≡ c → GoodBody (cond b (Err 400) (cond c (Err 413) (Ok (digits_value 10 value))))
    by true c e = inl refl
    by false true e = inr refl
    by false false e = ltb-false 1048576 (digits_value 10 value) e

good_values : (values : List (List ℕ)) → GoodBody (body_of_values values)
good_values [] = omega arith
good_values (value ∷ []) = good_value value
good_values (value ∷ second ∷ more) = inl refl

good_body : (headers : List Header) → GoodBody (body_of headers)
good_body headers = by (nat_lt 64 (length headers)) (list_any (is_named (codes "transfer-encoding")) headers)
  where
    by : (b c : Bool) → GoodBody (cond b (Err 400) (cond c (Err 400) (body_of_values (values_of (codes "content-length") headers))))
    by true c = inl refl
    by false true = inl refl
    by false false = good_values (values_of (codes "content-length") headers)

within_of : (bytes : List ℕ) (size : ℕ) (close : Bool) (body : Result ℕ ℕ) → size ≤ 8192 → size ≤ length bytes → GoodBody body → IsWithinLimits bytes (told_of size close body)
within_of bytes size close (Ok body) short fits good = (short, fits, good)
within_of bytes size close (Err status) short fits good = good

head_within : (bytes : List ℕ) (told : HeadEnds) → HasHead bytes told → IsWithinLimits bytes told
head_within bytes told h =
    let fits : length (print_request h.0) ≤ length bytes = omega (arith, ap length h.1.reads.1, length-append (print_request h.0) h.1.rest) in
    subst (IsWithinLimits bytes) h.2 (within_of bytes (length (print_request h.0)) (closes h.0.minor (headers_of h.0)) (body_of (headers_of h.0)) h.1.short fits (good_body (headers_of h.0)))

-- what is told keeps the limits
pub told_within : (bytes : List ℕ) (told : HeadEnds) → TellsHead bytes told → IsWithinLimits bytes told
told_within bytes (Whole size body close) h = head_within bytes (Whole size body close) h
told_within bytes More h = h.few
told_within bytes (Bad status) (inl h) = head_within bytes (Bad status) h
told_within bytes (Bad status) (inr h) = inl h.0

-- ---- a whole head that is good

told_whole : (size0 : ℕ) (close0 : Bool) (body0 : Result ℕ ℕ) (size body : ℕ) (close : Bool) → told_of size0 close0 body0 ≡ Whole size body close
    → (size0 ≡ size) × (body0 ≡ Ok body) × (close0 ≡ close)
told_whole size0 close0 (Ok n) size body close e = (cc, cc, cc)
told_whole size0 close0 (Err status) size body close e = absurd cc

-- a whole head is one of the grammar
pub good_head : (bytes : List ℕ) (size body : ℕ) (close : Bool) → TellsHead bytes (Whole size body close) → (h : RequestHead) × IsGoodHead bytes h size body close
good_head bytes size body close h =
    let its = told_whole (length (print_request h.0)) (closes h.0.minor (headers_of h.0)) (body_of (headers_of h.0)) size body close h.2 in
    let rest : drop size bytes ≡ h.1.rest =
    ap (λ n. drop n bytes) (sym its.0) ∙ ap (drop (length (print_request h.0))) h.1.reads.1 ∙ drop-append_seam (print_request h.0) h.1.rest in
    (h.0, record { reads = subst (ReadsRequest bytes h.0) (sym rest) h.1.reads; size_is = its.0; body_is = its.1; close_is = its.2 })
