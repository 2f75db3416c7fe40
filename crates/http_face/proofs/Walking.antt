-- What the router takes for the parameters of a path.
use Rattle.std.proofs.Common.{◌≡◌, ℕ, ◌+◌, ◌-◌, ◌<◌, ◌≤◌, ◌^◌, append-nil, true, false, List, [], ◌∷◌, ◌++◌, length, drop, get_or, refl, sym, ap, ◌∙◌, arith, leb, ltb, length-append, length-drop}
use Rattle.std.specs.List.{join_with_byte}
use Rattle.std.proofs.Math.Seq.{drop-append_seam, take-append_seam}
use Rattle.std.proofs.lemmas.Bool.Decides.{nat_tests}
use Rattle.std.proofs.lemmas.List.{drop-drop, get_or-drop}
use Rattle.matchit.specs.Seek.{segment, has_slash}
use Rattle.matchit.specs.Level.{IsText}
use Rattle.matchit.specs.Params.{walk, wild_from, wild_stop, part_of, after_token}
use Rattle.line_forms.specs.Words.{Row}
use Rattle.http_face.specs.Parameters.{values_of}
use Rattle.http_face.proofs.Seeking.{slots, segment_to}
use Rattle.http_face.proofs.Parts.{HaveNoSlash}

-- the next parameter stands after the bytes before it
wild_after : (front pattern : List ℕ) (size token at : ℕ) → IsText front → at + length front ≤ size
    → wild_from (front ++ 256 ∷ pattern) size token at ≡ (token + length front, at + length front)
wild_after [] pattern size token at text within =
    let here : token + length {A = ℕ} [] ≡ token = omega arith in
    let there : at + length {A = ℕ} [] ≡ at = omega arith in
    rw (here, there) refl
wild_after (b ∷ front) pattern size token at text within =
    let byte : ltb b 256 ≡ true = grind (arith, nat_tests, text.0) in
    let inside : ltb at size ≡ true = grind (arith, nat_tests, within) in
    let one : token + 1 + length front ≡ token + length (b ∷ front) = omega arith in
    let other : at + 1 + length front ≡ at + length (b ∷ front) = omega arith in
    rw (byte, inside, wild_after front pattern size (token + 1) (at + 1) text.1 (omega (arith, within)), one, other) refl

slots_first : (parameters : Row) → (rest : List ℕ) × (slots parameters ≡ 256 ∷ rest)
slots_first [] = ([], refl)
slots_first (q ∷ parameters) = (47 ∷ slots parameters, refl)

-- the bytes from one place on, as many as there are of these
part_from : (bytes p rest : List ℕ) (at : ℕ) → drop at bytes ≡ p ++ rest → at ≤ length bytes → part_of bytes at (at + length p) ≡ p
part_from bytes p rest at left inside =
    let long : length bytes ≡ at + (length p + length rest) = omega (arith, length-drop at bytes, ap length left, length-append p rest) in
    let ordered : leb at (at + length p) ≡ true = grind (arith, nat_tests) in
    let within : leb (at + length p) (length bytes) ≡ true = grind (arith, nat_tests) in
    let size : at + length p - at ≡ length p = omega arith in
    rw (ordered, within, size, left) (take-append_seam p rest)

-- ---- a parameter that a slash follows

-- the segment of a parameter, with its slash
segment_long : (p rest : List ℕ) → has_slash p ≡ false → length (segment (p ++ 47 ∷ rest)) ≡ length p + 1
segment_long p rest free = ap length (segment_to p rest free) ∙ length-append p (47 ∷ [])

-- it ends before its slash
inner_stop : (pattern path p rest tail : List ℕ) (token at : ℕ) → drop token pattern ≡ 256 ∷ 47 ∷ tail → token < length pattern → drop at path ≡ p ++ 47 ∷ rest → has_slash p ≡ false
    → wild_stop pattern token path at ≡ at + length p
inner_stop pattern path p rest tail token at left inside there free =
    let long : length pattern ≡ token + (2 + length tail) = omega (arith, inside, length-drop token pattern, ap length left) in
    let first : ltb token (length pattern) ≡ true = grind (arith, nat_tests) in
    let more : ltb (token + 1) (length pattern) ≡ true = grind (arith, nat_tests) in
    let here : token + 0 ≡ token = omega arith in
    let slot : get_or pattern token 0 ≡ 256 = rw here at (sym (get_or-drop token pattern 0 0)) ∙ ap (λ (l : List ℕ). get_or l 0 0) left in
    let next : drop (token + 1) pattern ≡ 47 ∷ tail = sym (drop-drop 1 token pattern) ∙ ap (drop 1) left in
    let size : at + (length p + 1) - 1 ≡ at + length p = omega arith in
    rw (first, slot, more, next, there, segment_long p rest free, size) refl

-- the last one ends with the path
last_stop : (pattern path : List ℕ) (token at : ℕ) → drop token pattern ≡ 256 ∷ [] → token < length pattern → wild_stop pattern token path at ≡ length path
last_stop pattern path token at left inside =
    let long : length pattern ≡ token + 1 = omega (arith, inside, length-drop token pattern, ap length left) in
    let first : ltb token (length pattern) ≡ true = grind (arith, nat_tests) in
    let last : ltb (token + 1) (length pattern) ≡ false = grind (arith, nat_tests) in
    let here : token + 0 ≡ token = omega arith in
    let slot : get_or pattern token 0 ≡ 256 = rw here at (sym (get_or-drop token pattern 0 0)) ∙ ap (λ (l : List ℕ). get_or l 0 0) left in
    rw (first, slot, last) refl

-- ---- the whole walk

one_step : (pattern text path : List ℕ) (name : ℕ × ℕ) (names : List (ℕ × ℕ)) (token at slot start stop : ℕ) → wild_from (drop token pattern) (length path) token at ≡ (slot, start)
    → wild_stop pattern slot path start ≡ stop
    → values_of (walk pattern text path (name ∷ names) token at) ≡ part_of path start stop ∷ values_of (walk pattern text path names (after_token slot) stop)
one_step pattern text path name names token at slot start stop found ended = rw (found, ended) refl

-- what is left after the bytes before a parameter
past_bytes : (bytes front rest : List ℕ) (at : ℕ) → drop at bytes ≡ front ++ rest → drop (at + length front) bytes ≡ rest
past_bytes bytes front rest at left = sym (drop-drop (length front) at bytes) ∙ ap (drop (length front)) left ∙ drop-append_seam front rest

-- the places of what is left
places : (bytes front rest : List ℕ) (at : ℕ) → drop at bytes ≡ front ++ rest → at ≤ length bytes → length bytes ≡ at + length front + length rest
places bytes front rest at left inside = omega (arith, length-drop at bytes, ap length left, length-append front rest)

-- the parameters of a path are the parts of it that stand at the parameters of the pattern
pub walk_slots : (p : List ℕ) (parameters : Row) (pattern text path front : List ℕ) (names : List (ℕ × ℕ)) (token at : ℕ)
    → drop token pattern ≡ front ++ slots parameters → drop at path ≡ front ++ join_with_byte 47 (p ∷ parameters) → IsText front → HaveNoSlash (p ∷ parameters)
    → length names ≡ length (p ∷ parameters) → token ≤ length pattern → length pattern < 2 ^ 32 → at ≤ length path
    → values_of (walk pattern text path names token at) ≡ p ∷ parameters
walk_slots p [] pattern text path front [] token at left there bytes free count inside small within = absurd (omega (arith, count))
walk_slots p [] pattern text path front (name ∷ next ∷ names) token at left there bytes free count inside small within = absurd (omega (arith, count))
walk_slots p [] pattern text path front (name ∷ []) token at left there bytes free count inside small within =
    let size = places path front p at there within in
    let slot_size = places pattern front (256 ∷ []) token left inside in
    let slot = token + length front in
    let start = at + length front in
    let found = ap (λ (l : List ℕ). wild_from l (length path) token at) left ∙ wild_after front [] (length path) token at bytes (omega (arith, size)) in
    let ended = last_stop pattern path slot start (past_bytes pattern front (256 ∷ []) token left) (omega (arith, slot_size)) ∙ size in
    let part = part_from path p [] start (past_bytes path front p at there ∙ sym (append-nil p)) (omega (arith, size)) in
    one_step pattern text path name [] token at slot start (start + length p) found ended ∙ ap (λ (q : List ℕ). q ∷ []) part
walk_slots p (q ∷ parameters) pattern text path front [] token at left there bytes free count inside small within = absurd (omega (arith, count))
walk_slots p (q ∷ parameters) pattern text path front (name ∷ names) token at left there bytes free count inside small within =
    let rest = join_with_byte 47 (q ∷ parameters) in
    let size = places path front (p ++ 47 ∷ rest) at there within in
    let slot_size = places pattern front (256 ∷ 47 ∷ slots parameters) token left inside in
    let slot = token + length front in
    let start = at + length front in
    let after_slot = past_bytes pattern front (256 ∷ 47 ∷ slots parameters) token left in
    let after_start = past_bytes path front (p ++ 47 ∷ rest) at there in
    let found = ap (λ (l : List ℕ). wild_from l (length path) token at) left ∙ wild_after front (47 ∷ slots parameters) (length path) token at bytes (omega (arith, size)) in
    let ended = inner_stop pattern path p rest (slots parameters) slot start after_slot (omega (arith, slot_size)) after_start free.0 in
    let part = part_from path p (47 ∷ rest) start after_start (omega (arith, size)) in
    let on : after_token slot ≡ slot + 1 = omega (arith, slot_size, small) in
    let stop_size = places path p (47 ∷ rest) start after_start (omega (arith, size)) in
    let others =
    walk_slots q parameters pattern text path (47 ∷ []) names (slot + 1) (start + length p) (past_bytes pattern (256 ∷ []) (47 ∷ slots parameters) slot after_slot)
    (past_bytes path p (47 ∷ rest) start after_start) ((omega arith, tt)) free.1 (omega (arith, count)) (omega (arith, slot_size)) small (omega (arith, stop_size)) in
    one_step pattern text path name names token at slot start (start + length p) found ended
    ∙ ap (λ (r : List ℕ). r ∷ values_of (walk pattern text path names (after_token slot) (start + length p))) part
    ∙ ap (λ n. p ∷ values_of (walk pattern text path names n (start + length p))) on
    ∙ ap (λ (r : Row). p ∷ r) others
