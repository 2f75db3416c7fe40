-- The parts of a text between slashes.
use Rattle.std.proofs.Common.{◌≡◌, ℕ, ◌+◌, ◌<◌, ◌==◌, Bool, true, false, cond, List, [], ◌∷◌, ◌++◌, length, drop, get_or, refl, sym, ap, ◌∙◌, subst, arith, length-append, IsUtf8}
use Rattle.std.specs.List.{join_with_byte, slice_split}
use Rattle.std.proofs.Math.Seq.{drop-append_seam, take-append_seam, get_or-append_seam}
use Rattle.std.proofs.lemmas.List.{drop-drop}
use Rattle.std.proofs.lemmas.Str.{IsUtf8-take, IsUtf8-drop, IsCharBoundary-before_ascii, IsCharBoundary-after_ascii}
use Rattle.matchit.specs.Seek.{has_slash}
use Rattle.line_forms.specs.Words.{Row}
use Rattle.http_face.specs.Parameters.{AreTexts}

-- ---- they are UTF-8

-- what stands on each side of a slash is UTF-8
beside_slash : (p rest : List ℕ) → IsUtf8 (p ++ 47 ∷ rest) → IsUtf8 p × IsUtf8 rest
beside_slash p rest text =
    let inside : length p < length (p ++ 47 ∷ rest) = omega (arith, length-append p (47 ∷ rest)) in
    let ascii : get_or (p ++ 47 ∷ rest) (length p) 0 < 128 = rw (get_or-append_seam p 47 rest 0) (omega arith) in
    let front = IsUtf8-take (p ++ 47 ∷ rest) (length p) text (IsCharBoundary-before_ascii (p ++ 47 ∷ rest) (length p) inside ascii) in
    let back = IsUtf8-drop (p ++ 47 ∷ rest) (length p + 1) text (IsCharBoundary-after_ascii (p ++ 47 ∷ rest) (length p) text inside ascii) in
    let after : drop (length p + 1) (p ++ 47 ∷ rest) ≡ rest = sym (drop-drop 1 (length p) (p ++ 47 ∷ rest)) ∙ ap (drop 1) (drop-append_seam p (47 ∷ rest)) in
    (subst IsUtf8 (take-append_seam p (47 ∷ rest)) front, subst IsUtf8 after back)

-- the parts of a text are UTF-8
pub joined_texts : (parts : Row) → IsUtf8 (join_with_byte 47 parts) → AreTexts parts
joined_texts [] text = tt
joined_texts (p ∷ []) text = (text, tt)
joined_texts (p ∷ q ∷ parts) text =
    let sides = beside_slash p (join_with_byte 47 (q ∷ parts)) text in
    (sides.0, joined_texts (q ∷ parts) sides.1)

-- ---- they are found again

-- none of these has a slash
abbrev pub HaveNoSlash : Row → Type 0
HaveNoSlash [] = Unit {0}
HaveNoSlash (p ∷ parts) = (has_slash p ≡ false) × HaveNoSlash parts

abbrev segments : List ℕ → Row
segments path = slice_split (λ b. b == 47) path

-- a text with no slash is one part
one_part : (p : List ℕ) → has_slash p ≡ false → segments p ≡ p ∷ []
one_part [] free = refl
one_part (b ∷ p) free = by (one_part p) (b == 47) refl free
  where
    by : (has_slash p ≡ false → segments p ≡ p ∷ []) → (v : Bool) → (b == 47) ≡ v → cond v true (has_slash p) ≡ false → segments (b ∷ p) ≡ (b ∷ p) ∷ []
    by next true e k = absurd cc
    by next false e k = rw (e, next k) refl

-- what has no slash is the part before the first one
first_part : (p rest : List ℕ) → has_slash p ≡ false → segments (p ++ 47 ∷ rest) ≡ p ∷ segments rest
first_part [] rest free = refl
first_part (b ∷ p) rest free = by (first_part p rest) (b == 47) refl free
  where
    by : (has_slash p ≡ false → segments (p ++ 47 ∷ rest) ≡ p ∷ segments rest) → (v : Bool) → (b == 47) ≡ v → cond v true (has_slash p) ≡ false
        → segments (b ∷ (p ++ 47 ∷ rest)) ≡ (b ∷ p) ∷ segments rest
    by next true e k = absurd cc
    by next false e k = rw (e, next k) refl

-- parts with slashes between them are found again
pub split_again : (p : List ℕ) (parts : Row) → HaveNoSlash (p ∷ parts) → segments (join_with_byte 47 (p ∷ parts)) ≡ p ∷ parts
split_again p [] free = one_part p free.0
split_again p (q ∷ parts) free =
    first_part p (join_with_byte 47 (q ∷ parts)) free.0 ∙ ap (λ (rest : Row). p ∷ rest) (split_again q parts free.1)
