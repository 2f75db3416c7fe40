-- Texts: numbers, words and lines, and the texts that the program puts out.
use Rattle.std.specs.Prelude.{ℕ, ◌==◌, ◌&&◌, ℤ, pos, neg_ℤ, List, [], ◌∷◌, ◌++◌, map, flat_map, length, decimal, codes, bytes_eq, Option, Some, None, if◌then◌else◌}
use Rattle.std.specs.Fmt.{signed_decimal}
use Rattle.std.specs.Str.Parse.{digits_value}
use Rattle.std.specs.List.{join_with_byte, slice_split}
use Rattle.tgap_model.specs.declared.border.BorderRow.{BorderRow}
use Rattle.tgap_model.specs.declared.fault.MapFault.{MapFault}
use Rattle.tgap_model.specs.declared.fault.MapFault.TheVariants.{NotJson, Shape, NoObject, ManyObjects, NotWhole, OutOfRange, ArcShort, ArcIndex, Limit, RingOpen, RingFlat, SideTaken, SameSides, Meets, NodeDisagrees, StackDisagrees, BadLine, BadRules, InputLong}
use Rattle.tgap_model.specs.Base.{BaseMap, within, count_points}
use Rattle.tgap_model.specs.Limits.{limit_word}

-- the number that a word would spell: decimal digits, with a minus before them or not
abbrev pub word_value : List ℕ → ℤ
word_value [] = pos 0
word_value (b ∷ bs) = if b == 45 then neg_ℤ (pos (digits_value 10 bs)) else pos (digits_value 10 (b ∷ bs))

-- The number from least to most that a word spells in canonical decimal: the word is just what is written for that number, so
-- that +1, 01 and -0 spell none.
unfoldable pub number_of : ℤ → ℤ → List ℕ → Option ℤ
number_of least most word =
    if bytes_eq word (signed_decimal (word_value word)) && within least most (word_value word) then Some (word_value word) else None

-- a line: its words with a space between each two, and a line feed
abbrev pub line : List (List ℕ) → List ℕ
line words = join_with_byte 32 words ++ 10 ∷ []

-- the lines of these rows of words
abbrev pub lines : List (List (List ℕ)) → List ℕ
lines rows = flat_map line rows

-- The rows of words of a text: what stands between line feeds, each cut at its spaces. After a last line feed there is one
-- more row, of one empty word.
abbrev pub rows_of : List ℕ → List (List (List ℕ))
rows_of bytes = map (slice_split (λ b. b == 32)) (slice_split (λ b. b == 10) bytes)

-- ---- the borders after k steps

abbrev pub border_words : BorderRow → List (List ℕ)
border_words r = codes "border" ∷ decimal r.arc ∷ decimal r.left ∷ decimal r.right ∷ []

abbrev pub borders_text : ℕ → List BorderRow → List ℕ
borders_text k rows = line (codes "borders" ∷ decimal k ∷ []) ++ lines (map border_words rows) ++ line (codes "end" ∷ [])

-- ---- what is told of a map that is not at fault

-- a base map without a fault, by its numbers of faces, arcs and points
abbrev pub ok_text : BaseMap → List ℕ
ok_text m =
    line (codes "ok" ∷ codes "faces" ∷ decimal (length m.classes) ∷ codes "arcs" ∷ decimal (length m.arcs)
    ∷ codes "points" ∷ decimal (count_points m.arcs) ∷ [])

-- the step that is asked for is above the last one, which is this
abbrev pub step_too_high_text : ℕ → List ℕ
step_too_high_text steps = line (codes "step" ∷ codes "too" ∷ codes "high" ∷ decimal steps ∷ [])

-- ---- why a map is refused

-- the fault of this number and name, with what shows it
abbrev pub refused_words : List ℕ → List ℕ → List (List ℕ) → List (List ℕ)
refused_words number name values = codes "refused" ∷ number ∷ name ∷ values

abbrev pub fault_words : MapFault → List (List ℕ)
fault_words NotJson = refused_words (codes "1") (codes "not-json") []
fault_words (Shape place at) = refused_words (codes "2") (codes "shape") (decimal place ∷ decimal at ∷ [])
fault_words NoObject = refused_words (codes "3") (codes "no-object") []
fault_words (ManyObjects count) = refused_words (codes "4") (codes "many-objects") (decimal count ∷ [])
fault_words (NotWhole arc position) = refused_words (codes "5") (codes "not-whole") (decimal arc ∷ decimal position ∷ [])
fault_words (OutOfRange arc position) = refused_words (codes "6") (codes "out-of-range") (decimal arc ∷ decimal position ∷ [])
fault_words (ArcShort arc) = refused_words (codes "7") (codes "arc-short") (decimal arc ∷ [])
fault_words (ArcIndex ring place index) = refused_words (codes "8") (codes "arc-index") (decimal ring ∷ decimal place ∷ signed_decimal index ∷ [])
fault_words (Limit which count) = refused_words (codes "9") (codes "limit") (limit_word which ∷ decimal count ∷ [])
fault_words (RingOpen ring place) = refused_words (codes "11") (codes "ring-open") (decimal ring ∷ decimal place ∷ [])
fault_words (RingFlat ring) = refused_words (codes "12") (codes "ring-flat") (decimal ring ∷ [])
fault_words (SideTaken arc side first second) =
    refused_words (codes "13") (codes "side-taken") (decimal arc ∷ decimal side ∷ decimal first ∷ decimal second ∷ [])
fault_words (SameSides arc face) = refused_words (codes "14") (codes "same-sides") (decimal arc ∷ decimal face ∷ [])
fault_words (Meets i j at) =
    refused_words (codes "15") (codes "meets") (decimal i ∷ decimal j ∷ signed_decimal at.nx ∷ signed_decimal at.ny ∷ signed_decimal at.d ∷ [])
fault_words (NodeDisagrees node spoke next left right) =
    refused_words (codes "16") (codes "node") (signed_decimal node.x ∷ signed_decimal node.y ∷ decimal spoke ∷ decimal next ∷ decimal left ∷ decimal right ∷ [])
fault_words (StackDisagrees at place upper lower) =
    refused_words (codes "17") (codes "stack") (signed_decimal at ∷ decimal place ∷ decimal upper ∷ decimal lower ∷ [])
fault_words (BadLine n) = refused_words (codes "18") (codes "bad-line") (decimal n ∷ [])
fault_words (BadRules place) = refused_words (codes "19") (codes "bad-rules") (decimal place ∷ [])
fault_words (InputLong max) = refused_words (codes "20") (codes "input-long") (decimal max ∷ [])

-- the line of a fault
abbrev pub fault_text : MapFault → List ℕ
fault_text fault = line (fault_words fault)
