-- Texts with commas between them, one more at a time, and the text of a list of values.
use Rattle.std.proofs.Common.{◌≡◌, ℕ, zero, suc, ◌+◌, ◌<◌, ◌≤◌, nat_lt, Bool, true, false, List, [], ◌∷◌, ◌++◌, length, map, take, get_or, refl, sym, ap, ◌∙◌, append_assoc, arith}
use Rattle.std.proofs.lemmas.Bool.Decides.{nat_tests}
use Rattle.std.proofs.lemmas.List.{take_more, map-append, take_all, append-nil}
use Rattle.serde_json.specs.Data.{Data}
use Rattle.serde_json.specs.View.{items_of}
use Rattle.serde_json.specs.Written.{comma_if, compact_text, items_text}
use Rattle.topo_write.specs.Topology.{list}
use Rattle.topo_write.specs.Writing.{with_commas}

-- something stands before the last of these
abbrev is_later : Bool → List (List ℕ) → Bool
is_later b [] = b
is_later b (x ∷ xs) = true

commas_more : (b : Bool) (xs : List (List ℕ)) (y : List ℕ) → with_commas b (xs ++ y ∷ []) ≡ with_commas b xs ++ (comma_if (is_later b xs) ++ y)
commas_more b [] y = ap (λ zs. comma_if b ++ zs) (append-nil y)
commas_more b (x ∷ xs) y =
    ap (λ zs. comma_if b ++ (x ++ zs)) (commas_more true xs y ∙ ap (λ c. with_commas true xs ++ (comma_if c ++ y)) (always xs))
    ∙ sym (append_assoc (comma_if b) (x ++ with_commas true xs) (comma_if true ++ y) ∙ ap (λ zs. comma_if b ++ zs) (append_assoc x (with_commas true xs) (comma_if true ++ y)))
  where
    always : (zs : List (List ℕ)) → is_later true zs ≡ true
    always [] = refl
    always (z ∷ zs) = refl

-- the text of a list of values
pub list_text : (ds : List Data) → compact_text (list ds) ≡ (91 ∷ with_commas false (map compact_text ds)) ++ 93 ∷ []
list_text ds = ap (λ zs. 91 ∷ zs) (items false ds)
  where
    items : (b : Bool) (ds : List Data) → items_text b (items_of ds) ≡ with_commas b (map compact_text ds) ++ 93 ∷ []
    items b [] = refl
    items b (d ∷ ds) =
        ap (λ zs. comma_if b ++ (compact_text d ++ zs)) (items true ds)
        ∙ sym (append_assoc (comma_if b) (compact_text d ++ with_commas true (map compact_text ds)) (93 ∷ []) ∙ ap (λ zs. comma_if b ++ zs) (append_assoc (compact_text d) (with_commas true (map compact_text ds)) (93 ∷ [])))

-- ---- a loop that writes the members of a list

positive : (i : ℕ) → nat_lt 0 (suc i) ≡ true
positive i = grind (arith, nat_tests)

-- what is written after the first i members
abbrev pub written : List ℕ → List Data → ℕ → List ℕ
written old ds i = old ++ 91 ∷ with_commas false (map compact_text (take i ds))

-- one more: a comma, and the member
pub written_more : (old out comma new : List ℕ) (ds : List Data) (i : ℕ) (d : Data) → i < length ds → out ≡ written old ds i → comma ≡ out ++ comma_if (nat_lt 0 i) → new ≡ comma ++ compact_text (get_or ds i d)
    → new ≡ written old ds (i + 1)
written_more old out comma new ds i d l so_far put member =
    let front = with_commas false (map compact_text (take i ds)) in
    let text = compact_text (get_or ds i d) in
    let more : with_commas false (map compact_text (take (i + 1) ds)) ≡ front ++ (comma_if (nat_lt 0 i) ++ text) =
    ap (λ es. with_commas false (map compact_text es)) (take_more ds i d l)
    ∙ ap (with_commas false) (map-append compact_text (take i ds) (get_or ds i d ∷ []))
    ∙ commas_more false (map compact_text (take i ds)) text
    ∙ ap (λ b. front ++ (comma_if b ++ text)) (later ds i l) in
    member ∙ ap (λ zs. zs ++ text) (put ∙ ap (λ zs. zs ++ comma_if (nat_lt 0 i)) so_far)
    ∙ ap (λ zs. zs ++ text) (append_assoc old (91 ∷ front) (comma_if (nat_lt 0 i)))
    ∙ append_assoc old (91 ∷ (front ++ comma_if (nat_lt 0 i))) text
    ∙ ap (λ zs. old ++ 91 ∷ zs) (append_assoc front (comma_if (nat_lt 0 i)) text ∙ sym more)
  where
    later : (ds : List Data) (i : ℕ) → i < length ds → is_later false (map compact_text (take i ds)) ≡ nat_lt 0 i
    later ds zero l = refl
    later [] (suc i) l = absurd (omega arith)
    later (e ∷ ds) (suc i) l = sym (positive i)

-- and the end
pub written_all : (old out new : List ℕ) (ds : List Data) (i : ℕ) → length ds ≤ i → out ≡ written old ds i → new ≡ out ++ 93 ∷ [] → new ≡ old ++ compact_text (list ds)
written_all old out new ds i l so_far end =
    end ∙ ap (λ zs. zs ++ 93 ∷ []) (so_far ∙ ap (λ es. old ++ 91 ∷ with_commas false (map compact_text es)) (take_all i ds l))
    ∙ append_assoc old (91 ∷ with_commas false (map compact_text ds)) (93 ∷ [])
    ∙ ap (λ zs. old ++ zs) (sym (list_text ds))

pub written_none : (old new : List ℕ) (ds : List Data) → new ≡ old ++ 91 ∷ [] → new ≡ written old ds 0
written_none old new ds e = e
