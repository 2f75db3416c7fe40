-- A label for a face that had none, and a label that passes on to another face.
use Rattle.std.proofs.Common.{◌≡◌, inl, inr, ℕ, ◌<◌, Bool, cond, List, [], ◌∷◌, ◌++◌, length, get_or, Option, Some, None, sym, ap, ◌∙◌, length-append, arith}
use Rattle.std.specs.Prelude.{slice_set, unwrap_or}
use Rattle.std.proofs.Math.ListN.{get_or-append}
use Rattle.std.proofs.Math.Seq.{get_or-append_seam}
use Rattle.std.proofs.lemmas.Bool.{cases_eq, eq-eqb, ne_eqb}
use Rattle.std.proofs.lemmas.Grind.{common_steps}
use Rattle.std.proofs.lemmas.List.{get_or-set_same, get_or-set_other}
use Rattle.tgap_model.specs.Records.{in_place_of}

-- the label of a face, where it has one, is one that stands for the face
abbrev pub Exact : List ℕ → (ℕ → Option ℕ) → Type 0
Exact faces label = (n i : ℕ) → label n ≡ Some i → (i < length faces) × (get_or faces i 0 ≡ n)

abbrev pub Has : List ℕ → (ℕ → Option ℕ) → ℕ → Type 0
Has faces label i = (i < length faces) × (label (get_or faces i 0) ≡ Some i)

abbrev pub Changes : (ℕ → ℕ) → List ℕ → (ℕ → Option ℕ) → List ℕ → (ℕ → Option ℕ) → Type 0
Changes change faces label later relabel = (i : ℕ) → Has faces label i → Has later relabel i × (get_or later i 0 ≡ change (get_or faces i 0))

pub some_is : (a b : ℕ) → Some a ≡ Some b → a ≡ b
some_is a b e = ap (λ (o : Option ℕ). unwrap_or o 0) e

pub not_none : (o : Option ℕ) (a : ℕ) → o ≡ Some a → o ≡ None → ⊥
not_none o a e f = none_some a (sym f ∙ e)
  where
    none_some : (b : ℕ) → None ≡ Some b → ⊥
    none_some b g = cc

pub in_place : (made winner n : ℕ) → n ≡ made → in_place_of made winner n ≡ winner
in_place made winner n same = ap (λ (b : Bool). cond b winner n) (eq-eqb n made same)

pub not_in_place : (made winner n : ℕ) → (n ≡ made → ⊥) → in_place_of made winner n ≡ n
not_in_place made winner n ne = ap (λ (b : Bool). cond b winner n) (ne_eqb n made ne)

-- a label that stands for a face that has one
pub is_label : (faces : List ℕ) (label : ℕ → Option ℕ) (n i : ℕ) → Exact faces label → label n ≡ Some i → Has faces label i
is_label faces label n i exact is = let e = exact n i is in (e.0, ap label e.1 ∙ is)

-- a face gets a label
module _ (faces : List ℕ) (label relabel : ℕ → Option ℕ) (n : ℕ) (exact : Exact faces label) (new : label n ≡ None)
    (own : relabel n ≡ Some (length faces)) (others : (q : ℕ) → (q ≡ n → ⊥) → relabel q ≡ label q) where
  longer : (i : ℕ) → i < length faces → i < length (faces ++ n ∷ [])
  longer i l = let e = length-append faces (n ∷ []) in omega (arith, e, l)

  pub grown-exact : Exact (faces ++ n ∷ []) relabel
  grown-exact m i is = elim (cases_eq m n) [
    | inl same ↦
        let at : i ≡ length faces = some_is i (length faces) (sym is ∙ ap relabel same ∙ own) in
        let e = length-append faces (n ∷ []) in
        (omega (arith, at, e), ap (λ (j : ℕ). get_or (faces ++ n ∷ []) j 0) at ∙ get_or-append_seam faces n [] 0 ∙ sym same)
    | inr ne ↦
        let old = exact m i (sym (others m ne) ∙ is) in
        (longer i old.0, get_or-append faces (n ∷ []) 0 i old.0 ∙ old.1)
  ]

  pub grown-kept : Changes (λ m. m) faces label (faces ++ n ∷ []) relabel
  grown-kept i has =
      let same = get_or-append faces (n ∷ []) 0 i has.0 in
      ((longer i has.0, ap relabel same ∙ others (get_or faces i 0) (λ e. not_none (label (get_or faces i 0)) i has.1 (ap label e ∙ new)) ∙ has.1), same)

  pub grown-own : Has (faces ++ n ∷ []) relabel (length faces)
  grown-own = is_label (faces ++ n ∷ []) relabel n (length faces) grown-exact own

-- the label of a face passes on to another, which has none
module _ (faces : List ℕ) (label given relabel : ℕ → Option ℕ) (at made winner : ℕ) (exact : Exact faces label) (is_made : label made ≡ Some at) (free : label winner ≡ None)
    (given_own : given winner ≡ Some at) (given_others : (q : ℕ) → (q ≡ winner → ⊥) → given q ≡ label q)
    (gone : relabel made ≡ None) (others : (q : ℕ) → (q ≡ made → ⊥) → relabel q ≡ given q) where
  differ : winner ≡ made → ⊥
  differ e = not_none (label winner) at (ap label e ∙ is_made) free

  to_winner : relabel winner ≡ Some at
  to_winner = others winner differ ∙ given_own

  else_same : (q : ℕ) → (q ≡ made → ⊥) → (q ≡ winner → ⊥) → relabel q ≡ label q
  else_same q nm nw = others q nm ∙ given_others q nw

  set_length : length (slice_set faces at winner) ≡ length faces
  set_length = grind (arith, common_steps)

  pub passed-exact : Exact (slice_set faces at winner) relabel
  passed-exact m i is = elim (cases_eq m made) [
    | inl same ↦ absurd (not_none (relabel made) i (ap relabel (sym same) ∙ is) gone)
    | inr nm ↦ elim (cases_eq m winner) [
      | inl same ↦
          let here : i ≡ at = some_is i at (sym is ∙ ap relabel same ∙ to_winner) in
          let old = exact made at is_made in
          (omega (arith, here, old.0, set_length), ap (λ (j : ℕ). get_or (slice_set faces at winner) j 0) here ∙ get_or-set_same faces at winner 0 old.0 ∙ sym same)
      | inr nw ↦
          let old = exact m i (sym (else_same m nm nw) ∙ is) in
          let apart : i ≡ at → ⊥ = λ e. nm (sym old.1 ∙ ap (λ (j : ℕ). get_or faces j 0) e ∙ (exact made at is_made).1) in
          (omega (arith, old.0, set_length), get_or-set_other faces at i winner 0 apart ∙ old.1)
    ]
  ]

  pub passed-changes : Changes (in_place_of made winner) faces label (slice_set faces at winner) relabel
  passed-changes i has = elim (cases_eq i at) [
    | inl same ↦
        let old = exact made at is_made in
        let face : get_or (slice_set faces at winner) i 0 ≡ winner = ap (λ (j : ℕ). get_or (slice_set faces at winner) j 0) same ∙ get_or-set_same faces at winner 0 old.0 in (
          (omega (arith, has.0, set_length), ap relabel face ∙ to_winner ∙ ap Some (sym same)),
          face ∙ sym (in_place made winner (get_or faces i 0) (ap (λ (j : ℕ). get_or faces j 0) same ∙ old.1)),
        )
    | inr ne ↦
        let m = get_or faces i 0 in
        let face : get_or (slice_set faces at winner) i 0 ≡ m = get_or-set_other faces at i winner 0 ne in
        let nm : m ≡ made → ⊥ = λ e. ne (some_is i at (sym has.1 ∙ ap label e ∙ is_made)) in
        let nw : m ≡ winner → ⊥ = λ e. not_none (label m) i has.1 (ap label e ∙ free) in
        ((omega (arith, has.0, set_length), ap relabel face ∙ else_same m nm nw ∙ has.1), face ∙ sym (not_in_place made winner m nm))
  ]
