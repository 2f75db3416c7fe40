-- The edges at keys that ascend are those that pass a test, where all of these have one of the keys.
use Rattle.std.proofs.Common.{◌≡◌, inl, inr, ℕ, zero, suc, ◌+◌, ◌<◌, ◌≤◌, Bool, true, List, [], ◌∷◌, ◌++◌, filter, length, get_or, take, All, AllPairs, Contains, Option, refl, sym, ap, ap₂, ◌∙◌, arith}
use Rattle.std.specs.Prelude.{option_to_list}
use Rattle.std.specs.List.{flat_map}
use Rattle.std.specs.List.Sorted.{IsNonDecreasing}
use Rattle.std.proofs.lemmas.Bool.{cases_eq}
use Rattle.std.proofs.lemmas.Grind.{flat_map-append}
use Rattle.std.proofs.lemmas.List.{append-nil, take_all, take_more}
use Rattle.tgap_model.specs.declared.slice.Edge.{Edge}
use Rattle.grid_index.specs.Keyed.{edge_in, edges_in, AreAtKeys}
use Rattle.tgap_build.proofs.EdgeTables.{found_next, found_all}

-- keys that ascend do not fall
pub not_falling : (keys : List ℕ) → AllPairs (λ (j k : ℕ). j < k) keys → IsNonDecreasing keys
not_falling keys up i j d l s = elim (cases_eq i j) [
  | inl e ↦ let same = ap (λ (n : ℕ). get_or keys n d) e in omega (arith, same)
  | inr ne ↦ let less = up i j d (omega (arith, l, ne)) s in omega (arith, less)
]

module _ (p : Edge → Bool) (places : List (Option Edge)) (keyed : AreAtKeys places) (keys : List ℕ) (up : AllPairs (λ (j k : ℕ). j < k) keys)
    (listed : All (λ e. p e ≡ true → Contains keys e.key) (edges_in places)) where
  -- the first place behind the first n keys
  abbrev behind : ℕ → ℕ
  behind zero = 0
  behind (suc i) = get_or keys i 0 + 1

  passed : (n : ℕ) → n ≤ length keys → (j : ℕ) → j < n → get_or keys j 0 < behind n
  passed zero l j s = absurd (omega (arith, s))
  passed (suc i) l j s = let le = not_falling keys up j i 0 (omega (arith, s)) (omega (arith, l)) in omega (arith, le)

  ahead : (i : ℕ) → i < length keys → behind i ≤ get_or keys i 0
  ahead zero l = omega arith
  ahead (suc i) l = let less = up i (suc i) 0 (omega arith) l in omega (arith, less)

  abbrev found : ℕ → List Edge
  found k = filter p (option_to_list (edge_in places k))

  seen : (n : ℕ) → n ≤ length keys → flat_map found (take n keys) ≡ filter p (edges_in (take (behind n) places))
  seen zero l = refl
  seen (suc i) l =
      let within : i < length keys = omega (arith, l) in
      let e : suc i ≡ i + 1 = omega arith in
      ap (λ (m : ℕ). flat_map found (take m keys)) e
      ∙ ap (flat_map found) (take_more keys i 0 within)
      ∙ flat_map-append found (take i keys) (get_or keys i 0 ∷ [])
      ∙ ap₂ (λ (es fs : List Edge). es ++ fs) (seen i (omega (arith, l))) (append-nil (found (get_or keys i 0)))
      ∙ sym (found_next p places keys keyed (not_falling keys up) listed i (behind i) (passed i (omega (arith, l))) within (ahead i within))

  pub covered : flat_map (λ k. filter p (option_to_list (edge_in places k))) keys ≡ filter p (edges_in places)
  covered =
      ap (flat_map found) (sym (take_all (length keys) keys (omega arith)))
      ∙ seen (length keys) (omega arith)
      ∙ found_all p places keys keyed (not_falling keys up) listed (length keys) (behind (length keys)) (passed (length keys) (omega arith)) (omega arith)
