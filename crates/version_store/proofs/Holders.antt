-- What a place knows after two steps in a row, or after a step and an exchange.
use Rattle.std.proofs.Common.{◌≡◌, ◌<◌, ◌+◌, ◌*◌, ℕ, zero, suc, List, [], ◌∷◌, ◌++◌, length, Some, None, refl, sym, ap, ◌∙◌, subst, arith}
use Rattle.std.specs.Arc.{arc_value}
use Rattle.std.specs.declared.alloc.Global.{Global}
use Rattle.std.specs.declared.sync.Arc.{Arc}
use mathlib.Core.Option as maybe
use Rattle.atomic_table.specs.Table.{step, Allows, rest}
use Rattle.version_store.specs.declared.known.Known.{Known}
use Rattle.version_store.specs.Rule.{Slot, Kept, AreOwners, filling, with_version}
use Rattle.version_store.specs.Steps.{Holder, lays}
use Rattle.version_store.proofs.RuleKept.{lays_kept}

module _ {V : Type 0} where
  -- the press with its slot, which it has filled
  abbrev pub with_slot : Known V → Arc V Global → Holder V
  with_slot d owner = (record d { out = 1 }, (d.filled, Some owner) ∷ [])

  pub slot_filled : (d : Known V) (m n : Holder V) (slot : ℕ) (owner : Arc V Global) (value : Slot V) (before : List (ℕ × Slot V))
      → m ≡ (record d { out = 1 }, (d.filled, value) ∷ before) → before ≡ [] → n ≡ (m.0, (slot, Some owner) ∷ rest m.1) → slot ≡ d.filled → n ≡ with_slot d owner
  slot_filled d m n slot owner value before e none e' same =
      e' ∙ ap (λ (h : Holder V). (h.0, (slot, Some owner) ∷ rest h.1)) e ∙ ap (λ (l : List (ℕ × Slot V)). (record d { out = 1 }, (slot, Some owner) ∷ l)) none
      ∙ ap (λ (k : ℕ). (record d { out = 1 }, (k, Some owner) ∷ [])) same

  pub lays_slot : (number : V → ℕ) (limit slots id : ℕ) (d : Known V) (owner : Arc V Global) (n : Holder V) → n ≡ with_slot d owner → d.role ≡ 1 → d.filled < 16 * limit
      → (16 * length d.list < d.filled → d.next ≡ arc_value owner ∷ [])
      → Allows (Kept number limit) slots id n 0 (λ k. k) (lays (step slots 0 0 0 maybe.none) n)
  lays_slot number limit slots id d owner n e role low next =
      subst (λ (m : Holder V). Allows (Kept number limit) slots id m 0 (λ k. k) (lays (step slots 0 0 0 maybe.none) m)) (sym e)
      (lays_kept number limit slots id (record d { out = 1 }) owner [] role refl low next)

  owner_of : Arc V Global → List (ℕ × Slot V) → Arc V Global
  owner_of d [] = d
  owner_of d (x ∷ xs) = elim x.1 [ None ↦ d | Some owner ↦ owner ]

  pub slot_laid : (d : Known V) (m n : Holder V) (owner found : Arc V Global) (slot : ℕ) → m ≡ with_slot d owner → d.out ≡ 0 → slot ≡ d.filled → m.1 ≡ (m.0.filled, Some found) ∷ rest m.1
      → n ≡ (record m.0 { filled = m.0.filled + 1; out = 0; next = arc_value found ∷ [] }, rest m.1) → n ≡ (filling d (slot + 1) (arc_value owner), [])
  unfolding owner_of
  slot_laid d m n owner found slot e none same here e' =
      let one : found ≡ owner = ap (owner_of found) (sym here ∙ ap (λ (h : Holder V). h.1) e) in
      e' ∙ ap (λ (h : Holder V). (record h.0 { filled = h.0.filled + 1; out = 0; next = arc_value found ∷ [] }, rest h.1)) e
      ∙ ap (λ (a : Arc V Global). (record d { filled = d.filled + 1; out = 0; next = arc_value a ∷ [] }, [])) one
      ∙ ap (λ (k : ℕ). (record d { filled = d.filled + 1; out = k; next = arc_value owner ∷ [] }, [])) (sym none)
      ∙ ap (λ (k : ℕ). (filling d (k + 1) (arc_value owner), [])) (sym same)

  pub raised_once : (m n : Holder V) (x : V) (count : ℕ) → n ≡ (record m.0 { filled = 16 * count; list = m.0.list ++ m.0.next; numbers = m.0.numbers ++ length m.0.list ∷ []; publishers = m.0.publishers ++ m.0.publisher ∷ [] }, m.1)
      → m.0.next ≡ x ∷ [] → m.1 ≡ []
      → n ≡ (with_version m.0 count x, [])
  raised_once m n x count e next none =
      e ∙ ap (λ (l : List V). (record m.0 { filled = 16 * count; list = m.0.list ++ l; numbers = m.0.numbers ++ length m.0.list ∷ []; publishers = m.0.publishers ++ m.0.publisher ∷ [] }, m.1)) next
      ∙ ap (λ (l : List (ℕ × Slot V)). (with_version m.0 count x, l)) none

  -- ---- slot after slot

  -- the press has filled the slots from the first one up to this one with the version
  pub record IsFilling (d : Known V) (first slot : ℕ) (x : V) (m : Holder V) : Type 0 where
    pub same : m ≡ (record d { filled = slot; next = m.0.next }, [])
    pub next : first < slot → m.0.next ≡ x ∷ []

  pub filling_none : (m : Holder V) (first : ℕ) (x : V) → m.1 ≡ [] → m.0.filled ≡ first → IsFilling m.0 first first x m
  filling_none m first x none here = record {
    same = ap (λ (l : List (ℕ × Slot V)). (m.0, l)) none ∙ ap (λ (k : ℕ). (record m.0 { filled = k }, [])) here;
    next = λ l. absurd (omega arith);
  }

  pub filling_more : (d : Known V) (first slot : ℕ) (x y : V) (m n : Holder V) → IsFilling d first slot x m → n ≡ (filling m.0 (slot + 1) y, []) → y ≡ x → IsFilling d first (slot + 1) x n
  filling_more d first slot x y m n f e is =
      let whole : n ≡ (filling d (slot + 1) x, []) = e ∙ ap (λ (h : Holder V). (filling h.0 (slot + 1) y, [])) f.same ∙ ap (λ (z : V). (filling d (slot + 1) z, [])) is in record {
        same = whole ∙ ap (λ (l : List V). (record d { filled = slot + 1; next = l }, [])) (sym (ap (λ (h : Holder V). h.0.next) whole));
        next = λ _. ap (λ (h : Holder V). h.0.next) whole;
      }

  pub filling_all : (d : Known V) (first slot : ℕ) (x : V) (m : Holder V) → IsFilling d first slot x m → first < slot → m ≡ (filling d slot x, [])
  filling_all d first slot x m f some = f.same ∙ ap (λ (l : List V). (record d { filled = slot; next = l }, [])) (f.next some)

  -- ---- owners of one version

  pub owners_first : (x : V) (owner : Arc V Global) (left : List (Arc V Global)) → AreOwners x (owner ∷ left) → arc_value owner ≡ x
  owners_first x owner left all = all zero owner (omega arith)

  pub owners_rest : (x : V) (owner : Arc V Global) (left : List (Arc V Global)) → AreOwners x (owner ∷ left) → AreOwners x left
  owners_rest x owner left all k d l = all (suc k) d (omega arith)
