-- The faces above the members of a list that changes: where they agreed, only above what comes, and above what stood below what comes or
-- goes, they may disagree. So the first place of these at which they do is the first of all.
use Rattle.std.proofs.Common.{◌≡◌, ◌≢◌, ◌⊎◌, inl, inr, ⊎_elim, ℕ, zero, suc, ◌+◌, ◌<◌, ◌≤◌, ◌==◌, Bool, true, false, cond, List, [], ◌∷◌, length, map, get_or, Contains, ℤ, Option, Some, None, refl, sym, ap, ◌∙◌, arith}
use Rattle.std.specs.List.{insert, remove}
use Rattle.std.proofs.lemmas.Bool.{and_parts, false_from_ne_true}
use Rattle.std.proofs.lemmas.Bool.Decides.{Decides-eqb}
use Rattle.tgap_model.specs.declared.fault.MapFault.{MapFault}
use Rattle.tgap_model.specs.declared.fault.MapFault.TheVariants.{StackDisagrees}
use Rattle.tgap_model.specs.Partition.{Sides, agree_from, stack_fault_from}
use Rattle.grid_geo.specs.Evidence.{face_reached, face_below}
use Rattle.planar_stack.specs.Sweep.{IsCovered, none, next}

module _ {A : Type 0} (faces : A → Sides) where
  -- ---- the faces at a place

  pub reached_below : (u : ℕ) (xs : List A) (k : ℕ) (d : A) → k < length xs → face_reached u (map faces xs) (suc k) ≡ (faces (get_or xs k d)).lower
  reached_below u [] k d short = absurd (omega arith)
  reached_below u (x ∷ xs) zero d short = refl
  reached_below u (x ∷ xs) (suc k) d short = reached_below (faces x).lower xs k d (omega arith)

  pub standing_at : (xs : List A) (k : ℕ) (d : A) → k < length xs → face_below (map faces xs) k ≡ (faces (get_or xs k d)).upper
  standing_at [] k d short = absurd (omega arith)
  standing_at (x ∷ xs) zero d short = refl
  standing_at (x ∷ xs) (suc k) d short = standing_at xs k d (omega arith)

  pub standing_past : (xs : List A) (k : ℕ) → length xs ≤ k → face_below (map faces xs) k ≡ 0
  standing_past [] k le = refl
  standing_past (x ∷ xs) zero le = absurd (omega arith)
  standing_past (x ∷ xs) (suc k) le = standing_past xs k (omega arith)

  -- ---- changes

  -- what is touched more is covered
  pub covered_more : (touched more : List A) → ((x : A) → Contains touched x → Contains more x) → (u : ℕ) (xs : List A) → IsCovered faces touched u xs → IsCovered faces more u xs
  covered_more touched more further u [] none = none
  covered_more touched more further u (x ∷ xs) (next here rest) =
      next (⊎_elim inl (λ c. inr (further x c)) here) (covered_more touched more further (faces x).lower xs rest)

  -- below a face that the first member has above it any other may be reached, and below any where it is touched
  touched_head : (touched : List A) (u v : ℕ) (xs : List A) → ((d : A) → 0 < length xs → ((faces (get_or xs 0 d)).upper ≡ v) ⊎ Contains touched (get_or xs 0 d))
      → IsCovered faces touched u xs → IsCovered faces touched v xs
  touched_head touched u v [] head none = none
  touched_head touched u v (x ∷ xs) head (next here rest) = next (head x (omega arith)) rest

  pub covered_insert : (touched : List A) (x : A) (u : ℕ) (xs : List A) (k : ℕ) → k ≤ length xs → ((faces x).upper ≡ face_reached u (map faces xs) k) ⊎ Contains touched x
      → ((d : A) → k < length xs → ((faces (get_or xs k d)).upper ≡ (faces x).lower) ⊎ Contains touched (get_or xs k d)) → IsCovered faces touched u xs → IsCovered faces touched u (insert xs k x)
  covered_insert touched x u xs zero le here below h = next here (touched_head touched u (faces x).lower xs below h)
  covered_insert touched x u [] (suc k) le here below h = absurd (omega arith)
  covered_insert touched x u (y ∷ xs) (suc k) le here below (next first rest) =
      next first (covered_insert touched x (faces y).lower xs k (omega arith) here (λ d l. below d (omega arith)) rest)

  pub covered_remove : (touched : List A) (u : ℕ) (xs : List A) (k : ℕ) → k < length xs
      → ((d : A) → suc k < length xs → ((faces (get_or xs (suc k) d)).upper ≡ face_reached u (map faces xs) k) ⊎ Contains touched (get_or xs (suc k) d))
      → IsCovered faces touched u xs → IsCovered faces touched u (remove xs k)
  covered_remove touched u [] k short below h = absurd (omega arith)
  covered_remove touched u (x ∷ xs) zero short below (next here rest) = touched_head touched (faces x).lower u xs (λ d l. below d (omega arith)) rest
  covered_remove touched u (x ∷ xs) (suc k) short below (next here rest) =
      next here (covered_remove touched (faces x).lower xs k (omega arith) (λ d l. below d (omega arith)) rest)

  -- ---- what is covered

  -- where all faces agree nothing has to be touched
  pub covered_from_agree : (u : ℕ) (xs : List A) → agree_from u (map faces xs) ≡ true → IsCovered faces [] u xs
  covered_from_agree u [] e = none
  covered_from_agree u (x ∷ xs) e =
      let parts = and_parts ((faces x).upper == u) (agree_from (faces x).lower (map faces xs)) e in
      next (inl ((Decides-eqb (faces x).upper u).0 parts.0)) (covered_from_agree (faces x).lower xs parts.1)

  pub covered_at : (touched : List A) (u : ℕ) (xs : List A) → IsCovered faces touched u xs → (k : ℕ) (d : A) → k < length xs
      → (face_reached u (map faces xs) k ≡ face_below (map faces xs) k) ⊎ Contains touched (get_or xs k d)
  covered_at touched u [] none k d short = absurd (omega arith)
  covered_at touched u (x ∷ xs) (next here rest) zero d short = ⊎_elim (λ e. inl (sym e)) inr here
  covered_at touched u (x ∷ xs) (next here rest) (suc k) d short = covered_at touched (faces x).lower xs rest k d (omega arith)

-- ---- the first place

-- the fault at a place, numbered from i on
abbrev fault_from : ℤ → ℕ → ℕ → List Sides → ℕ → Option MapFault
fault_from v i u ss place = cond (face_reached u ss place == face_below ss place) None (Some (StackDisagrees v (i + place) (face_reached u ss place) (face_below ss place)))

-- Where the faces agree at all higher places, and differ here or this place is below all, the fault of the stack is that of the place.
pub fault_from_place : (v : ℤ) (i u : ℕ) (ss : List Sides) (place : ℕ) → place ≤ length ss → ((k : ℕ) → k < place → face_reached u ss k ≡ face_below ss k)
    → (place < length ss → face_reached u ss place ≢ face_below ss place) → stack_fault_from v i u ss ≡ fault_from v i u ss place
fault_from_place v i u [] zero le agree differ = ap (λ (k : ℕ). cond (u == 0) None (Some (StackDisagrees v k u 0))) (omega arith)
fault_from_place v i u [] (suc place) le agree differ = absurd (omega arith)
fault_from_place v i u (s ∷ ss) zero le agree differ =
    let apart = differ (omega arith) in
    ap (λ (b : Bool). elim b [ true ↦ stack_fault_from v (i + 1) s.lower ss | false ↦ Some (StackDisagrees v i u s.upper) ]) (false_from_ne_true (s.upper == u) (λ e. apart (sym ((Decides-eqb s.upper u).0 e))))
    ∙ ap (λ (k : ℕ). Some (StackDisagrees v k u s.upper)) (omega arith)
    ∙ sym (ap (λ (b : Bool). cond b None (Some (StackDisagrees v (i + 0) u s.upper))) (false_from_ne_true (u == s.upper) (λ e. apart ((Decides-eqb u s.upper).0 e))))
fault_from_place v i u (s ∷ ss) (suc place) le agree differ =
    ap (λ (b : Bool). elim b [ true ↦ stack_fault_from v (i + 1) s.lower ss | false ↦ Some (StackDisagrees v i u s.upper) ]) ((Decides-eqb s.upper u).1 (sym (agree 0 (omega arith))))
    ∙ fault_from_place v (i + 1) s.lower ss place (omega arith) (λ k l. agree (suc k) (omega (arith, l))) (λ l. differ (omega (arith, l)))
    ∙ ap (λ (k : ℕ). cond (face_reached s.lower ss place == face_below ss place) None (Some (StackDisagrees v k (face_reached s.lower ss place) (face_below ss place)))) (omega arith)
