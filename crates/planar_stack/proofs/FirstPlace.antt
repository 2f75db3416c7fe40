-- The search for the first place of the touched members of a stack at which the faces differ.
use Rattle.std.proofs.Common.{◌≡◌, ◌≢◌, ⊎_elim, ℕ, suc, ◌+◌, ◌-◌, ◌<◌, ◌≤◌, ◌==◌, Bool, true, false, cond, List, [], ◌∷◌, ◌++◌, length, map, get_or, ℤ, Option, Some, None, refl, sym, ap, ◌∙◌, arith}
use Rattle.std.specs.Option.{option_map, is_some}
use Rattle.std.proofs.lemmas.Bool.Decides.{Decides-eqb}
use Rattle.std.proofs.lemmas.List.{length-map}
use Rattle.std.proofs.lemmas.List.Elements.{Contains-push_cases}
use Rattle.tgap_model.specs.declared.fault.MapFault.TheVariants.{StackDisagrees}
use Rattle.tgap_model.specs.Partition.{Sides, stack_fault_from}
use Rattle.grid_geo.specs.Evidence.{face_above, face_below}
use Rattle.planar_stack.specs.declared.gap.StackGap.{StackGap}
use Rattle.planar_stack.specs.Sweep.{disagrees, fault_at, IsCovered, IsFirstOf}
use Rattle.planar_stack.proofs.Seams.{reached_below, standing_at, covered_at, fault_from_place}

-- ---- at one place

pub differ_from_gap : (v : ℤ) (ss : List Sides) (k : ℕ) (gap : Option StackGap) → is_some gap ≡ true → option_map disagrees gap ≡ fault_at v ss k → face_above ss k ≢ face_below ss k
differ_from_gap v ss k None some e = absurd cc
differ_from_gap v ss k (Some g) some e = λ same. wrong ((Decides-eqb (face_above ss k) (face_below ss k)).1 same) e
  where
    wrong : (face_above ss k == face_below ss k) ≡ true → Some (disagrees g) ≡ fault_at v ss k → ⊥
    wrong t h =
        let none : Some (disagrees g) ≡ None = h ∙ ap (λ (b : Bool). cond b None (Some (StackDisagrees v k (face_above ss k) (face_below ss k)))) t in
        absurd cc

pub agree_from_none : (v : ℤ) (ss : List Sides) (k : ℕ) (gap : Option StackGap) → is_some gap ≡ false → option_map disagrees gap ≡ fault_at v ss k → face_above ss k ≡ face_below ss k
agree_from_none v ss k (Some g) some e = absurd cc
agree_from_none v ss k None some e = by (face_above ss k == face_below ss k) refl e
  where
    by : (b : Bool) → (face_above ss k == face_below ss k) ≡ b → None ≡ cond b None (Some (StackDisagrees v k (face_above ss k) (face_below ss k))) → face_above ss k ≡ face_below ss k
    by true t h = (Decides-eqb (face_above ss k) (face_below ss k)).0 t
    by false t h = absurd cc

-- ---- one more is seen

-- where it has no higher place at which the faces differ
pub first_kept : (seen : List ℕ) (ss : List Sides) (found : List ℕ) (place n : ℕ) → ((k d : ℕ) → k < place → k < length found → get_or found k d ≡ n → face_above ss k ≡ face_below ss k)
    → IsFirstOf seen ss found place → IsFirstOf (seen ++ n ∷ []) ss found place
first_kept seen ss found place n same f = record {
  within = f.within;
  differ = f.differ;
  agree = λ k d l c. ⊎_elim (f.agree k d l) (λ e. same k d l (omega (arith, l, f.within)) (sym e)) (Contains-push_cases seen n (get_or found k d) c);
}

-- or where it is at this place only
pub first_moved : (seen : List ℕ) (ss : List Sides) (found : List ℕ) (place here n : ℕ) → here < place → face_above ss here ≢ face_below ss here
    → ((k d : ℕ) → k < length found → get_or found k d ≡ n → k ≡ here) → IsFirstOf seen ss found place → IsFirstOf (seen ++ n ∷ []) ss found here
first_moved seen ss found place here n higher differ only f = record {
  within = omega (arith, f.within);
  differ = λ l. differ;
  agree = λ k d l c. ⊎_elim (f.agree k d (omega (arith, l)))
      (λ e. let there = only k d (omega (arith, l, f.within)) (sym e) in absurd (omega (arith, l)))
      (Contains-push_cases seen n (get_or found k d) c);
}

-- ---- all are seen

pub fault_of_first : {faces : ℕ → Sides} (v : ℤ) (touched found : List ℕ) (place : ℕ) → IsCovered faces touched 0 found → IsFirstOf touched (map faces found) found place
    → stack_fault_from v 0 0 (map faces found) ≡ fault_at v (map faces found) place
fault_of_first {faces} v touched found place covered f =
    fault_from_place v 0 0 (map faces found) place (omega (arith, f.within, length-map found faces))
    (λ k l. ⊎_elim (λ e. e) (f.agree k 0 l) (covered_at faces touched 0 found covered k 0 (omega (arith, l, f.within))))
    (λ l. f.differ (omega (arith, l, length-map found faces)))
    ∙ ap (λ (k : ℕ). cond (face_above (map faces found) place == face_below (map faces found) place) None (Some (StackDisagrees v k (face_above (map faces found) place) (face_below (map faces found) place)))) (omega arith)

-- ---- all are looked at

-- where neighbours of a run of the members agree, the faces agree at each place of the run behind its first one
pub agree_after : (faces : ℕ → Sides) (found run : List ℕ) (place n : ℕ) → place + length run ≤ length found → n ≤ length run
    → ((k d : ℕ) → k < length run → get_or run k d ≡ get_or found (place + k) d)
    → ((k d : ℕ) → k + 1 < n → (faces (get_or run k d)).lower ≡ (faces (get_or run (k + 1) d)).upper)
    → (k : ℕ) → place < k → k < place + n → face_above (map faces found) k ≡ face_below (map faces found) k
agree_after faces found run place n within short is agree k more less =
    let j = k - (place + 1) in
    let here : suc (place + j) ≡ k = omega (arith, more) in
    let next : place + (j + 1) ≡ k = omega (arith, more) in
    sym (ap (face_above (map faces found)) here)
    ∙ reached_below faces 0 found (place + j) 0 (omega (arith, more, less, within, short))
    ∙ sym (ap (λ m. (faces m).lower) (is j 0 (omega (arith, more, less, short))))
    ∙ agree j 0 (omega (arith, more, less))
    ∙ ap (λ m. (faces m).upper) (is (j + 1) 0 (omega (arith, more, less, short)) ∙ ap (λ i. get_or found i 0) next)
    ∙ sym (standing_at faces found k 0 (omega (arith, more, less, within, short)))
