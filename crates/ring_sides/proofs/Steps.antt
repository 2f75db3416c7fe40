-- One step more of a fold that may stop at a fault, and a ring as the fold over its indexes.
use Rattle.std.proofs.Common.{◌≡◌, ◌<◌, ◌≤◌, ℕ, ◌+◌, Bool, not, ℤ, pos, List, [], length, get_or, drop, map, replicate, Result, Ok, Err, sym, ap, refl, ◌∙◌}
use Rattle.std.specs.Ordering.{int_eq}
use Rattle.std.proofs.lemmas.List.{at_drop_more, at_drop_all}
use Rattle.std.proofs.lemmas.Simd.{splat_is_map}
use Rattle.tgap_model.specs.declared.geometry.Point.{Point}
use Rattle.tgap_model.specs.declared.fault.MapFault.{MapFault}
use Rattle.tgap_model.specs.declared.fault.MapFault.TheVariants.{RingFlat}
use Rattle.line_forms.specs.Lines.{◌>>=◌}
use Rattle.line_forms.specs.Json.{ensured, try_fold}
use Rattle.topology_forms.specs.Rings.{Taken, closed, open_place, ring_area, index_taken, ring_taken, nothing_taken}
use Rattle.ring_sides.specs.Taking.{ring_side}

-- ---- a fold

module _ {A S F : Type 0} (step : S → A → Result S F) (xs : List A) (k : ℕ) (d : A) (state : S) (whole : Result S F) where
  -- the step that is next
  fold_here : k < length xs → try_fold step state (drop k xs) ≡ (step state (get_or xs k d) >>= λ next. try_fold step next (drop (k + 1) xs))
  fold_here inside = at_drop_more (try_fold step state) xs k d inside

  pub fold_next : (next : S) → k < length xs → try_fold step state (drop k xs) ≡ whole → step state (get_or xs k d) ≡ Ok next
      → try_fold step next (drop (k + 1) xs) ≡ whole
  fold_next next inside so_far one =
      sym (ap (λ r. r >>= λ s. try_fold step s (drop (k + 1) xs)) one) ∙ sym (fold_here inside) ∙ so_far

  pub fold_stop : (fault : F) → k < length xs → try_fold step state (drop k xs) ≡ whole → step state (get_or xs k d) ≡ Err fault → whole ≡ Err fault
  fold_stop fault inside so_far one =
      sym so_far ∙ fold_here inside ∙ ap (λ r. r >>= λ s. try_fold step s (drop (k + 1) xs)) one

  pub fold_done : length xs ≤ k → try_fold step state (drop k xs) ≡ whole → whole ≡ Ok state
  fold_done over so_far = sym so_far ∙ at_drop_all (try_fold step state) xs k over

-- ---- a ring

-- two tests before a value, and what follows it
tested : {A B C D F : Type 0} (first : Result A F) (second : Result B F) (x : C) (go : C → Result D F)
    → (first >>= λ a. second >>= λ b. go x) ≡ ((first >>= λ a. second >>= λ b. Ok x) >>= go)
tested (Ok a) (Ok b) x go = refl
tested (Ok a) (Err f) x go = refl
tested (Err f) second x go = refl

-- a ring whose side is known takes this side of each arc
pub ring_from : (arcs : List (List Point)) (exterior : Bool) (f r : ℕ) (ring : List ℤ) (taken : Taken) (left : Bool) → ring_side arcs exterior r ring ≡ Ok left
    → ring_taken arcs exterior f r ring taken ≡ try_fold (index_taken arcs left f) taken ring
unfolding ring_taken
ring_from arcs exterior f r ring taken left e =
    let go : Bool → Result Taken MapFault = λ b. try_fold (index_taken arcs b f) taken ring in
    tested (closed r (open_place arcs ring)) (ensured (not (int_eq (ring_area arcs ring) (pos 0))) (RingFlat r)) _ go ∙ ap (λ s. s >>= go) e

-- ---- nothing

pub nothing_from : (arcs : List (List Point)) (classes left right : List ℕ) (n m : ℕ) → n ≡ length arcs → m ≡ length arcs → classes ≡ [] → left ≡ replicate n 0 → right ≡ replicate m 0
    → record { classes = classes; left = left; right = right } ≡ nothing_taken arcs
nothing_from arcs classes left right n m count count' none free free' =
    let none_left : left ≡ map (λ a. 0) arcs = free ∙ splat_is_map arcs n 0 (sym count) in
    let none_right : right ≡ map (λ a. 0) arcs = free' ∙ splat_is_map arcs m 0 (sym count') in
    let make : List ℕ → List ℕ → List ℕ → Taken = λ c l r. record { classes = c; left = l; right = r } in
    ap (λ c. make c left right) none ∙ ap (λ l. make [] l right) none_left ∙ ap (λ r. make [] (map (λ a. 0) arcs) r) none_right
