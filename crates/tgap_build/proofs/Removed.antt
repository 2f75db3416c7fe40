-- The vertices that are gone from the edges of a forest are those that the steps so far remove.
use Rattle.std.proofs.Common.{◌≡◌, inl, inr, ℕ, ◌-◌, ◌<◌, ◌≤◌, Bool, true, false, ◌&&◌, ◌||◌, not, nat_le, List, length, filter, sym, ap, ap₂, ◌∙◌, subst, arith}
use Rattle.std.specs.List.{list_any}
use Rattle.std.proofs.Math.Bool.{or-false}
use Rattle.std.proofs.lemmas.Bool.{le-leb, lt-leb, cases_lt}
use Rattle.std.proofs.lemmas.List.Folds.{list_any-append}
use Rattle.lemmas.proofs.Members.{All-from_members, filter_agree_on}
use Rattle.tgap_model.specs.declared.geometry.Point.{Point}
use Rattle.tgap_model.specs.declared.slice.Removal.{Removal}
use Rattle.tgap_model.specs.Base.{BaseMap, is_base, same_point}
use Rattle.tgap_model.specs.Partition.{IsPartition, base_segments}
use Rattle.tgap_model.specs.History.{history_of}
use Rattle.tgap_model.specs.Merged.{merged}
use Rattle.tgap_model.specs.Removals.{is_removed, without, removals_to}
use Rattle.edge_forest.specs.Forest.{EdgeForest, is_gone}
use Rattle.step_laws.proofs.StepRemovals.{step_list, listed_next}
use Rattle.tgap_build.specs.Built.{AreGone, HasRemoved}

-- the points that are left are those without the removed ones
pub left_points : (f : EdgeForest) (k : ℕ) (removals : List Removal) → AreGone f k removals → (points : List Point)
    → filter (λ p. not (is_gone f k p)) points ≡ without removals points
left_points f k removals gone points =
    filter_agree_on (λ p. not (is_gone f k p)) (λ p. not (is_removed removals p)) points
    (All-from_members (λ p. not (is_gone f k p) ≡ not (is_removed removals p)) points (λ p m. ap not (gone p)))

-- where no vertex is removed, none was by any step
pub none_removed : (f : EdgeForest) → ((k : ℕ) (p : Point) → is_gone f k p ≡ false) → HasRemoved f 0
unfolding removals_to
none_removed f none = record {
  by_then = λ k l p.
      let first : k ≡ 0 = omega (arith, l) in
      none k p ∙ ap (λ (i : ℕ). is_removed (removals_to (merged f.base) i) p) (sym first);
  later = λ k l p. none k p;
}

-- what a step removes is noted with its number
module _ (f g : EdgeForest) (k : ℕ) (base : is_base f.base ≡ true) (planar : IsPartition (base_segments f.base)) (some : 0 < k)
    (within : k ≤ length (history_of f.base)) (same : g.base ≡ f.base) (before : HasRemoved f (k - 1))
    (noted : (i : ℕ) (p : Point) → is_gone g i p
    ≡ (is_gone f i p || (nat_le k i && list_any (λ r. same_point r.point p) (step_list f.base base planar k some within)))) where
  -- from that step on
  from_then : (i : ℕ) → k ≤ i → AreGone g i (removals_to (merged g.base) k)
  from_then i l p =
      noted i p
      ∙ ap₂ (λ (a b : Bool). a || (b && list_any (λ (r : Removal). same_point r.point p) (step_list f.base base planar k some within)))
      (before.later i (omega (arith, l)) p) (le-leb k i l)
      ∙ sym (list_any-append (λ (r : Removal). same_point r.point p) (removals_to (merged f.base) (k - 1)) (step_list f.base base planar k some within))
      ∙ ap (λ (rs : List Removal). is_removed rs p) (sym (listed_next f.base base planar k some within))
      ∙ ap (λ (m : BaseMap). is_removed (removals_to (merged m) k) p) (sym same)

  -- and not before
  not_yet : (i : ℕ) → i < k → AreGone g i (removals_to (merged g.base) i)
  not_yet i l p =
      noted i p
      ∙ ap₂ (λ (a b : Bool). a || (b && list_any (λ (r : Removal). same_point r.point p) (step_list f.base base planar k some within)))
      (before.by_then i (omega (arith, l)) p) (lt-leb k i l)
      ∙ or-false (is_removed (removals_to (merged f.base) i) p)
      ∙ ap (λ (m : BaseMap). is_removed (removals_to (merged m) i) p) (sym same)

  pub step_removed : HasRemoved g k
  step_removed = record {
    by_then = λ i l. elim (cases_lt i k) [
      | inl less ↦ not_yet i less
      | inr more ↦
          let last : i ≡ k = omega (arith, l, more) in
          subst (λ (j : ℕ). AreGone g j (removals_to (merged g.base) j)) (sym last) (from_then k (omega arith))
    ];
    later = from_then;
  }
