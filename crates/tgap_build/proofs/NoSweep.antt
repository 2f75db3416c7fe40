-- Where the ratio is 0 a step removes nothing.
use Rattle.std.proofs.Common.{◌≡◌, ℕ, ◌-◌, ◌<◌, ◌≤◌, ◌==◌, ◌&&◌, ◌||◌, nat_le, Bool, true, false, cond, List, [], ◌++◌, map, filter, length, eq-eqb, refl, sym, ap, ◌∙◌}
use Rattle.std.specs.List.{list_any}
use Rattle.std.proofs.lemmas.List.{append-nil}
use Rattle.tgap_model.specs.declared.geometry.Point.{Point}
use Rattle.tgap_model.specs.declared.slice.Removal.{Removal}
use Rattle.tgap_model.specs.Base.{BaseMap, is_base, same_point}
use Rattle.tgap_model.specs.Partition.{IsPartition, base_segments}
use Rattle.tgap_model.specs.History.{history_of}
use Rattle.tgap_model.specs.Merged.{merged, step_number}
use Rattle.tgap_model.specs.Removals.{sweep, sweep_edges, removals_to}
use Rattle.removal_laws.specs.Trace.{edges_before_sweep, step_area}
use Rattle.step_laws.proofs.StepRemovals.{step_list, swept_is, listed_next}
use Rattle.edge_forest.specs.Forest.{EdgeForest, is_gone}
use Rattle.tgap_build.specs.Built.{HasRemoved}
use Rattle.tgap_build.proofs.Removed.{step_removed}
use Rattle.tgap_build.proofs.Taken.{now_is}

no_sweep : (m : BaseMap) → m.rules.ratio ≡ 0 → (k : ℕ) → sweep m.rules.ratio (step_area (merged m) k) (step_number (merged m) k).made (edges_before_sweep (merged m) k) ≡ []
unfolding sweep
no_sweep m none k =
    ap (λ (b : Bool). cond b [] (sweep_edges m.rules.ratio (step_area (merged m) k) (step_number (merged m) k).made [] (edges_before_sweep (merged m) k))) (eq-eqb m.rules.ratio 0 none)

module _ (f : EdgeForest) (base : is_base f.base ≡ true) (planar : IsPartition (base_segments f.base)) (k : ℕ) (some : 0 < k) (last : k ≤ length (history_of f.base)) (none : f.base.rules.ratio ≡ 0) where
  no_list : step_list f.base base planar k some last ≡ []
  no_list = sym (swept_is f.base base planar k some last) ∙ ap (map (λ (p : Point). record { point = p; step = k })) (no_sweep f.base none k)

  pub none_now : filter (λ (r : Removal). r.step == k) (removals_to (merged f.base) k) ≡ []
  none_now = sym (now_is f.base base planar k some last) ∙ no_list

  pub none_more : removals_to (merged f.base) k ≡ removals_to (merged f.base) (k - 1)
  none_more = listed_next f.base base planar k some last ∙ ap (λ (rs : List Removal). removals_to (merged f.base) (k - 1) ++ rs) no_list ∙ append-nil (removals_to (merged f.base) (k - 1))

  pub none_removed : HasRemoved f (k - 1) → HasRemoved f k
  none_removed removed = step_removed f f k base planar some last refl removed (λ i p.
      sym (both (is_gone f i p) (nat_le k i)) ∙ ap (λ (rs : List Removal). is_gone f i p || (nat_le k i && list_any (λ (r : Removal). same_point r.point p) rs)) (sym no_list))
    where
      both : (a b : Bool) → (a || (b && false)) ≡ a
      both true true = refl
      both true false = refl
      both false true = refl
      both false false = refl
