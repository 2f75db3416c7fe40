-- Hulls made anew over a box that changed.
use Rattle.std.proofs.Common.{◌≡◌, ◌≢◌, ◌⊎◌, inl, inr, ℕ, ◌/◌, ◌<◌, List, [], ◌∷◌, ◌++◌, length, get_or, sym, ap, ◌∙◌, subst, subst₂, arith}
use Rattle.std.specs.Prelude.{slice_set}
use Rattle.std.proofs.lemmas.Bool.{cases_eq}
use Rattle.std.proofs.lemmas.List.{length-set, get_or-set_same, get_or-set_other}
use Rattle.tgap_model.specs.declared.geometry.Window.{Window}
use Rattle.grid_index.specs.declared.tree.TheConstants.{FANOUT}
use Rattle.grid_index.specs.Boxes.{Covers}
use Rattle.grid_index.specs.Tower.{IsHull, AreHulls, IsTower, HoldsGroup, IsRowBut}

-- the lowest level stands over the row, and the others over that level
AreHulls-front : (up : List Window) (levels : List (List Window)) (low row : List Window) → AreHulls up (levels ++ low ∷ []) row → AreHulls up levels low × IsHull low row
AreHulls-front up [] low row h = (h.0, h.1)
AreHulls-front up (down ∷ levels) low row (h, hs) = let r = AreHulls-front down levels low row hs in ((h, r.0), r.1)

AreHulls-push : (up : List Window) (levels : List (List Window)) (low row : List Window) → AreHulls up levels low → IsHull low row → AreHulls up (levels ++ low ∷ []) row
AreHulls-push up [] low row h k = (h, k)
AreHulls-push up (down ∷ levels) low row (h, hs) k = (h, AreHulls-push down levels low row hs k)

pub IsTower-front : (levels : List (List Window)) (low row : List Window) → IsTower (levels ++ low ∷ []) row → IsTower levels low × IsHull low row
IsTower-front [] low row h = h
IsTower-front (top ∷ levels) low row (le, hs) = let r = AreHulls-front top levels low row hs in ((le, r.0), r.1)

pub IsTower-push : (levels : List (List Window)) (low row : List Window) → IsTower levels low → IsHull low row → IsTower (levels ++ low ∷ []) row
IsTower-push [] low row h k = (h, k)
IsTower-push (top ∷ levels) low row (le, hs) k = (le, AreHulls-push top levels low row hs k)

-- a box in the place of one leaves the others
pub IsRowBut-set : (row : List Window) (place : ℕ) (area : Window) → IsRowBut row (slice_set row place area) place
IsRowBut-set row place area = record {
  long = sym (length-set row place area);
  same = λ i d ne. sym (get_or-set_other row place i area d ne);
}

-- the box over the one that changed is in its level
pub parent_below : (up was row : List Window) (place : ℕ) → IsHull up was → IsRowBut was row place → place < length row → place / FANOUT < length up
parent_below up was row place hull but l = let room = hull.room in let long = but.long in omega arith

-- a hull made anew over the box that changed
pub IsHull-renew : (up was row : List Window) (place : ℕ) (h : Window) → IsHull up was → IsRowBut was row place → place < length row → HoldsGroup h (place / FANOUT) row
    → IsHull (slice_set up (place / FANOUT) h) row
IsHull-renew up was row place h hull but l holds = record {
  room = let room = hull.room in let long = but.long in omega (arith, length-set up (place / FANOUT) h);
  few = let few = hull.few in let long = but.long in omega (arith, length-set up (place / FANOUT) h);
  holds = λ i d e short. by i d e short (cases_eq (i / FANOUT) (place / FANOUT));
}
  where
    parent : ℕ
    parent = place / FANOUT

    by : (i : ℕ) (d e : Window) → i < length row → (i / FANOUT ≡ parent) ⊎ (i / FANOUT ≢ parent) → Covers (get_or (slice_set up parent h) (i / FANOUT) d) (get_or row i e)
    by i d e short (inl same) =
        subst (λ a. Covers a (get_or row i e)) (sym (ap (λ k. get_or (slice_set up parent h) k d) same ∙ get_or-set_same up parent h d (parent_below up was row place hull but l)))
        (holds i e short same)
    by i d e short (inr ne) =
        let other : i ≢ place = λ f. ne (ap (λ k. k / FANOUT) f) in
        let long = but.long in
        let within : i < length was = omega arith in
        subst₂ Covers (sym (get_or-set_other up parent (i / FANOUT) h d ne)) (but.same i e other) (hull.holds i d e within)
