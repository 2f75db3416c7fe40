-- Boxes that may be passed over, since what holds them fails the test.
use Rattle.std.proofs.Common.{◌≡◌, ◌⊎◌, inl, inr, ℕ, ◌+◌, ◌*◌, ◌/◌, ◌<◌, ◌≤◌, max, Bool, true, false, List, [], ◌∷◌, ◌++◌, length, get_or, sym, ◌∙◌, true≢false, subst, arith}
use Rattle.std.proofs.lemmas.Bool.{false_from_ne_true, cases_lt}
use Rattle.tgap_model.specs.declared.geometry.Window.{Window}
use Rattle.grid_index.specs.declared.tree.TheConstants.{FANOUT}
use Rattle.grid_index.specs.Boxes.{Covers}
use Rattle.grid_index.specs.Tower.{IsHull, AreHulls, AreLevels, IsClear}

-- the last level holds the row, and the others hold it
hulls_last : (up : List Window) (levels : List (List Window)) (last row : List Window) → AreHulls up (levels ++ last ∷ []) row → AreHulls up levels last × IsHull last row
hulls_last up [] last row h = h
hulls_last up (down ∷ levels) last row (hull, hulls) = let rest = hulls_last down levels last row hulls in ((hull, rest.0), rest.1)

pub levels_last : (levels : List (List Window)) (last row : List Window) → AreLevels (levels ++ last ∷ []) row → AreLevels levels last × IsHull last row
levels_last [] last row h = (tt, h)
levels_last (top ∷ levels) last row h = hulls_last top levels last row h

-- of a test that what holds a box passes where the box does
module _ (hits : Window → Bool) where
  -- what fails holds nothing that passes
  pub clear_below : ((up down : Window) → Covers up down → hits down ≡ true → hits up ≡ true) → (up down : List Window) (from end at : ℕ)
      → IsHull up down → IsClear hits up from end → at ≡ FANOUT * from → IsClear hits down at (end * FANOUT)
  clear_below wider up down from end at hull clear e k d le lt within =
      false_from_ne_true (hits (get_or down k d)) (λ m.
      true≢false (sym (wider (get_or up (k / FANOUT) d) (get_or down k d) (hull.holds k d d within) m)
      ∙ clear (k / FANOUT) d (omega arith) (omega arith) (omega (arith, hull.room))))

  -- one box more
  pub clear_more : (row : List Window) (from end past : ℕ) → IsClear hits row from end → ((d : Window) → from < length row → hits (get_or row from d) ≡ false)
      → past ≡ max end (from + 1) → IsClear hits row from past
  clear_more row from end past clear here e k d after lt within = by (cases_lt k end)
    where
      by : (k < end) ⊎ (end ≤ k) → hits (get_or row k d) ≡ false
      by (inl less) = clear k d after less within
      by (inr le) =
          let same : from ≡ k = omega arith in
          subst (λ (n : ℕ). hits (get_or row n d) ≡ false) same (here d (omega arith))
