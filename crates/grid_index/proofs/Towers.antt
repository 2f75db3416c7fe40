-- From level to level: the boxes of a level that meet an area are children of those of the level above it that do.
use Rattle.std.proofs.Common.{◌≡◌, ◌⊎◌, inl, inr, min, take, ◌-◌, ℕ, zero, suc, ◌+◌, ◌*◌, ◌/◌, ◌<◌, ◌≤◌, Bool, true, false, List, [], ◌∷◌, ◌++◌, length, filter, get_or, refl, sym, ap, ◌∙◌, subst, true≢false, arith}
use Rattle.std.specs.List.{flat_map, range_with_len}
use Rattle.std.proofs.lemmas.Bool.{false_from_ne_true, cases_lt}
use Rattle.std.proofs.lemmas.List.{append-nil, take_more, flat_map_more}
use Rattle.std.proofs.lemmas.List.Elements.{All-nil, All-cons, All-weaker, filter-append}
use Rattle.std.proofs.lemmas.List.FromFn.{get_or-range_with_len, length-range_with_len}
use Rattle.tgap_model.specs.declared.geometry.Window.{Window}
use Rattle.lemmas.proofs.Members.{filter_none}
use Rattle.grid_index.specs.declared.tree.TheConstants.{FANOUT}
use Rattle.grid_index.specs.Boxes.{Covers}
use Rattle.grid_index.specs.Near.{near_boxes}
use Rattle.grid_index.specs.Tower.{meets_at, children, meeting, IsHull, IsTower, Leads, Reaches}
use Rattle.grid_index.specs.Wider.{meets_wider}
use Rattle.grid_index.proofs.Ranges.{range-append, filter-flat_map, flat_map-filter}
use Rattle.grid_index.proofs.Meeting.{meets_at_is, meets_at-within, near_filtered, near_below, filter_short}

-- the children of boxes in a row are places in a row
all_children : (k m : ℕ) → range_with_len (FANOUT * k) (FANOUT * m) ≡ flat_map children (range_with_len k m)
unfolding children
all_children k zero = refl
all_children k (suc m) =
    let e : FANOUT * suc m ≡ FANOUT + FANOUT * m = omega arith in
    let f : FANOUT * k + FANOUT ≡ FANOUT * (k + 1) = omega arith in
    ap (range_with_len (FANOUT * k)) e ∙ range-append (FANOUT * k) FANOUT (FANOUT * m)
    ∙ ap (λ a. children k ++ range_with_len a (FANOUT * m)) f ∙ ap (λ xs. children k ++ xs) (all_children (k + 1) m)

-- a box that does not meet the area has no child that does
no_child : (area : Window) (up down : List Window) → IsHull up down → (n : ℕ) → meets_at area up n ≡ false → filter (meets_at area down) (children n) ≡ []
unfolding children
no_child area up down hull n e = filter_none (meets_at area down) (children n) (λ j d l.
    let short : j < FANOUT = omega (arith, length-range_with_len (FANOUT * n) FANOUT) in
    ap (meets_at area down) (get_or-range_with_len (FANOUT * n) FANOUT j d short) ∙ false_from_ne_true (meets_at area down (FANOUT * n + j)) (never j short))
  where
    never : (j : ℕ) → j < FANOUT → meets_at area down (FANOUT * n + j) ≡ true → ⊥
    never j short h =
        let i = FANOUT * n + j in
        let m = meets_at_is area down i h in
        let d : Window = record { x0 = area.x0; y0 = area.y0; x1 = area.x1; y1 = area.y1 } in
        let above : i / FANOUT ≡ n = omega arith in
        let held : Covers (get_or up n d) (get_or down i d) = subst (λ k. Covers (get_or up k d) (get_or down i d)) above (hull.holds i d d m.0) in
        let within : n < length up = omega (arith, m.0, hull.room) in
        true≢false (sym (meets_at-within area up n d within ∙ meets_wider area (get_or up n d) (get_or down i d) held (m.1 d)) ∙ e)

-- so the boxes of a level that meet the area lead to the next level
pub Leads-next : (area : Window) (up down : List Window) → IsHull up down → Leads area (near_boxes area up) down
Leads-next area up down hull = record {
  room = All-weaker (λ n. n < length up) (λ n. FANOUT * n ≤ length down) (λ n l. omega (arith, hull.few)) (near_boxes area up) (near_below area up);
  all =
      filter-flat_map p children (near_boxes area up)
      ∙ ap (flat_map ones) (sym (near_filtered area up (length up) (omega arith)))
      ∙ flat_map-filter ones (meets_at area up) (no_child area up down hull) (range_with_len 0 (length up))
      ∙ sym (filter-flat_map p children (range_with_len 0 (length up)))
      ∙ ap (filter p) (sym (all_children 0 (length up)))
      ∙ near_filtered area down (FANOUT * length up) hull.room;
}
  where
    p : ℕ → Bool
    p = meets_at area down

    ones : ℕ → List ℕ
    ones n = filter (meets_at area down) (children n)

-- and one box leads to as many boxes as it holds
pub Leads-first : (area : Window) (level : List Window) → length level ≤ FANOUT → Leads area (0 ∷ []) level
unfolding children
Leads-first area level le = record {
  room = All-cons (λ n. FANOUT * n ≤ length level) 0 [] (omega arith) (All-nil (λ n. FANOUT * n ≤ length level));
  all = ap (filter (meets_at area level)) (append-nil (children 0)) ∙ near_filtered area level FANOUT le;
}

-- ---- through all levels

pub Reaches-first : (area : Window) (levels : List (List Window)) (boxes : List Window) → IsTower levels boxes → Reaches area (0 ∷ []) levels boxes
Reaches-first area [] boxes le = Leads-first area boxes le
Reaches-first area (top ∷ levels) boxes (le, hulls) = (Leads-first area top le, hulls)

pub Reaches-next : (area : Window) (parents : List ℕ) (level : List Window) (levels : List (List Window)) (boxes : List Window) → Reaches area parents (level ∷ levels) boxes
    → Reaches area (meeting area level parents) levels boxes
Reaches-next area parents level [] boxes (leads, hull) = rw leads.all (Leads-next area level boxes hull)
Reaches-next area parents level (down ∷ levels) boxes (leads, (hull, hulls)) = (rw leads.all (Leads-next area level down hull), hulls)

-- ---- one box more

pub meeting_more : (area : Window) (level : List Window) (parents : List ℕ) (i d : ℕ) → i < length parents
    → meeting area level (take (i + 1) parents) ≡ meeting area level (take i parents) ++ filter (meets_at area level) (children (get_or parents i d))
meeting_more area level parents i d l =
    ap (meeting area level) (take_more parents i d l)
    ∙ ap (filter (meets_at area level)) (sym (flat_map_more children [] (take i parents) (get_or parents i d)))
    ∙ filter-append (meets_at area level) (flat_map children (take i parents)) (children (get_or parents i d))

-- the children of a box that are places of the level are all that meets the area among its children
pub children_within : (area : Window) (level : List Window) (parent i : ℕ) → FANOUT * parent ≤ length level → i ≡ FANOUT * parent + min FANOUT (length level - FANOUT * parent)
    → filter (meets_at area level) (range_with_len (FANOUT * parent) (i - FANOUT * parent)) ≡ filter (meets_at area level) (children parent)
unfolding children
children_within area level parent i room e =
    filter_short area level (FANOUT * parent) (i - FANOUT * parent) FANOUT (by (cases_lt (length level - FANOUT * parent) FANOUT))
  where
    by : (length level - FANOUT * parent < FANOUT) ⊎ (FANOUT ≤ length level - FANOUT * parent)
        → (i - FANOUT * parent ≡ FANOUT) ⊎ ((i - FANOUT * parent ≤ FANOUT) × (length level ≤ FANOUT * parent + (i - FANOUT * parent)))
    by (inl l) = inr (omega arith, omega arith)
    by (inr l) = inl (omega arith)
