-- The box of an edge is that of the boxes of its parts.
use Rattle.std.proofs.Common.{◌≡◌, ◌≢◌, ℕ, ◌+◌, ◌<◌, ◌≤◌, Bool, true, false, cond, not, ℤ, List, [], ◌∷◌, ◌++◌, map, fold, reverse, length, get_or, All, refl, sym, ap, ap₂, ◌∙◌, true≢false, arith}
use Rattle.std.specs.Prelude.{flat_map}
use Rattle.std.specs.Int.{int_min, int_max}
use Rattle.std.specs.List.{range_with_len}
use Rattle.std.proofs.lemmas.Int.{ints, int_min_is, int_max_is}
use Rattle.std.proofs.lemmas.List.{append-nil, map-append, get_or-map}
use Rattle.std.proofs.lemmas.List.Sums.{fold-append}
use Rattle.std.proofs.lemmas.List.FromFn.{get_or-map-range_with_len}
use Rattle.std.proofs.lemmas.List.Elements.{All-head, All-tail, All-weaker}
use Rattle.tgap_model.specs.declared.geometry.Window.{Window}
use Rattle.tgap_model.specs.declared.base.BaseArc.{BaseArc}
use Rattle.tgap_model.specs.Chains.{Link, Chain, arc_number, has_links, turned_round}
use Rattle.map_laws.proofs.Lists.{all_members}
use Rattle.slice_laws.proofs.BaseParts.{base_arc}
use Rattle.slice_laws.proofs.Coverage.{number_among}
use Rattle.slice_laws.proofs.Paths.{reverse_cons}
use Rattle.grid_index.specs.Picked.{no_box, box_at}
use Rattle.edge_forest.specs.declared.edge.Part.{Part}
use Rattle.edge_forest.specs.Edges.{edge_at, whole_part, part_chain, parts_chain, chains_of, chain_of, IsPart}
use Rattle.edge_forest.proofs.Walks.{chain_step}
use Rattle.edge_forest.specs.Forest.{EdgeForest, IsForest}
use Rattle.edge_forest.proofs.WalkedArcs.{made_of_earlier, chain_arcs_below}
use Rattle.tgap_build.specs.Boxes.{hull, hull_of, point_box, points_box, arcs_points, edge_box, part_box}

-- ---- hulls

min_in_turn : (a b c : ℤ) → int_min (int_min a b) c ≡ int_min a (int_min b c)
min_in_turn a b c = omega (arith, ints, int_min_is a b, int_min_is (int_min a b) c, int_min_is b c, int_min_is a (int_min b c))

max_in_turn : (a b c : ℤ) → int_max (int_max a b) c ≡ int_max a (int_max b c)
max_in_turn a b c = omega (arith, ints, int_max_is a b, int_max_is (int_max a b) c, int_max_is b c, int_max_is a (int_max b c))

min_either : (a b : ℤ) → int_min a b ≡ int_min b a
min_either a b = omega (arith, ints, int_min_is a b, int_min_is b a)

max_either : (a b : ℤ) → int_max a b ≡ int_max b a
max_either a b = omega (arith, ints, int_max_is a b, int_max_is b a)

-- boxes with the same sides
pub box_by : (a b c d e f g h : ℤ) → a ≡ e → b ≡ f → c ≡ g → d ≡ h → ◌≡◌ {A = Window} (record { x0 = a; y0 = b; x1 = c; y1 = d }) (record { x0 = e; y0 = f; x1 = g; y1 = h })
box_by a b c d e f g h p q r s = rw (p, q, r, s) refl

hull_in_turn : (a b c : Window) → hull (hull a b) c ≡ hull a (hull b c)
hull_in_turn a b c = box_by _ _ _ _ _ _ _ _ (min_in_turn a.x0 b.x0 c.x0) (min_in_turn a.y0 b.y0 c.y0) (max_in_turn a.x1 b.x1 c.x1) (max_in_turn a.y1 b.y1 c.y1)

hull_either : (a b : Window) → hull a b ≡ hull b a
hull_either a b = box_by _ _ _ _ _ _ _ _ (min_either a.x0 b.x0) (min_either a.y0 b.y0) (max_either a.x1 b.x1) (max_either a.y1 b.y1)

-- the first box may be taken last
hull_first : (a b : Window) (boxes : List Window) → fold hull (hull a b) boxes ≡ hull a (fold hull b boxes)
hull_first a b [] = refl
hull_first a b (c ∷ boxes) = ap (λ (x : Window). fold hull x boxes) (hull_in_turn a b c) ∙ hull_first a (hull b c) boxes

pub hull_of_both : (xs ys : List Window) → xs ≢ [] → ys ≢ [] → hull_of (xs ++ ys) ≡ hull (hull_of xs) (hull_of ys)
hull_of_both [] ys some other = absurd (some refl)
hull_of_both (x ∷ xs) [] some other = absurd (other refl)
hull_of_both (x ∷ xs) (y ∷ ys) some other = fold-append hull x xs (y ∷ ys) ∙ hull_first (fold hull x xs) y ys

-- one more
pub hull_of_more : (xs : List Window) (y : Window) → xs ≢ [] → hull_of (xs ++ y ∷ []) ≡ hull (hull_of xs) y
hull_of_more xs y some = hull_of_both xs (y ∷ []) some (λ e. absurd cc)

hull_of_front : (x : Window) (xs : List Window) → xs ≢ [] → hull_of (x ∷ xs) ≡ hull x (hull_of xs)
hull_of_front x [] some = absurd (some refl)
hull_of_front x (y ∷ ys) some = hull_first x y ys

-- the order does not matter
hull_of_reversed : (xs : List Window) → hull_of (reverse xs) ≡ hull_of xs
hull_of_reversed [] = refl
hull_of_reversed (x ∷ []) = refl
hull_of_reversed (x ∷ y ∷ ys) =
    ap hull_of (reverse_cons x (y ∷ ys))
    ∙ hull_of_more (reverse (y ∷ ys)) x (λ e. absurd (none y ys (reverse_cons y ys) e))
    ∙ ap (λ (b : Window). hull b x) (hull_of_reversed (y ∷ ys))
    ∙ hull_either (hull_of (y ∷ ys)) x
    ∙ sym (hull_of_front x (y ∷ ys) (λ e. absurd cc))
  where
    none : (y : Window) (ys : List Window) → reverse (y ∷ ys) ≡ reverse ys ++ y ∷ [] → reverse (y ∷ ys) ≡ [] → ⊥
    none y ys e n = by (reverse ys) (sym e ∙ n)
      where
        by : (zs : List Window) → zs ++ y ∷ [] ≡ [] → ⊥
        by [] n = absurd cc
        by (z ∷ zs) n = absurd cc

-- rows of boxes, one after the other
pub hull_of_rows : {A : Type 0} (f : A → List Window) (xs : List A) → All (λ x. f x ≢ []) xs → hull_of (flat_map f xs) ≡ hull_of (map (λ x. hull_of (f x)) xs)
hull_of_rows f [] some = refl
hull_of_rows f (x ∷ []) some = ap hull_of (append-nil (f x))
hull_of_rows {A} f (x ∷ y ∷ ys) some =
    let later = All-tail (λ x. f x ≢ []) x (y ∷ ys) some in
    hull_of_both (f x) (flat_map f (y ∷ ys)) (All-head (λ x. f x ≢ []) x (y ∷ ys) some) (front (f y) (flat_map f ys) (All-head (λ x. f x ≢ []) y ys later))
    ∙ ap (hull (hull_of (f x))) (hull_of_rows f (y ∷ ys) later)
    ∙ sym (hull_of_front (hull_of (f x)) (map (λ x. hull_of (f x)) (y ∷ ys)) (λ e. absurd cc))
  where
    front : (zs ws : List Window) → zs ≢ [] → zs ++ ws ≢ []
    front [] ws s e = s refl
    front (z ∷ zs) ws s e = absurd cc

-- ---- chains

map_flat : {A B C : Type 0} (f : B → C) (g : A → List B) (xs : List A) → map f (flat_map g xs) ≡ flat_map (λ x. map f (g x)) xs
map_flat f g [] = refl
map_flat f g (x ∷ xs) = map-append f (g x) (flat_map g xs) ∙ ap (λ zs. map f (g x) ++ zs) (map_flat f g xs)

map_reversed : {A B : Type 0} (f : A → B) (xs : List A) → map f (reverse xs) ≡ reverse (map f xs)
map_reversed f [] = refl
map_reversed f (x ∷ xs) =
    ap (map f) (reverse_cons x xs) ∙ map-append f (reverse xs) (x ∷ []) ∙ ap (λ zs. zs ++ f x ∷ []) (map_reversed f xs) ∙ sym (reverse_cons (f x) (map f xs))

map_some : {A B : Type 0} (f : A → B) (xs : List A) → xs ≢ [] → map f xs ≢ []
map_some f [] s e = s refl
map_some f (x ∷ xs) s e = absurd cc

module _ (arcs : List BaseArc) where
  abbrev link_box : Link → Window
  link_box d = points_box (arc_number arcs d.arc).points

  abbrev chain_box : Chain → Window
  chain_box c = hull_of (map (λ (d : Link). points_box (arc_number arcs d.arc).points) c)

  -- the box of the points of a chain is that of the boxes of its arcs
  of_arcs : (c : Chain) → All (λ (d : Link). (arc_number arcs d.arc).points ≢ []) c → points_box (arcs_points arcs c) ≡ chain_box c
  of_arcs c some =
      ap hull_of (map_flat point_box (λ (d : Link). (arc_number arcs d.arc).points) c)
      ∙ hull_of_rows (λ (d : Link). map point_box (arc_number arcs d.arc).points) c
      (All-weaker (λ (d : Link). (arc_number arcs d.arc).points ≢ []) (λ (d : Link). map point_box (arc_number arcs d.arc).points ≢ []) (λ d s. map_some point_box (arc_number arcs d.arc).points s) c some)

  -- and the same of the chain turned round
  turned_box : (c : Chain) → chain_box (turned_round c) ≡ chain_box c
  turned_box c =
      ap hull_of (map_reversed link_box (map (λ (d : Link). record { arc = d.arc; turned = not d.turned }) c) ∙ ap reverse (turned_links c))
      ∙ hull_of_reversed (map link_box c)
    where
      turned_links : (c : Chain) → map link_box (map (λ (d : Link). record { arc = d.arc; turned = not d.turned }) c) ≡ map link_box c
      turned_links [] = refl
      turned_links (d ∷ c) = ap (λ (bs : List Window). link_box d ∷ bs) (turned_links c)

turned_some : (c : Chain) → c ≢ [] → turned_round c ≢ []
turned_some [] s e = s refl
turned_some (d ∷ c) s e = by (reverse (map (λ (d : Link). record { arc = d.arc; turned = not d.turned }) c)) (sym (reverse_cons (record { arc = d.arc; turned = not d.turned }) (map (λ (x : Link). record { arc = x.arc; turned = not x.turned }) c)) ∙ e)
  where
    by : (zs : Chain) → zs ++ record { arc = d.arc; turned = not d.turned } ∷ [] ≡ [] → ⊥
    by [] n = absurd cc
    by (z ∷ zs) n = absurd cc

-- ---- the edges of a forest

module _ (f : EdgeForest) (w : IsForest f) where
  arc_has_points : (i : ℕ) → i < length f.base.arcs → (arc_number f.base.arcs i).points ≢ []
  arc_has_points i l e = absurd (omega (arith, (base_arc f.base w.base (arc_number f.base.arcs i) (number_among f.base.arcs i l)).two_points, ap length e))

  pub arcs_long : All (λ (a : BaseArc). 2 ≤ length a.points) f.base.arcs
  arcs_long = all_members (λ (a : BaseArc). 2 ≤ length a.points) f.base.arcs (λ a m. (base_arc f.base w.base a m).two_points)

  all_parts : (i : ℕ) → i < length f.edges → All (IsPart (length f.base.arcs) i) (edge_at f.edges i).parts
  all_parts i l = (w.edges i l).parts

  links_some : (i : ℕ) → i < length f.edges → chain_of f.edges i ≢ []
  links_some i l e = absurd (true≢false (sym (w.edges i l).links ∙ ap has_links e))

  chain_some : (i : ℕ) → i < length f.edges → All (λ (d : Link). (arc_number f.base.arcs d.arc).points ≢ []) (chain_of f.edges i)
  chain_some i l =
      All-weaker (λ (d : Link). d.arc < length f.base.arcs) (λ (d : Link). (arc_number f.base.arcs d.arc).points ≢ []) (λ d s. arc_has_points d.arc s) (chain_of f.edges i)
      (chain_arcs_below (length f.base.arcs) f.edges all_parts (i + 1) i (omega arith) l)

  -- the box of an edge is that of the boxes of the arcs of its chain
  box_is : (i : ℕ) → i < length f.edges → edge_box f i ≡ chain_box f.base.arcs (chain_of f.edges i)
  box_is i l = of_arcs f.base.arcs (chain_of f.edges i) (chain_some i l)

  abbrev arc_boxes : List Window
  arc_boxes = map (λ (a : BaseArc). points_box a.points) f.base.arcs

  abbrev boxes_before : ℕ → List Window
  boxes_before i = map (edge_box f) (range_with_len 0 i)

  module _ (i : ℕ) (l : i < length f.edges) where
    abbrev chains : List Chain
    chains = chains_of f.edges

    whole_is : (p : Part) → IsPart (length f.base.arcs) i p → part_box arc_boxes (boxes_before i) p ≡ chain_box f.base.arcs (whole_part (chains_of f.edges) p)
    whole_is p h = by p.leaf refl
      where
        by : (b : Bool) → p.leaf ≡ b → cond b (box_at arc_boxes p.id) (box_at (boxes_before i) p.id)
            ≡ chain_box f.base.arcs (cond b (record { arc = p.id; turned = false } ∷ []) (get_or (chains_of f.edges) p.id []))
        by true e = get_or-map (λ (a : BaseArc). points_box a.points) f.base.arcs p.id _ _ (h.arc e)
        by false e =
            get_or-map-range_with_len (edge_box f) 0 i p.id p.id no_box (h.edge e) (omega arith) ∙ box_is p.id (omega (arith, h.edge e, l))

    part_is : (p : Part) → IsPart (length f.base.arcs) i p → part_box arc_boxes (boxes_before i) p ≡ chain_box f.base.arcs (part_chain (chains_of f.edges) p)
    part_is p h = whole_is p h ∙ by p.turned
      where
        by : (b : Bool) → chain_box f.base.arcs (whole_part (chains_of f.edges) p)
            ≡ chain_box f.base.arcs (cond b (turned_round (whole_part (chains_of f.edges) p)) (whole_part (chains_of f.edges) p))
        by true = sym (turned_box f.base.arcs (whole_part (chains_of f.edges) p))
        by false = refl

    part_some : (p : Part) → IsPart (length f.base.arcs) i p → part_chain (chains_of f.edges) p ≢ []
    part_some p h = by p.turned (whole p.leaf refl)
      where
        whole : (b : Bool) → p.leaf ≡ b → cond b (record { arc = p.id; turned = false } ∷ []) (get_or (chains_of f.edges) p.id []) ≢ []
        whole true e = λ n. absurd cc
        whole false e = links_some p.id (omega (arith, h.edge e, l))

        by : (b : Bool) → whole_part (chains_of f.edges) p ≢ [] → cond b (turned_round (whole_part (chains_of f.edges) p)) (whole_part (chains_of f.edges) p) ≢ []
        by true s = turned_some (whole_part (chains_of f.edges) p) s
        by false s = s

    boxes_agree : (ps : List Part) → All (IsPart (length f.base.arcs) i) ps
        → map (λ p. hull_of (map (link_box f.base.arcs) (part_chain (chains_of f.edges) p))) ps ≡ map (part_box arc_boxes (boxes_before i)) ps
    boxes_agree [] all = refl
    boxes_agree (p ∷ ps) all =
        ap₂ (λ (b : Window) (bs : List Window). b ∷ bs) (sym (part_is p (All-head (IsPart (length f.base.arcs) i) p ps all))) (boxes_agree ps (All-tail (IsPart (length f.base.arcs) i) p ps all))

    -- an edge has parts
    pub parts_some : 0 < length (edge_at f.edges i).parts
    parts_some = by (edge_at f.edges i).parts (λ e. links_some i l (chain_step f.edges (made_of_earlier (length f.base.arcs) f.edges all_parts) i l ∙ ap (parts_chain (chains_of f.edges)) e))
      where
        by : (ps : List Part) → ps ≢ [] → 0 < length ps
        by [] s = absurd (s refl)
        by (p ∷ ps) s = omega arith

    -- and its box is that of the boxes of the parts
    pub parts_box_is : hull_of (map (part_box arc_boxes (boxes_before i)) (edge_at f.edges i).parts) ≡ edge_box f i
    parts_box_is =
        let parts = (edge_at f.edges i).parts in
        sym (box_is i l
        ∙ ap (chain_box f.base.arcs) (chain_step f.edges (made_of_earlier (length f.base.arcs) f.edges all_parts) i l)
        ∙ ap hull_of (map_flat (link_box f.base.arcs) (part_chain (chains_of f.edges)) parts)
        ∙ hull_of_rows (λ (p : Part). map (link_box f.base.arcs) (part_chain (chains_of f.edges) p)) parts
        (All-weaker (IsPart (length f.base.arcs) i) (λ (p : Part). map (link_box f.base.arcs) (part_chain (chains_of f.edges) p) ≢ [])
        (λ p h. map_some (link_box f.base.arcs) (part_chain (chains_of f.edges) p) (part_some p h)) parts (all_parts i l))
        ∙ ap hull_of (boxes_agree parts (all_parts i l)))
