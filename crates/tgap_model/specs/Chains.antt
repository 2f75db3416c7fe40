-- The chains of a slice: rows of border arcs, joined where exactly two arc ends meet.
-- From: Meijers, Variable-scale geo-information (2011); keys, directions and anchors are this project's.
use Rattle.std.specs.Prelude.{ℕ, ◌+◌, min, Bool, true, false, ◌&&◌, ◌||◌, not, pos, nat_lt, ◌==◌, List, [], ◌∷◌, ◌++◌, map, flat_map, filter, reverse, fold, find, sum_by, count_by, drop, length, slice_index_or, unwrap_or, if◌then◌else◌}
use Rattle.std.specs.List.{list_all, list_any, range_with_len}
use Rattle.lemmas.specs.Sorting.{sort_by, is_sorted_by}
use Rattle.tgap_model.specs.declared.geometry.Point.{Point}
use Rattle.tgap_model.specs.declared.base.BaseArc.{BaseArc}
use Rattle.lemmas.specs.Ascending.{distinct_by}
use Rattle.tgap_model.specs.Base.{same_point}
use Rattle.tgap_model.specs.Segment.{point_before}
use Rattle.tgap_model.specs.Merged.{MergedMap, is_border}

-- ---- arcs and their ends

-- the first point of a row, and the last one
abbrev pub first_point : List Point → Point
first_point [] = record { x = pos 0; y = pos 0 }
first_point (p ∷ points) = p

abbrev pub last_point : List Point → Point
last_point [] = record { x = pos 0; y = pos 0 }
last_point (p ∷ []) = p
last_point (p ∷ q ∷ points) = last_point (q ∷ points)

-- the arc with this number
abbrev pub arc_number : List BaseArc → ℕ → BaseArc
arc_number arcs i = slice_index_or arcs i (record { left = 0; right = 0; points = [] })

-- the numbers of the arcs that border a face after k steps
abbrev pub border_numbers : MergedMap → ℕ → List ℕ
border_numbers h k = filter (λ i. is_border h k (arc_number h.base.arcs i)) (range_with_len 0 (length h.base.arcs))

-- how many ends of the arc are at a point
abbrev pub ends_at : Point → BaseArc → ℕ
ends_at p a = (if same_point (first_point a.points) p then 1 else 0) + (if same_point (last_point a.points) p then 1 else 0)

-- the degree of a node after k steps: how many ends of border arcs are there
abbrev pub degree : MergedMap → ℕ → Point → ℕ
degree h k p = sum_by (λ a. if is_border h k a then ends_at p a else 0) h.base.arcs

-- ---- chains

-- an arc in a chain: its number, and whether the chain runs against it
pub record Link : Type 0 where
  pub arc : ℕ
  pub turned : Bool

abbrev pub Chain : Type 0
Chain = List Link

-- the points of an arc in the direction of a chain, and the two ends
abbrev pub link_points : List BaseArc → Link → List Point
link_points arcs d = if d.turned then reverse (arc_number arcs d.arc).points else (arc_number arcs d.arc).points

abbrev pub link_start : List BaseArc → Link → Point
link_start arcs d = if d.turned then last_point (arc_number arcs d.arc).points else first_point (arc_number arcs d.arc).points

abbrev pub link_end : List BaseArc → Link → Point
link_end arcs d = if d.turned then first_point (arc_number arcs d.arc).points else last_point (arc_number arcs d.arc).points

-- the point at which a chain starts, and the point at which it ends
abbrev pub chain_start : List BaseArc → Chain → Point
chain_start arcs [] = record { x = pos 0; y = pos 0 }
chain_start arcs (d ∷ chain) = link_start arcs d

abbrev pub chain_end : List BaseArc → Chain → Point
chain_end arcs [] = record { x = pos 0; y = pos 0 }
chain_end arcs (d ∷ []) = link_end arcs d
chain_end arcs (d ∷ e ∷ chain) = chain_end arcs (e ∷ chain)

-- the points of a chain, each junction once
abbrev pub chain_points : List BaseArc → Chain → List Point
chain_points arcs [] = []
chain_points arcs (d ∷ []) = link_points arcs d
chain_points arcs (d ∷ e ∷ chain) = link_points arcs d ++ drop 1 (chain_points arcs (e ∷ chain))

-- the key of a chain: the least number of its arcs
abbrev pub least : ℕ → List ℕ → ℕ
least n [] = n
least n (m ∷ ms) = least (min n m) ms

abbrev pub key : Chain → ℕ
key [] = 0
key (d ∷ chain) = least d.arc (map (λ e. e.arc) chain)

-- ---- what a list of chains has to keep

-- the first step after which the degree of a node is two, of the first k steps
abbrev pub step_of_two : MergedMap → ℕ → Point → ℕ
step_of_two h k p = unwrap_or (find (λ j. degree h j p == 2) (range_with_len 0 (k + 1))) k

-- nodes stand in the order of the step at which their degree became two, then of the points
abbrev pub joins_before : MergedMap → ℕ → Point → Point → Bool
joins_before h k p q =
    nat_lt (step_of_two h k p) (step_of_two h k q) || ((step_of_two h k p == step_of_two h k q) && point_before p q)

-- each arc of a chain ends where the next one starts, at a node of degree two
abbrev pub is_joined : MergedMap → ℕ → Chain → Bool
is_joined h k [] = true
is_joined h k (d ∷ []) = true
is_joined h k (d ∷ e ∷ chain) =
    same_point (link_end h.base.arcs d) (link_start h.base.arcs e) && (degree h k (link_end h.base.arcs d) == 2) && is_joined h k (e ∷ chain)

-- the chain ends where it starts
abbrev pub is_closed : List BaseArc → Chain → Bool
is_closed arcs chain = same_point (chain_start arcs chain) (chain_end arcs chain)

-- No other chain can be joined at its ends: it is closed, or neither end has degree two.
abbrev pub is_maximal : MergedMap → ℕ → Chain → Bool
is_maximal h k chain =
    is_closed h.base.arcs chain
    || (not (degree h k (chain_start h.base.arcs chain) == 2) && not (degree h k (chain_end h.base.arcs chain) == 2))

-- Where a chain closes at a node of degree two, that node is its anchor: of the nodes of the chain that came last to degree
-- two, the greatest.
abbrev pub is_anchored : MergedMap → ℕ → Chain → Bool
is_anchored h k chain =
    not (is_closed h.base.arcs chain) || not (degree h k (chain_start h.base.arcs chain) == 2)
    || list_all (λ d. not (joins_before h k (chain_start h.base.arcs chain) (link_start h.base.arcs d))) chain

-- the chain has the direction of its least arc
abbrev pub is_directed : Chain → Bool
is_directed chain = list_all (λ d. not (d.arc == key chain) || not d.turned) chain

abbrev pub has_links : Chain → Bool
has_links [] = false
has_links (d ∷ chain) = true

-- each arc that borders a face stands in one chain, once, and no other arc does
abbrev pub covers_border : MergedMap → ℕ → List Chain → Bool
covers_border h k chains =
    list_all (λ i. count_by (λ d. d.arc == i) (flat_map (λ c. c) chains) == (if list_any (λ j. j == i) (border_numbers h k) then 1 else 0))
    (range_with_len 0 (length h.base.arcs))
    && list_all (λ d. nat_lt d.arc (length h.base.arcs)) (flat_map (λ c. c) chains)

abbrev pub is_chain : MergedMap → ℕ → Chain → Bool
is_chain h k chain =
    has_links chain && is_joined h k chain && is_maximal h k chain && is_anchored h k chain && is_directed chain

-- A list is the chains after k steps: each of its members is a chain, each border arc stands in one of them, and they stand in
-- the order of their keys.
unfoldable pub are_chains : MergedMap → ℕ → List Chain → Bool
are_chains h k chains =
    list_all (is_chain h k) chains && covers_border h k chains && is_sorted_by (λ c d. nat_lt (key c) (key d)) chains

-- ---- the same as a function

-- the chain in the other direction
abbrev pub turned_round : Chain → Chain
turned_round chain = reverse (map (λ d. record { arc = d.arc; turned = not d.turned }) chain)

-- an end of the chain is at the point
abbrev pub touches : List BaseArc → Point → Chain → Bool
touches arcs p chain = same_point (chain_start arcs chain) p || same_point (chain_end arcs chain) p

-- the chain, or the chain in the other direction, that ends at the point
abbrev pub toward : List BaseArc → Point → Chain → Chain
toward arcs p chain = if same_point (chain_end arcs chain) p then chain else turned_round chain

-- The chains after they are joined at a node of degree two: two different ones become one. One whose both ends are there is
-- closed, and starts and ends there.
abbrev pub join_at : List BaseArc → List Chain → Point → List Chain
join_at arcs chains p =
    elim (filter (touches arcs p) chains) [
      | [] ↦ chains
      | c ∷ [] ↦ chains
      | c ∷ d ∷ more ↦ (toward arcs p c ++ turned_round (toward arcs p d)) ∷ (more ++ filter (λ e. not (touches arcs p e)) chains)
    ]

-- the nodes of degree two after k steps, in the order of joining
abbrev pub joints : MergedMap → ℕ → List Point
joints h k =
    sort_by (joins_before h k)
    (filter (λ p. degree h k p == 2)
    (distinct_by point_before (flat_map (λ a. first_point a.points ∷ last_point a.points ∷ []) h.base.arcs)))

-- the chain in the direction of its least arc
abbrev pub directed : Chain → Chain
directed chain = if is_directed chain then chain else turned_round chain

-- The chains after k steps: the border arcs, joined at the nodes of degree two one after the other. The last join of a ring
-- is at its anchor, and so the ring starts and ends there.
unfoldable pub chains_at : MergedMap → ℕ → List Chain
chains_at h k =
    sort_by (λ c d. nat_lt (key c) (key d))
    (map directed
    (fold (join_at h.base.arcs) (map (λ i. record { arc = i; turned = false } ∷ []) (border_numbers h k)) (joints h k)))
