-- What is kept of each edge that has not ended.
use Rattle.std.specs.Prelude.{◌≡◌, ◌<◌, ℕ, ◌+◌, ◌*◌, Bool, true, not, List, [], ◌∷◌, ◌++◌, flat_map, length, get_or, Option, Some, if◌then◌else◌}
use Rattle.tgap_model.specs.declared.geometry.Point.{Point}
use Rattle.tgap_model.specs.declared.base.BaseArc.{BaseArc}
use Rattle.tgap_model.specs.Chains.{Link, Chain, first_point, last_point, chain_start, chain_end, key, has_links, is_directed, turned_round}
use Rattle.edge_forest.specs.declared.net.Current.{Current}
use Rattle.edge_forest.specs.Net.{row_at}

-- ---- arc ends: 2 i is the first end of arc i, and 2 i + 1 the last one

-- the points of the arc ends
abbrev pub end_points : List BaseArc → List Point
end_points arcs = flat_map (λ a. first_point a.points ∷ last_point a.points ∷ []) arcs

-- the arc end at which an arc of a chain starts, and that at which it ends
abbrev pub link_first : Link → ℕ
link_first d = 2 * d.arc + (if d.turned then 1 else 0)

abbrev pub link_last : Link → ℕ
link_last d = 2 * d.arc + (if d.turned then 0 else 1)

-- the arc end at which a chain starts, and that at which it ends
abbrev pub first_end : Chain → ℕ
first_end [] = 0
first_end (d ∷ c) = link_first d

abbrev pub last_end : Chain → ℕ
last_end [] = 0
last_end (d ∷ []) = link_last d
last_end (d ∷ e ∷ c) = last_end (e ∷ c)

-- ---- rows

-- Row i is that of an edge whose chain has the key i, in the direction of its least arc, with the two arc ends.
pub record IsRow (chains : List Chain) (i : ℕ) (r : Current) : Type 0 where
  pub id : r.id < length chains
  pub links : has_links (get_or chains r.id []) ≡ true
  pub key : key (get_or chains r.id []) ≡ i
  pub directed : is_directed (get_or chains r.id []) ≡ true
  pub first : r.first ≡ first_end (get_or chains r.id [])
  pub last : r.last ≡ last_end (get_or chains r.id [])

abbrev pub AreRows : List Chain → List (Option Current) → Type 0
AreRows chains rows = (i : ℕ) (r : Current) → row_at rows i ≡ Some r → IsRow chains i r

-- ---- a joined edge

-- the end of the chain, or its start
abbrev pub tip : List BaseArc → Bool → Chain → Point
tip arcs e c = if e then chain_end arcs c else chain_start arcs c

-- the chain, or the chain turned round
abbrev pub turned_if : Bool → Chain → Chain
turned_if t c = if t then turned_round c else c

-- The first chain with the second at its end or its start, in the direction of the first: `ea` and `eb` say whether each ends at
-- the node.
abbrev pub attached : Bool → Bool → Chain → Chain → Chain
attached ea eb a b = if ea then a ++ turned_if eb b else turned_if (not eb) b ++ a

-- the arc end of the second edge that is not at the node
abbrev pub outer_end : Bool → Current → ℕ
outer_end eb s = if eb then s.first else s.last

-- The first edge with the second at its end or its start: `ea` and `eb` say whether each ends at the node.
abbrev pub joined_row : Bool → Bool → ℕ → Current → Current → Current
joined_row ea eb id r s = record {
  id = id;
  first = if ea then r.first else outer_end eb s;
  last = if ea then outer_end eb s else r.last;
  left = r.left;
  right = r.right;
}
