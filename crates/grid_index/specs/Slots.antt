-- The boxes of edges, in slots.
use Rattle.std.specs.Prelude.{◌≡◌, ℕ, ◌==◌, nat_eq, not, Bool, true, false, List, [], map, length, get_or, All, IsPermutation, Option, Some, None, option_to_list}
use Rattle.std.specs.List.{flat_map, list_any}
use Rattle.tgap_model.specs.declared.geometry.Window.{Window}
use Rattle.tgap_model.specs.declared.slice.Edge.{Edge}
use Rattle.grid_index.specs.declared.live.SegmentPlace.{SegmentPlace}
use Rattle.grid_index.specs.declared.segments.Entry.{Entry}
use Rattle.grid_index.specs.declared.slots.Holder.{Holder}
use Rattle.grid_index.specs.Boxes.{Covers}
use Rattle.grid_index.specs.Near.{near_boxes}
use Rattle.grid_index.specs.Live.{segment_boxes, AreLive}

-- an edge by its key and the boxes of its segments
abbrev pub entry_of : Edge → Entry
entry_of e = record { key = e.key; boxes = segment_boxes e.points }

-- what is read past the last edge
abbrev pub no_edge : Edge
no_edge = record { key = 0; left = 0; right = 0; points = [] }

-- the edge at a place
abbrev pub edge_at : List Edge → ℕ → Edge
edge_at edges i = get_or edges i no_edge

-- its segments whose boxes meet the area
abbrev pub entry_near : Window → Entry → List SegmentPlace
entry_near area e = map (λ i. record { key = e.key; place = i }) (near_boxes area e.boxes)

-- what the slots have, in their order
abbrev pub held : List (Option Entry) → List Entry
held slots = flat_map option_to_list slots

-- what a slot has, if it is there
abbrev pub slot_at : List (Option Entry) → ℕ → Option Entry
slot_at slots i = get_or slots i None

-- what a slot has is under this key
abbrev pub has_key : ℕ → Option Entry → Bool
has_key key None = false
has_key key (Some e) = key == e.key

-- what the slots of these places have, in their order
abbrev pub taken : List (Option Entry) → List ℕ → List Entry
taken slots places = flat_map (λ i. option_to_list (slot_at slots i)) places

-- a segment of it has a box that meets the area
abbrev pub is_near : Window → Entry → Bool
is_near area e = not (nat_eq (length (near_boxes area e.boxes)) 0)

-- what has this key is near the area
abbrev pub AreNear : Window → ℕ → List Entry → Type 0
AreNear area key entries = All (λ e. e.key ≡ key → is_near area e ≡ true) entries

-- the key of the entry is not among these
abbrev pub stays : List ℕ → Entry → Bool
stays gone e = not (list_any (λ k. k == e.key) gone)

-- a box for each slot, which holds those of what the slot has
pub record IsBounded (slots : List (Option Entry)) (row : List Window) : Type 0 where
  pub long : length row ≡ length slots
  pub holds : (i : ℕ) (d : Window) (e : Entry) → slot_at slots i ≡ Some e → All (Covers (get_or row i d)) e.boxes

-- the slots of a row that have something, each by the key of what it has
pub record IsHolder (slots : List (Option Entry)) (holder : Holder) : Type 0 where
  pub is : (e : Entry) × (slot_at slots holder.slot ≡ Some e) × (holder.key ≡ e.key)

-- the slots have these edges
pub record IsIndexed (edges : List Edge) (slots : List (Option Entry)) : Type 0 where
  pub live : AreLive edges
  pub held : IsPermutation (map entry_of edges) (held slots)
