-- Edges in order of key.
use Rattle.std.specs.Prelude.{◌≡◌, nat_lt, List, ◌++◌}
use Rattle.lemmas.specs.Sorting.{sort_by}
use Rattle.tgap_model.specs.declared.slice.Edge.{Edge}

-- the edges in order of key
abbrev pub in_order : List Edge → List Edge
in_order edges = sort_by (λ e f. nat_lt e.key f.key) edges

-- the first list is what the second begins with
abbrev pub IsFront : List Edge → List Edge → Type 0
IsFront front edges = (back : List Edge) × (edges ≡ front ++ back)
