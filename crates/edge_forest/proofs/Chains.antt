-- The chains of the edges do not change when an edge ends, and get one more with each new edge.
use Rattle.std.proofs.Common.{◌≡◌, ℕ, ◌+◌, List, [], ◌∷◌, ◌++◌, map, length, set, refl, sym, ap, ◌∙◌, arith}
use Rattle.std.specs.Prelude.{fold}
use Rattle.std.proofs.Math.Seq.{map-set_same}
use Rattle.std.proofs.lemmas.List.Sums.{fold-append}
use Rattle.tgap_model.specs.Chains.{Chain}
use Rattle.edge_forest.specs.declared.edge.Part.{Part}
use Rattle.edge_forest.specs.declared.edge.ForestEdge.{ForestEdge}
use Rattle.edge_forest.specs.Edges.{edge_at, parts_chain, chains_of}

-- the chains by the parts of the edges alone
abbrev with_parts : List Chain → List Part → List Chain
with_parts chains parts = chains ++ parts_chain chains parts ∷ []

abbrev parts_of : List ForestEdge → List (List Part)
parts_of edges = map (λ (e : ForestEdge). e.parts) edges

by_parts : (chains : List Chain) (edges : List ForestEdge)
    → fold (λ chains (e : ForestEdge). chains ++ parts_chain chains e.parts ∷ []) chains edges ≡ fold with_parts chains (parts_of edges)
by_parts chains [] = refl
by_parts chains (e ∷ edges) = by_parts (with_parts chains e.parts) edges

-- edges with the same parts have the same chains
pub same_parts : (edges edges' : List ForestEdge) → map (λ (e : ForestEdge). e.parts) edges ≡ map (λ (e : ForestEdge). e.parts) edges' → chains_of edges ≡ chains_of edges'
same_parts edges edges' e = by_parts [] edges ∙ ap (fold with_parts []) e ∙ sym (by_parts [] edges')

pub set_chains : (edges : List ForestEdge) (i : ℕ) (e : ForestEdge) → e.parts ≡ (edge_at edges i).parts → chains_of (set edges i e) ≡ chains_of edges
set_chains edges i e s = same_parts (set edges i e) edges (map-set_same (λ (e : ForestEdge). e.parts) edges i e (record { key = 0; low = 0; high = 0; left = 0; right = 0; parts = [] }) s)

-- a new edge has its chain behind the others
pub push_chains : (edges : List ForestEdge) (e : ForestEdge) → chains_of (edges ++ e ∷ []) ≡ chains_of edges ++ parts_chain (chains_of edges) e.parts ∷ []
push_chains edges e = fold-append (λ chains (e : ForestEdge). chains ++ parts_chain chains e.parts ∷ []) [] edges (e ∷ [])

-- there is one for each edge
count_from : (chains : List Chain) (edges : List ForestEdge)
    → length (fold (λ chains (e : ForestEdge). chains ++ parts_chain chains e.parts ∷ []) chains edges) ≡ length chains + length edges
count_from chains [] = omega arith
count_from chains (e ∷ edges) = omega (arith, count_from (with_parts chains e.parts) edges, one chains (parts_chain chains e.parts))
  where
    one : (cs : List Chain) (c : Chain) → length (cs ++ c ∷ []) ≡ length cs + 1
    one [] c = refl
    one (d ∷ cs) c = omega (arith, one cs c)

pub chains_count : (edges : List ForestEdge) → length (chains_of edges) ≡ length edges
chains_count edges = omega (arith, count_from [] edges)
