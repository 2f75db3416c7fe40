-- Edges go on, and what goes on goes on further.
use Rattle.std.proofs.Common.{◌≡◌, ◌⊎◌, inl, inr, ℕ, ◌<◌, List, [], length, get_or, sym, ap, ◌∙◌, arith}
use Rattle.tgap_model.specs.Chains.{Chain}
use Rattle.edge_forest.specs.declared.edge.ForestEdge.{ForestEdge}
use Rattle.edge_forest.specs.Edges.{edge_at, chain_of}
use Rattle.edge_forest.specs.Forest.{never}
use Rattle.edge_forest.specs.Growth.{ended}
use Rattle.edge_forest.specs.Continued.{IsContinued, AreContinued}
use Rattle.edge_forest.proofs.EndedEdges.{same_chains}

-- an edge that is as before, or has ended
pub continued : (low : ℕ) → low < never → (edges edges' : List ForestEdge) (i : ℕ)
    → (edge_at edges' i ≡ edge_at edges i) ⊎ (((edge_at edges i).high ≡ never) × (edge_at edges' i ≡ ended low (edge_at edges i)))
    → chain_of edges' i ≡ chain_of edges i → IsContinued edges edges' i
continued low small edges edges' i (inl e) chain = record {
  same = e ∙ ap (λ (f : ForestEdge). ended f.high (edge_at edges i)) (sym e);
  high = omega (arith, ap (λ (f : ForestEdge). f.high) e);
  chain = chain;
}
continued low small edges edges' i (inr e) chain = record {
  same = e.1 ∙ ap (λ (f : ForestEdge). ended f.high (edge_at edges i)) (sym e.1);
  high = omega (arith, small, e.0, ap (λ (f : ForestEdge). f.high) e.1);
  chain = chain;
}

-- nothing has changed
pub all_as_before : (edges edges' : List ForestEdge) → edges' ≡ edges → AreContinued edges edges'
all_as_before edges edges' e = record {
  count = omega (arith, ap length e);
  each = λ i l. record {
    same = ap (λ (es : List ForestEdge). edge_at es i) e ∙ ap (λ (es : List ForestEdge). ended (edge_at es i).high (edge_at edges i)) (sym e);
    high = omega (arith, ap (λ (es : List ForestEdge). (edge_at es i).high) e);
    chain = ap (λ (es : List ForestEdge). chain_of es i) e;
  };
}

-- once, and then again
pub continued_twice : (edges edges' edges'' : List ForestEdge) → AreContinued edges edges' → AreContinued edges' edges'' → AreContinued edges edges''
continued_twice edges edges' edges'' a b = record {
  count = omega (arith, a.count, b.count);
  each = λ i l.
      let u = a.each i l in
      let v = b.each i (omega (arith, a.count)) in
      record {
        same = v.same ∙ ap (λ (f : ForestEdge). ended (edge_at edges'' i).high f) u.same;
        high = omega (arith, u.high, v.high);
        chain = v.chain ∙ u.chain;
      };
}

-- some have ended
pub ended_continued : (low : ℕ) → low < never → (edges edges' : List ForestEdge) → length edges' ≡ length edges
    → ((i : ℕ) → i < length edges' → (edge_at edges' i ≡ edge_at edges i) ⊎ (((edge_at edges i).high ≡ never) × (edge_at edges' i ≡ ended low (edge_at edges i))))
    → AreContinued edges edges'
ended_continued low small edges edges' count kept = record {
  count = omega (arith, count);
  each = λ i l. continued low small edges edges' i (kept i (omega (arith, l, count)))
      (ap (λ (cs : List Chain). get_or cs i []) (same_chains low edges edges' count kept));
}
