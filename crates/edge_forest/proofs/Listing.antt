-- How an edge is listed at the nodes of its range, level by level, and the index after one more edge.
use Rattle.std.proofs.Common.{◌≡◌, ◌≢◌, ◌⊎◌, inl, inr, ℕ, zero, suc, ◌+◌, ◌-◌, ◌*◌, ◌/◌, ◌^◌, ◌<◌, ◌≤◌, ◌==◌, Bool, true, false, cond, nat_lt, List, [], ◌∷◌, ◌++◌, length, map, get_or, replicate, refl, sym, ap, ap₂, ◌∙◌, subst, append_assoc, eq-eqb, arith}
use Rattle.std.proofs.Math.Nat.{pow-succ'}
use Rattle.std.proofs.lemmas.Bool.{cases_eq, cases_lt, ne_eqb, lt-ltb, le-ltb}
use Rattle.std.proofs.lemmas.List.{append-nil, get_or-map, get_or-replicate, length-map, length-replicate}
use Rattle.lemmas.specs.Parity.{is_odd}
use Rattle.edge_forest.specs.declared.edge.ForestEdge.{ForestEdge}
use Rattle.edge_forest.specs.declared.index.RangeIndex.{RangeIndex}
use Rattle.edge_forest.specs.Edges.{edge_at}
use Rattle.edge_forest.specs.Forest.{never}
use Rattle.edge_forest.specs.Index.{listed_nodes, times, nodes_of_edge, IsListed, IsIndex}
use Rattle.edge_forest.specs.Kept.{closed_edge}
use Rattle.edge_forest.proofs.Times.{times-append}

-- ---- lists of nodes

pub listed-none : (old : List (List ℕ)) (id : ℕ) → IsListed old old id []
listed-none old id = record { count = refl; listed = λ x i h. by x (i == id) }
  where
    by : (x : ℕ) (b : Bool) {n : ℕ} → n ≡ n + cond b 0 0
    by x true = omega arith
    by x false = omega arith

pub listed-join : (old mid new : List (List ℕ)) (id : ℕ) (firsts lasts : List ℕ) → IsListed old mid id firsts → IsListed mid new id lasts → IsListed old new id (firsts ++ lasts)
listed-join old mid new id firsts lasts f g = record {
  count = g.count ∙ f.count;
  listed = λ x i h. by x (i == id) _ _ _ (f.listed x i h) (g.listed x i (omega (arith, h, f.count)));
}
  where
    by : (x : ℕ) (b : Bool) (m n p : ℕ) → n ≡ m + cond b (times x firsts) 0 → p ≡ n + cond b (times x lasts) 0 → p ≡ m + cond b (times x (firsts ++ lasts)) 0
    by x true m n p e d = omega (arith, e, d, times-append x firsts lasts)
    by x false m n p e d = omega (arith, e, d)

-- ---- on the way

pub none_left : (levels low high : ℕ) → high ≤ low → listed_nodes levels low high ≡ []
none_left zero low high h = refl
none_left (suc levels) low high h =
    ap (λ (b : Bool). cond b ((cond (is_odd low) (low ∷ []) []) ++ ((cond (is_odd (high - 1)) [] ((high - 1) ∷ [])) ++ listed_nodes levels ((low + 1) / 2) (high / 2))) []) (le-ltb low high h)

some_left : (levels low high : ℕ) → low < high
    → listed_nodes (suc levels) low high ≡ (cond (is_odd low) (low ∷ []) []) ++ ((cond (is_odd (high - 1)) [] ((high - 1) ∷ [])) ++ listed_nodes levels ((low + 1) / 2) (high / 2))
some_left levels low high h =
    ap (λ (b : Bool). cond b ((cond (is_odd low) (low ∷ []) []) ++ ((cond (is_odd (high - 1)) [] ((high - 1) ∷ [])) ++ listed_nodes levels ((low + 1) / 2) (high / 2))) []) (lt-ltb low high h)

-- Of the nodes of a range those of the lower levels are done.
pub record IsUnderWay (old now : List (List ℕ)) (id levels first last low high : ℕ) : Type 0 where
  pub left : ℕ
  pub done : List ℕ
  pub all : listed_nodes levels first last ≡ done ++ listed_nodes left low high
  pub listed : IsListed old now id done
  pub lows : 2 ^ left ≤ 2 * low
  pub highs : high ≤ 2 ^ left

pub way_begins : (old : List (List ℕ)) (id levels low high : ℕ) → 2 ^ levels ≤ 2 * low → high ≤ 2 ^ levels → IsUnderWay old old id levels low high low high
way_begins old id levels low high h k = record { left = levels; done = []; all = refl; listed = listed-none old id; lows = h; highs = k }

pub way_goes_on : (old now mid new : List (List ℕ)) (id levels first last low high : ℕ) → low < high → IsUnderWay old now id levels first last low high
    → IsListed now mid id (cond (is_odd low) (low ∷ []) []) → IsListed mid new id (cond (is_odd (high - 1)) [] ((high - 1) ∷ []))
    → IsUnderWay old new id levels first last ((low + 1) / 2) (high / 2)
way_goes_on old now mid new id levels first last low high less w f g = by w.left w.all w.lows w.highs
  where
    firsts : List ℕ
    firsts = cond (is_odd low) (low ∷ []) []

    lasts : List ℕ
    lasts = cond (is_odd (high - 1)) [] ((high - 1) ∷ [])

    by : (left : ℕ) → listed_nodes levels first last ≡ w.done ++ listed_nodes left low high → 2 ^ left ≤ 2 * low → high ≤ 2 ^ left
        → IsUnderWay old new id levels first last ((low + 1) / 2) (high / 2)
    by zero e h k = absurd (omega arith)
    by (suc left) e h k =
        let double = pow-succ' 2 left in
        let rest = listed_nodes left ((low + 1) / 2) (high / 2) in
        record {
          left = left;
          done = w.done ++ (firsts ++ lasts);
          all = e ∙ ap (λ (xs : List ℕ). w.done ++ xs) (some_left left low high less ∙ sym (append_assoc firsts lasts rest)) ∙ sym (append_assoc w.done (firsts ++ lasts) rest);
          listed = listed-join old now new id w.done (firsts ++ lasts) w.listed (listed-join now mid new id firsts lasts f g);
          lows = omega arith;
          highs = omega arith;
        }

pub way_ends : (old now : List (List ℕ)) (id levels first last low high : ℕ) → high ≤ low → IsUnderWay old now id levels first last low high → IsListed old now id (listed_nodes levels first last)
way_ends old now id levels first last low high done w =
    subst (IsListed old now id) (sym (w.all ∙ ap (λ (xs : List ℕ). w.done ++ xs) (none_left w.left low high done) ∙ append-nil w.done)) w.listed

-- ---- one more edge

-- the edges below this number are listed
pub record AreListed (edges : List ForestEdge) (depth size id : ℕ) (nodes : List (List ℕ)) : Type 0 where
  pub count : length nodes ≡ size
  pub listed : (x i : ℕ) → x < size → times i (get_or nodes x []) ≡ cond (nat_lt i id) (times x (nodes_of_edge depth (edge_at edges i))) 0

pub none_listed : (edges : List ForestEdge) (depth size : ℕ) (nodes : List (List ℕ)) → nodes ≡ replicate size [] → AreListed edges depth size 0 nodes
none_listed edges depth size nodes e = record {
  count = ap length e ∙ length-replicate size [];
  listed = λ x i h. ap (λ (ns : List (List ℕ)). times i (get_or ns x [])) e ∙ ap (times i) (get_or-replicate size x [] [] h)
      ∙ sym (ap (λ (b : Bool). cond b (times x (nodes_of_edge depth (edge_at edges i))) 0) (le-ltb i 0 (omega arith)));
}

pub one_more_listed : (edges : List ForestEdge) (depth size id : ℕ) (nodes new : List (List ℕ)) → AreListed edges depth size id nodes
    → IsListed nodes new id (nodes_of_edge depth (edge_at edges id)) → AreListed edges depth size (id + 1) new
one_more_listed edges depth size id nodes new w f = record {
  count = f.count ∙ w.count;
  listed = λ x i h. by x i (cases_eq i id) (w.listed x i h) (f.listed x i (omega (arith, h, w.count)));
}
  where
    by : (x i : ℕ) → (i ≡ id) ⊎ (i ≢ id) → {m n : ℕ} → m ≡ cond (nat_lt i id) (times x (nodes_of_edge depth (edge_at edges i))) 0
        → n ≡ m + cond (i == id) (times x (nodes_of_edge depth (edge_at edges id))) 0 → n ≡ cond (nat_lt i (id + 1)) (times x (nodes_of_edge depth (edge_at edges i))) 0
    by x i (inl e) h k =
        let none = h ∙ ap (λ (b : Bool). cond b (times x (nodes_of_edge depth (edge_at edges i))) 0) (le-ltb i id (omega arith)) in
        let here = ap (λ (b : Bool). cond b (times x (nodes_of_edge depth (edge_at edges id))) 0) (eq-eqb i id e) in
        let same = ap (λ (j : ℕ). times x (nodes_of_edge depth (edge_at edges j))) e in
        let within = ap (λ (b : Bool). cond b (times x (nodes_of_edge depth (edge_at edges i))) 0) (lt-ltb i (id + 1) (omega arith)) in
        omega (arith, none, here, same, within, k)
    by x i (inr e) h k =
        let other = ap (λ (b : Bool). cond b (times x (nodes_of_edge depth (edge_at edges id))) 0) (ne_eqb i id e) in
        let tests : nat_lt i id ≡ nat_lt i (id + 1) = elim (cases_lt i id) [
          | inl less ↦ lt-ltb i id less ∙ sym (lt-ltb i (id + 1) (omega arith))
          | inr more ↦ le-ltb i id more ∙ sym (le-ltb i (id + 1) (omega arith))
        ] in
        let same = ap (λ (b : Bool). cond b (times x (nodes_of_edge depth (edge_at edges i))) 0) tests in
        omega (arith, h, k, other, same)

-- ---- the edges of a history that is at its end

module _ (edges : List ForestEdge) (last id : ℕ) (e : ForestEdge) (high : ℕ) (short : id < length edges) (read : e ≡ edge_at edges id)
    (closed : high ≡ cond (e.high == never) last e.high) where
  read_closed : edge_at (map (closed_edge last) edges) id ≡ closed_edge last e
  read_closed = get_or-map (closed_edge last) edges id _ _ short ∙ ap (closed_edge last) (sym read)

  pub closed_high_is : (edge_at (map (closed_edge last) edges) id).high ≡ high
  closed_high_is = ap (λ (f : ForestEdge). f.high) read_closed ∙ sym closed

  pub closed_nodes : (depth leaves : ℕ) → leaves ≡ 2 ^ depth
      → listed_nodes (suc depth) (leaves + e.low) (leaves + high) ≡ nodes_of_edge depth (edge_at (map (closed_edge last) edges) id)
  closed_nodes depth leaves power =
      ap₂ (λ (n h : ℕ). listed_nodes (suc depth) (n + e.low) (n + h)) power closed ∙ ap (nodes_of_edge depth) (sym read_closed)

pub all_listed : (edges : List ForestEdge) (last id : ℕ) (index : RangeIndex) → index.leaves ≡ 2 ^ index.depth → last < index.leaves
    → ((d : ℕ) → last < 2 ^ d → index.depth ≤ d) → id ≡ length edges
    → AreListed (map (closed_edge (last + 1)) edges) index.depth (2 * index.leaves) id index.nodes → IsIndex last (map (closed_edge (last + 1)) edges) index
all_listed edges last id index leaves wide least all w = record {
  leaves = leaves;
  wide = wide;
  least = least;
  count = w.count;
  listed = λ x i h. w.listed x i (omega (arith, h, w.count))
      ∙ ap (λ (n : ℕ). cond (nat_lt i n) (times x (nodes_of_edge index.depth (edge_at (map (closed_edge (last + 1)) edges) i))) 0) (all ∙ sym (length-map edges (closed_edge (last + 1))));
}
