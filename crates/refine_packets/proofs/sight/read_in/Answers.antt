-- The edge is left where it meets the window.
use Rattle.std.proofs.Common.{rules, ◌≡◌, ◌<◌, ℕ, ◌-◌, Bool, true, false, cond, List, [], ◌∷◌, ◌++◌, filter, length, get_or, Option, Some, None, refl, ap, ap₂, ◌∙◌, arith}
use Rattle.std.specs.Option.{option_to_list}
use Rattle.std.proofs.lemmas.Fn.{filter_same}
use Rattle.tgap_model.specs.declared.slice.Edge.{Edge}
use Rattle.tgap_model.specs.Merged.{merged}
use Rattle.tgap_model.specs.Removals.{edge_of, removals_to}
use Rattle.tgap_model.specs.Slice.{meets_window}
use Rattle.edge_forest.specs.Edges.{chain_of}
use Rattle.refine_packets.proofs.sight.read_in.Goals as goal

-- what is taken off the end of one edge or none
taken : (b : Bool) (e : Edge) (xs ys : List Edge) (len : ℕ) (r : Option Edge) → xs ≡ cond b (e ∷ []) [] → len ≡ length xs → xs ≡ ys ++ option_to_list r
    → ((d : Edge) → 0 < len → r ≡ Some (get_or xs (len - 1) d)) → r ≡ cond b (Some e) None
taken true e xs ys len r is long items value =
    let one : len ≡ 1 = long ∙ ap length is in
    value e (omega (arith, one)) ∙ ap₂ (λ (zs : List Edge) (i : ℕ). Some (get_or zs (i - 1) e)) is one
taken false e xs ys len None is long items value = refl
taken false e xs [] len (Some x) is long items value = absurd cc
taken false e xs (y ∷ ys) len (Some x) is long items value = absurd cc

pub returns : goal.returns
returns c =
    let f = c.args.forest.now in
    let k = c.args.k in
    let area = c.args.near.now.area in
    let e = edge_of (merged f.base) k (removals_to (merged f.base) k) (chain_of f.edges c.args.id) in
    taken (meets_window area e) e c.retain.new.self.items c.pop.new.self.items c.retain.new.self.len c.pop.result
    (filter_same _ (meets_window area) _ (λ x b f' k. search rules) _ _ c.retain.ensures.filtered
    ∙ ap (filter (meets_window area))
    (c.into_vec-edges.ensures ∙ c.in_ok-edges_of.ensures (removals_to (merged f.base) k) (c.requires.sight.removed.by_then k c.requires.step)))
    c.retain.new.self.ok.0 c.pop.ensures.items c.pop.ensures.value
