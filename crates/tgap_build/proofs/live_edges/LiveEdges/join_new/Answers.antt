-- One more edge is joined, or there was none.
use Rattle.std.proofs.Common.{◌∙◌, ℕ, ◌+◌, ◌≤◌, true, false, List, [], ◌∷◌, ◌++◌, append_assoc, map, sym, ap, subst, arith}
use Rattle.std.specs.Prelude.{flat_map}
use Rattle.std.specs.Global.{Vec}
use Rattle.std.proofs.lemmas.List.{append-nil, map-append}
use Rattle.std.proofs.lemmas.List.Concat.{flat_map-append}
use Rattle.tgap_model.specs.Merged.{merged}
use Rattle.tgap_model.specs.Chains.{Chain}
use Rattle.edge_forest.specs.Edges.{chain_of}
use Rattle.tgap_build.specs.declared.live_edges.LiveEdges.{LiveEdges}
use Rattle.tgap_build.specs.declared.live_edges.Made.{Made}
use Rattle.tgap_build.specs.Table.{HaveSameRoom}
use Rattle.tgap_build.specs.Changes.{HasJoined, born_chains, made_of, part_keys}
use Rattle.tgap_build.proofs.Born.{born_more}
use Rattle.tgap_build.proofs.live_edges.LiveEdges.join_new.Goals as goal
use Rattle.tgap_build.proofs.live_edges.LiveEdges.join_new.Goals.{then-is_alive+in_ok-join+in_ok-push, else-is_alive}

pub loop-id-preserved : goal.loop-id-preserved
loop-id-preserved c =
    let f = c.args.forest.now in
    let k = c.args.k in
    let old = c.args.old in
    let id = c.loop-id.id in
    let h = merged f.base in
    let b = chain_of f.edges id in
    let bs = born_chains f k old id in
    let inv = c.loop-id.invariant in
    let from : old ≤ id = omega arith in
    elim c.if-is_alive.branch [
      | then-is_alive+in_ok-join+in_ok-push w ↦
          (let more = born_more f k old c.requires.some c.requires.grown id from true (sym c.is_alive.ensures ∙ w.if-is_alive.true) in
          let one = w.in_ok-join.ensures in
          record {
            made = ap (λ (v : Vec Made). v.items) w.made-is ∙ w.in_ok-push.ensures.items ∙ ap (λ (o : Made). c.loop-id.made.items ++ o ∷ []) one.made
                ∙ ap (λ (os : List Made). os ++ made_of h k b ∷ []) inv.made ∙ sym (map-append (made_of h k) bs (b ∷ [])) ∙ ap (map (made_of h k)) (sym more);
            table = λ left start.
                subst (λ (s : LiveEdges). HasJoined h k left (born_chains f k old (id + 1)) s.edges) (sym w.self-is)
                (subst (λ (cs : List Chain). HasJoined h k left cs w.join.new.self.edges) (sym more) (one.table left (inv.table left start)));
            joined = ap (λ (v : Vec ℕ). v.items) w.joined-is ∙ one.joined ∙ ap (λ (ks : List ℕ). ks ++ part_keys h k b) inv.joined
                ∙ append_assoc c.args.joined.now.items (flat_map (part_keys h k) bs) (part_keys h k b)
                ∙ ap (λ (ks : List ℕ). c.args.joined.now.items ++ ks) (ap (λ (ks : List ℕ). flat_map (part_keys h k) bs ++ ks) (sym (append-nil (part_keys h k b))) ∙ sym (flat_map-append (part_keys h k) bs (b ∷ [])))
                ∙ ap (λ (cs : List Chain). c.args.joined.now.items ++ flat_map (part_keys h k) cs) (sym more);
            labels = ap (λ (s : LiveEdges). s.edges.labels) w.self-is ∙ one.labels ∙ inv.labels;
            room = subst (λ (s : LiveEdges). HaveSameRoom c.args.self.now.edges s.edges) (sym w.self-is)
                (record { places = one.room.places ∙ inv.room.places; lists = one.room.lists ∙ inv.room.lists });
            sought = ap (λ (s : LiveEdges). s.sought) w.self-is ∙ one.sought ∙ inv.sought;
            corners = ap (λ (s : LiveEdges). s.corners) w.self-is ∙ one.corners ∙ inv.corners;
          })
      | else-is_alive w ↦
          (let more = born_more f k old c.requires.some c.requires.grown id from false (sym c.is_alive.ensures ∙ w.if-is_alive.false) ∙ append-nil bs in
          record {
            made = ap (λ (v : Vec Made). v.items) w.made-is ∙ inv.made ∙ ap (map (made_of h k)) (sym more);
            table = λ left start.
                subst (λ (s : LiveEdges). HasJoined h k left (born_chains f k old (id + 1)) s.edges) (sym w.self-is)
                (subst (λ (cs : List Chain). HasJoined h k left cs c.loop-id.self.edges) (sym more) (inv.table left start));
            joined = ap (λ (v : Vec ℕ). v.items) w.joined-is ∙ inv.joined ∙ ap (λ (cs : List Chain). c.args.joined.now.items ++ flat_map (part_keys h k) cs) (sym more);
            labels = ap (λ (s : LiveEdges). s.edges.labels) w.self-is ∙ inv.labels;
            room = subst (λ (s : LiveEdges). HaveSameRoom c.args.self.now.edges s.edges) (sym w.self-is) inv.room;
            sought = ap (λ (s : LiveEdges). s.sought) w.self-is ∙ inv.sought;
            corners = ap (λ (s : LiveEdges). s.corners) w.self-is ∙ inv.corners;
          })
    ]
