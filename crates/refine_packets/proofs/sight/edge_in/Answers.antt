-- The edge that is found is the one of the window; where none is found there is none.
use Rattle.std.proofs.Common.{◌≡◌, ℕ, Option, sym, ◌∙◌, subst}
use Rattle.std.proofs.lemmas.Result.{IfOk-weaker}
use Rattle.tgap_model.specs.Merged.{merged}
use Rattle.tgap_model.specs.Records.{edge_with}
use Rattle.tgap_model.specs.WindowRecords.{window_at}
use Rattle.refine_packets.specs.Near.{IsFound}
use Rattle.refine_packets.proofs.NearEdges.{found_is, nothing_is}
use Rattle.refine_packets.proofs.sight.edge_in.Goals as goal

pub returns-in-Some : goal.returns-in-Some
returns-in-Some c =
    let f = c.args.forest.now in
    let n = c.args.near.now in
    let s = c.requires.sight in
    IfOk-weaker c.read_in.result _ (λ found. found ≡ edge_with (window_at (merged f.base) n.area c.args.k) c.args.key) (λ found e.
    e ∙ found_is f n s.near s.forest s.made c.args.k c.requires.step c.args.key c.in-Some.id
    (subst (λ (o : Option ℕ). IsFound f n.area c.args.key c.args.k o) c.in-Some.is c.find.ensures))
    c.read_in.ensures

pub returns-in-None : goal.returns-in-None
returns-in-None c =
    let f = c.args.forest.now in
    let n = c.args.near.now in
    let s = c.requires.sight in
    sym (nothing_is f n s.near s.forest s.made c.args.k c.requires.step c.args.key
    (subst (λ (o : Option ℕ). IsFound f n.area c.args.key c.args.k o) c.in-None.is c.find.ensures))
