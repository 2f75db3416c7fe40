-- The boxes hold the points that are left.
use Rattle.std.proofs.Common.{◌<◌, ℕ, length, Contains, sym, subst}
use Rattle.map_laws.proofs.Lists.{all_members, members_all}
use Rattle.grid_index.specs.Live.{keys}
use Rattle.tgap_build.specs.Table.{labelled_edges}
use Rattle.tgap_build.specs.Queues.{IsCornered, AreKeptBut}
use Rattle.tgap_build.proofs.BoxedTables.{sought_less}
use Rattle.tgap_build.proofs.KeptEdges.{kept_less}
use Rattle.tgap_build.proofs.TableLive.{keys_placed}
use Rattle.tgap_build.proofs.live_edges.LiveEdges.remove.Goals as goal

pub remove_points-requires-clause-room : goal.remove_points-requires-clause-room
remove_points-requires-clause-room c =
    let t = c.args.self.now.edges in
    all_members (λ k. k < length t.places.items) c.args.losing.now (λ k m.
    keys_placed t.places.items c.requires.table.keyed k (members_all (Contains (keys (labelled_edges t))) c.args.losing.now k c.requires.there m))

pub returns-clause-sought : goal.returns-clause-sought
returns-clause-sought c =
    let t = c.args.self.now.edges in
    let after = c.remove_points.ensures in
    sought_less c.args.gone.now c.args.losing.now t.places.items c.remove_points.new.self.places.items c.requires.table.keyed after.table.keyed after.edges after.room.places
    c.args.self.now.sought c.requires.sought

pub requeue-requires-clause-corners : goal.requeue-requires-clause-corners
requeue-requires-clause-corners c =
    let edges = labelled_edges c.args.self.now.edges in
    let kept = subst (λ (n : ℕ). IsCornered n edges c.args.self.now.corners) (sym c.remove_points.ensures.room.lists) c.requires.corners in
    (edges, kept)

pub returns-clause-corners : goal.returns-clause-corners
returns-clause-corners c =
    let edges = labelled_edges c.args.self.now.edges in
    let kept = subst (λ (n : ℕ). IsCornered n edges c.args.self.now.corners) (sym c.remove_points.ensures.room.lists) c.requires.corners in
    c.in_ok-requeue.ensures edges kept (subst (AreKeptBut c.args.losing.now edges) (sym c.remove_points.ensures.edges) (kept_less c.args.gone.now c.args.losing.now edges))
