-- What the indexes so far took, with what the rest takes, is what all take.
use Rattle.std.proofs.Common.{◌≡◌, drop}
use Rattle.line_forms.specs.Json.{try_fold}
use Rattle.topology_forms.specs.Rings.{index_taken}
use Rattle.ring_sides.specs.Taking.{KeepsForm, is_left}
use Rattle.ring_sides.proofs.taken.Taken.take_ring.Given as goal

abbrev pub invariant-loop-index : goal.invariant-loop-index
invariant-loop-index l =
    let take = index_taken l.arcs (is_left l.side) l.face in
    record {
      taken : try_fold take l.self (drop l.index-index l.ring) ≡ try_fold take l.fn.self l.ring;
      form : KeepsForm l.fn.self l.self;
    }
