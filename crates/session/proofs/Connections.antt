-- What is told of a connection, whose first pin may have seen more versions than were seen before.
use Rattle.std.proofs.Common.{◌≡◌, ℕ, Bool, ◌+◌, List, length, Option, arith, inl}
use Rattle.plain_io.specs.declared.connection.ConnectionEnd.{ConnectionEnd}
use Rattle.session.specs.Versions.{Seen, Continues, SameCounts}
use Rattle.session.specs.Conversation.{Conversation, IsConnection}
use Rattle.session.proofs.Kept.{no_shorter}
use Rattle.session.proofs.Counting.{counts_later}
use Rattle.session.proofs.Progressing.{continues_more}

-- a connection that began with a pin was served
pub served_from : (a b c : Seen) (taken taken' told told' : Option (List ℕ)) (ended : Bool) (end : ConnectionEnd)
    → Continues a b → SameCounts a b → end.first + 1 ≡ length b.history
    → Conversation b c taken taken' told told' ended end → IsConnection a c taken taken' told told' ended end
served_from a b c taken taken' told told' ended end f same newest v = inl (
  record {
    turns = v.turns;
    rest = v.rest;
    read = v.read;
    written = v.written;
    taken_is = v.taken_is;
    told_is = v.told_is;
    split = v.split;
    items = v.items;
    few = v.few;
    room = v.room;
    first = v.first;
    outcomes = v.outcomes;
    last = v.last;
    numbers = v.numbers;
    rows = v.rows;
    ends = v.ends;
    continues = continues_more a b c f v.continues;
    counts = counts_later a b c v.turns same v.counts;
    batches = v.batches;
    tellings = λ n. (let p = f.tellings n in let q = v.tellings n in grind arith);
  },
  (let p = no_shorter a b f in omega arith),
)
