-- One connection more at a seat.
use Rattle.std.proofs.Common.{◌≡◌, ℕ, zero, suc, ◌+◌, ◌-◌, ◌^◌, ◌<◌, ◌≤◌, min, List, [], ◌∷◌, ◌++◌, length, sum_by, count_by, refl, sym, ap, ◌∙◌, subst, arith, inl, inr, append_assoc, length-append, map, All, flat_map, drop, replicate, Option, Some, None, if◌then◌else◌}
use Rattle.std.specs.Prelude.{slice_get}
use Rattle.std.proofs.lemmas.List.{append-nil}
use Rattle.std.proofs.lemmas.List.Elements.{All-cons, All-nil, All-head, All-tail, All-push, All-weaker}
use Rattle.std.proofs.lemmas.Bool.{ne_eqb}
use Rattle.std.proofs.lemmas.Grind.{flat_map-append}
use Rattle.std.proofs.lemmas.List.Sums.{sum_by-append, sum_by-cons}
use Rattle.plain_io.specs.declared.connection.EndKind.TheVariants as kind
use Rattle.tgap_model.specs.Faults.{Rose}
use Rattle.plain_io.specs.declared.link.Link as OfLink
use Rattle.plain_io.specs.Doors.{Connections, NoneCame}
use Rattle.plain_io.specs.Links.{HasNone}
use Rattle.tgap_model.specs.Base.{BaseMap}
use Rattle.tgap_model.specs.declared.holds.Holds as Held
use Rattle.tgap_model.specs.declared.keep.Keep as Keeper
use Rattle.version_store.specs.declared.name.StoreName as Named
use Rattle.version_store.specs.declared.seat.SeatOf.{SeatOf}
use Rattle.version_store.specs.declared.press.PressOf.{PressOf}
use Rattle.version_store.specs.Growth.{IsPrefix}
use Rattle.version_store.proofs.Publishers.{places_append, own_front, first_nobody}
use Rattle.version_store.specs.Publishers.{places_from, numbers_of as published_by}
use Rattle.version_store.specs.Store.{press_versions, press_limit, press_publishers, seat_versions, seat_limit, seat_number, seat_numbers, AreSeatsFrom, IsNewSeat}
use Rattle.map_version.specs.declared.version.Version.{Version}
use Rattle.session.specs.Outcomes.{Turn, starting}
use Rattle.session.specs.Items.{asked_of}
use Rattle.session.specs.Turns.{HasBatch}
use Rattle.session.specs.Versions.{Seen, seen_of, Extends, Continues}
use Rattle.session.specs.Progress.{items_of, published_count, published_numbers, unkept_count, keeper_full_count, HaveBatches, tells_behind}
use Rattle.session.specs.Conversation.{Conversation, EndsBy, IsConnection}
use Rattle.session.proofs.Progressing.{continues_more}
use Rattle.session.proofs.Stores.{extended, extended_by}
use Rattle.session.proofs.Counting.{batches_longer, batches_in}
use Rattle.session.proofs.Talks.{outcomes_longer, replies_longer, known_is_there}
use Rattle.workers.specs.Each.{EachBecame}
use Rattle.workers.specs.Served.{Talk, Visit, handed_back, talk_of, ServesDoor}
use Rattle.map_workers.specs.Seats.{BeginsWith, IsConversation, IsUnserved, IsTalk, AreTalks, seen_after, seen_at_last, newest_of, EachNumbered, Served, numbers_in, unkept_in, keeper_full_in, behind_in, ServedRight, press_maps, press_batches, SeesAll}

-- ---- what grows

pub extends_both : {X : Type 0} (a b c : List X) → Extends a b → Extends b c → Extends a c
extends_both a b c p q = (p.0 ++ q.0, q.1 ∙ (ap (λ h. h ++ q.0) p.1 ∙ append_assoc a p.0 q.0))

-- ---- a longer list of versions

talk_longer : (limit : ℕ) (history more : List BaseMap) (seen : ℕ) (talk : Talk) (turns : List Turn) → IsTalk limit history seen talk turns
    → IsTalk limit (history ++ more) seen talk turns
talk_longer limit history more seen talk turns (inr none) = inr none
talk_longer limit history more seen talk turns (inl t) =
    let s = starting talk.end.first in
    inl (record {
      rest = t.rest;
      read = t.read;
      written = t.written;
      untaken = t.untaken;
      unput = t.unput;
      taken_is = t.taken_is;
      told_is = t.told_is;
      split = t.split;
      items = t.items;
      few = t.few;
      first = simp length-append (omega (arith, t.first));
      no_older = t.no_older;
      outcomes = outcomes_longer limit history more s turns t.first t.outcomes;
      last = t.last;
      numbers = t.numbers;
      rows = t.rows;
      ends = subst (λ r. EndsBy talk.end.how (items_of turns) t.rest t.written r talk.ended)
          (sym (replies_longer limit history more s 0 turns t.first t.outcomes)) t.ends;
      read_fault = t.read_fault;
      write_fault = t.write_fault;
    })

-- connections that are right over a list of versions are right over a longer one
pub talks_longer : (limit : ℕ) (history more : List BaseMap) (seen : ℕ) (talks : List Talk) (all : List (List Turn))
    → AreTalks limit history seen talks all → AreTalks limit (history ++ more) seen talks all
talks_longer limit history more seen [] [] a = a
talks_longer limit history more seen (talk ∷ talks) (turns ∷ all) a = (
  talk_longer limit history more seen talk turns a.0,
  talks_longer limit history more (seen_after seen talk turns) talks all a.1,
)
talks_longer limit history more seen [] (turns ∷ all) a = absurd a
talks_longer limit history more seen (talk ∷ talks) [] a = absurd a

-- over a list that begins with the first one
talks_extended : (limit : ℕ) (before now : List BaseMap) (seen : ℕ) (talks : List Talk) (all : List (List Turn)) → Extends before now
    → AreTalks limit before seen talks all → AreTalks limit now seen talks all
talks_extended limit before now seen talks all e a =
    subst (λ h. AreTalks limit h seen talks all) (sym e.1) (talks_longer limit before e.0 seen talks all a)

talks_later : (now later : Seen) (seen : ℕ) (talks : List Talk) (all : List (List Turn)) → Continues now later
    → AreTalks now.limit now.history seen talks all → AreTalks later.limit later.history seen talks all
talks_later now later seen talks all c a =
    subst (λ l. AreTalks l later.history seen talks all) (sym c.limit)
    (talks_extended now.limit now.history later.history seen talks all c.history a)

talks_more : (limit : ℕ) (history : List BaseMap) (seen : ℕ) (talks : List Talk) (all : List (List Turn)) (talk : Talk) (turns : List Turn)
    → AreTalks limit history seen talks all → IsTalk limit history (seen_at_last seen talks all) talk turns
    → AreTalks limit history seen (talks ++ talk ∷ []) (all ++ turns ∷ [])
talks_more limit history seen [] [] talk turns a t = (t, tt)
talks_more limit history seen (u ∷ talks) (us ∷ all) talk turns a t =
    (a.0, talks_more limit history (seen_after seen u us) talks all talk turns a.1 t)
talks_more limit history seen [] (us ∷ all) talk turns a t = absurd a
talks_more limit history seen (u ∷ talks) [] talk turns a t = absurd a

-- ---- the greatest number that was seen

-- it is that of the connections before and of one more
seen_more : (limit : ℕ) (history : List BaseMap) (seen : ℕ) (talks : List Talk) (all : List (List Turn)) (talk : Talk) (turns : List Turn)
    → AreTalks limit history seen talks all
    → seen_at_last seen (talks ++ talk ∷ []) (all ++ turns ∷ []) ≡ seen_after (seen_at_last seen talks all) talk turns
seen_more limit history seen [] [] talk turns a = refl
seen_more limit history seen (u ∷ talks) (us ∷ all) talk turns a =
    seen_more limit history (seen_after seen u us) talks all talk turns a.1
seen_more limit history seen [] (us ∷ all) talk turns a = absurd a
seen_more limit history seen (u ∷ talks) [] talk turns a = absurd a

newest_later : (now later : List BaseMap) → Extends now later → newest_of now ≤ newest_of later
newest_later now later e =
    let long : length later ≡ length now + length e.0 = ap length e.1 ∙ length-append now e.0 in
    omega (arith, long)

-- on a connection no number is told that is not the one of a version
talk_seen : (limit : ℕ) (history : List BaseMap) (seen : ℕ) (talk : Talk) (turns : List Turn) → IsTalk limit history seen talk turns
    → seen ≤ newest_of history → seen_after seen talk turns ≤ newest_of history
talk_seen limit history seen talk turns (inl t) below =
    let told = known_is_there limit history (starting talk.end.first) turns t.first t.outcomes in
    grind (arith, told, below)
talk_seen limit history seen talk turns (inr u) below = rw (u.none, u.first) (grind (arith, below))

-- ---- counts

sum_more : (f : List Turn → ℕ) (all : List (List Turn)) (turns : List Turn) → sum_by f (all ++ turns ∷ []) ≡ sum_by f all + f turns
sum_more f all turns =
    let whole = sum_by-append f all (turns ∷ []) in
    let one : sum_by f (turns ∷ []) ≡ f turns = let e = sum_by-cons f turns [] in omega (arith, e) in
    omega (arith, whole, one)

told_more : (before middle now a b most : ℕ) → min (before + a) most ≤ middle → min (middle + b) most ≤ now → min (before + (a + b)) most ≤ now
told_more before middle now a b most p q = grind (arith, p, q)

rose_more : (before middle now a b most : ℕ) → min middle most ≡ min (before + a) most → min now most ≡ min (middle + b) most
    → min now most ≡ min (before + (a + b)) most
rose_more before middle now a b most p q = grind (arith, p, q)

numbers_more : (before middle now a b : List ℕ) → middle ≡ before ++ a → now ≡ middle ++ b → now ≡ before ++ (a ++ b)
numbers_more before middle now a b p q = q ∙ ap (λ l. l ++ b) p ∙ append_assoc before a b

numbers_last : (all : List (List Turn)) (turns : List Turn) → numbers_in (all ++ turns ∷ []) ≡ numbers_in all ++ published_numbers turns
numbers_last all turns =
    flat_map-append published_numbers all (turns ∷ []) ∙ ap (λ l. numbers_in all ++ l) (append-nil (published_numbers turns))

-- the batches of the versions that were published on the connections before are still there
have_batches_later : (middle now : Seen) (all : List (List Turn)) → Continues middle now → All (HaveBatches middle.batches) all → All (HaveBatches now.batches) all
have_batches_later middle now all c have =
    All-weaker (HaveBatches middle.batches) (HaveBatches now.batches) (λ turns one. batches_longer middle now turns c one) all have

-- what the counts and the list say of the turns of one connection
pub record Handled (middle now : Seen) (turns : List Turn) : Type 0 where
  pub published : now.published ≡ middle.published + published_count turns
  pub numbers : now.numbers ≡ middle.numbers ++ published_numbers turns
  pub batches : HaveBatches now.batches turns
  pub unkept : min now.unkept (2 ^ 64 - 1) ≡ min (middle.unkept + unkept_count turns) (2 ^ 64 - 1)
  pub keeper_full : min now.keeper_full (2 ^ 64 - 1) ≡ min (middle.keeper_full + keeper_full_count turns) (2 ^ 64 - 1)
  pub tellings : (n : ℕ) → min (middle.tellings n + count_by (tells_behind n) turns) (2 ^ 64 - 1) ≤ now.tellings n

-- one connection more, on which these turns were handled
pub served_turns : (before middle now : Seen) (talks : List Talk) (talk : Talk) (turns : List Turn) → (s : Served before middle talks)
    → Continues middle now → IsTalk now.limit now.history (seen_at_last (newest_of before.history) talks s.turns) talk turns → Handled middle now turns
    → Served before now (talks ++ talk ∷ [])
served_turns before middle now talks talk turns s c t h = record {
  continues = continues_more before middle now s.continues c;
  turns = s.turns ++ turns ∷ [];
  each = talks_more now.limit now.history (newest_of before.history) talks s.turns talk turns
      (talks_later middle now (newest_of before.history) talks s.turns c s.each) t;
  seen =
      let later = newest_later middle.history now.history c.history in
      let here = s.seen in
      subst (λ n. n ≤ newest_of now.history) (sym (seen_more middle.limit middle.history (newest_of before.history) talks s.turns talk turns s.each))
      (talk_seen now.limit now.history (seen_at_last (newest_of before.history) talks s.turns) talk turns t (omega (arith, here, later)));
  published = let one = sum_more published_count s.turns turns in let all = s.published in let more = h.published in omega (arith, one, all, more);
  numbers =
      numbers_more before.numbers middle.numbers now.numbers (numbers_in s.turns) (published_numbers turns) s.numbers h.numbers
      ∙ ap (λ l. before.numbers ++ l) (sym (numbers_last s.turns turns));
  batches = All-push (HaveBatches now.batches) s.turns turns (have_batches_later middle now s.turns c s.batches) h.batches;
  unkept =
      rose_more before.unkept middle.unkept now.unkept (unkept_in s.turns) (unkept_count turns) (2 ^ 64 - 1) s.unkept h.unkept
      ∙ ap (λ k. min (before.unkept + k) (2 ^ 64 - 1)) (sym (sum_more unkept_count s.turns turns));
  keeper_full =
      rose_more before.keeper_full middle.keeper_full now.keeper_full (keeper_full_in s.turns) (keeper_full_count turns) (2 ^ 64 - 1) s.keeper_full h.keeper_full
      ∙ ap (λ k. min (before.keeper_full + k) (2 ^ 64 - 1)) (sym (sum_more keeper_full_count s.turns turns));
  tellings = λ n.
      let one = sum_more (λ (us : List Turn). count_by (tells_behind n) us) s.turns turns in
      subst (λ k. min (before.tellings n + k) (2 ^ 64 - 1) ≤ now.tellings n) (sym one)
      (told_more (before.tellings n) (middle.tellings n) (now.tellings n) (behind_in n s.turns) (count_by (tells_behind n) turns) (2 ^ 64 - 1)
      (s.tellings n) (h.tellings n));
}

-- ---- what is told of a connection

rose_some : (n : ℕ) → Rose 0 n → 0 < n
rose_some n rose = grind (arith, rose)

conversation_is : (middle now : Seen) (seen : ℕ) (talk : Talk)
    (conversation : Conversation middle now talk.taken_before talk.taken talk.told_before talk.told talk.ended talk.end)
    → seen ≤ talk.end.first → HasNone talk.taken_before → HasNone talk.told_before → (talk.end.how ≡ kind.ReadFault → Rose 0 talk.take_faults)
    → (talk.end.how ≡ kind.WriteFault → Rose 0 talk.put_faults) → IsConversation now.limit now.history seen talk conversation.turns
conversation_is middle now seen talk c no_older untaken unput read_fault write_fault = record {
  rest = c.rest;
  read = c.read;
  written = c.written;
  untaken = untaken;
  unput = unput;
  taken_is = c.taken_is;
  told_is = c.told_is;
  split = c.split;
  items = c.items;
  few = c.few;
  first = c.first;
  no_older = no_older;
  outcomes = c.outcomes;
  last = c.last;
  numbers = c.numbers;
  rows = c.rows;
  ends = c.ends;
  read_fault = λ e. rose_some _ (read_fault e);
  write_fault = λ e. rose_some _ (write_fault e);
}

-- one connection more
pub served_more : (before middle now : Seen) (talks : List Talk) (talk : Talk)
    → IsConnection middle now talk.taken_before talk.taken talk.told_before talk.told talk.ended talk.end
    → HasNone talk.taken_before → HasNone talk.told_before → (talk.end.how ≡ kind.ReadFault → Rose 0 talk.take_faults)
    → (talk.end.how ≡ kind.WriteFault → Rose 0 talk.put_faults) → Served before middle talks → Served before now (talks ++ talk ∷ [])
served_more before middle now talks talk (inl (t, newest)) untaken unput read_fault write_fault s =
    let here = s.seen in
    served_turns before middle now talks talk t.turns s t.continues
    (inl (conversation_is middle now (seen_at_last (newest_of before.history) talks s.turns) talk t (omega (arith, here, newest)) untaken unput read_fault
    write_fault))
    (record {
      published = t.counts.published;
      numbers = t.counts.numbers;
      batches = t.batches;
      unkept = let e = t.counts.unkept in grind (arith, e);
      keeper_full = let e = t.counts.keeper_full in grind (arith, e);
      tellings = t.tellings;
    })
served_more before middle now talks talk (inr u) untaken unput read_fault write_fault s =
    let kept = u.counts.published in
    let unkept = u.counts.unkept in
    let full = u.counts.keeper_full in
    let none : IsUnserved talk [] =
    record {
      how = u.how;
      untaken = untaken;
      unput = unput;
      unread = u.unread;
      unwritten = u.unwritten;
      first = u.first;
      last = u.last;
      numbers = u.numbers;
      rows = u.rows;
      none = refl;
    } in
    served_turns before middle now talks talk [] s u.continues (inr none)
    (record {
      published = omega (arith, kept);
      numbers = u.counts.numbers ∙ sym (append-nil middle.numbers);
      batches = All-nil (λ t. HasBatch now.batches t.row t.number (asked_of t.item));
      unkept = grind (arith, unkept);
      keeper_full = grind (arith, full);
      tellings = λ n. let up = u.continues.tellings n in grind (arith, up);
    })

-- ---- all that a door tells

-- what came and is back at a door, since none had come
connections_new : {L : Type 0} (visits : List (Visit L)) (all : Connections L) → (all.came ≡ 0) × (all.back ≡ [])
    → (all.came + length visits ≡ length visits) × (all.back ++ map handed_back visits ≡ map handed_back visits)
connections_new visits all none = (omega (arith, none.0), ap (λ back. back ++ map handed_back visits) none.1)

-- what follows one front is the same
append_same : (front a b : List ℕ) → front ++ a ≡ front ++ b → a ≡ b
append_same [] a b e = e
append_same (x ∷ front) a b e = append_same front a b (ap (λ l. drop 1 l) e)

have_batches_in : (before now : List (List ℕ)) (all : List (List Turn)) → Extends before now → All (HaveBatches before) all → All (HaveBatches now) all
have_batches_in before now all e have =
    All-weaker (HaveBatches before) (HaveBatches now) (λ turns one. batches_in before now turns e one) all have

-- A seat served all connections that a door tells of: they are right over each list that begins with what the seat has seen.
connections_right : {L : Type 0} (link : OfLink.Ghosts L) (told told' : Option (Connections L)) (before now : Seen) (history : List BaseMap) (batches : List (List ℕ))
    (numbers : List ℕ) → NoneCame told → ServesDoor link told told' (Served before now) → Extends now.history history → Extends now.batches batches
    → now.numbers ≡ before.numbers ++ numbers → ServedRight link before.limit history batches (newest_of before.history) numbers told'
connections_right link None told' before now history batches numbers none s e f p =
    subst (ServedRight link before.limit history batches (newest_of before.history) numbers) (sym s.back) tt
connections_right link (Some all) told' before now history batches numbers none s e f p =
    let new = connections_new s.visits all none in
    subst (ServedRight link before.limit history batches (newest_of before.history) numbers) (sym s.back)
    (record {
      visits = s.visits;
      turns = s.right.turns;
      came = new.0;
      back = new.1;
      each = talks_extended before.limit now.history history (newest_of before.history) (map (talk_of link) s.visits) s.right.turns e
          (subst (λ l. AreTalks l now.history (newest_of before.history) (map (talk_of link) s.visits) s.right.turns) s.right.continues.limit
          s.right.each);
      published = append_same before.numbers (numbers_in s.right.turns) numbers (sym s.right.numbers ∙ p);
      with_batches = have_batches_in now.batches batches s.right.turns f s.right.batches;
    })

-- Of a new door and a seat that had seen all: where the seat's list begins the list that a press has now, the connections of the door are
-- right over that one, and it begins with the list from before. The versions that were published there are those of which the press knows
-- the seat as the publisher now.
pub door_right : {L N K P : Type 0} {held : Held.Ghosts Version} {named : Named.Ghosts N} {keep : Keeper.Ghosts K} (link : OfLink.Ghosts L) (told told' : Option (Connections L))
    (before now : SeatOf Version N P held named) (press press' : PressOf Version N K P held named keep) (numbers : List ℕ) → NoneCame told → SeesAll press before
    → ServesDoor link told told' (Served (seen_of before) (seen_of now)) → IsPrefix (seat_versions now) (press_versions press')
    → seat_numbers now ≡ seat_numbers before ++ numbers
    → BeginsWith press press'
    × ServedRight link (press_limit press) (press_maps press') (press_batches press') (newest_of (press_maps press)) numbers told'
door_right link told told' before now press press' numbers none sees s front published =
    let later = extended (seat_versions now) (press_versions press') front in
    let batches = extended_by (λ (v : Version). v.batch) (seat_versions now) (press_versions press') front in (
      (
        subst (λ versions. Extends (map (λ (v : Version). v.built) versions) (press_maps press')) sees.0
            (extends_both (seen_of before).history (seen_of now).history (press_maps press') s.right.continues.history later),
        subst (λ versions. Extends (map (λ (v : Version). v.batch) versions) (press_batches press')) sees.0
            (extends_both (seen_of before).batches (seen_of now).batches (press_batches press') s.right.continues.batches batches),
      ),
      subst (λ l. ServedRight link l (press_maps press') (press_batches press') (newest_of (press_maps press)) numbers told') sees.1
          (subst
          (λ versions. ServedRight link (seat_limit before) (press_maps press') (press_batches press') (newest_of (map (λ (v : Version). v.built) versions)) numbers told')
          sees.0 (connections_right link told told' (seen_of before) (seen_of now) (press_maps press') (press_batches press') numbers none s later batches published)),
    )

-- a seat has not published the first version
unpublished : (n : ℕ) → 0 < n → published_by n (0 ∷ []) ≡ []
unpublished zero some = absurd (omega (arith, some))
unpublished (suc n) some = ap (λ is. if is then 0 ∷ [] else []) (ne_eqb 0 (suc n) (λ e. omega (arith, e)))

-- what a seat has published, of what it had published before and of what the others know of later versions
published_on : (k : ℕ) (before later : List ℕ) → published_by k (before ++ later) ≡ published_by k before ++ places_from (length before) k later
published_on k before later =
    places_append 0 k before later ∙ ap (λ n. published_by k before ++ places_from n k later) (let e : 0 + length before ≡ length before = omega arith in e)

-- Of all posts, each with a new door and a seat that had seen all, whose seats have the numbers from this one on: the connections of each
-- door are right over the list that a press has now, and it begins with the list from before. The publishers of that one begin those that
-- the press knows now; so the versions that were published at each door are those of which it knows its number as that of the publisher.
pub posts_right : {Q D L N K P : Type 0} {held : Held.Ghosts Version} {named : Named.Ghosts N} {keep : Keeper.Ghosts K} (door : Q → D) (seat : Q → SeatOf Version N P held named)
    (link : OfLink.Ghosts L) (told : D → Option (Connections L)) (n : ℕ) (publishers : List ℕ) (xs ys : List Q) (press press' : PressOf Version N K P held named keep)
    → EachBecame (λ x y. ServesDoor link (told (door x)) (told (door y)) (Served (seen_of (seat x)) (seen_of (seat y)))) xs ys
    → All (λ x. NoneCame (told (door x))) xs → All (λ x. SeesAll press (seat x)) xs → AreSeatsFrom n (map seat xs)
    → press_publishers press' ≡ press_publishers press ++ publishers
    → All (λ y. IsPrefix (seat_versions (seat y)) (press_versions press')) ys
    → All (λ y. seat_numbers (seat y) ≡ published_by (seat_number (seat y)) (press_publishers press')) ys
    → All (λ y. BeginsWith press press') ys
    × EachNumbered (λ k y. ServedRight link (press_limit press) (press_maps press') (press_batches press') (newest_of (press_maps press))
    (places_from (length (press_publishers press)) k publishers) (told (door y))) n ys
posts_right door seat link told n publishers [] [] press press' became none sees seats more front numbers =
    (All-nil (λ y. BeginsWith press press'), tt)
posts_right door seat link told n publishers (x ∷ xs) (y ∷ ys) press press' became none sees seats more front numbers =
    let seen = All-head (λ x. SeesAll press (seat x)) x xs sees in
    let same : seat_number (seat y) ≡ n = became.0.right.continues.seat ∙ seats.0 in
    let own = places_from (length (press_publishers press)) n publishers in
    let before : seat_numbers (seat x) ≡ published_by n (press_publishers press) = seen.2 ∙ ap (λ k. published_by k (press_publishers press)) seats.0 in
    let now : seat_numbers (seat y) ≡ published_by n (press_publishers press) ++ own =
    All-head (λ y. seat_numbers (seat y) ≡ published_by (seat_number (seat y)) (press_publishers press')) y ys numbers
    ∙ ap (λ k. published_by k (press_publishers press')) same ∙ ap (published_by n) more ∙ published_on n (press_publishers press) publishers in
    let one =
    door_right link (told (door x)) (told (door y)) (seat x) (seat y) press press' own
    (All-head (λ x. NoneCame (told (door x))) x xs none) seen became.0
    (All-head (λ y. IsPrefix (seat_versions (seat y)) (press_versions press')) y ys front)
    (now ∙ ap (λ l. l ++ own) (sym before)) in
    let rest =
    posts_right door seat link told (suc n) publishers xs ys press press' became.1 (All-tail (λ x. NoneCame (told (door x))) x xs none)
    (All-tail (λ x. SeesAll press (seat x)) x xs sees) seats.1 more
    (All-tail (λ y. IsPrefix (seat_versions (seat y)) (press_versions press')) y ys front)
    (All-tail (λ y. seat_numbers (seat y) ≡ published_by (seat_number (seat y)) (press_publishers press')) y ys numbers) in
    (All-cons (λ y. BeginsWith press press') y ys one.0 rest.0, (one.1, rest.1))
posts_right door seat link told n publishers [] (y ∷ ys) press press' became none sees seats more front numbers = absurd became
posts_right door seat link told n publishers (x ∷ xs) [] press press' became none sees seats more front numbers = absurd became

-- the places that a seat has among publishers of whom nobody was the first
places_behind : (n : ℕ) (publishers : List ℕ) → published_by (suc n) (0 ∷ publishers) ≡ places_from 1 (suc n) publishers
places_behind n publishers =
    ap (λ is. if is then 0 ∷ places_from 1 (suc n) publishers else places_from 1 (suc n) publishers) (ne_eqb 0 (suc n) (λ e. omega (arith, e)))

-- Where the first seat alone had published before, the publishers from then begin those that a press knows later.
pub publishers_grow : {Q D L N K P : Type 0} {held : Held.Ghosts Version} {named : Named.Ghosts N} {keep : Keeper.Ghosts K} (door : Q → D) (seat : Q → SeatOf Version N P held named)
    (link : OfLink.Ghosts L) (told : D → Option (Connections L)) (many : ℕ) (xs ys : List Q) (press press' : PressOf Version N K P held named keep)
    → EachBecame (λ x y. ServesDoor link (told (door x)) (told (door y)) (Served (seen_of (seat x)) (seen_of (seat y)))) xs ys
    → All (λ x. SeesAll press (seat x)) xs → AreSeatsFrom 1 (map seat xs) → 1 ≤ length xs
    → press_publishers press ≡ 0 ∷ replicate many 1 → slice_get (press_publishers press') 0 ≡ Some 0
    → All (λ y. seat_numbers (seat y) ≡ published_by (seat_number (seat y)) (press_publishers press')) ys
    → press_publishers press' ≡ press_publishers press ++ drop (suc many) (press_publishers press')
publishers_grow door seat link told many [] ys press press' became sees seats some first nobody numbers = absurd (omega (arith, some))
publishers_grow door seat link told many (x ∷ xs) [] press press' became sees seats some first nobody numbers = absurd became
publishers_grow door seat link told many (x ∷ xs) (y ∷ ys) press press' became sees seats some first nobody numbers =
    let seen = All-head (λ x. SeesAll press (seat x)) x xs sees in
    let same : seat_number (seat y) ≡ 1 = became.0.right.continues.seat ∙ seats.0 in
    let later = numbers_in became.0.right.turns in
    let others = drop 1 (press_publishers press') in
    let whole : press_publishers press' ≡ 0 ∷ others = first_nobody (press_publishers press') nobody in
    let before : seat_numbers (seat x) ≡ places_from 1 1 (replicate many 1) =
    seen.2 ∙ ap (λ k. published_by k (press_publishers press)) seats.0 ∙ ap (published_by 1) first ∙ places_behind 0 (replicate many 1) in
    let now : seat_numbers (seat y) ≡ places_from 1 1 others =
    All-head (λ y. seat_numbers (seat y) ≡ published_by (seat_number (seat y)) (press_publishers press')) y ys numbers
    ∙ ap (λ k. published_by k (press_publishers press')) same ∙ ap (published_by 1) whole ∙ places_behind 0 others in
    let front : others ≡ replicate many 1 ++ drop many others =
    own_front 1 many 1 others later (sym now ∙ became.0.right.numbers ∙ ap (λ l. l ++ later) before) in
    whole ∙ ap (λ l. 0 ∷ l) front ∙ ap (λ l. l ++ drop many others) (sym first)
    ∙ ap (λ l. press_publishers press ++ l) (sym (ap (λ l. drop (suc many) l) whole))

-- seats that were just made have seen all, and have published nothing
pub new_seats_see : {N K P : Type 0} {held : Held.Ghosts Version} {named : Named.Ghosts N} {keep : Keeper.Ghosts K} (n : ℕ) (first : Version) (limit : ℕ)
    (press : PressOf Version N K P held named keep) (seats : List (SeatOf Version N P held named)) → 0 < n → press_versions press ≡ first ∷ [] → press_limit press ≡ limit
    → press_publishers press ≡ 0 ∷ [] → All (IsNewSeat first limit) seats → AreSeatsFrom n seats → All (SeesAll press) seats
new_seats_see n first limit press [] some versions most nobody new numbers = All-nil (SeesAll press)
new_seats_see n first limit press (seat ∷ seats) some versions most nobody new numbers =
    let one = All-head (IsNewSeat first limit) seat seats new in
    All-cons (SeesAll press) seat seats (
      one.0 ∙ sym versions,
      one.1 ∙ sym most,
      one.6 ∙ sym (ap (λ k. published_by k (press_publishers press)) numbers.0 ∙ ap (published_by n) nobody ∙ unpublished n some),
    )
    (new_seats_see (suc n) first limit press seats (omega arith) versions most nobody (All-tail (IsNewSeat first limit) seat seats new) numbers.1)
