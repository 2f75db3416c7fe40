-- How a connection ends.
use Rattle.std.proofs.Common.{◌≡◌, ℕ, suc, ◌<◌, ◌≤◌, ◌==◌, ◌||◌, Bool, true, false, List, [], ◌∷◌, ◌++◌, length, flat_map, Option, Some, None, All, refl, sym, ap, ◌∙◌, arith, inl, inr, eq-eqb, if◌then◌else◌}
use Rattle.std.specs.List.{list_any}
use Rattle.std.proofs.lemmas.List.Elements.{All-head, All-tail}
use Rattle.std.proofs.lemmas.Bool.Decides.{nat_tests}
use Rattle.plain_io.specs.declared.connection.EndKind.{EndKind}
use Rattle.plain_io.specs.declared.connection.EndKind.TheVariants.{Closed, CutShort, BadHead, Spent, ReadFault}
use Rattle.session.specs.declared.serve.TheConstants.{MAX_REQUESTS}
use Rattle.version_store.specs.declared.pin.Pin.{Pin}
use Rattle.map_version.specs.declared.version.Version.{Version}
use Rattle.session.specs.Reading.{Received}
use Rattle.session.specs.Items.{Item, Request, Fault, IsItem, IsPart, AreItems, item_bytes, is_closing, is_fault}
use Rattle.session.specs.Outcomes.{Turn, starting, replies}
use Rattle.session.specs.Versions.{Seen}
use Rattle.session.specs.Progress.{Progress, Noted, IsGoing, items_of}
use Rattle.session.specs.Conversation.{Conversation, EndsWell, EndsBy, how_of, is_empty}
use Rattle.session.proofs.Progressing.{follows_more}
use Rattle.std.proofs.Common.{append_assoc}

-- a request after which the connection goes on does not end it
pub going_open : (item : Item) → IsGoing item → (is_closing item ≡ false) × (is_fault item ≡ false)
going_open (Request head body) g = (g.1, refl)
going_open (Fault status) g = absurd g

-- a request after which the connection goes on is an item, whatever follows
pub going_is : (rest : List ℕ) (item : Item) → IsGoing item → IsItem rest item
going_is rest (Request head body) g = g.0
going_is rest (Fault status) g = absurd g

pub none_closing : (items : List Item) → All IsGoing items → list_any is_closing items ≡ false
none_closing [] g = refl
none_closing (item ∷ items) g =
    ap (λ b. b || list_any is_closing items) (going_open item (All-head IsGoing item items g)).0 ∙ none_closing items (All-tail IsGoing item items g)

pub none_fault : (items : List Item) → All IsGoing items → list_any is_fault items ≡ false
none_fault [] g = refl
none_fault (item ∷ items) g =
    ap (λ b. b || list_any is_fault items) (going_open item (All-head IsGoing item items g)).1 ∙ none_fault items (All-tail IsGoing item items g)

-- there are as many items as turns
pub mapped : (turns : List Turn) → length (items_of turns) ≡ length turns
mapped [] = refl
mapped (t ∷ turns) = ap suc (mapped turns)

length_items : (turns : List Turn) (count : ℕ) → length turns ≡ count → count < MAX_REQUESTS → length (items_of turns) < MAX_REQUESTS
length_items turns count e below = (let f = mapped turns in omega arith)

-- such requests are items before any rest
are_items : (rest : List ℕ) (items : List Item) → All IsGoing items → AreItems rest items
are_items rest [] g = tt
are_items rest (item ∷ items) g =
    let here = All-head IsGoing item items g in
    (going_is rest item here, (λ closing. absurd (let e : true ≡ false = sym closing ∙ (going_open item here).0 in cc)), are_items rest items (All-tail IsGoing item items g))

not_spent : (n : ℕ) → n < MAX_REQUESTS → (n == MAX_REQUESTS) ≡ false
not_spent n below = grind (arith, nat_tests)

-- how it ends where no request ended it
how_open : (items : List Item) (rest : List ℕ) (ended : Bool) → All IsGoing items → length items < MAX_REQUESTS
    → how_of items rest ended ≡ (if ended then Some (if is_empty rest then Closed else CutShort) else None)
how_open items rest ended g few =
    ap (λ b. if b then Some BadHead else if length items == MAX_REQUESTS then Some Spent else if list_any is_closing items then Some Closed
    else if ended then Some (if is_empty rest then Closed else CutShort) else None) (none_fault items g)
    ∙ ap (λ b. if b then Some Spent else if list_any is_closing items then Some Closed
    else if ended then Some (if is_empty rest then Closed else CutShort) else None) (not_spent (length items) few)
    ∙ ap (λ b. if b then Some Closed else if ended then Some (if is_empty rest then Closed else CutShort) else None) (none_closing items g)

-- the input ended, or it failed, before a further request
open_end : (b : Bool) (items : List Item) (rest written said : List ℕ) (ended : Bool)
    → EndsWell (if b then Closed else CutShort) items rest written said ended → EndsBy (if b then Closed else CutShort) items rest written said ended
open_end true items rest written said ended e = e
open_end false items rest written said ended e = e

module _ (first count : ℕ) (before now : Seen) (taken a b told u : Option (List ℕ)) (pin : Pin Version) (held rest : List ℕ) (noted : Noted)
    (p : Progress first before now taken a told u pin held noted count) (r : Received a b held rest) (room : length now.history ≤ now.limit) where
  -- what was read is the items, and what is held then
  open_split : p.read ++ r.0 ≡ flat_map item_bytes (items_of p.turns) ++ rest
  open_split = ap (λ xs. xs ++ r.0) p.split ∙ append_assoc (flat_map item_bytes (items_of p.turns)) held r.0
      ∙ ap (λ xs. flat_map item_bytes (items_of p.turns) ++ xs) (sym r.2)

  -- a connection that ended between two requests, or within one
  open_conversation : count < MAX_REQUESTS → (how : EndKind) (ended : Bool)
      → EndsBy how (items_of p.turns) rest p.written (replies now.history (starting first) 0 p.turns) ended
      → Conversation before now taken b told u ended (record { how = how; first = first; last = pin.number; numbers = noted.numbers; rows = noted.rows })
  open_conversation below how ended ends = record {
    turns = p.turns;
    rest = rest;
    read = p.read ++ r.0;
    written = p.written;
    taken_is = follows_more taken a b p.read r.0 p.taken_is r.1;
    told_is = p.told_is;
    split = open_split;
    items = are_items rest (items_of p.turns) p.going;
    few = (let counted = p.counted in omega (arith, counted, below));
    room = room;
    first = p.there;
    outcomes = p.outcomes;
    last = sym p.pin_is;
    numbers = p.numbers;
    rows = p.rows;
    ends = ends;
    continues = p.continues;
    counts = p.counts;
    batches = p.batches;
    tellings = p.tellings;
  }

  few : count < MAX_REQUESTS → length (items_of p.turns) < MAX_REQUESTS
  few below = length_items p.turns count p.counted below

  pub at_end : count < MAX_REQUESTS → IsPart rest
      → Conversation before now taken b told u true (record { how = if is_empty rest then Closed else CutShort; first = first; last = pin.number; numbers = noted.numbers; rows = noted.rows })
  at_end below part =
      open_conversation below _ true (open_end (is_empty rest) _ rest _ _ true
      (record { all = inr (inr part); whole = p.replies_are; ends = inl (how_open (items_of p.turns) rest true p.going (few below)) }))

  pub at_failure : count < MAX_REQUESTS → IsPart rest
      → Conversation before now taken b told u false (record { how = ReadFault; first = first; last = pin.number; numbers = noted.numbers; rows = noted.rows })
  at_failure below part =
      open_conversation below ReadFault false
      (record { all = inr (inr part); whole = p.replies_are; ends = inr (how_open (items_of p.turns) rest false p.going (few below), refl) })

-- as many requests were answered as there may be
pub spent : (first count : ℕ) (before now : Seen) (taken a told u : Option (List ℕ)) (pin : Pin Version) (held : List ℕ) (noted : Noted) (ended : Bool)
    → Progress first before now taken a told u pin held noted count → length now.history ≤ now.limit → count ≡ MAX_REQUESTS
    → Conversation before now taken a told u ended (record { how = Spent; first = first; last = pin.number; numbers = noted.numbers; rows = noted.rows })
spent first count before now taken a told u pin held noted ended p room full =
    let items = items_of p.turns in
    let all : length items ≡ MAX_REQUESTS = mapped p.turns ∙ p.counted ∙ full in
    record {
      turns = p.turns;
      rest = held;
      read = p.read;
      written = p.written;
      taken_is = p.taken_is;
      told_is = p.told_is;
      split = p.split;
      items = are_items held items p.going;
      few = (let counted = p.counted in omega (arith, counted, full));
      room = room;
      first = p.there;
      outcomes = p.outcomes;
      last = sym p.pin_is;
      numbers = p.numbers;
      rows = p.rows;
      ends = record {
        all = inr (inl all);
        whole = p.replies_are;
        ends = inl (ap (λ b. if b then Some BadHead else if length items == MAX_REQUESTS then Some Spent else if list_any is_closing items then Some Closed
            else if ended then Some (if is_empty held then Closed else CutShort) else None) (none_fault items p.going)
            ∙ ap (λ b. if b then Some Spent else if list_any is_closing items then Some Closed
            else if ended then Some (if is_empty held then Closed else CutShort) else None) (eq-eqb (length items) MAX_REQUESTS all));
      };
      continues = p.continues;
      counts = p.counts;
      batches = p.batches;
      tellings = p.tellings;
    }
