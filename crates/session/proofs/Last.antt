-- A connection that ends with an item.
use Rattle.std.proofs.Common.{◌≡◌, ◌<◌, ◌≤◌, ℕ, suc, ◌+◌, ◌==◌, ◌||◌, Bool, true, false, List, [], ◌∷◌, ◌++◌, length, flat_map, take, Option, Some, None, Result, Ok, Err, All, refl, sym, ap, ◌∙◌, subst, arith, inl, inr, length-append, zero-add, eq-eqb, if◌then◌else◌}
use Rattle.std.specs.List.{list_any}
use Rattle.std.proofs.Math.Seq.{take-append-add}
use Rattle.std.proofs.lemmas.List.Elements.{All-head, All-tail}
use Rattle.plain_io.specs.declared.connection.EndKind.{EndKind}
use Rattle.plain_io.specs.declared.connection.EndKind.TheVariants.{Closed, CutShort, BadHead, Spent}
use Rattle.plain_io.specs.Puts.{Puts, AppendsFront}
use Rattle.std.proofs.lemmas.List.{append-nil}
use Rattle.session.proofs.Ranges.{take_front}
use Rattle.session.specs.declared.serve.TheConstants.{MAX_REQUESTS}
use Rattle.version_store.specs.declared.pin.Pin.{Pin}
use Rattle.map_version.specs.declared.version.Version.{Version}
use Rattle.tgap_model.specs.Base.{BaseMap}
use Rattle.session.specs.Reading.{Follows, Received}
use Rattle.session.specs.Items.{Item, IsItem, AreItems, item_bytes, is_closing, is_fault, asked_of}
use Rattle.session.specs.Outcomes.{Turn, starting, standing, next, pin_after, Holds, answer_of, Outcomes, replies, reply_in, sent, is_final, place_of}
use Rattle.session.specs.Versions.{Seen}
use Rattle.session.specs.Progress.{Progress, Exchange, Noted, IsGoing, items_of}
use Rattle.session.specs.Conversation.{Conversation, EndsBy, EndsWell, is_empty}
use Rattle.session.proofs.Kept.{no_shorter}
use Rattle.session.proofs.Talks.{outcomes_longer, replies_longer, standing_more, outcomes_more, replies_more, map_more}
use Rattle.session.proofs.Counting.{counts_more, batches_more}
use Rattle.session.proofs.Progressing.{follows_more, continues_more, split_more, stands, told_more, reply_is}
use Rattle.session.proofs.Endings.{going_open, going_is, none_fault, mapped}
use Rattle.std.proofs.lemmas.Grind.{common_steps}
use Rattle.std.proofs.lemmas.Bool.Decides.{nat_tests}

-- such requests and one item more
items_more : (rest : List ℕ) (items : List Item) (item : Item) → All IsGoing items → IsItem rest item → AreItems rest (items ++ item ∷ [])
items_more rest [] item g is = (is, (λ closing. refl), tt)
items_more rest (i ∷ items) item g is =
    let here = All-head IsGoing i items g in
    (going_is rest i here, (λ closing. absurd (let e : true ≡ false = sym closing ∙ (going_open i here).0 in cc)), items_more rest items item (All-tail IsGoing i items g) is)

-- the last item was handled, and so much of its reply was written
pub last_conversation : (first : ℕ) (before mid now : Seen) (taken a b told u v : Option (List ℕ)) (pin pin' : Pin Version)
    (held got rest : List ℕ) (noted noted' : Noted) (count : ℕ) (faulty closing final : Bool) {T E : Type 0} (put : Result T E)
    → (p : Progress first before mid taken a told u pin held noted count) → Received a b held got
    → (e : Exchange mid now pin pin' got rest noted noted' u v faulty closing final put) → final ≡ is_final (suc count) e.item
    → count < MAX_REQUESTS → length now.history ≤ now.limit → (out : List ℕ) → Follows u v out → (how : EndKind) (ended : Bool)
    → EndsBy how (items_of p.turns ++ e.item ∷ []) rest (p.written ++ out) (p.written ++ e.turned.reply) ended
    → Conversation before now taken b told v ended (record { how = how; first = first; last = pin'.number; numbers = noted'.numbers; rows = noted'.rows })
last_conversation first before mid now taken a b told u v pin pin' held got rest noted noted' count faulty closing final put p r e fin below room out puts how ended ends =
    let s = starting first in
    let t : Turn = record { item = e.item; number = e.turned.number; row = e.turned.row } in
    let stood = standing s p.turns in
    let more = e.continues.history.0 in
    let longer : now.history ≡ mid.history ++ more = e.continues.history.1 in
    let O : List BaseMap → Type 0 = λ h. Outcomes now.limit h s p.turns in
    let L : ℕ → Type 0 = λ l. Outcomes l mid.history s p.turns in
    let old : Outcomes now.limit now.history s p.turns =
    subst O (sym longer) (outcomes_longer now.limit mid.history more s p.turns p.there (subst L (sym e.continues.limit) p.outcomes)) in
    let holds : Holds t.row now.limit now.history stood (asked_of t.item) t.number =
    stands t.row now.limit now.history pin.number stood (asked_of t.item) t.number p.pin_is (e.turned_is.holds stood.known p.known) in
    let same : replies now.history s 0 p.turns ≡ replies mid.history s 0 p.turns =
    ap (λ h. replies h s 0 p.turns) longer ∙ replies_longer mid.limit mid.history more s 0 p.turns p.there p.outcomes in
    let moved : (next stood t).pin ≡ pin'.number = ap (λ k. pin_after t.row k t.number) p.pin_is ∙ sym e.turned_is.moved in
    let answered : answer_of t.row now.history stood.pin (asked_of t.item) t.number ≡ Some e.turned_is.answer =
    ap (λ k. answer_of t.row now.history k (asked_of t.item) t.number) p.pin_is ∙ e.turned_is.answered in
    let reply : e.turned.reply ≡ reply_in now.history stood (suc count) t =
    e.turned_is.reply ∙ ap (λ k. sent k final e.turned_is.answer) (sym moved) ∙ ap (λ f. sent (next stood t).pin f e.turned_is.answer) fin
    ∙ sym (reply_is now.history stood (suc count) t e.turned_is.answer answered) in
    let whole : p.written ++ e.turned.reply ≡ replies now.history s 0 (p.turns ++ t ∷ []) =
    ap (λ xs. xs ++ e.turned.reply) (p.replies_are ∙ sym same) ∙ ap (λ xs. replies now.history s 0 p.turns ++ xs) reply
    ∙ ap (λ n. replies now.history s 0 p.turns ++ reply_in now.history stood (suc n) t) (sym p.counted ∙ sym (zero-add (length p.turns)))
    ∙ sym (replies_more now.history s 0 p.turns t) in
    let items : items_of p.turns ++ e.item ∷ [] ≡ items_of (p.turns ++ t ∷ []) = sym (map_more (λ t. t.item) p.turns t) in
    let D : List Item → Type 0 = λ is. EndsBy how is rest (p.written ++ out) (p.written ++ e.turned.reply) ended in
    let W : List ℕ → Type 0 = λ said. EndsBy how (items_of (p.turns ++ t ∷ [])) rest (p.written ++ out) said ended in
    let A : List Item → Type 0 = AreItems rest in
    record {
      turns = p.turns ++ t ∷ [];
      rest = rest;
      read = p.read ++ r.0;
      written = p.written ++ out;
      taken_is = follows_more taken a b p.read r.0 p.taken_is r.1;
      told_is = follows_more told u v p.written out p.told_is puts;
      split = split_more (items_of p.turns) e.item p.read r.0 held got rest p.split r.2 e.bytes ∙ ap (λ is. flat_map item_bytes is ++ rest) items;
      items = subst A items (items_more rest (items_of p.turns) e.item p.going e.item_is);
      few = simp length-append (omega (arith, p.counted, below));
      room = room;
      first = (let y = no_shorter mid now e.continues in let z = p.there in omega arith);
      outcomes = outcomes_more now.limit now.history s p.turns t old holds;
      last = sym (ap (λ z. z.pin) (standing_more s p.turns t) ∙ moved);
      numbers = e.numbers ∙ ap (λ xs. xs ++ t.number ∷ []) p.numbers ∙ sym (map_more (λ t. t.number) p.turns t);
      rows = e.rows ∙ ap (λ xs. xs ++ place_of t.row ∷ []) p.rows ∙ sym (map_more (λ t. place_of t.row) p.turns t);
      ends = subst W whole (subst D items ends);
      continues = continues_more before mid now p.continues e.continues;
      counts = counts_more before mid now p.turns t p.counts e.counts;
      batches = batches_more mid now p.turns t e.continues p.batches e.turned_is.batch;
      tellings = told_more before mid now p.turns t p.tellings e.tellings;
    }

-- after a put that failed a front of the reply was written
pub front_of : (w v : Option (List ℕ)) (reply : List ℕ) → AppendsFront w v reply → (n : ℕ) × Follows w v (take n reply)
front_of None v reply e = (0, tt)
front_of (Some before) v reply (n, e) = (n, e)

-- a front of all replies, where the last one broke off
pub front_more : (written reply : List ℕ) (n : ℕ) → (k : ℕ) × (written ++ take n reply ≡ take k (written ++ reply))
front_more written reply n = (length written + n, sym (take-append-add written reply n))

or_true : (b : Bool) → (b || true) ≡ true
or_true true = refl
or_true false = refl

-- what holds of the last one holds of some
any_last : (test : Item → Bool) (items : List Item) (item : Item) → test item ≡ true → list_any test (items ++ item ∷ []) ≡ true
any_last test [] item e = ap (λ b. b || false) e
any_last test (i ∷ items) item e = ap (λ b. test i || b) (any_last test items item e) ∙ or_true (test i)

-- a head at fault was answered, and no put failed
pub at_fault : (items : List Item) (item : Item) (rest written : List ℕ) (ended : Bool) → is_fault item ≡ true → is_closing item ≡ true
    → EndsWell BadHead (items ++ item ∷ []) rest written written ended
at_fault items item rest written ended fault closing = record {
  all = inl (any_last is_closing items item closing);
  whole = refl;
  ends = inl (ap (λ b. if b then Some BadHead else if length (items ++ item ∷ []) == MAX_REQUESTS then Some Spent
      else if list_any is_closing (items ++ item ∷ []) then Some Closed
      else if ended then Some (if is_empty rest then Closed else CutShort) else None) (any_last is_fault items item fault));
}

-- after any put a front of the reply was written
pub front_any : (w v : Option (List ℕ)) (reply : List ℕ) {T E : Type 0} (r : Result T E) → Puts w v reply r → (n : ℕ) × Follows w v (take n reply)
front_any w v reply (Ok x) p =
    let all : take (length reply) reply ≡ reply = ap (take (length reply)) (sym (append-nil reply)) ∙ take_front reply [] in
    let F : List ℕ → Type 0 = λ out. Follows w v out in
    (length reply, subst F (sym all) p)
front_any w v reply (Err e) p = front_of w v reply p

any_none : (test : Item → Bool) (items : List Item) (item : Item) → list_any test items ≡ false → test item ≡ false → list_any test (items ++ item ∷ []) ≡ false
any_none test items item none no_one = grind (arith, common_steps)

-- as many were answered as there may be
pub at_spent : (items : List Item) (item : Item) (rest written : List ℕ) (ended : Bool) → All IsGoing items → false ≡ is_fault item
    → length (items ++ item ∷ []) ≡ MAX_REQUESTS → EndsWell Spent (items ++ item ∷ []) rest written written ended
at_spent items item rest written ended g fault full = record {
  all = inr (inl full);
  whole = refl;
  ends = inl (ap (λ b. if b then Some BadHead else if length (items ++ item ∷ []) == MAX_REQUESTS then Some Spent
      else if list_any is_closing (items ++ item ∷ []) then Some Closed
      else if ended then Some (if is_empty rest then Closed else CutShort) else None) (any_none is_fault items item (none_fault items g) (sym fault))
      ∙ ap (λ b. if b then Some Spent else if list_any is_closing (items ++ item ∷ []) then Some Closed
      else if ended then Some (if is_empty rest then Closed else CutShort) else None) (eq-eqb (length (items ++ item ∷ [])) MAX_REQUESTS full));
}

-- the last one asked to close
pub at_closed : (items : List Item) (item : Item) (rest written : List ℕ) (ended : Bool) → All IsGoing items → false ≡ is_fault item → is_closing item ≡ true
    → (length (items ++ item ∷ []) == MAX_REQUESTS) ≡ false → EndsWell Closed (items ++ item ∷ []) rest written written ended
at_closed items item rest written ended g fault closing room = record {
  all = inl (any_last is_closing items item closing);
  whole = refl;
  ends = inl (ap (λ b. if b then Some BadHead else if length (items ++ item ∷ []) == MAX_REQUESTS then Some Spent
      else if list_any is_closing (items ++ item ∷ []) then Some Closed
      else if ended then Some (if is_empty rest then Closed else CutShort) else None) (any_none is_fault items item (none_fault items g) (sym fault))
      ∙ ap (λ b. if b then Some Spent else if list_any is_closing (items ++ item ∷ []) then Some Closed
      else if ended then Some (if is_empty rest then Closed else CutShort) else None) room
      ∙ ap (λ b. if b then Some Closed else if ended then Some (if is_empty rest then Closed else CutShort) else None) (any_last is_closing items item closing));
}

pub len_more : (turns : List Turn) (item : Item) (count : ℕ) → length turns ≡ count → length (items_of turns ++ item ∷ []) ≡ count + 1
len_more turns item count e = length-append (items_of turns) (item ∷ []) ∙ ap (λ n. n + 1) (mapped turns ∙ e)

pub or_first : (a b : Bool) → (a || b) ≡ true → b ≡ false → a ≡ true
or_first true b e f = refl
or_first false b e f = cc

pub not_full : (n : ℕ) → (n ≡ MAX_REQUESTS → ⊥) → (n == MAX_REQUESTS) ≡ false
not_full n h = grind (arith, nat_tests)
