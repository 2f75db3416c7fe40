-- A connection comes further by one item.
use Rattle.std.proofs.Common.{◌≡◌, ℕ, suc, ◌+◌, ◌<◌, Bool, false, List, [], ◌∷◌, ◌++◌, length, flat_map, Option, Some, None, IfSome, Result, Ok, All, sym, ap, ◌∙◌, subst, arith, append_assoc, zero-add, length-append}
use Rattle.std.proofs.lemmas.List.{append-nil}
use Rattle.std.proofs.lemmas.List.Elements.{All-push}
use Rattle.std.proofs.lemmas.Grind.{flat_map-append}
use Rattle.tgap_model.specs.Base.{BaseMap}
use Rattle.session.specs.declared.row.Row.{Row}
use Rattle.session.specs.declared.answer.Answer.{Answer}
use Rattle.version_store.specs.declared.pin.Pin.{Pin}
use Rattle.map_version.specs.declared.version.Version.{Version}
use Rattle.session.specs.Reading.{Follows, Received}
use Rattle.session.specs.Items.{Item, Request, Fault, IsItem, Asked, asked_of, item_bytes, is_closing}
use Rattle.session.specs.Outcomes.{Turn, Standing, starting, standing, next, pin_after, Holds, answer_of, Outcomes, replies, reply_in, sent, is_final, place_of}
use Rattle.session.specs.Versions.{Seen, Continues}
use Rattle.session.specs.Progress.{Progress, Exchange, Noted, IsGoing, items_of, tells_behind, ToldEnough}
use Rattle.session.proofs.Kept.{no_shorter}
use Rattle.session.proofs.Talks.{known_within, outcomes_longer, replies_longer, standing_more, outcomes_more, replies_more, count_more, map_more}
use Rattle.session.proofs.Counting.{counts_more, batches_more}

-- what came in or went out once, and then again
pub follows_more : (a b c : Option (List ℕ)) (x y : List ℕ) → Follows a b x → Follows b c y → Follows a c (x ++ y)
follows_more None b c x y p q = tt
follows_more (Some before) b c x y p q =
    let q' : c ≡ Some ((before ++ x) ++ y) = (let P = λ (o : Option (List ℕ)). IfSome o (λ t. c ≡ Some (t ++ y)) in subst P p q) in
    q' ∙ ap Some (append_assoc before x y)

-- a request that does not ask to close
pub going_item : (rest : List ℕ) (item : Item) → IsItem rest item → false ≡ is_closing item → IsGoing item
going_item rest (Request head body) is going = (is, sym going)
going_item rest (Fault status) is going = cc

-- the list goes on, and then goes on
pub continues_more : (a b c : Seen) → Continues a b → Continues b c → Continues a c
continues_more a b c p q = record {
  seat = q.seat ∙ p.seat;
  history = (p.history.0 ++ q.history.0, q.history.1 ∙ ap (λ h. h ++ q.history.0) p.history.1 ∙ append_assoc a.history p.history.0 q.history.0);
  batches = (p.batches.0 ++ q.batches.0, q.batches.1 ∙ ap (λ h. h ++ q.batches.0) p.batches.1 ∙ append_assoc a.batches p.batches.0 q.batches.0);
  limit = q.limit ∙ p.limit;
  tellings = λ n. (let x = p.tellings n in let y = q.tellings n in omega arith);
}

-- the reply of a row is what was sent
pub reply_is : (h : List BaseMap) (s : Standing) (count : ℕ) (t : Turn) (a : Answer) → answer_of t.row h s.pin (asked_of t.item) t.number ≡ Some a
    → reply_in h s count t ≡ sent (next s t).pin (is_final count t.item) a
reply_is h s count t a e = ap (λ o. elim o [ None ↦ [] | Some x ↦ sent (next s t).pin (is_final count t.item) x ]) e

-- the bytes of the items, with one more behind them
pub split_more : (items : List Item) (item : Item) (read piece held got rest : List ℕ) → read ≡ flat_map item_bytes items ++ held
    → got ≡ held ++ piece → got ≡ item_bytes item ++ rest → read ++ piece ≡ flat_map item_bytes (items ++ item ∷ []) ++ rest
split_more items item read piece held got rest split more bytes =
    ap (λ xs. xs ++ piece) split ∙ append_assoc (flat_map item_bytes items) held piece
    ∙ ap (λ xs. flat_map item_bytes items ++ xs) (sym more ∙ bytes)
    ∙ sym (append_assoc (flat_map item_bytes items) (item_bytes item) rest)
    ∙ ap (λ xs. (flat_map item_bytes items ++ xs) ++ rest) (sym (append-nil (item_bytes item)))
    ∙ ap (λ xs. xs ++ rest) (sym (flat_map-append item_bytes items (item ∷ [])))

-- the outcome holds where the connection stands
pub stands : (row : Row) (limit : ℕ) (h : List BaseMap) (pin : ℕ) (s : Standing) (asked : Asked) (n : ℕ) → s.pin ≡ pin
    → Holds row limit h (record { pin = pin; known = s.known }) asked n → Holds row limit h s asked n
stands row limit h pin s asked n e o =
    let P : ℕ → Type 0 = λ p. Holds row limit h (record { pin = p; known = s.known }) asked n in subst P (sym e) o

-- the counts of tellings rose by those of the item too
pub told_more : (a b c : Seen) (turns : List Turn) (t : Turn) → ToldEnough a b turns → ToldEnough b c (t ∷ []) → ToldEnough a c (turns ++ t ∷ [])
told_more a b c turns t p q n =
    let x = p n in
    let y = q n in
    let e = count_more (tells_behind n) turns t in
    omega arith

-- the put went well
abbrev pub put_of : {T E : Type 0} → T → Result T E
put_of x = Ok x

-- one request more was answered, and the connection goes on
pub progress_more : (first : ℕ) (before mid now : Seen) (taken a b told u v : Option (List ℕ)) (pin pin' : Pin Version)
    (held got rest : List ℕ) (noted noted' : Noted) (count : ℕ) (final : Bool) {T E : Type 0} (x : T)
    → Progress first before mid taken a told u pin held noted count → Received a b held got
    → (e : Exchange mid now pin pin' got rest noted noted' u v false false final (put_of {T = T} {E = E} x)) → final ≡ is_final (suc count) e.item
    → Progress first before now taken b told v pin' rest noted' (suc count)
progress_more first before mid now taken a b told u v pin pin' held got rest noted noted' count final x p r e fin =
    let s = starting first in
    let t : Turn = record { item = e.item; number = e.turned.number; row = e.turned.row } in
    let stood = standing s p.turns in
    let more = e.continues.history.0 in
    let longer : now.history ≡ mid.history ++ more = e.continues.history.1 in
    let inside = p.there in
    let O : List BaseMap → Type 0 = λ h. Outcomes now.limit h s p.turns in
    let L : ℕ → Type 0 = λ l. Outcomes l mid.history s p.turns in
    let old : Outcomes now.limit now.history s p.turns =
    subst O (sym longer) (outcomes_longer now.limit mid.history more s p.turns inside (subst L (sym e.continues.limit) p.outcomes)) in
    let holds : Holds t.row now.limit now.history stood (asked_of t.item) t.number =
    stands t.row now.limit now.history pin.number stood (asked_of t.item) t.number p.pin_is (e.turned_is.holds stood.known p.known) in
    let same : replies now.history s 0 p.turns ≡ replies mid.history s 0 p.turns =
    ap (λ h. replies h s 0 p.turns) longer ∙ replies_longer mid.limit mid.history more s 0 p.turns inside p.outcomes in
    let moved : (next stood t).pin ≡ pin'.number = ap (λ k. pin_after t.row k t.number) p.pin_is ∙ sym e.turned_is.moved in
    let answered : answer_of t.row now.history stood.pin (asked_of t.item) t.number ≡ Some e.turned_is.answer =
    ap (λ k. answer_of t.row now.history k (asked_of t.item) t.number) p.pin_is ∙ e.turned_is.answered in
    let reply : e.turned.reply ≡ reply_in now.history stood (suc count) t =
    e.turned_is.reply ∙ ap (λ k. sent k final e.turned_is.answer) (sym moved) ∙ ap (λ f. sent (next stood t).pin f e.turned_is.answer) fin
    ∙ sym (reply_is now.history stood (suc count) t e.turned_is.answer answered) in
    record {
      turns = p.turns ++ t ∷ [];
      read = p.read ++ r.0;
      written = p.written ++ e.turned.reply;
      counted = length-append p.turns (t ∷ []) ∙ ap (λ n. n + 1) p.counted ∙ omega arith;
      there = (let y = no_shorter mid now e.continues in let z = p.there in omega arith);
      taken_is = follows_more taken a b p.read r.0 p.taken_is r.1;
      told_is = follows_more told u v p.written e.turned.reply p.told_is e.put_is;
      split = split_more (items_of p.turns) e.item p.read r.0 held got rest p.split r.2 e.bytes
          ∙ ap (λ items. flat_map item_bytes items ++ rest) (sym (map_more (λ t. t.item) p.turns t));
      going = (let G : List Item → Type 0 = All IsGoing in
          subst G (sym (map_more (λ t. t.item) p.turns t)) (All-push IsGoing (items_of p.turns) e.item p.going (going_item rest e.item e.item_is e.closing_is)));
      outcomes = outcomes_more now.limit now.history s p.turns t old holds;
      replies_are = ap (λ xs. xs ++ e.turned.reply) (p.replies_are ∙ sym same) ∙ ap (λ xs. replies now.history s 0 p.turns ++ xs) reply
          ∙ ap (λ n. replies now.history s 0 p.turns ++ reply_in now.history stood (suc n) t) (sym p.counted ∙ sym (zero-add (length p.turns)))
          ∙ sym (replies_more now.history s 0 p.turns t);
      pin_is = ap (λ z. z.pin) (standing_more s p.turns t) ∙ moved;
      known = (let K : Standing → Type 0 = λ z. z.known < length now.history in
          subst K (sym (standing_more s p.turns t)) (known_within t.row now.limit now.history stood e.item t.number (let y = no_shorter mid now e.continues in let z = p.known in omega arith) holds));
      numbers = e.numbers ∙ ap (λ xs. xs ++ t.number ∷ []) p.numbers ∙ sym (map_more (λ t. t.number) p.turns t);
      rows = e.rows ∙ ap (λ xs. xs ++ place_of t.row ∷ []) p.rows ∙ sym (map_more (λ t. place_of t.row) p.turns t);
      holds = e.holds;
      continues = continues_more before mid now p.continues e.continues;
      counts = counts_more before mid now p.turns t p.counts e.counts;
      batches = batches_more mid now p.turns t e.continues p.batches e.turned_is.batch;
      tellings = told_more before mid now p.turns t p.tellings e.tellings;
    }
