-- What becomes of an item, as it is noted and put.
use Rattle.std.proofs.Common.{◌≡◌, ℕ, ◌+◌, ◌-◌, ◌^◌, ◌≤◌, ◌==◌, min, Bool, true, false, List, [], ◌∷◌, ◌++◌, Option, Result, Ok, Err, IfOk, OnErr, refl, sym, ap, ◌∙◌, subst, arith, codes, if◌then◌else◌}
use Rattle.std.proofs.lemmas.List.{append-nil}
use Rattle.std.proofs.lemmas.Bool.Decides.{nat_tests}
use Rattle.tgap_model.specs.declared.failure.Memory.{Memory}
use Rattle.plain_io.specs.Puts.{Puts}
use Rattle.tgap_model.specs.Faults.{Rose}
use Rattle.session.specs.declared.row.Row.{Row}
use Rattle.session.specs.declared.row.Row.TheVariants.{Read, Pinned, SeenPinned, Behind, Refused, Published, Stale, Full, NoMemory, Unkept, KeeperFull}
use Rattle.version_store.specs.declared.pin.Pin.{Pin}
use Rattle.map_version.specs.declared.version.Version.{Version}
use Rattle.session.specs.declared.turn.Turned.{Turned}
use Rattle.session.specs.Items.{Item, Asked, IsItem, item_bytes, is_closing, is_fault, asked_of}
use Rattle.session.specs.Answers.{said}
use Rattle.session.specs.Outcomes.{place_of}
use Rattle.session.specs.Versions.{Seen, Continues, IsPin}
use Rattle.session.specs.Turns.{IsTurned, CountsRow, CountsTurn, CountsTold, settled}
use Rattle.session.specs.Progress.{Exchange, Noted, ToldEnough}
use Rattle.session.proofs.Counting.{counts_none, counts_quiet, same_counts}

-- without memory the reply says so
settled_turn : (before now : Seen) (pin pin' : ℕ) (asked : Asked) (close : Bool) (r : Result Turned Memory)
    → IfOk r (IsTurned before now pin pin' asked close) → OnErr r (pin' ≡ pin) → IsTurned before now pin pin' asked close (settled pin' close r)
settled_turn before now pin pin' asked close (Ok t) p e = p
settled_turn before now pin pin' asked close (Err m) p e = record {
  holds = λ known below. e;
  batch = tt;
  answer = said 503 (codes "memory" ∷ []);
  answered = refl;
  reply = refl;
  moved = e;
}

settled_count : (before now : Seen) (pin : ℕ) (close : Bool) (r : Result Turned Memory) → CountsTurn before now r
    → CountsRow (settled pin close r).row (settled pin close r).number before now
settled_count before now pin close (Ok t) counts = counts
settled_count before now pin close (Err m) same = counts_none NoMemory pin before now refl refl refl refl same

-- one number that was told
told_number : (a b m n : ℕ) (is : Bool) → is ≡ (m == n) → a ≤ b → (m ≡ n → Rose a b) → min (a + (0 + (if is then 1 else 0))) (2 ^ 64 - 1) ≤ b
told_number a b m n true e le rose = (let r = rose (grind (arith, nat_tests)) in omega arith)
told_number a b m n false e le rose = omega arith

told_row : (before now : Seen) (item : Item) (m : ℕ) (row : Row) → Continues before now → (row ≡ Behind → Rose (before.tellings m) (now.tellings m))
    → ToldEnough before now (record { item = item; number = m; row = row } ∷ [])
told_row before now item m Behind c told n =
    told_number (before.tellings n) (now.tellings n) m n (m == n) refl (c.tellings n)
    (λ e. let P : ℕ → Type 0 = λ k. Rose (before.tellings k) (now.tellings k) in subst P e (told refl))
told_row before now item m Read c told n = (let x = c.tellings n in omega arith)
told_row before now item m Pinned c told n = (let x = c.tellings n in omega arith)
told_row before now item m SeenPinned c told n = (let x = c.tellings n in omega arith)
told_row before now item m Refused c told n = (let x = c.tellings n in omega arith)
told_row before now item m Published c told n = (let x = c.tellings n in omega arith)
told_row before now item m Stale c told n = (let x = c.tellings n in omega arith)
told_row before now item m Full c told n = (let x = c.tellings n in omega arith)
told_row before now item m NoMemory c told n = (let x = c.tellings n in omega arith)
told_row before now item m Unkept c told n = (let x = c.tellings n in omega arith)
told_row before now item m KeeperFull c told n = (let x = c.tellings n in omega arith)

settled_told : (before now : Seen) (pin : ℕ) (close : Bool) (item : Item) (r : Result Turned Memory) → Continues before now → CountsTold before now r
    → ToldEnough before now (record { item = item; number = (settled pin close r).number; row = (settled pin close r).row } ∷ [])
settled_told before now pin close item (Ok t) c told = told_row before now item t.number t.row c told
settled_told before now pin close item (Err m) c told = told_row before now item pin NoMemory c (λ e. cc)

-- an item was handled
pub exchange_of : (before now : Seen) (pin pin' : Pin Version) (held held' : List ℕ) (noted noted' : Noted) (told told' : Option (List ℕ))
    (item : Item) (final : Bool) (r : Result Turned Memory) {T E : Type 0} (put : Result T E)
    → held ≡ item_bytes item ++ held' → IsItem held' item
    → IfOk r (IsTurned before now pin.number pin'.number (asked_of item) final) → OnErr r (pin'.number ≡ pin.number)
    → Puts told told' (settled pin'.number final r).reply put
    → noted'.numbers ≡ noted.numbers ++ (settled pin'.number final r).number ∷ []
    → noted'.rows ≡ noted.rows ++ place_of (settled pin'.number final r).row ∷ []
    → IsPin now.history pin' → Continues before now → CountsTurn before now r → CountsTold before now r
    → Exchange before now pin pin' held held' noted noted' told told' (is_fault item) (is_closing item) final put
exchange_of before now pin pin' held held' noted noted' told told' item final r put bytes is turned kept puts numbers rows holds goes counts behind = record {
  item = item;
  turned = settled pin'.number final r;
  bytes = bytes;
  item_is = is;
  faulty_is = refl;
  closing_is = refl;
  turned_is = settled_turn before now pin.number pin'.number (asked_of item) final r turned kept;
  put_is = puts;
  numbers = numbers;
  rows = rows;
  holds = holds;
  continues = goes;
  counts = settled_count before now pin'.number final r counts;
  tellings = settled_told before now pin'.number final item r goes behind;
}

-- a pin that is kept has its number still
pub kept_number : (pin pin' : Pin Version) (r : Result Turned Memory) → OnErr r (pin' ≡ pin) → OnErr r (pin'.number ≡ pin.number)
kept_number pin pin' (Ok t) e = tt
kept_number pin pin' (Err m) e = ap (λ p. p.number) e

-- what a reply that only reads leaves
pub kept_nothing : (pin : Pin Version) (r : Result Turned Memory) → OnErr r (pin.number ≡ pin.number)
kept_nothing pin (Ok t) = tt
kept_nothing pin (Err m) = refl

pub goes_nowhere : (seen : Seen) → Continues seen seen
goes_nowhere seen = record {
  seat = refl;
  history = ([], sym (append-nil seen.history));
  batches = ([], sym (append-nil seen.batches));
  limit = refl;
  tellings = λ n. omega arith;
}

pub reads_nothing : (seen : Seen) (r : Result Turned Memory) → IfOk r (λ t. t.row ≡ Read) → CountsTurn seen seen r
reads_nothing seen r e = counts_quiet seen seen Read r e refl (λ n. refl) refl refl (same_counts seen)

pub tells_nothing : (seen : Seen) (r : Result Turned Memory) → IfOk r (λ t. t.row ≡ Read) → CountsTold seen seen r
tells_nothing seen (Ok t) e = λ behind. (let f : Read ≡ Behind = sym e ∙ behind in cc)
tells_nothing seen (Err m) e = tt
