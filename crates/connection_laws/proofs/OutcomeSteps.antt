-- Each outcome of a connection is one step of the machine of versions.
use Rattle.std.proofs.Common.{◌≡◌, ◌≢◌, ℕ, ◌+◌, ◌-◌, ◌<◌, ◌≤◌, max, List, [], ◌∷◌, ◌++◌, length, take, Some, slice_get, refl, sym, ap, ◌∙◌, arith}
use Rattle.std.proofs.lemmas.List.{length-take-le, take_more}
use Rattle.std.proofs.lemmas.Option.{slice_get_within, get_or_from_slice_get}
use Rattle.std.proofs.lemmas.Bool.{eq-eqb, ne_eqb}
use Rattle.tgap_model.specs.Base.{BaseMap}
use Rattle.version_store.specs.declared.event.Event.TheVariants as event
use Rattle.version_store.specs.declared.event.Outcome.TheVariants as outcome
use Rattle.version_store.specs.Machine.{Versions, commit, step}
use Rattle.session.specs.declared.row.Row.{Row}
use Rattle.session.specs.declared.row.Row.TheVariants.{Read, Pinned, SeenPinned, Behind, Refused, Published, Stale, Full, NoMemory, Unkept, KeeperFull}
use Rattle.session.specs.Items.{Item, asked_of}
use Rattle.session.specs.Outcomes.{Standing, Turn, starting, next, Holds}
use Rattle.session.proofs.Talks.{known_within}
use Rattle.connection_laws.specs.Steps.{machine_at, IsFirstPin, IsStep, IsStepOrNone, OutcomesAreSteps, ConversationsAreSteps}

-- ---- a list that is cut

-- one more, the one of that place
cut_more : {X : Type 0} (n : ℕ) (xs : List X) (x : X) → slice_get xs n ≡ Some x → take (n + 1) xs ≡ take n xs ++ x ∷ []
cut_more n xs x e =
    take_more xs n x (slice_get_within xs n x e) ∙ ap (λ z. take n xs ++ z ∷ []) (get_or_from_slice_get xs n x x e)

-- ---- commits of the machine

module _ (limit count pin : ℕ) (history : List BaseMap) (made : BaseMap) (there : count ≤ length history) where
  abbrev here : Versions
  here = machine_at limit history count pin

  long : length (take count history) ≡ count
  long = length-take-le count history there

  commit_stale : pin + 1 ≢ count → 0 < count → commit here 0 pin made ≡ (here, outcome.Stale (count - 1))
  commit_stale other some =
      rw (ne_eqb pin (length (take count history) - 1) (λ e. other (omega (arith, e, long, some))))
      (ap (λ n. (here, outcome.Stale (n - 1))) long)

  commit_full : pin + 1 ≡ count → count ≡ limit → commit here 0 pin made ≡ (here, outcome.Full limit)
  commit_full newest full =
      rw (eq-eqb pin (length (take count history) - 1) (omega (arith, newest, long)), eq-eqb (length (take count history)) limit (long ∙ full)) refl

  commit_published : pin + 1 ≡ count → count < limit → commit here 0 pin made
      ≡ (record { history = take count history ++ made ∷ []; limit = limit; pins = Some count ∷ [] }, outcome.Published count)
  commit_published newest room =
      rw (
        eq-eqb pin (length (take count history) - 1) (omega (arith, newest, long)),
        ne_eqb (length (take count history)) limit (λ e. omega (arith, e, long, room)),
      )
      (ap (λ n. (record { history = take count history ++ made ∷ []; limit = limit; pins = Some n ∷ [] }, outcome.Published n)) long)

-- ---- one outcome

max_right : (a b : ℕ) → a ≤ b → max a b ≡ b
max_right a b le = grind (arith, le)

pinned_step : (limit n pin : ℕ) (history : List BaseMap) → n < length history
    → step (machine_at limit history (n + 1) pin) (event.Pin 0) ≡ (machine_at limit history (n + 1) n, outcome.Pinned n)
pinned_step limit n pin history there =
    let long : length (take (n + 1) history) ≡ n + 1 = length-take-le (n + 1) history (omega (arith, there)) in
    let newest : length (take (n + 1) history) - 1 ≡ n = omega (arith, long) in
    ap (λ k. (machine_at limit history (n + 1) k, outcome.Pinned k)) newest

module _ (limit : ℕ) (history : List BaseMap) (s : Standing) (item : Item) (n : ℕ) (room : length history ≤ limit) (known : s.pin ≤ s.known)
    (there : s.known < length history) where
  abbrev turn : Row → Turn
  turn row = record { item = item; number = n; row = row }

  one_step : (row : Row) → Holds row limit history s (asked_of item) n → IsStepOrNone row limit history s (turn row)
  one_step Unkept (made, good, is) = refl
  one_step KeeperFull (made, good, is) = refl
  one_step Read (is, some) = record {
    count = s.known + 1;
    event = event.Read 0;
    known = omega arith;
    there = omega (arith, there);
    step_is = ap (λ k. (machine_at limit history (s.known + 1) s.pin, outcome.At k)) (sym is);
    event_is = refl;
    newest = λ e. absurd cc;
    no_older = omega arith;
  }
  one_step Refused (is, some) = record {
    count = s.known + 1;
    event = event.Read 0;
    known = omega arith;
    there = omega (arith, there);
    step_is = ap (λ k. (machine_at limit history (s.known + 1) s.pin, outcome.At k)) (sym is);
    event_is = refl;
    newest = λ e. absurd cc;
    no_older = omega arith;
  }
  one_step NoMemory is = record {
    count = s.known + 1;
    event = event.Read 0;
    known = omega arith;
    there = omega (arith, there);
    step_is = ap (λ k. (machine_at limit history (s.known + 1) s.pin, outcome.At k)) (sym is);
    event_is = refl;
    newest = λ e. absurd cc;
    no_older = omega arith;
  }
  one_step Behind (seen, body, is, news, older) =
      let most = max_right s.known n news.news in
      record {
        count = n + 1;
        event = event.Read 0;
        known = let k = news.news in omega (arith, k);
        there = let k = news.there in omega (arith, k);
        step_is = ap (λ k. (machine_at limit history (k + 1) s.pin, outcome.At s.pin)) (sym most);
        event_is = refl;
        newest = λ e. refl;
        no_older = omega arith;
      }
  one_step Pinned (is, news) =
      let most = max_right s.known n news.news in
      record {
        count = n + 1;
        event = event.Pin 0;
        known = let k = news.news in omega (arith, k);
        there = let k = news.there in omega (arith, k);
        step_is = pinned_step limit n s.pin history news.there
            ∙ ap (λ k. (machine_at limit history (k + 1) n, outcome.Pinned n)) (sym most);
        event_is = refl;
        newest = λ e. absurd cc;
        no_older = let k = news.news in omega (arith, k, known);
      }
  one_step SeenPinned (seen, body, is, news, older) =
      let most = max_right s.known n news.news in
      record {
        count = n + 1;
        event = event.Pin 0;
        known = let k = news.news in omega (arith, k);
        there = let k = news.there in omega (arith, k);
        step_is = pinned_step limit n s.pin history news.there
            ∙ ap (λ k. (machine_at limit history (k + 1) n, outcome.Pinned n)) (sym most);
        event_is = refl;
        newest = λ e. absurd cc;
        no_older = let k = news.news in omega (arith, k, known);
      }
  one_step Published (made, good, at, is, above, below) =
      let within = slice_get_within history n made at in
      let most = max_right s.known n (omega (arith, above)) in
      record {
        count = n;
        event = event.Commit 0 made;
        known = above;
        there = omega (arith, within);
        step_is = commit_published limit n s.pin history made (omega (arith, within)) (sym is) below
            ∙ (ap (λ h. (record { history = h; limit = limit; pins = Some n ∷ [] }, outcome.Published n)) (sym (cut_more n history made at))
            ∙ ap (λ k. (machine_at limit history (k + 1) n, outcome.Published n)) (sym most));
        event_is = (made, good, refl);
        newest = λ e. absurd cc;
        no_older = omega (arith, is);
      }
  one_step Stale (made, good, above, news) =
      let most = max_right s.known n news.news in
      let last : n + 1 - 1 ≡ n = omega arith in
      record {
        count = n + 1;
        event = event.Commit 0 made;
        known = let k = news.news in omega (arith, k);
        there = let k = news.there in omega (arith, k);
        step_is = commit_stale limit (n + 1) s.pin history made (let k = news.there in omega (arith, k)) (λ e. omega (arith, e, above)) (omega arith)
            ∙ (ap (λ k. (machine_at limit history (n + 1) s.pin, outcome.Stale k)) last
            ∙ ap (λ k. (machine_at limit history (k + 1) s.pin, outcome.Stale n)) (sym most));
        event_is = (made, good, refl);
        newest = λ e. absurd cc;
        no_older = omega arith;
      }
  one_step Full (made, good, is, next_is) =
      let all : s.known + 1 ≡ limit = omega (arith, is, next_is, known, there, room) in
      record {
        count = s.known + 1;
        event = event.Commit 0 made;
        known = omega arith;
        there = omega (arith, there);
        step_is = commit_full limit (s.known + 1) s.pin history made (omega (arith, there)) (omega (arith, all, is, next_is)) all
            ∙ ap (λ k. (machine_at limit history (s.known + 1) s.pin, outcome.Full k)) (sym is);
        event_is = (made, good, refl);
        newest = λ e. absurd cc;
        no_older = omega arith;
      }

-- ---- a connection

pin_known : (limit : ℕ) (history : List BaseMap) (s : Standing) (t : Turn) → s.pin ≤ s.known → Holds t.row limit history s (asked_of t.item) t.number
    → (next s t).pin ≤ (next s t).known
pin_known limit history s t k holds = by t.row
  where
    by : (row : Row) → (next s (record { item = t.item; number = t.number; row = row })).pin ≤ (next s (record { item = t.item; number = t.number; row = row })).known
    by Pinned = omega arith
    by SeenPinned = omega arith
    by Published = omega arith
    by Behind = omega (arith, k)
    by Stale = omega (arith, k)
    by Read = k
    by Refused = k
    by Full = k
    by NoMemory = k
    by Unkept = k
    by KeeperFull = k

pub outcomes_are_steps : OutcomesAreSteps
outcomes_are_steps limit history s [] room known there o = tt
outcomes_are_steps limit history s (t ∷ turns) room known there (holds, o) = (
  one_step limit history s t.item t.number room known there t.row holds,
  outcomes_are_steps limit history (next s t) turns room (pin_known limit history s t known holds)
      (known_within t.row limit history s t.item t.number there holds) o,
)

-- the first pin
first_pin : (limit : ℕ) (history : List BaseMap) (first : ℕ) → first < length history → IsFirstPin limit history first
first_pin limit history first there =
    let long : length (take (first + 1) history) ≡ first + 1 = length-take-le (first + 1) history (omega (arith, there)) in
    let newest : length (take (first + 1) history) - 1 ≡ first = omega (arith, long) in
    record {
      there = there;
      step_is = ap (λ k. (machine_at limit history (first + 1) k, outcome.Pinned k)) newest;
    }

pub conversations_are_steps : ConversationsAreSteps
conversations_are_steps before now taken taken' told told' ended end c = (
  first_pin now.limit now.history end.first c.first,
  outcomes_are_steps now.limit now.history (starting end.first) c.turns c.room (omega arith) c.first c.outcomes,
)
