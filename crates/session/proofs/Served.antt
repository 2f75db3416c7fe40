-- The beginning of a connection, and its steps as the loop makes them.
use Rattle.std.proofs.Common.{◌≡◌, ℕ, suc, ◌+◌, ◌<◌, ◌≤◌, ◌==◌, ◌||◌, Bool, true, false, List, [], length, Option, Some, None, refl, sym, ap, ◌∙◌, subst, arith, add-one, if◌then◌else◌}
use Rattle.std.proofs.lemmas.List.{append-nil}
use Rattle.std.proofs.lemmas.List.Elements.{All-nil}
use Rattle.std.proofs.lemmas.Option.{slice_get_within}
use Rattle.plain_io.specs.declared.connection.EndKind.{EndKind}
use Rattle.plain_io.specs.declared.connection.EndKind.TheVariants.{Closed, CutShort, ReadFault}
use Rattle.session.specs.declared.serve.TheConstants.{MAX_REQUESTS}
use Rattle.version_store.specs.declared.pin.Pin.{Pin}
use Rattle.map_version.specs.declared.version.Version.{Version}
use Rattle.session.specs.Reading.{Follows, Received}
use Rattle.session.specs.Items.{IsPart, asked_of}
use Rattle.session.specs.Outcomes.{is_final}
use Rattle.session.specs.Versions.{Seen, IsPin}
use Rattle.session.specs.Turns.{HasBatch}
use Rattle.session.specs.Progress.{Progress, Exchange, Noted, IsGoing}
use Rattle.session.specs.Conversation.{Conversation, is_empty}
use Rattle.session.proofs.Counting.{counts_nothing}
use Rattle.session.proofs.Progressing.{progress_more, put_of}
use Rattle.session.proofs.Exchanges.{goes_nowhere}
use Rattle.session.proofs.Endings.{at_end, at_failure}

follows_nothing : (told : Option (List ℕ)) → Follows told told []
follows_nothing None = tt
follows_nothing (Some bytes) = ap Some (sym (append-nil bytes))

-- nothing was read yet
pub begun : (now : Seen) (taken told : Option (List ℕ)) (pin : Pin Version) (held : List ℕ) (noted : Noted)
    → IsPin now.history pin → held ≡ [] → noted.numbers ≡ [] → noted.rows ≡ []
    → Progress pin.number now now taken taken told told pin held noted 0
begun now taken told pin held noted p h n r = record {
  turns = [];
  read = [];
  written = [];
  counted = refl;
  there = slice_get_within now.history pin.number _ p.there;
  taken_is = follows_nothing taken;
  told_is = follows_nothing told;
  split = sym h;
  going = All-nil IsGoing;
  outcomes = tt;
  replies_are = refl;
  pin_is = refl;
  known = slice_get_within now.history pin.number _ p.there;
  numbers = n;
  rows = r;
  holds = p;
  continues = goes_nowhere now;
  counts = counts_nothing now;
  batches = All-nil (λ t. HasBatch now.batches t.row t.number (asked_of t.item));
  tellings = λ n. omega arith;
}

no_or : (a b : Bool) → (a || b) ≡ false → a ≡ false
no_or true b e = cc
no_or false b e = refl

-- one request more, by what the loop knows
pub goes_on : (first : ℕ) (before mid now : Seen) (taken a b told u w v : Option (List ℕ)) (pin pin' : Pin Version)
    (held got rest : List ℕ) (noted noted' : Noted) (count : ℕ) (close ends : Bool) {T E : Type 0} (x : T)
    → Progress first before mid taken a told u pin held noted count → Received a b held got → w ≡ u
    → Exchange mid now pin pin' got rest noted noted' w v false close ends (put_of {T = T} {E = E} x)
    → ends ≡ (close || ((count + 1) == MAX_REQUESTS)) → ends ≡ false
    → Progress first before now taken b told v pin' rest noted' (count + 1)
goes_on first before mid now taken a b told u w v pin pin' held got rest noted noted' count close ends {T = T} {E = E} x p r same e is goes =
    let open_ : close ≡ false = no_or close ((count + 1) == MAX_REQUESTS) (sym is ∙ goes) in
    let W : Option (List ℕ) → Type 0 = λ o. Exchange mid now pin pin' got rest noted noted' o v false close ends (put_of {T = T} {E = E} x) in
    let C : Bool → Type 0 = λ c. Exchange mid now pin pin' got rest noted noted' u v false c ends (put_of {T = T} {E = E} x) in
    let e' = subst C open_ (subst W same e) in
    let step : count + 1 ≡ suc count = add-one count in
    let final : ends ≡ is_final (suc count) e'.item =
    is ∙ ap (λ c. c || ((count + 1) == MAX_REQUESTS)) open_ ∙ ap (λ n. false || (n == MAX_REQUESTS)) step ∙ ap (λ c. c || (suc count == MAX_REQUESTS)) e'.closing_is in
    let N : ℕ → Type 0 = λ n. Progress first before now taken b told v pin' rest noted' n in
    subst N (sym step) (progress_more first before mid now taken a b told u v pin pin' held got rest noted noted' count ends x p r e' final)

module _ (first count : ℕ) (before now : Seen) (taken a b told u w : Option (List ℕ)) (pin : Pin Version) (held rest : List ℕ) (noted : Noted)
    (p : Progress first before now taken a told u pin held noted count) (r : Received a b held rest) (same : w ≡ u) (ended : Bool) (how : EndKind)
    (below : count < MAX_REQUESTS) (room : length now.history ≤ now.limit) (part : IsPart rest) where
  abbrev Ends : Option (List ℕ) → Bool → EndKind → Type 0
  Ends v e h = Conversation before now taken b told v e (record { how = h; first = first; last = pin.number; numbers = noted.numbers; rows = noted.rows })

  -- the input ended
  pub ends_open : ended ≡ true → how ≡ (if is_empty rest then Closed else CutShort) → Ends w ended how
  ends_open e h =
      let V : Option (List ℕ) → Type 0 = λ v. Ends v true (if is_empty rest then Closed else CutShort) in
      let D : Bool → Type 0 = λ d. Ends w d (if is_empty rest then Closed else CutShort) in
      let H : EndKind → Type 0 = λ k. Ends w ended k in
      subst H (sym h) (subst D (sym e) (subst V (sym same) (at_end first count before now taken a b told u pin held rest noted p r room below part)))

  -- the input failed
  pub fails_open : ended ≡ false → Ends w ended ReadFault
  fails_open e =
      let V : Option (List ℕ) → Type 0 = λ v. Ends v false ReadFault in
      let D : Bool → Type 0 = λ d. Ends w d ReadFault in
      subst D (sym e) (subst V (sym same) (at_failure first count before now taken a b told u pin held rest noted p r room below part))
