-- What a seat counts of the items of a connection, and the batches of the versions that were published.
use Rattle.std.proofs.Common.{◌≡◌, ℕ, ◌+◌, ◌-◌, ◌^◌, ◌<◌, min, Bool, true, false, List, [], ◌∷◌, ◌++◌, flat_map, count_by, Some, Result, Ok, Err, IfOk, All, refl, sym, ap, ◌∙◌, subst, arith, append_assoc, add-zero, add_assoc, slice_get, if◌then◌else◌}
use Rattle.std.proofs.lemmas.List.{append-nil}
use Rattle.std.proofs.lemmas.List.Elements.{All-nil, All-push, All-weaker}
use Rattle.std.proofs.lemmas.Grind.{flat_map-append}
use Rattle.tgap_model.specs.declared.failure.Memory.{Memory}
use Rattle.version_store.specs.declared.press.fail.PublishFail.{PublishFail}
use Rattle.version_store.specs.declared.press.fail.PublishFail.TheVariants as press
use Rattle.version_store.specs.Keepers.{ComesOfList}
use Rattle.session.specs.declared.row.Row.{Row}
use Rattle.session.specs.declared.row.Row.TheVariants.{Read, Pinned, SeenPinned, Behind, Refused, Published, Stale, Full, NoMemory, Unkept, KeeperFull}
use Rattle.session.specs.declared.turn.Turned.{Turned}
use Rattle.session.specs.Items.{Asked, asked_of}
use Rattle.session.specs.Outcomes.{Turn}
use Rattle.session.specs.Versions.{Seen, Extends, Continues, SameCounts}
use Rattle.session.specs.Turns.{HasBatch, publishes, number_published, is_unkept, is_keeper_full, RisesWhere, CountsRow, CountsTurn, CountsPublish, IsCommitRefused, IsNeverLost}
use Rattle.session.specs.Progress.{published_count, published_numbers, unkept_count, keeper_full_count, CountsTurns, HaveBatches}
use Rattle.session.proofs.Kept.{get_longer}
use Rattle.session.proofs.Talks.{count_more, sum_more}

-- ---- one outcome

-- an outcome that publishes nothing, and that the keeper did not refuse, counts nothing
pub counts_none : (row : Row) (n : ℕ) (before now : Seen) → publishes row ≡ 0 → number_published row n ≡ [] → is_unkept row ≡ false
    → is_keeper_full row ≡ false → SameCounts before now → CountsRow row n before now
counts_none row n before now p ns u f same = record {
  published = same.published ∙ sym (add-zero before.published) ∙ ap (λ k. before.published + k) (sym p);
  numbers = same.numbers ∙ sym (append-nil before.numbers) ∙ ap (λ xs. before.numbers ++ xs) (sym ns);
  unkept = (let P : Bool → Type 0 = λ b. RisesWhere b before.unkept now.unkept in subst P (sym u) same.unkept);
  keeper_full = (let P : Bool → Type 0 = λ b. RisesWhere b before.keeper_full now.keeper_full in subst P (sym f) same.keeper_full);
}

pub counts_quiet : (before now : Seen) (row : Row) (r : Result Turned Memory) → IfOk r (λ t. t.row ≡ row) → publishes row ≡ 0
    → ((n : ℕ) → number_published row n ≡ []) → is_unkept row ≡ false → is_keeper_full row ≡ false → SameCounts before now → CountsTurn before now r
counts_quiet before now row (Ok t) is p ns u f same =
    counts_none t.row t.number before now (ap publishes is ∙ p) (ap (λ row. number_published row t.number) is ∙ ns t.number) (ap is_unkept is ∙ u)
    (ap is_keeper_full is ∙ f) same
counts_quiet before now row (Err e) is p ns u f same = same

pub same_counts : (seen : Seen) → SameCounts seen seen
same_counts seen = record { published = refl; numbers = refl; unkept = refl; keeper_full = refl }

-- what is counted of an outcome that is no version hangs on no number
counts_unkept : (m n : ℕ) (before now : Seen) → CountsRow Unkept m before now → CountsRow Unkept n before now
counts_unkept m n before now c = record { published = c.published; numbers = c.numbers; unkept = c.unkept; keeper_full = c.keeper_full }

counts_keeper_full : (m n : ℕ) (before now : Seen) → CountsRow KeeperFull m before now → CountsRow KeeperFull n before now
counts_keeper_full m n before now c = record { published = c.published; numbers = c.numbers; unkept = c.unkept; keeper_full = c.keeper_full }

-- what is counted of a turn is counted of one that is the same
counts_as : (before now : Seen) (t u : Turned) → t ≡ u → CountsRow u.row u.number before now → CountsRow t.row t.number before now
counts_as before now t u is c = (let P : Turned → Type 0 = λ x. CountsRow x.row x.number before now in subst P (sym is) c)

-- the list of versions refused an edit
pub counts_of_list : (before now : Seen) (pin : ℕ) (close : Bool) (fail : PublishFail) (r : Result Turned Memory) → ComesOfList fail
    → IfOk r (IsCommitRefused pin close fail) → SameCounts before now → CountsTurn before now r
counts_of_list before now pin close fail (Err e) cause is same = same
counts_of_list before now pin close (press.Stale n) (Ok t) cause is same =
    counts_as before now t _ is (counts_none Stale n before now refl refl refl refl same)
counts_of_list before now pin close (press.VersionsFull n) (Ok t) cause is same =
    counts_as before now t _ is (counts_none Full n before now refl refl refl refl same)
counts_of_list before now pin close press.Unkept (Ok t) cause is same = absurd cause
counts_of_list before now pin close (press.KeeperFull n) (Ok t) cause is same = absurd cause
counts_of_list before now pin close press.Memory (Ok t) cause is same = absurd cause

-- the press did not publish an edit
pub counts_of_press : (before now : Seen) (named pin : ℕ) (close : Bool) (fail : PublishFail) (r : Result Turned Memory)
    → IfOk r (IsCommitRefused pin close fail) → IsNeverLost fail r → CountsPublish {T = ℕ} named before now (Err fail) → CountsTurn before now r
counts_of_press before now named pin close (press.Stale n) r is lost c = counts_of_list before now pin close (press.Stale n) r tt is c
counts_of_press before now named pin close (press.VersionsFull n) r is lost c =
    counts_of_list before now pin close (press.VersionsFull n) r tt is c
counts_of_press before now named pin close press.Unkept (Ok t) is lost c =
    counts_as before now t _ is (counts_unkept named pin before now c)
counts_of_press before now named pin close press.Unkept (Err e) is lost c = absurd (let f : false ≡ true = lost in cc)
counts_of_press before now named pin close (press.KeeperFull n) (Ok t) is lost c =
    counts_as before now t _ is (counts_keeper_full named pin before now c)
counts_of_press before now named pin close (press.KeeperFull n) (Err e) is lost c = absurd (let f : false ≡ true = lost in cc)
counts_of_press before now named pin close press.Memory (Ok t) is lost c = absurd is
counts_of_press before now named pin close press.Memory (Err e) is lost c = c

-- ---- some items

-- nothing was handled
pub counts_nothing : (now : Seen) → CountsTurns now now []
counts_nothing now = record {
  published = sym (add-zero now.published);
  numbers = sym (append-nil now.numbers);
  unkept = ap (λ n. min n (2 ^ 64 - 1)) (sym (add-zero now.unkept));
  keeper_full = ap (λ n. min n (2 ^ 64 - 1)) (sym (add-zero now.keeper_full));
}

flat_map_more : {X Y : Type 0} (f : X → List Y) (xs : List X) (x : X) → flat_map f (xs ++ x ∷ []) ≡ flat_map f xs ++ f x
flat_map_more f xs x = flat_map-append f xs (x ∷ []) ∙ ap (λ ys. flat_map f xs ++ ys) (append-nil (f x))

-- a count that rose so often, and then once more or not
risen_more : (a b c n : ℕ) (is : Bool) → min b (2 ^ 64 - 1) ≡ min (a + n) (2 ^ 64 - 1) → RisesWhere is b c
    → min c (2 ^ 64 - 1) ≡ min (a + (n + (0 + (if is then 1 else 0)))) (2 ^ 64 - 1)
risen_more a b c n true e rise = omega (arith, e, rise)
risen_more a b c n false e same = omega (arith, e, same)

-- one item more
pub counts_more : (a b c : Seen) (turns : List Turn) (t : Turn) → CountsTurns a b turns → CountsRow t.row t.number b c
    → CountsTurns a c (turns ++ t ∷ [])
counts_more a b c turns t all one = record {
  published = one.published ∙ ap (λ n. n + publishes t.row) all.published ∙ add_assoc a.published (published_count turns) (publishes t.row)
      ∙ ap (λ n. a.published + n) (sym (sum_more (λ t. publishes t.row) turns t));
  numbers = one.numbers ∙ ap (λ xs. xs ++ number_published t.row t.number) all.numbers
      ∙ append_assoc a.numbers (published_numbers turns) (number_published t.row t.number)
      ∙ ap (λ xs. a.numbers ++ xs) (sym (flat_map_more (λ t. number_published t.row t.number) turns t));
  unkept = risen_more a.unkept b.unkept c.unkept (unkept_count turns) (is_unkept t.row) all.unkept one.unkept
      ∙ ap (λ n. min (a.unkept + n) (2 ^ 64 - 1)) (sym (count_more (λ t. is_unkept t.row) turns t));
  keeper_full = risen_more a.keeper_full b.keeper_full c.keeper_full (keeper_full_count turns) (is_keeper_full t.row) all.keeper_full one.keeper_full
      ∙ ap (λ n. min (a.keeper_full + n) (2 ^ 64 - 1)) (sym (count_more (λ t. is_keeper_full t.row) turns t));
}

-- nothing was counted before that
pub counts_later : (a b c : Seen) (turns : List Turn) → SameCounts a b → CountsTurns b c turns → CountsTurns a c turns
counts_later a b c turns same all = record {
  published = all.published ∙ ap (λ n. n + published_count turns) same.published;
  numbers = all.numbers ∙ ap (λ xs. xs ++ published_numbers turns) same.numbers;
  unkept = all.unkept ∙ ap (λ n. min (n + unkept_count turns) (2 ^ 64 - 1)) same.unkept;
  keeper_full = all.keeper_full ∙ ap (λ n. min (n + keeper_full_count turns) (2 ^ 64 - 1)) same.keeper_full;
}

-- ---- batches

batch_longer : (batches more : List (List ℕ)) (row : Row) (n : ℕ) (asked : Asked) → HasBatch batches row n asked
    → HasBatch (batches ++ more) row n asked
batch_longer batches more Published n asked (batch, is, there) = (batch, is, get_longer batches more n batch there)
batch_longer batches more Read n asked h = tt
batch_longer batches more Pinned n asked h = tt
batch_longer batches more SeenPinned n asked h = tt
batch_longer batches more Behind n asked h = tt
batch_longer batches more Refused n asked h = tt
batch_longer batches more Stale n asked h = tt
batch_longer batches more Full n asked h = tt
batch_longer batches more NoMemory n asked h = tt
batch_longer batches more Unkept n asked h = tt
batch_longer batches more KeeperFull n asked h = tt

-- over a list of batches that begins with the first one
pub batches_in : (before now : List (List ℕ)) (turns : List Turn) → Extends before now → HaveBatches before turns → HaveBatches now turns
batches_in before now turns e all =
    let H : List (List ℕ) → Type 0 = λ batches. HaveBatches batches turns in
    subst H (sym e.1)
    (All-weaker (λ t. HasBatch before t.row t.number (asked_of t.item)) (λ t. HasBatch (before ++ e.0) t.row t.number (asked_of t.item))
    (λ t. batch_longer before e.0 t.row t.number (asked_of t.item)) turns all)

-- more versions were seen
pub batches_longer : (before now : Seen) (turns : List Turn) → Continues before now → HaveBatches before.batches turns → HaveBatches now.batches turns
batches_longer before now turns c = batches_in before.batches now.batches turns c.batches

-- one item more
pub batches_more : (before now : Seen) (turns : List Turn) (t : Turn) → Continues before now → HaveBatches before.batches turns
    → HasBatch now.batches t.row t.number (asked_of t.item) → HaveBatches now.batches (turns ++ t ∷ [])
batches_more before now turns t c all one =
    All-push (λ t. HasBatch now.batches t.row t.number (asked_of t.item)) turns t (batches_longer before now turns c all) one
