-- What a seat tells before and after it has seen more versions.
use Rattle.std.proofs.Common.{◌≡◌, ◌∙◌, ℕ, zero, suc, ◌+◌, ◌-◌, ◌^◌, ◌≤◌, ◌<◌, min, List, [], ◌∷◌, ◌++◌, map, length, Some, slice_get, Result, Ok, Err, IfOk, true, false, sym, ap, arith, length-append, add-zero}
use Rattle.std.specs.Prelude.{slice_index, slice_set, IsOk, OnOk, OnErr}
use Rattle.std.proofs.lemmas.List.{append-nil, map-append, length-map, get_or-set_same}
use Rattle.tgap_model.specs.declared.holds.Holds as Held
use Rattle.tgap_model.specs.Faults.{Rose}
use Rattle.map_version.specs.declared.version.Version.{Version}
use Rattle.version_store.specs.declared.name.StoreName as Named
use Rattle.version_store.specs.declared.seat.SeatOf.{SeatOf}
use Rattle.version_store.specs.Growth.{IsPrefix, IsList}
use Rattle.version_store.specs.Store.{seat_versions, seat_limit, tellings, raised, KeepsCounts, seat_number}
use Rattle.version_store.proofs.Prefixes.{get_last}
use Rattle.version_store.specs.Keepers.{CountsUnkept, CountsKeeperFull}
use Rattle.version_store.specs.declared.press.fail.PublishFail.{PublishFail}
use Rattle.version_store.specs.declared.press.fail.PublishFail.TheVariants as fail
use Rattle.session.specs.Turns.{CountsPublish}
use Rattle.session.specs.Versions.{Seen, Continues, SameCounts, Extends, seen_of}

-- what is told of each version of a longer list
pub extended_by : {X Y : Type 0} (f : X → Y) (before now : List X) → IsPrefix before now → Extends (map f before) (map f now)
extended_by f before now (more, is) = (map f more, ap (map f) is ∙ map-append f before more)

-- the maps of a longer list of versions
pub extended : (before now : List Version) → IsPrefix before now → Extends (map (λ (v : Version). v.built) before) (map (λ (v : Version). v.built) now)
extended = extended_by (λ (v : Version). v.built)

-- a list with a greater number at one place
set_above : (xs : List ℕ) (k n v : ℕ) → slice_index xs k ≤ v → slice_index xs n ≤ slice_index (slice_set xs k v) n
set_above [] k n v h = omega arith
set_above (x ∷ xs) zero zero v h = h
set_above (x ∷ xs) zero (suc n) v h = omega arith
set_above (x ∷ xs) (suc k) zero v h = omega arith
set_above (x ∷ xs) (suc k) (suc n) v h = set_above xs k n v h

module _ {N P : Type 0} {held : Held.Ghosts Version} {named : Named.Ghosts N} where
  -- it has seen more, and no telling is counted
  pub sees_on : (before now : SeatOf Version N P held named) → IsPrefix (seat_versions before) (seat_versions now)
      → seat_limit now ≡ seat_limit before → tellings now ≡ tellings before → seat_number now ≡ seat_number before
      → Continues (seen_of before) (seen_of now)
  sees_on before now more limit told one = record {
    seat = one;
    history = extended (seat_versions before) (seat_versions now) more;
    batches = extended_by (λ (v : Version). v.batch) (seat_versions before) (seat_versions now) more;
    limit = limit;
    tellings = λ n. (let e : slice_index (tellings now) n ≡ slice_index (tellings before) n = ap (λ xs. slice_index xs n) told in omega arith);
  }

  -- the counts are as before
  pub keeps_counts : (before now : SeatOf Version N P held named) → KeepsCounts before now → SameCounts (seen_of before) (seen_of now)
  keeps_counts before now same = record { published = same.1; numbers = same.5.1; unkept = same.3; keeper_full = same.4 }

  -- it has seen more, and one telling is counted
  pub hears_on : (before now : SeatOf Version N P held named) (k : ℕ) → IsPrefix (seat_versions before) (seat_versions now)
      → seat_limit now ≡ seat_limit before → tellings now ≡ raised (tellings before) k → slice_index (tellings before) k < 2 ^ 64
      → seat_number now ≡ seat_number before → Continues (seen_of before) (seen_of now)
  hears_on before now k more limit told small one = record {
    seat = one;
    history = extended (seat_versions before) (seat_versions now) more;
    batches = extended_by (λ (v : Version). v.batch) (seat_versions before) (seat_versions now) more;
    limit = limit;
    tellings = λ n. (
        let e : slice_index (tellings now) n ≡ slice_index (raised (tellings before) k) n = ap (λ xs. slice_index xs n) told in
        let above = set_above (tellings before) k n (min (slice_index (tellings before) k + 1) (2 ^ 64 - 1)) (grind arith) in
        omega arith);
  }

  -- the count of the number that was told rose
  pub hears_rise : (before now : SeatOf Version N P held named) (k : ℕ) → tellings now ≡ raised (tellings before) k → k < length (tellings before)
      → Rose (slice_index (tellings before) k) (slice_index (tellings now) k)
  hears_rise before now k told within =
      let e : slice_index (tellings now) k ≡ slice_index (raised (tellings before) k) k = ap (λ xs. slice_index xs k) told in
      let same = get_or-set_same (tellings before) k (min (slice_index (tellings before) k + 1) (2 ^ 64 - 1)) 0 within in
      omega arith

-- there are as many maps as versions
pub map_count : (xs ys : List Version) → xs ≡ ys → length (map (λ (v : Version). v.built) xs) ≡ length ys
map_count xs ys same = length-map xs (λ (v : Version). v.built) ∙ ap length same

-- a version that was published has the next number, so that those before it were as many
module _ (before after : List Version) (version : Version) (named limit : ℕ) where
  counted : after ≡ before ++ version ∷ [] → IsList (λ (v : Version). v.number) limit after → version.number ≡ named + 1
      → length before ≡ named + 1
  counted is listed number =
      sym (listed.numbered (length before) version (ap (λ (vs : List Version). slice_get vs (length before)) is ∙ get_last before version)) ∙ number

  -- it is the last one that the seat has seen, by whatever is told of it
  pub published_last : {T E Y : Type 0} (f : Version → Y) (r : Result T E) (seen : List Version) → OnOk r (after ≡ before ++ version ∷ [])
      → OnOk r (seen ≡ after) → IsList (λ (v : Version). v.number) limit after → version.number ≡ named + 1
      → OnOk r (slice_get (map f seen) (named + 1) ≡ Some (f version))
  published_last f (Ok x) seen is same listed number =
      ap (λ (vs : List Version). slice_get (map f vs) (named + 1)) (same ∙ is)
      ∙ (ap (λ ms. slice_get ms (named + 1)) (map-append f before (version ∷ []))
      ∙ (ap (λ n. slice_get (map f before ++ f version ∷ []) n) (sym (counted is listed number) ∙ sym (length-map before f))
      ∙ get_last (map f before) (f version)))
  published_last f (Err e) seen is same listed number = tt

  -- the seat had seen no more than those before it
  pub published_next : {T E : Type 0} (r : Result T E) (old : List Version) → OnOk r (after ≡ before ++ version ∷ []) → IsPrefix old before
      → IsList (λ (v : Version). v.number) limit after → version.number ≡ named + 1
      → OnOk r (length (map (λ (v : Version). v.built) old) ≤ named + 1)
  published_next (Ok x) old is front listed number =
      let all = counted is listed number in
      let many : length before ≡ length old + length front.0 = ap length front.1 ∙ length-append old front.0 in
      let maps = length-map old (λ (v : Version). v.built) in
      omega (arith, all, many, maps)
  published_next (Err e) old is front listed number = tt

-- the second of two facts on a refusal
pub kept_right : {T E : Type 0} (r : Result T E) (P Q : Type 0) → OnErr r (P × Q) → OnErr r Q
kept_right (Ok x) P Q e = tt
kept_right (Err x) P Q e = e.1

-- the seat's counts after the press was asked to publish
module _ (n : ℕ) (before now : Seen) where
  pub counted_publish : {T : Type 0} (r : Result T PublishFail) → OnOk r (now.published ≡ before.published + 1) → OnErr r (now.published ≡ before.published)
      → OnOk r (now.numbers ≡ before.numbers ++ n ∷ []) → OnErr r (now.numbers ≡ before.numbers)
      → CountsUnkept before.unkept now.unkept r → CountsKeeperFull before.keeper_full now.keeper_full r → CountsPublish n before now r
  counted_publish (Ok x) published kept numbers stays unkept full =
      record { published = published; numbers = numbers; unkept = unkept; keeper_full = full }
  counted_publish (Err fail.Unkept) published kept numbers stays unkept full = record {
    published = kept ∙ sym (add-zero before.published);
    numbers = stays ∙ sym (append-nil before.numbers);
    unkept = unkept;
    keeper_full = full;
  }
  counted_publish (Err (fail.KeeperFull most)) published kept numbers stays unkept full = record {
    published = kept ∙ sym (add-zero before.published);
    numbers = stays ∙ sym (append-nil before.numbers);
    unkept = unkept;
    keeper_full = full;
  }
  counted_publish (Err (fail.Stale newest)) published kept numbers stays unkept full =
      record { published = kept; numbers = stays; unkept = unkept; keeper_full = full }
  counted_publish (Err (fail.VersionsFull most)) published kept numbers stays unkept full =
      record { published = kept; numbers = stays; unkept = unkept; keeper_full = full }
  counted_publish (Err fail.Memory) published kept numbers stays unkept full =
      record { published = kept; numbers = stays; unkept = unkept; keeper_full = full }

-- what two clauses on an answer give together
pub all_taken : {T E : Type 0} (r : Result T E) (P Q S : T → Type 0) → ((x : T) → P x → Q x → S x) → IfOk r P → IfOk r Q → IfOk r S
all_taken (Ok x) P Q S f p q = f x p q
all_taken (Err e) P Q S f p q = tt

pub of_taken : {T E S : Type 0} (r : Result T E) (P Q : T → Type 0) → ((x : T) → P x → Q x → S) → IsOk r → IfOk r P → IfOk r Q → S
of_taken (Ok x) P Q f ok p q = f x p q
of_taken (Err e) P Q f ok p q = absurd (let e : false ≡ true = ok in cc)
