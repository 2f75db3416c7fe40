-- Versions that are published before any connection, in the name of the first seat.
use Rattle.std.proofs.Common.{◌≡◌, ℕ, zero, suc, ◌+◌, ◌<◌, ◌≤◌, List, [], ◌∷◌, ◌++◌, length, map, replicate, All, Some, refl, sym, ap, ◌∙◌, subst, arith, append_assoc, if◌then◌else◌}
use Rattle.std.specs.Prelude.{slice_get}
use Rattle.std.proofs.lemmas.Bool.{ne_eqb}
use Rattle.std.proofs.lemmas.List.{append-nil, replicate-append-replicate}
use Rattle.version_store.specs.Publishers.{places_from, numbers_of}
use Rattle.version_store.proofs.Publishers.{places_append, numbers_push}
use Rattle.std.proofs.lemmas.List.Elements.{All-cons, All-nil, All-tail, All-weaker}
use Rattle.tgap_model.specs.declared.holds.Holds as Held
use Rattle.tgap_model.specs.declared.keep.Keep as Keeper
use Rattle.version_store.specs.declared.name.StoreName as Named
use Rattle.version_store.specs.declared.seat.SeatOf.{SeatOf}
use Rattle.version_store.specs.declared.press.PressOf.{PressOf}
use Rattle.version_store.specs.Store.{press_versions, press_publishers, seat_versions, seat_number, seat_numbers, AreSeatsFrom}
use Rattle.version_store.proofs.Lists.{press_published, press_limited, one_limit}
use Rattle.map_version.specs.declared.version.Version.{Version}
use Rattle.map_workers.specs.Seats.{SeesAll}
use Rattle.serving.proofs.Servings.{sees_on}
use Rattle.serving.specs.Later.{FollowFrom}

-- ---- one version more

-- the first seat is the publisher of one more
pub one_more : (newest publisher : ℕ) (publishers : List ℕ) → publishers ≡ 0 ∷ replicate newest 1 → publisher ≡ 1
    → publishers ++ publisher ∷ [] ≡ 0 ∷ replicate (newest + 1) 1
one_more newest publisher publishers are one =
    ap (λ (l : List ℕ). l ++ publisher ∷ []) are ∙ ap (λ (p : ℕ). 0 ∷ (replicate newest 1 ++ p ∷ [])) one
    ∙ ap (λ (l : List ℕ). 0 ∷ l) (replicate-append-replicate newest 1 1)

-- and its numbers are those of which it is the publisher
pub numbers_more : (k newest : ℕ) (publishers publishers' numbers numbers' : List ℕ) → numbers ≡ numbers_of k publishers
    → numbers' ≡ numbers ++ (newest + 1) ∷ [] → publishers' ≡ publishers ++ k ∷ [] → length publishers ≡ newest + 1 → numbers' ≡ numbers_of k publishers'
numbers_more k newest publishers publishers' numbers numbers' are more pushed long =
    more ∙ ap (λ (l : List ℕ). l ++ (newest + 1) ∷ []) are ∙ ap (λ (n : ℕ). numbers_of k publishers ++ n ∷ []) (sym long)
    ∙ sym (numbers_push k publishers) ∙ ap (numbers_of k) (sym pushed)

-- what is published and what is left of the versions
pub one_less : {V : Type 0} (now start rest all : List V) (v : V) → now ++ v ∷ rest ≡ start ++ all → (now ++ v ∷ []) ++ rest ≡ start ++ all
one_less now start rest all v whole = append_assoc now (v ∷ []) rest ∙ whole

-- ---- the other seats

-- a seat that is not the first has none of its places
none_own : (n k many : ℕ) → 1 < k → places_from n k (replicate many 1) ≡ []
none_own n k zero other = refl
none_own n k (suc many) other =
    ap (λ is. if is then n ∷ places_from (suc n) k (replicate many 1) else places_from (suc n) k (replicate many 1)) (ne_eqb 1 k (λ e. omega (arith, e, other)))
    ∙ none_own (suc n) k many other

-- so it has published none
pub none_published : (k many : ℕ) → 1 < k → numbers_of k (0 ∷ replicate many 1) ≡ numbers_of k (0 ∷ [])
none_published k many other =
    places_append 0 k (0 ∷ []) (replicate many 1)
    ∙ ap (λ (l : List ℕ). numbers_of k (0 ∷ []) ++ l) (none_own (0 + length {A = ℕ} (0 ∷ [])) k many other)
    ∙ append-nil (numbers_of k (0 ∷ []))

module _ {N P : Type 0} {held : Held.Ghosts Version} {named : Named.Ghosts N} where
  -- the number of a seat among others
  pub seat_at : (n : ℕ) (front rest : List (SeatOf Version N P held named)) (seat : SeatOf Version N P held named) → AreSeatsFrom n (front ++ seat ∷ rest)
      → seat_number seat ≡ n + length front
  seat_at n [] rest seat are = are.0 ∙ omega arith
  seat_at n (s ∷ front) rest seat are = let here = seat_at (suc n) front rest seat are.1 in omega (arith, here)

  -- a seat in the place of another one with its number
  pub seats_replaced : (n : ℕ) (front rest : List (SeatOf Version N P held named)) (seat other : SeatOf Version N P held named)
      → AreSeatsFrom n (front ++ seat ∷ rest) → seat_number other ≡ seat_number seat → AreSeatsFrom n ((front ++ other ∷ []) ++ rest)
  seats_replaced n [] rest seat other are same = (same ∙ are.0, are.1)
  seats_replaced n (s ∷ front) rest seat other are same = (are.0, seats_replaced (suc n) front rest seat other are.1 same)

  -- seats of which each has published nothing, where nobody had
  pub none_before : {K : Type 0} {keep : Keeper.Ghosts K} (press : PressOf Version N K P held named keep) (seats : List (SeatOf Version N P held named))
      → press_publishers press ≡ 0 ∷ [] → All (SeesAll press) seats → All (λ seat. seat_numbers seat ≡ numbers_of (seat_number seat) (0 ∷ [])) seats
  none_before press seats nobody sees =
      All-weaker (SeesAll press) (λ seat. seat_numbers seat ≡ numbers_of (seat_number seat) (0 ∷ []))
      (λ seat s. s.2 ∙ ap (numbers_of (seat_number seat)) nobody) seats sees

  -- the first seat was told, and the others are left
  pub numbers_first : (all told rest : List (SeatOf Version N P held named)) (first one : SeatOf Version N P held named) → all ≡ first ∷ rest → told ≡ one ∷ []
      → AreSeatsFrom 1 all → seat_number one ≡ 1 → AreSeatsFrom 1 (told ++ rest)
  numbers_first all told rest first one are is numbers same =
      subst (λ (l : List (SeatOf Version N P held named)). AreSeatsFrom 1 (l ++ rest)) (sym is)
      (same, (subst (λ (l : List (SeatOf Version N P held named)). AreSeatsFrom 1 l) are numbers).1)

  -- all were told, and none is left
  pub numbers_all : (told rest : List (SeatOf Version N P held named)) → length rest ≡ 0 → AreSeatsFrom 1 (told ++ rest) → AreSeatsFrom 1 told
  numbers_all told [] none are = subst (λ (l : List (SeatOf Version N P held named)). AreSeatsFrom 1 l) (append-nil told) are
  numbers_all told (seat ∷ rest) none are = absurd (omega (arith, none))

module _ {N K P : Type 0} {held : Held.Ghosts Version} {named : Named.Ghosts N} {keep : Keeper.Ghosts K} where
  -- what seats have seen of a press they have seen of it later, where nothing was published
  pub sees_still : (press press' : PressOf Version N K P held named keep) (seats : List (SeatOf Version N P held named))
      → press_versions press' ≡ press_versions press → press_publishers press' ≡ press_publishers press → All (SeesAll press) seats → All (SeesAll press') seats
  sees_still press press' seats versions publishers all =
      All-weaker (SeesAll press) (SeesAll press')
      (λ seat sees. sees_on press press' seat versions (press_limited press' ∙ sym (press_limited press)) publishers sees) seats all

  -- a seat that was told of all versions, and had published none
  pub sees_told : (press : PressOf Version N K P held named keep) (before seat : SeatOf Version N P held named) (many : ℕ)
      → seat_versions seat ≡ press_versions press → seat_number seat ≡ seat_number before → seat_numbers seat ≡ seat_numbers before
      → seat_numbers before ≡ numbers_of (seat_number before) (0 ∷ []) → 1 < seat_number before
      → press_publishers press ≡ 0 ∷ replicate many 1 → SeesAll press seat
  sees_told press before seat many seen same numbers none other publishers = (
    seen,
    sym (one_limit press seat),
    numbers ∙ none ∙ sym (none_published (seat_number before) many other) ∙ ap (λ k. numbers_of k (0 ∷ replicate many 1)) (sym same)
        ∙ ap (numbers_of (seat_number seat)) (sym publishers),
  )

  -- one seat that was told
  pub sees_one : (press : PressOf Version N K P held named keep) (told : List (SeatOf Version N P held named)) (one : SeatOf Version N P held named)
      → told ≡ one ∷ [] → SeesAll press one → All (SeesAll press) told
  sees_one press told one is sees = subst (All (SeesAll press)) (sym is) (All-cons (SeesAll press) one [] sees (All-nil (SeesAll press)))

  -- the others have published nothing
  pub others_first : (press : PressOf Version N K P held named keep) (all rest : List (SeatOf Version N P held named)) (first : SeatOf Version N P held named)
      → all ≡ first ∷ rest → press_publishers press ≡ 0 ∷ [] → All (SeesAll press) all
      → All (λ seat. seat_numbers seat ≡ numbers_of (seat_number seat) (0 ∷ [])) rest
  others_first press all rest first are nobody sees =
      All-tail (λ seat. seat_numbers seat ≡ numbers_of (seat_number seat) (0 ∷ [])) first rest
      (subst (All (λ seat. seat_numbers seat ≡ numbers_of (seat_number seat) (0 ∷ []))) are (none_before press all nobody sees))

  -- a seat that has published one version more
  pub sees_more : (press press' : PressOf Version N K P held named keep) (seat seat' : SeatOf Version N P held named) (newest : ℕ) → SeesAll press seat
      → seat_versions seat' ≡ press_versions press' → seat_number seat' ≡ seat_number seat → seat_numbers seat' ≡ seat_numbers seat ++ (newest + 1) ∷ []
      → press_publishers press' ≡ press_publishers press ++ seat_number seat ∷ [] → newest + 1 ≡ length (press_versions press) → SeesAll press' seat'
  sees_more press press' seat seat' newest sees seen same more pushed long = (
    seen,
    sym (one_limit press' seat'),
    numbers_more (seat_number seat) newest (press_publishers press) (press_publishers press') (seat_numbers seat) (seat_numbers seat') sees.2 more pushed
        ((press_published press).1 ∙ sym long)
        ∙ ap (λ k. numbers_of k (press_publishers press')) (sym same),
  )

-- ---- versions by their numbers

-- what has the numbers of its places, from this one on, follows
pub follow_from : (n : ℕ) (versions : List Version)
    → ((place : ℕ) (v : Version) → slice_get versions place ≡ Some v → v.number ≡ place + n) → FollowFrom n versions
follow_from n [] are = tt
follow_from n (v ∷ versions) are =
    let first = are 0 v refl in
    (first ∙ omega arith, follow_from (n + 1) versions (λ place w e. are (suc place) w e ∙ omega arith))
