-- What a door tells of its connections, and what an arrival does to it.
use Rattle.std.specs.Prelude.{◌≡◌, ◌<◌, ◌≤◌, ℕ, ◌+◌, ◌++◌, ◌∷◌, Bool, true, false, List, [], length, Option, IfSome, option_map, ⊤}
use Rattle.plain_io.specs.declared.connection.ConnectionEnd.{ConnectionEnd}
use Rattle.plain_io.specs.declared.door.Arrival.{Arrival}
use Rattle.plain_io.specs.declared.door.Arrival.TheVariants.{Came, Closed, Failed}
use Rattle.tgap_model.specs.Faults.{Rises}

-- how many links came, and those that were handed back, each with the end of its connection
pub record Connections (L : Type 0) : Type 0 where
  pub came : ℕ
  pub back : List (L × ConnectionEnd)

-- no more links are back than came, where they are told
abbrev pub NoMoreBack : {L : Type 0} → Option (Connections L) → Type 0
NoMoreBack told = IfSome told (λ all. length all.back ≤ all.came)

-- fewer links are back than came, where they are told
abbrev pub FewerBack : {L : Type 0} → Option (Connections L) → Type 0
FewerBack told = IfSome told (λ all. length all.back < all.came)

-- no link came yet and none is back, where they are told
abbrev pub NoneCame : {L : Type 0} → Option (Connections L) → Type 0
NoneCame told = IfSome told (λ all. (all.came ≡ 0) × (all.back ≡ []))

-- a fact about the link that came
abbrev pub IfCame : {L : Type 0} → Arrival L → (L → Type 0) → Type 0
IfCame (Came link) P = P link
IfCame Closed P = ⊤
IfCame Failed P = ⊤

-- whether no more links will come
abbrev pub is_closed : {L : Type 0} → Arrival L → Bool
is_closed (Came link) = false
is_closed Closed = true
is_closed Failed = false

-- one link more came, or all stays
abbrev pub Arrives : {L : Type 0} → Arrival L → Option (Connections L) → Option (Connections L) → Type 0
Arrives (Came link) old new = new ≡ option_map (λ all. record { came = all.came + 1; back = all.back }) old
Arrives Closed old new = new ≡ old
Arrives Failed old new = new ≡ old

-- the count rises where the call failed, and else it stays
abbrev pub CountsArrival : {L : Type 0} → Arrival L → ℕ → ℕ → Type 0
CountsArrival (Came link) before now = now ≡ before
CountsArrival Closed before now = now ≡ before
CountsArrival Failed before now = Rises before now

-- the link and its end stand after those that were handed back before
abbrev pub HandsBack : {L : Type 0} → Option (Connections L) → Option (Connections L) → L → ConnectionEnd → Type 0
HandsBack old new link end = new ≡ option_map (λ all. record { came = all.came; back = all.back ++ (link, end) ∷ [] }) old

-- the first of the links that are left; where no more will come, none is left
abbrev pub ComesFirst : {L : Type 0} → Arrival L → List L → List L → Type 0
ComesFirst (Came link) old new = old ≡ link ∷ new
ComesFirst Closed old new = (old ≡ []) × (new ≡ [])
ComesFirst Failed old new = new ≡ old
