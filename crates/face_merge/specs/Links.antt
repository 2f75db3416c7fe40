-- The links between the faces of a map while it is merged: which are neighbours, and the length that they share.
use Rattle.std.specs.Prelude.{◌≡◌, ◌≢◌, ◌<◌, ℕ, ◌+◌, ◌^◌, Bool, ◌&&◌, ◌||◌, ◌==◌, List, [], ◌∷◌, Option, Some, None, unwrap_or, if◌then◌else◌, IfSome}
use Rattle.std.specs.declared.cmp.Ordering.{Ordering}
use Rattle.std.specs.Ordering.{ordering_then, nat_cmp}
use Rattle.std.specs.List.{All, AllByRecursion, slice_get}
use Rattle.std.specs.BTreeMap.{get}
use Rattle.tgap_model.specs.declared.merge.LabelledArc.{LabelledArc}
use Rattle.tgap_model.specs.History.{is_shared, is_between}
use Rattle.face_merge.specs.declared.links.Link.{Link}
use Rattle.face_merge.specs.declared.links.Links.{Links}

-- pairs of numbers, by the first, then by the second
abbrev pub pair_cmp : ℕ × ℕ → ℕ × ℕ → Ordering
pair_cmp x y = ordering_then (nat_cmp x.0 y.0) (nat_cmp x.1 y.1)

-- the length that the faces in two slots share, where they are neighbours
abbrev pub length_at : Links → ℕ → ℕ → Option ℕ
length_at links s t = get pair_cmp links.lengths (s, t)

-- the two slots are these
abbrev pub has_pair : ℕ → ℕ → ℕ → ℕ → Bool
has_pair a b s t = (a == s) && (b == t)

-- the lengths with another one for two slots
abbrev pub with_length : (ℕ → ℕ → Option ℕ) → ℕ → ℕ → Option ℕ → ℕ → ℕ → Option ℕ
with_length lengths a b length s t = if has_pair a b s t then length else lengths s t

-- the lengths with more for two slots, and with none for them
abbrev pub with_more : (ℕ → ℕ → Option ℕ) → ℕ → ℕ → ℕ → ℕ → ℕ → Option ℕ
with_more lengths a b more s t = with_length lengths a b (Some (unwrap_or (lengths a b) 0 + more)) s t

abbrev pub without : (ℕ → ℕ → Option ℕ) → ℕ → ℕ → ℕ → ℕ → Option ℕ
without lengths a b s t = with_length lengths a b None s t

-- the lengths with one more arc
abbrev pub with_arc : (ℕ → ℕ → Option ℕ) → LabelledArc → ℕ → ℕ → Option ℕ
with_arc lengths a s t =
    if is_shared a && is_between s t a then Some (unwrap_or (lengths s t) 0 + a.extent) else lengths s t

-- two lengths together, where there are any
abbrev pub plus : Option ℕ → Option ℕ → Option ℕ
plus None y = y
plus (Some x) None = Some x
plus (Some x) (Some y) = Some (x + y)

-- the lengths after the links of one slot have gone to another
abbrev pub joined : (ℕ → ℕ → Option ℕ) → ℕ → ℕ → ℕ → ℕ → Option ℕ
joined lengths from to s t =
    if (s == from) || (t == from) || ((s == to) && (t == to)) then None
    else (if s == to then plus (lengths to t) (lengths from t)
    else (if t == to then plus (lengths s to) (lengths s from) else lengths s t))

-- these are the links of a slot, all of them
pub record AreLinksOf (lengths : ℕ → ℕ → Option ℕ) (slot : ℕ) (links : List Link) : Type 0 where
  pub each : All (λ link. lengths slot link.slot ≡ Some link.length) links
  pub all : (t length : ℕ) → lengths slot t ≡ Some length → (k : ℕ) × (slice_get links k ≡ Some (record { slot = t; length = length }))

-- each of these links leads to another slot
abbrev pub AreOnce : List Link → Type 0
AreOnce [] = Unit {0}
AreOnce (x ∷ xs) = AllByRecursion (λ y. y.slot ≢ x.slot) xs × AreOnce xs

-- two faces share the same length either way round, and none with itself
pub record ArePaired (lengths : ℕ → ℕ → Option ℕ) : Type 0 where
  pub turned : (s t : ℕ) → lengths s t ≡ lengths t s
  pub itself : (s : ℕ) → lengths s s ≡ None

-- each length fits
abbrev pub Fit : (ℕ → ℕ → Option ℕ) → Type 0
Fit lengths = (s t : ℕ) → IfSome (lengths s t) (λ n. n < 2 ^ 64)

-- a link of one slot has gone to another: the lengths together are the same, and the first slot has that link no longer
pub record IsPassed (from to other : ℕ) (old new : ℕ → ℕ → Option ℕ) : Type 0 where
  pub paired : ArePaired new
  pub together : (s t : ℕ) → joined new from to s t ≡ joined old from to s t
  pub gone : new from other ≡ None
  pub left : (t : ℕ) → new from t ≡ (if t == other then None else old from t)
