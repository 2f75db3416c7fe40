-- What holds of a list of versions holds of a longer one.
use Rattle.std.proofs.Common.{◌≡◌, ℕ, zero, suc, ◌≤◌, List, [], ◌∷◌, ◌++◌, length, Some, ap, ◌∙◌, arith, length-append, slice_get}
use Rattle.version_store.specs.declared.pin.Pin.{Pin}
use Rattle.map_version.specs.declared.version.Version.{Version}
use Rattle.session.specs.Versions.{Seen, Continues, IsPin}

-- an element stays where it is
pub get_longer : {X : Type 0} (xs more : List X) (n : ℕ) (x : X) → slice_get xs n ≡ Some x → slice_get (xs ++ more) n ≡ Some x
get_longer [] more n x e = cc
get_longer (y ∷ ys) more zero x e = e
get_longer (y ∷ ys) more (suc n) x e = get_longer ys more n x e

-- the list is no shorter
pub no_shorter : (before now : Seen) → Continues before now → length before.history ≤ length now.history
no_shorter before now c = omega (arith, simp length-append at (ap length c.history.1))

-- the version that is pinned is there still
pub pin_kept : (before now : Seen) (pin : Pin Version) → Continues before now → IsPin before.history pin → IsPin now.history pin
pin_kept before now pin c p = record {
  there = ap (λ h. slice_get h pin.number) c.history.1 ∙ get_longer before.history c.history.0 pin.number _ p.there;
  number = p.number;
  small = p.small;
}
