-- The order of meetings.
use Rattle.std.proofs.Common.{◌≡◌, inl, inr, Option, Some, None, refl, ◌∙◌, arith}
use Rattle.planar_apart.specs.declared.meeting.Meeting.{Meeting}
use Rattle.planar_apart.specs.Meetings.{IsNoLater, IsEarlier}

pub IsNoLater-refl : (a : Option Meeting) → IsNoLater a a
IsNoLater-refl None = tt
IsNoLater-refl (Some m) = inr (refl, omega arith)

pub IsNoLater-trans : (a b c : Option Meeting) → IsNoLater a b → IsNoLater b c → IsNoLater a c
IsNoLater-trans a b None h k = tt
IsNoLater-trans a None (Some n) h k = absurd k
IsNoLater-trans None (Some m) (Some n) h k = absurd h
IsNoLater-trans (Some l) (Some m) (Some n) (inl h) (inl k) = inl (omega arith)
IsNoLater-trans (Some l) (Some m) (Some n) (inl h) (inr k) = inl (omega (arith, h, k.0))
IsNoLater-trans (Some l) (Some m) (Some n) (inr h) (inl k) = inl (omega (arith, h.0, k))
IsNoLater-trans (Some l) (Some m) (Some n) (inr h) (inr k) = inr (h.0 ∙ k.0, omega (arith, h.1, k.1))

-- of a meeting and none it is the meeting
pub earlier_than_none : (a : Option Meeting) → IsEarlier a None a
earlier_than_none a = record { first = IsNoLater-refl a; second = tt; one = inl refl }

-- where nothing is no later than it, it is none
pub none_if_no_later : (o : Option Meeting) → IsNoLater None o → o ≡ None
none_if_no_later None h = refl
none_if_no_later (Some m) h = absurd h
