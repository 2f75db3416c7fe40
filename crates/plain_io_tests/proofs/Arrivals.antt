-- Links that come.
use Rattle.std.proofs.Common.{◌≡◌, ◌+◌, Option, Some, None, subst, sym, arith}
use Rattle.std.specs.Prelude.{option_map}
use Rattle.plain_io.specs.Doors.{Connections, NoMoreBack, FewerBack}

-- once a link has come, fewer are back than came
pub fewer_back : {L : Type 0} (old new : Option (Connections L)) → NoMoreBack old
    → new ≡ option_map (λ all. record { came = all.came + 1; back = all.back }) old → FewerBack new
fewer_back {L} None new kept told = subst (λ (all : Option (Connections L)). FewerBack all) (sym told) tt
fewer_back {L} (Some all) new kept told = subst (λ (all : Option (Connections L)). FewerBack all) (sym told) (omega arith)
