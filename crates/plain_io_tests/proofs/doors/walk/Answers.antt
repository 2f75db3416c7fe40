use Rattle.plain_io_tests.proofs.Arrivals.{fewer_back}
use Rattle.plain_io_tests.proofs.doors.walk.Goals as goal

-- the link that came is not back yet
pub done-requires : goal.done-requires
done-requires g c = fewer_back _ _ (g.met.D.Door.no_more_back c.loop-came.door) c.in-Came.ensures.told
