-- The doors of the posts are those that were given, turned round.
use Rattle.plain_io.specs.Doors.{NoneCame}
use Rattle.std.proofs.Common.{◌≡◌}
use Rattle.serving.proofs.Servings.{all_turned}
use Rattle.serving.proofs.serve_store.posts_at.Goals as goal

pub returns-clause-sound : goal.returns-clause-sound
returns-clause-sound g c =
    all_turned (λ post. post.door) (λ door. g.H.Gate.Door.faults door ≡ 0) (λ door. g.H.Gate.Door.faults door ≡ 0) c.filled.result.items
    c.in_ok-doors.doors.items c.filled.ensures.doors (λ door is. is) c.in_ok-doors.ensures.sound

pub returns-clause-empty : goal.returns-clause-empty
returns-clause-empty g c =
    all_turned (λ post. post.door) (λ door. NoneCame (g.H.Gate.Door.told door)) (λ door. NoneCame (g.H.Gate.Door.told door)) c.filled.result.items
    c.in_ok-doors.doors.items c.filled.ensures.doors (λ door is. is) c.in_ok-doors.ensures.empty
