use Rattle.arc_places.specs.Places.{bodies_at}
use Rattle.arc_places.proofs.Parts.{among_exchanged}
use Rattle.arc_places.proofs.places.Places.exchange.Goals as goal

pub returns : goal.returns
returns c = λ p i. among_exchanged c.args.self.now.bodies c.exchange.new.self c.args.first c.args.second i (bodies_at c.args.self.now p) c.in_ok-exchange.ensures
