-- What is told of the head keeps the limits, and the route is the one of the method and the target that stand there.
use Rattle.std.proofs.Common.{◌∙◌, ap}
use Rattle.http_face.specs.declared.head.HeadEnds.TheVariants.{Whole, More, Bad}
use Rattle.http_face.specs.Routes.{route_of}
use Rattle.http_face.proofs.HeadLaws.{told_within}
use Rattle.http_face.proofs.head_reading.head_asks.Goals as goal

pub returns-in-Whole-clause-told : goal.returns-in-Whole-clause-told
returns-in-Whole-clause-told c =
    let h = c.in-Whole.ensures in
    let asked = c.route.ensures ∙ ap (λ m. route_of m c.in-Whole.target.now) h.2.1 ∙ ap (route_of h.0.method) h.2.2 in
    (h.0, h.1, h.2.0, asked)

pub returns-in-Whole-clause-limits : goal.returns-in-Whole-clause-limits
returns-in-Whole-clause-limits c =
    told_within c.args.bytes.now (Whole c.in-Whole.length c.in-Whole.body c.in-Whole.close) (c.in-Whole.ensures.0, c.in-Whole.ensures.1, c.in-Whole.ensures.2.0)

pub returns-in-More-clause-limits : goal.returns-in-More-clause-limits
returns-in-More-clause-limits c = told_within c.args.bytes.now More c.in-More.ensures

pub returns-in-Bad-clause-limits : goal.returns-in-Bad-clause-limits
returns-in-Bad-clause-limits c = told_within c.args.bytes.now (Bad c.in-Bad.status) c.in-Bad.ensures
