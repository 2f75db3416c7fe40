use Rattle.std.proofs.Common.{ap, ◌∙◌}
use Rattle.http_face.specs.Routes.{route_of_path, path_of}
use Rattle.http_face.proofs.Paths.{text_route, no_text_route}
use Rattle.http_face.proofs.routing.route.Goals as goal

pub returns-in-Ok : goal.returns-in-Ok
returns-in-Ok c =
    c.route_of_path.ensures ∙ ap (route_of_path c.args.method.now) c.path_of.ensures
    ∙ ap (λ target. route_of_path c.args.method.now (path_of target)) c.in-Ok.ensures.cases.0 ∙ text_route c.args.method.now c.args.target.now c.in-Ok.ensures.cases.1

pub returns-in-Err : goal.returns-in-Err
returns-in-Err c = no_text_route c.args.method.now c.args.target.now c.in-Err.ensures.cases.0
