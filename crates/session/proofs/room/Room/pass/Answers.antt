-- What is left begins later.
use Rattle.std.proofs.Common.{◌≡◌, ◌≤◌, ◌+◌, ◌-◌, ◌∙◌, sym, ap, length, drop, arith}
use Rattle.session.proofs.Ranges.{range_later, range_length}
use Rattle.session.proofs.room.Room.pass.Goals as goal

pub returns : goal.returns
returns c =
    let held : length c.args.self.now ≡ c.self.inside.end - c.self.inside.start =
    ap length (sym c.self.view_is) ∙ range_length c.self.inside.bytes.items c.self.inside.start c.self.inside.end (omega arith) in
    let fits : c.self.inside.start + c.args.n ≤ c.self.inside.end = omega arith in
    range_later c.self.inside.bytes.items c.self.inside.start c.args.n c.self.inside.end fits ∙ ap (drop c.args.n) c.self.view_is
