use Rattle.std.proofs.Common.{map}
use Rattle.std.specs.Fmt.{signed_decimal}
use Rattle.wire_text.proofs.Faults.{refused_put}
use Rattle.wire_text.proofs.fault.refused.Goals as goal

pub returns : goal.returns
returns c = refused_put c.in_ok-text.text c.args.number.now c.args.name.now (map signed_decimal c.args.values.now) c.shown.result c.in_ok-text.ensures c.shown.ensures
