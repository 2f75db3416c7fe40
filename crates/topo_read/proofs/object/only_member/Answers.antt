use Rattle.std.proofs.Common.{◌≡◌, length, arith}
use Rattle.topo_read.proofs.Objects.{only_one}
use Rattle.topo_read.proofs.object.only_member.Goals as goal

pub returns-in-Some : goal.returns-in-Some
returns-in-Some c =
    let one : length c.args.objects.now.entries ≡ 1 = omega (arith, c.len.ensures.len) in
    only_one c.args.objects.now.entries (c.in-Some.field-0-0.now, c.in-Some.only.now) one c.in-Some.ensures.first
