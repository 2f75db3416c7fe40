use Rattle.std.proofs.Common.{arith}
use Rattle.tgap_model.proofs.BaseFacts.{rules_facts}
use Rattle.area_listing.proofs.Laws.{rules_at_is, all_faces_at_is}
use Rattle.area_listing.proofs.read_map.Goals as goal

pub overflow_cast-len : goal.overflow_cast-len
overflow_cast-len c =
    let few = (rules_facts c.in_ok-rules.rules (rules_at_is c.read_transform.new.lines (c.in_ok-rules.rules, c.read_rules.new.lines) c.in_ok-rules.ensures).rules).few_classes in
    omega (arith, few, c.len.ensures)

pub overflow_cast-len-2 : goal.overflow_cast-len-2
overflow_cast-len-2 c =
    let few = (all_faces_at_is c.len.result c.read_rules.new.lines (c.in_ok-classes.classes, c.read_faces.new.lines) c.in_ok-classes.ensures).few in
    omega (arith, few, c.len-2.ensures)
