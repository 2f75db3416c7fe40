use Rattle.tgap_model.proofs.BaseFacts.{rules_facts}
use Rattle.area_listing.proofs.write.put_rules.Goals as goal

pub put_classes-requires : goal.put_classes-requires
put_classes-requires c = rw (c.as_slice-2.ensures, c.as_slice.ensures) (rules_facts c.args.rules.now c.requires).table
