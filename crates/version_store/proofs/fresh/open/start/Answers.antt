use Rattle.version_store.proofs.RuleKept.{starts_kept}
use Rattle.version_store.proofs.fresh.open.start.Goals as goal

pub vacant-requires : goal.vacant-requires
vacant-requires g c = starts_kept _ _
