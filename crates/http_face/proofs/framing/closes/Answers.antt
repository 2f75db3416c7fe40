use Rattle.std.proofs.Common.{rules}
use Rattle.http_face.proofs.Chains.{any_parts}
use Rattle.http_face.proofs.framing.closes.Goals as goal

pub returns-else-minor-eq0 : goal.returns-else-minor-eq0
returns-else-minor-eq0 c = rw any_parts (search rules)
