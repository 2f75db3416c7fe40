use Rattle.order_laws.proofs.FacesRound.{ends_keep_faces}
use Rattle.order_laws.proofs.order.ends_keep_faces.Goals as goal

pub returns : goal.returns
returns c = ends_keep_faces
