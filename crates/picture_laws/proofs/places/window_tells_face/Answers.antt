use Rattle.step_laws.proofs.EachSlice.{slices_stay_partitions}
use Rattle.picture_laws.proofs.FaceTold.{lowest_edge_tells_face_beside_by}
use Rattle.picture_laws.proofs.WindowFace.{window_tells_face_by}
use Rattle.picture_laws.proofs.places.window_tells_face.Goals as goal

pub returns : goal.returns
returns c = window_tells_face_by (lowest_edge_tells_face_beside_by slices_stay_partitions)
