use Rattle.step_laws.proofs.EachSlice.{slices_stay_partitions}
use Rattle.picture_laws.proofs.FaceTold.{lowest_edge_tells_face_beside_by}
use Rattle.picture_laws.proofs.places.lowest_edge_tells_face_beside.Goals as goal

pub returns : goal.returns
returns c = lowest_edge_tells_face_beside_by slices_stay_partitions
