use Rattle.removal_laws.proofs.Sound.{sound_points_stand_once}
use Rattle.removal_laws.proofs.listed.sound_points_stand_once.Goals as goal

pub returns : goal.returns
returns c = sound_points_stand_once
