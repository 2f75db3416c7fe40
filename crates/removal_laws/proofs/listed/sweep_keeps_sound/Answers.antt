use Rattle.removal_laws.proofs.Sound.{sweep_keeps_sound}
use Rattle.removal_laws.proofs.listed.sweep_keeps_sound.Goals as goal

pub returns : goal.returns
returns c = sweep_keeps_sound
