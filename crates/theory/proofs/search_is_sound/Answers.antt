use Rattle.theory.proofs.search_is_sound.Goals as goal
use Rattle.theory.proofs.Main.{sound}

pub returns : goal.returns
returns c = sound
