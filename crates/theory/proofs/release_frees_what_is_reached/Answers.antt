use Rattle.theory.proofs.release_frees_what_is_reached.Goals as goal
use Rattle.theory.proofs.Closure.{releases}

pub returns : goal.returns
returns c = releases
