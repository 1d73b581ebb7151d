use Rattle.theory.proofs.what_remains_is_settled.Goals as goal
use Rattle.theory.proofs.Runs.{settled}

pub returns : goal.returns
returns c = settled
