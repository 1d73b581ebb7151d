use Rattle.theory.proofs.steps_work_off_what_remains.Goals as goal
use Rattle.theory.proofs.Runs.{stepwise}

pub returns : goal.returns
returns c = stepwise
