use Rattle.theory.proofs.worked_rows_hold.Goals as goal
use Rattle.theory.proofs.Worked.{worked}

pub returns : goal.returns
returns c = worked
