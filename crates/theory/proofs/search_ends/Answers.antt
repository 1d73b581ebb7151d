use Rattle.theory.proofs.search_ends.Goals as goal
use Rattle.theory.proofs.Work.{ends}

pub returns : goal.returns
returns c = ends
