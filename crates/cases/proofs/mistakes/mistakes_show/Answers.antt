use Rattle.cases.proofs.mistakes.mistakes_show.Goals as goal
use Rattle.cases.proofs.Mistaken.{mistakes}

pub returns : goal.returns
returns c = mistakes
