use Rattle.theory.proofs.search_stands_midway.Goals as goal
use Rattle.theory.proofs.Main.{midway}

pub returns : goal.returns
returns c = midway
