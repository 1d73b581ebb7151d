use Rattle.theory.proofs.each_ring_stands_once.Goals as goal
use Rattle.theory.proofs.Unique.{each_once}

pub returns : goal.returns
returns c = each_once
