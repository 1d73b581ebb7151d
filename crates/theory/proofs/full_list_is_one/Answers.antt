use Rattle.theory.proofs.full_list_is_one.Goals as goal
use Rattle.theory.proofs.Main.{one_full_list}

pub returns : goal.returns
returns c = one_full_list
