use Rattle.std.proofs.Common.{rules}
use Rattle.std.proofs.iter.Serving.{returning}
use Rattle.exchange.proofs.Checks.{first_told}
use Rattle.hosts.specs.Books.{boat_fault, wishes_fault}
use Rattle.hosts.proofs.table.Table.check_wishes.Goals as goal

pub returns : goal.returns
unfolding wishes_fault
returns c = first_told (boat_fault c.args.self.now.layout.bytes.items) _ _ _ _ c.try_for_each.ensures.runs (search (rules, returning)) (search rules)
