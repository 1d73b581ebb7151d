use Rattle.std.proofs.Common.{rules}
use Rattle.std.proofs.iter.Serving.{returning}
use Rattle.exchange.proofs.Checks.{first_told}
use Rattle.hosts.specs.Books.{row_number_fault, table_fault}
use Rattle.hosts.proofs.layout.Layout.check_row_numbers.Goals as goal

pub returns : goal.returns
unfolding table_fault
returns c = first_told (row_number_fault c.args.self.now.bytes.items) _ _ _ _ c.try_for_each.ensures.runs (search (rules, returning)) (search rules)
