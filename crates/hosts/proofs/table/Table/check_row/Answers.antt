use Rattle.std.proofs.Common.{arith, take}
use Rattle.exchange.proofs.Rows.{has_at}
use Rattle.hosts.specs.Sound.{row_is}
use Rattle.hosts.proofs.Wishes.{repeated}
use Rattle.hosts.proofs.table.Table.check_row.Goals as goal

pub returns-then-earlier-wish : goal.returns-then-earlier-wish
returns-then-earlier-wish c =
    let stood = has_at (take c.loop-j.j c.row-row.result.now) c.loop-earlier.earlier-index _ (omega arith) c.if-earlier-wish.true in
    grind (arith, stood, repeated, row_is)
