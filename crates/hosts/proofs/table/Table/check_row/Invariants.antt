use Rattle.std.proofs.Common.{◌≡◌, ℕ, ◌<◌, false, take, None}
use Rattle.exchange.specs.Rows.{has}
use Rattle.hosts.specs.Books.{wish_fault}
use Rattle.hosts.proofs.table.Table.check_row.Given as goal

-- the wishes before place j have no fault
abbrev pub invariant-loop-j : goal.invariant-loop-j
invariant-loop-j l = (k : ℕ) → k < l.j → wish_fault l.boats l.u l.at l.row k ≡ None

-- none of the earlier wishes so far is the one at place j
abbrev pub invariant-loop-earlier : goal.invariant-loop-earlier
invariant-loop-earlier l = has (take l.earlier-index l.earlier-items) l.wish ≡ false
