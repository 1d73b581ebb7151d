-- What a bound says, and the check of it.
-- Assumes nothing.
use Rattle.std.specs.Prelude.{ℕ, not, ◌&&◌, Option, nat_le}
use Rattle.exchange.specs.declared.bound.Bound.{Bound}
use Rattle.exchange.specs.declared.fault.Fault.{Fault}
use Rattle.exchange.specs.declared.fault.Rule.TheVariants.{WrongBound}
use Rattle.exchange.specs.Checks.{refuse_if}

-- how many boats a ring within the bound may have at most
abbrev pub most_boats : Bound → ℕ
most_boats bound = bound.number

-- a bound is 2 to 16; of any other number the place is the number itself
abbrev pub bound_fault : ℕ → Option Fault
bound_fault k = refuse_if (not (nat_le 2 k && nat_le k 16)) WrongBound k
