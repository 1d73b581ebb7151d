-- How a call that checks its input says no: the first of its checks that refuses.
-- Assumes nothing.
use Rattle.std.specs.Prelude.{ℕ, Bool, true, false, List, [], ◌∷◌, Some, None, Ok, Err, Option, Result}
use Rattle.exchange.specs.declared.fault.Fault.{Fault}
use Rattle.exchange.specs.declared.fault.Fault.TheVariants.{Refused}
use Rattle.exchange.specs.declared.fault.Rule.{Rule}

-- one check: where the test is true, the rule is broken at the place
abbrev pub refuse_if : Bool → Rule → ℕ → Option Fault
refuse_if true rule place = Some (Refused rule place)
refuse_if false rule place = None

-- checks in their order: the first that refuses decides
abbrev pub first_of : List (Option Fault) → Option Fault
first_of [] = None
first_of (Some f ∷ checks) = Some f
first_of (None ∷ checks) = first_of checks

-- the answer of a call that gives x unless it refuses
abbrev pub unless : {X : Type 0} → Option Fault → X → Result X Fault
unless None x = Ok x
unless (Some f) x = Err f
