-- The look along a row: what each way out of it tells, and how it goes on.
-- Assumes nothing.
use Rattle.std.proofs.Common.{◌≡◌, ◌≢◌, ℕ, ◌+◌, ◌<◌, ◌≤◌, true, false, List, length, get_or, take, Some, None, arith}
use Rattle.std.proofs.lemmas.Bool.Decides.{nat_tests}
use Rattle.exchange.specs.declared.fault.Fault.TheVariants.{Refused}
use Rattle.exchange.specs.declared.fault.Rule.TheVariants.{UnknownBoat, OwnBoat, RepeatedWish}
use Rattle.exchange.specs.Rows.{has}
use Rattle.std.proofs.lemmas.List.{take_all}
use Rattle.exchange.proofs.Rows.{has_more}
use Rattle.exchange.proofs.Checks.{none_first, found_first}
use Rattle.hosts.specs.Books.{wish_fault, row_fault}

module _ (n u at : ℕ) (row : List ℕ) where
  -- a wish for another of the boats, which stands not earlier in the row, has no fault
  pub no_fault : (j : ℕ) → get_or row j 0 < n → get_or row j 0 ≢ u → has (take j row) (get_or row j 0) ≡ false
      → wish_fault n u at row j ≡ None
  unfolding wish_fault
  no_fault j h e r = grind (arith, nat_tests)

  -- and a wish that breaks one of its rules has the fault of that rule
  unknown_wish : (j : ℕ) → n ≤ get_or row j 0 → wish_fault n u at row j ≡ Some (Refused UnknownBoat (at + j))
  unfolding wish_fault
  unknown_wish j h = grind (arith, nat_tests)

  own_wish : (j : ℕ) → get_or row j 0 < n → get_or row j 0 ≡ u → wish_fault n u at row j ≡ Some (Refused OwnBoat (at + j))
  unfolding wish_fault
  own_wish j h e = grind (arith, nat_tests)

  repeated_wish : (j : ℕ) → get_or row j 0 < n → get_or row j 0 ≢ u → has (take j row) (get_or row j 0) ≡ true
      → wish_fault n u at row j ≡ Some (Refused RepeatedWish (at + j))
  unfolding wish_fault
  repeated_wish j h e r = grind (arith, nat_tests)

  -- a row of wishes without a fault has none
  pub none_in_row : ((k : ℕ) → k < length row → wish_fault n u at row k ≡ None) → row_fault n u at row ≡ None
  unfolding row_fault
  none_in_row h = none_first (wish_fault n u at row) (length row) h

  -- where the wishes before place j have no fault, the row's is that of the wish at j
  module _ (j : ℕ) (before : (k : ℕ) → k < j → wish_fault n u at row k ≡ None) (here : j < length row) where
    pub unknown : n ≤ get_or row j 0 → row_fault n u at row ≡ Some (Refused UnknownBoat (at + j))
    unfolding row_fault
    unknown h = found_first (wish_fault n u at row) (length row) j _ here before (unknown_wish j h)

    pub own : get_or row j 0 < n → get_or row j 0 ≡ u → row_fault n u at row ≡ Some (Refused OwnBoat (at + j))
    unfolding row_fault
    own h e = found_first (wish_fault n u at row) (length row) j _ here before (own_wish j h e)

    pub repeated : get_or row j 0 < n → get_or row j 0 ≢ u → has (take j row) (get_or row j 0) ≡ true
        → row_fault n u at row ≡ Some (Refused RepeatedWish (at + j))
    unfolding row_fault
    repeated h e r = found_first (wish_fault n u at row) (length row) j _ here before (repeated_wish j h e r)

-- by these the search goes along a row
pub ruleset look = (has_more, take_all, no_fault, none_in_row, unknown, own, repeated)
