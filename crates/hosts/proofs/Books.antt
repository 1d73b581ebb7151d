-- What the checks of a book leave, what they tell one after the other, and how long a row is.
-- Assumes nothing.
use Rattle.std.specs.Prelude.{◌≡◌, ℕ, suc, ◌+◌, ◌-◌, ◌<◌, ◌≤◌, true, List, length, drop, Some, None, Option}
use Rattle.std.specs.Borrow.{Bor}
use Rattle.std.specs.List.{slice_get}
use Rattle.std.specs.Option.{option_map}
use Rattle.std.specs.Slice.{IsGetResult}
use Rattle.std.proofs.Common.{sym, ap, ◌∙◌, subst, arith}
use Rattle.std.proofs.lemmas.Bool.Decides.{nat_tests}
use Rattle.std.proofs.lemmas.List.{length-drop, length-take-le}
use Rattle.std.proofs.lemmas.Option.{slice_get-get_or, slice_get_past}
use Rattle.exchange.specs.declared.fault.Fault.{Fault}
use Rattle.exchange.proofs.Checks.{none_at}
use Rattle.hosts.specs.Books.{boats, wishes, row_number, row_at, book_row, header_fault, previous, row_number_ok, row_number_fault, table_fault, wishes_fault, book_fault, may_hold}
use Rattle.hosts.specs.Layouts.{HeaderStands, TableStands}

-- ---- what the checks of the table leave

-- the row number u keeps its rule
number_kept : (b : List ℕ) → table_fault b ≡ None → (u : ℕ) → u ≤ boats b → row_number_ok b u ≡ true
unfolding table_fault row_number_fault
number_kept b e u h =
    let none = none_at (row_number_fault b) 0 (boats b + 1) u e (omega arith) (omega arith) in
    grind (arith, nat_tests)

number_bounds : (b : List ℕ) (u : ℕ) → row_number_ok b u ≡ true → (previous b u ≤ row_number b u) × (row_number b u ≤ wishes b)
number_bounds b u e = grind (arith, nat_tests)

-- where the row table has no fault
pub numbers_stand : (b : List ℕ) → table_fault b ≡ None → TableStands b
numbers_stand b e = record {
  rises = λ u h.
      subst (λ v. row_number b u ≤ row_number b v) (omega arith) (number_bounds b (suc u) (number_kept b e (suc u) (omega arith))).0;
  within = λ u h. (number_bounds b u (number_kept b e u h)).1;
}

-- ---- the checks one after the other

pub header_first : (b : List ℕ) (f : Fault) → header_fault b ≡ Some f → book_fault b ≡ Some f
unfolding book_fault
header_first b f h = grind arith

pub table_second : (b : List ℕ) (f : Fault) → header_fault b ≡ None → table_fault b ≡ Some f → book_fault b ≡ Some f
unfolding book_fault
table_second b f h t = grind arith

pub wishes_third : (b : List ℕ) (o : Option Fault) → header_fault b ≡ None → table_fault b ≡ None → wishes_fault b ≡ o
    → book_fault b ≡ o
unfolding book_fault
wishes_third b o h t w = grind arith

-- by these the search puts the three checks together
pub ruleset checks_in_order = (header_first, table_second, wishes_third)

-- ---- the rows that such bytes show

pub row-length : (b : List ℕ) (u : ℕ) → HeaderStands b → TableStands b → u < boats b
    → length (book_row b u) ≡ row_number b (u + 1) - row_number b u
row-length b u header table h =
    let long = header.long in
    let rises = table.rises u h in
    let within = table.within (u + 1) (omega arith) in
    let rest = length-drop (row_at b u) b in
    length-take-le (row_number b (u + 1) - row_number b u) (drop (row_at b u) b) (omega arith)

-- ---- what a book may hold

pub held_accepted : (b : List ℕ) → book_fault b ≡ None → may_hold b ≡ true
unfolding may_hold
held_accepted b e = grind (arith, nat_tests)

-- ---- reading at a place

-- what `get` finds in a slice
pub found_nth : (xs : List ℕ) (i : ℕ) (r : Option (Bor ℕ)) → IsGetResult xs i i r → option_map (λ x. x.now) r ≡ slice_get xs i
found_nth xs i None h = sym (slice_get_past xs i h.3)
found_nth xs i (Some x) h = ap Some (h.3.1 0) ∙ sym (slice_get-get_or xs i 0 h.3.0)
