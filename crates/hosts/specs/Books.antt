-- The book: rows laid out as bytes, and what its reader says of any bytes.
-- Assumes nothing.
use Rattle.std.specs.Prelude.{ℕ, zero, suc, ◌+◌, ◌-◌, ◌*◌, Bool, not, ◌&&◌, ◌||◌, List, [], ◌∷◌, map, length, take, drop, is_some, Option, Result, ◌==◌, nat_le, nat_lt, slice_index}
use Rattle.std.specs.List.{range_with_len}
use Rattle.exchange.specs.declared.fault.Fault.{Fault}
use Rattle.exchange.specs.declared.fault.Rule.TheVariants.{BookTooShort, BookTooLarge, WrongOffset, WrongLength, WrongRowNumber, UnknownBoat, OwnBoat, RepeatedWish}
use Rattle.exchange.specs.Checks.{refuse_if, first_of, unless}
use Rattle.exchange.specs.Rows.{Rows, has}

-- ---- the layout

-- numbers have two bytes, the high byte first
abbrev pub number : List ℕ → ℕ → ℕ
number b at = slice_index b at * 256 + slice_index b (at + 1)

-- the header: the number of boats, the number of wishes, and two offsets
abbrev pub boats : List ℕ → ℕ
boats b = number b 0

abbrev pub wishes : List ℕ → ℕ
wishes b = number b 2

abbrev pub table_offset : List ℕ → ℕ
table_offset b = number b 4

abbrev pub wishes_offset : List ℕ → ℕ
wishes_offset b = number b 6

-- behind the header stands the row table, a number for each boat and one more, and behind that the wishes, a byte each
abbrev pub row_number : List ℕ → ℕ → ℕ
row_number b u = number b (8 + 2 * u)

abbrev pub wishes_at : List ℕ → ℕ
wishes_at b = 8 + 2 * (boats b + 1)

-- row u is the wishes from its number to before the next
abbrev pub row_at : List ℕ → ℕ → ℕ
row_at b u = wishes_at b + row_number b u

abbrev pub book_row : List ℕ → ℕ → List ℕ
book_row b u = take (row_number b (u + 1) - row_number b u) (drop (row_at b u) b)

unfoldable pub book_rows : List ℕ → Rows
book_rows b = map (book_row b) (range_with_len 0 (boats b))

-- ---- the checks, in their order

unfoldable pub header_fault : List ℕ → Option Fault
header_fault b =
    first_of (refuse_if (nat_lt (length b) 8) BookTooShort (length b)
    ∷ refuse_if (nat_lt 256 (boats b)) BookTooLarge 0
    ∷ refuse_if (nat_lt 16384 (wishes b)) BookTooLarge 2
    ∷ refuse_if (not (table_offset b == 8)) WrongOffset 4
    ∷ refuse_if (not (wishes_offset b == wishes_at b)) WrongOffset 6
    ∷ refuse_if (not (length b == wishes_at b + wishes b)) WrongLength (length b)
    ∷ [])

-- the row number before number u, and 0 before the first
abbrev pub previous : List ℕ → ℕ → ℕ
previous b zero = 0
previous b (suc u) = row_number b u

-- the first is 0, none is below the one before it or above the number of wishes, and the last is that number
abbrev pub row_number_ok : List ℕ → ℕ → Bool
row_number_ok b u =
    (not (u == 0) || row_number b u == 0)
    && (nat_le (previous b u) (row_number b u)
    && (nat_le (row_number b u) (wishes b)
    && (not (u == boats b) || row_number b u == wishes b)))

unfoldable pub row_number_fault : List ℕ → ℕ → Option Fault
row_number_fault b u = refuse_if (not (row_number_ok b u)) WrongRowNumber (8 + 2 * u)

unfoldable pub table_fault : List ℕ → Option Fault
table_fault b = first_of (map (row_number_fault b) (range_with_len 0 (boats b + 1)))

-- the wish at place j of the row of boat u, of n boats, where the row begins at byte `at`:
-- it is for one of the boats, not for u itself, and stands not earlier in the row
unfoldable pub wish_fault : ℕ → ℕ → ℕ → List ℕ → ℕ → Option Fault
wish_fault n u at row j =
    first_of (refuse_if (not (nat_lt (slice_index row j) n)) UnknownBoat (at + j)
    ∷ refuse_if (slice_index row j == u) OwnBoat (at + j)
    ∷ refuse_if (has (take j row) (slice_index row j)) RepeatedWish (at + j)
    ∷ [])

unfoldable pub row_fault : ℕ → ℕ → ℕ → List ℕ → Option Fault
row_fault n u at row = first_of (map (wish_fault n u at row) (range_with_len 0 (length row)))

abbrev pub boat_fault : List ℕ → ℕ → Option Fault
boat_fault b u = row_fault (boats b) u (row_at b u) (book_row b u)

unfoldable pub wishes_fault : List ℕ → Option Fault
wishes_fault b = first_of (map (boat_fault b) (range_with_len 0 (boats b)))

unfoldable pub book_fault : List ℕ → Option Fault
book_fault b = first_of (header_fault b ∷ table_fault b ∷ wishes_fault b ∷ [])

-- ---- what the reader says: the rows, or the fault

abbrev pub reading : List ℕ → Result Rows Fault
reading b = unless (book_fault b) (book_rows b)

-- what a book may hold: no bytes yet, or bytes with no fault
unfoldable pub may_hold : List ℕ → Bool
may_hold b = length b == 0 || not (is_some (book_fault b))
