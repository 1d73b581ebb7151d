-- What the program tells of its input.
-- Assumes nothing.
use Rattle.std.specs.Prelude.{ℕ, List, [], ◌∷◌, ◌++◌, length, take, drop, codes, decimal, Result, slice_index}
use Rattle.exchange.specs.declared.fault.Fault.{Fault}
use Rattle.exchange.specs.Bounds.{bound_fault}
use Rattle.exchange.specs.Checks.{first_of, unless}
use Rattle.exchange.specs.Rows.{Rows, wish_count}
use Rattle.hosts.specs.Books.{book_rows, book_fault}
use Rattle.listing.specs.declared.Summary.{Summary}

-- of all bytes only the first 16,908 count: the first of them is the bound, 0 where there is none, and the rest is the book
unfoldable pub bound_of : List ℕ → ℕ
bound_of input = slice_index (take 16908 input) 0

unfoldable pub book_of : List ℕ → List ℕ
book_of input = drop 1 (take 16908 input)

abbrev pub summary_of : Rows → Summary
summary_of rows = record { boats = length rows; wishes = wish_count rows }

-- the book is checked before the bound
abbrev pub answer_to : List ℕ → Result Summary Fault
answer_to input = unless (first_of (book_fault (book_of input) ∷ bound_fault (bound_of input) ∷ [])) (summary_of (book_rows (book_of input)))

-- `boats 5 wishes 9`
abbrev pub summary_text : Summary → List ℕ
summary_text s = codes "boats " ++ (decimal s.boats ++ (codes " wishes " ++ decimal s.wishes))
