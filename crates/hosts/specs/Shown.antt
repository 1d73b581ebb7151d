-- The rows that a book shows.
-- Assumes nothing.
use Rattle.exchange.specs.Rows.{Rows}
use Rattle.hosts.specs.declared.book.Book.{Book}
use Rattle.hosts.specs.Books.{book_rows}
use Rattle.hosts.specs.Held.{bytes_in}

-- those that its bytes lay out, and none while it has no bytes
abbrev pub rows_of : Book → Rows
rows_of book = book_rows (bytes_in book.table)
