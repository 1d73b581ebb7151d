-- The bytes that a book holds.
-- Assumes nothing.
use Rattle.std.specs.Prelude.{ℕ, List, [], Option}
use Rattle.std.specs.Option.{option_map_or}
use Rattle.hosts.specs.declared.table.Table.{Table}

-- those of its table, and none while it has no table
abbrev pub bytes_in : Option Table → List ℕ
bytes_in table = option_map_or (λ t. t.layout.bytes.items) table []
