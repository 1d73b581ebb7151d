-- What bytes keep once the checks of the header and of the row table have passed.
-- Assumes nothing.
use Rattle.std.specs.Prelude.{◌≡◌, ℕ, ◌+◌, ◌<◌, ◌≤◌, List, length}
use Rattle.hosts.specs.Books.{boats, wishes, row_number, wishes_at}

-- the header is within its limits, and tells the length
pub record HeaderStands (b : List ℕ) : Type 0 where
  pub few : boats b ≤ 256
  pub small : wishes b ≤ 16384
  pub long : length b ≡ wishes_at b + wishes b

-- the row numbers never fall, and none is above the number of wishes
pub record TableStands (b : List ℕ) : Type 0 where
  pub rises : (u : ℕ) → u < boats b → row_number b u ≤ row_number b (u + 1)
  pub within : (u : ℕ) → u ≤ boats b → row_number b u ≤ wishes b
