-- A release by what it leaves, with no order and no depth.
-- Assumes nothing.
use Rattle.std.specs.Prelude.{◌≡◌, ℕ, ◌<◌, true, List, length}
use Rattle.exchange.specs.Rows.{◌∈◌}
use Rattle.theory.specs.Search.{Locks, Waiters, lock, waits, free}

-- the boats that are reached from v through waiters, each off the path and locked
pub data Reached (waiters : Waiters) (path : List ℕ) (locks : Locks) (v : ℕ) : ℕ → Type 0 where
  here : Reached waiters path locks v v
  then : {x : ℕ} (w : ℕ) → Reached waiters path locks v x → waits waiters x w ≡ true → ¬ (w ∈ path) → lock locks w < free →
      Reached waiters path locks v w

-- from the locks l to the locks m, the boats that are reached from v have become free, and every other has the lock that it had
pub record Frees (waiters : Waiters) (path : List ℕ) (v : ℕ) (l m : Locks) : Type 0 where
  pub long : length m ≡ length l
  pub freed : (w : ℕ) → Reached waiters path l v w → lock m w ≡ free
  pub kept : (w : ℕ) → ¬ Reached waiters path l v w → lock m w ≡ lock l w
