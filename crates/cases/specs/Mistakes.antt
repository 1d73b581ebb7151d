-- Two ways to let a found boat go that pass a quick look, and what becomes of the list.
-- Assumes nothing.
use Rattle.std.specs.Prelude.{◌≡◌, ℕ, zero, suc, ◌+◌, ◌-◌, min, Bool, true, false, not, ◌&&◌, List, [], ◌∷◌, ◌++◌, reverse, length, nat_eq, nat_lt, slice_index_or, slice_set}
use Rattle.std.specs.List.{starts_with}
use Rattle.exchange.specs.Rows.{Rows, has}
use Rattle.theory.specs.Search.{Locks, Waiters, Frame, State, Outcome, Ended, Silent, Found, opening, boats, lock, visit, each_mark, release, step}
use Rattle.theory.specs.Worked.{book_p}

-- the locks that are left where the found boat v is let go, with d steps back to the root by the shortest ring that was found
-- through it: from the bound, d, the waiters, the path, v and the locks
abbrev pub Letting : Type 0
Letting = ℕ → ℕ → Waiters → List ℕ → ℕ → Locks → Locks

-- the rule
abbrev pub freed : Letting
freed k d waiters path v locks = release waiters path v locks

-- THE FIRST MISTAKE: the lock is raised to k − d + 1 only, and so are those of the waiters in turn, each with one step more
unfoldable pub raise_within : ℕ → Letting
raise_within zero k d waiters path v locks = locks
raise_within (suc depth) k d waiters path v locks =
    visit (nat_lt (lock locks v) (k + 1 - d))
    (λ low. each_mark (λ w now. visit (not (has path w)) (raise_within depth k (d + 1) waiters path w) now) 0
    (slice_index_or waiters v []) (slice_set low v (k + 1 - d)))
    locks

abbrev pub raised : Letting
raised k d waiters path v locks = raise_within 256 k d waiters path v locks

-- THE SECOND MISTAKE: waiters on the path are released too
abbrev pub freed_on_path : Letting
freed_on_path k d waiters path v locks = release waiters [] v locks

-- THE RULE WITH ANOTHER WAY TO LET GO

abbrev pub length_if : Bool → ℕ → ℕ
length_if true n = n
length_if false n = 17

-- the length of the shortest of the rings that begins with the path
abbrev pub shortest : List ℕ → List (List ℕ) → ℕ
shortest path [] = 17
shortest path (r ∷ rings) = min (length_if (starts_with nat_eq r path) (length r)) (shortest path rings)

abbrev pub with_locks : State → Locks → State
with_locks st locks = record st { locks = locks }

abbrev pub if_left : Bool → State → Locks → State
if_left true st locks = with_locks st locks
if_left false st locks = st

-- a step that was silent: where a found boat has left, and was not the root, the locks are those of the other way
abbrev pub let_go : Letting → ℕ → List (List ℕ) → State → List Frame → State → State
let_go lets k rings st [] st' = st'
let_go lets k rings st (f ∷ []) st' = st'
let_go lets k rings st (f ∷ g ∷ p) st' =
    let path : List ℕ = boats (f ∷ g ∷ p) in
    if_left (f.found && nat_lt (length st'.path) (length path)) st'
    (lets k (shortest (reverse path) rings - length (g ∷ p)) st.waiters path f.boat st.locks)

-- the rings that are found within so many steps, behind those found before
abbrev pub found_on : Letting → ℕ → State → (State → List (List ℕ) → List (List ℕ)) → List (List ℕ) → Outcome → List (List ℕ)
found_on lets k st on rings Ended = rings
found_on lets k st on rings (Silent st') = on (let_go lets k rings st st.path st') rings
found_on lets k st on rings (Found r st') = on st' (rings ++ r ∷ [])

unfoldable pub found_by : Letting → ℕ → Rows → ℕ → State → List (List ℕ) → List (List ℕ)
found_by lets zero rows k st rings = rings
found_by lets (suc fuel) rows k st rings = found_on lets k st (found_by lets fuel rows k) rings (step rows k st)

abbrev pub list_by : Letting → Rows → List (List ℕ)
list_by lets rows = found_by lets 1000 rows 5 opening []

abbrev pub other_rows : Rows
other_rows = (3 ∷ 2 ∷ []) ∷ (3 ∷ 2 ∷ 0 ∷ []) ∷ (1 ∷ 3 ∷ []) ∷ (1 ∷ 0 ∷ 2 ∷ []) ∷ []

pub record Mistakes : Type 0 where
  -- as the rule has it: the six rings of the worked book
  pub right : list_by freed book_p
      ≡ (0 ∷ 3 ∷ []) ∷ (0 ∷ 3 ∷ 1 ∷ 4 ∷ 2 ∷ []) ∷ (0 ∷ 4 ∷ 2 ∷ []) ∷ (0 ∷ 4 ∷ 2 ∷ 1 ∷ 3 ∷ []) ∷ (1 ∷ 3 ∷ []) ∷ (1 ∷ 4 ∷ 2 ∷ []) ∷ []
  -- by the first mistake the ring 0 4 2 1 3 is lost
  pub lost : list_by raised book_p
      ≡ (0 ∷ 3 ∷ []) ∷ (0 ∷ 3 ∷ 1 ∷ 4 ∷ 2 ∷ []) ∷ (0 ∷ 4 ∷ 2 ∷ []) ∷ (1 ∷ 3 ∷ []) ∷ (1 ∷ 4 ∷ 2 ∷ []) ∷ []
  -- by the second, 0 2 1 2 3 and 0 2 3 2 1 are called rings
  pub twice : list_by freed_on_path other_rows
      ≡ (0 ∷ 3 ∷ 1 ∷ []) ∷ (0 ∷ 3 ∷ []) ∷ (0 ∷ 3 ∷ 2 ∷ 1 ∷ [])
      ∷ (0 ∷ 2 ∷ 1 ∷ 3 ∷ []) ∷ (0 ∷ 2 ∷ 1 ∷ 2 ∷ 3 ∷ []) ∷ (0 ∷ 2 ∷ 1 ∷ [])
      ∷ (0 ∷ 2 ∷ 3 ∷ 1 ∷ []) ∷ (0 ∷ 2 ∷ 3 ∷ []) ∷ (0 ∷ 2 ∷ 3 ∷ 2 ∷ 1 ∷ [])
      ∷ (1 ∷ 3 ∷ []) ∷ (1 ∷ 3 ∷ 2 ∷ []) ∷ (1 ∷ 2 ∷ []) ∷ (1 ∷ 2 ∷ 3 ∷ []) ∷ (2 ∷ 3 ∷ []) ∷ []
