-- What is claimed of the full list and of the search. Each claim stands on the contract of a function of this crate.
-- Assumes nothing.
use Rattle.std.specs.Prelude.{◌≡◌, ℕ, ◌<◌, ◌≤◌, ◌≢◌, List, [], ◌∷◌, ◌++◌, length, slice_index_or}
use Rattle.exchange.specs.Rows.{Rows, WellFormed}
use Rattle.theory.specs.Rings.{RingWithin, FullList}
use Rattle.theory.specs.Search.{Locks, Waiters, State, Outcome, Ended, Silent, Found, opening, step, release}
use Rattle.theory.specs.Runs.{Run, Hands}
use Rattle.theory.specs.Releases.{Frees}

-- OF THE FULL LIST

-- there is one, and no other
abbrev pub OneFullList : Type 0
OneFullList =
    (rows : Rows) (k : ℕ) → WellFormed rows → 2 ≤ k → k ≤ 16 →
    (l : List (List ℕ)) × FullList rows k l × ((m : List (List ℕ)) → FullList rows k m → m ≡ l)

-- each ring stands in it once
abbrev pub EachOnce : Type 0
EachOnce =
    (rows : Rows) (k : ℕ) → WellFormed rows → (l : List (List ℕ)) → FullList rows k l →
    (i j : ℕ) → i < j → j < length l → slice_index_or l i [] ≢ slice_index_or l j []

-- OF THE RULE, RUN FROM ITS OPENING

-- the list that it hands out before it ends is the full list
abbrev pub Complete : Type 0
Complete =
    (rows : Rows) (k : ℕ) → WellFormed rows → 2 ≤ k → k ≤ 16 → (l : List (List ℕ)) →
    (FullList rows k l → Hands rows k opening l) × (Hands rows k opening l → FullList rows k l)

-- wherever it has come to, the rings that it has found and those that it still hands out are the full list
abbrev pub Midway : Type 0
Midway =
    (rows : Rows) (k : ℕ) → WellFormed rows → 2 ≤ k → k ≤ 16 →
    (done rest : List (List ℕ)) (st : State) → Run rows k opening done st → Hands rows k st rest → FullList rows k (done ++ rest)

-- every path that it calls a ring is a ring of the rows within the bound
abbrev pub Sound : Type 0
Sound =
    (rows : Rows) (k : ℕ) → WellFormed rows → 2 ≤ k → k ≤ 16 →
    (done : List (List ℕ)) (st st' : State) (r : List ℕ) → Run rows k opening done st → step rows k st ≡ Found r st' →
    RingWithin rows k r

-- OF THE RULE, FROM WHATEVER STATE

-- what remains is settled: it hands out one list, and no other
abbrev pub Settled : Type 0
Settled =
    (rows : Rows) (k : ℕ) (st : State) →
    (l : List (List ℕ)) × Hands rows k st l × ((m : List (List ℕ)) → Hands rows k st m → m ≡ l)

-- what remains, l, as a step goes: nothing where the search has ended; the same after a silent step; without its head, which is
-- the ring found, after the step of a ring
abbrev pub After : Rows → ℕ → List (List ℕ) → Outcome → Type 0
After rows k l Ended = l ≡ []
After rows k l (Silent st) = Hands rows k st l
After rows k l (Found r st) = (rest : List (List ℕ)) × (l ≡ r ∷ rest) × Hands rows k st rest

abbrev pub Stepwise : Type 0
Stepwise = (rows : Rows) (k : ℕ) (st : State) (l : List (List ℕ)) → Hands rows k st l → After rows k l (step rows k st)

-- a number that falls with the step
abbrev pub Falls : (State → ℕ) → State → Outcome → Type 0
Falls left st Ended = Unit {0}
Falls left st (Silent st') = left st' < left st
Falls left st (Found r st') = left st' < left st

-- there is a number for each state that falls with every step
abbrev pub Ends : Type 0
Ends = (rows : Rows) (k : ℕ) → (left : State → ℕ) × ((st : State) → Falls left st (step rows k st))

-- OF A RELEASE

-- it frees what is reached from the released boat through waiters off the path and locked, and nothing else; no other locks do
abbrev pub Releases : Type 0
Releases =
    (waiters : Waiters) (path : List ℕ) (v : ℕ) (l : Locks) → length l ≤ 256 →
    Frees waiters path v l (release waiters path v l)
    × ((m : Locks) → Frees waiters path v l m → m ≡ release waiters path v l)
