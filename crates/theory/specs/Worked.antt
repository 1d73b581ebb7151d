-- Worked rows: what the rule shows on them, ring by ring.
-- Assumes nothing.
use Rattle.std.specs.Prelude.{◌≡◌, ℕ, List, [], ◌∷◌, length, take}
use Rattle.std.specs.List.{AllByRecursion}
use Rattle.exchange.specs.Rows.{Rows}
use Rattle.theory.specs.Rings.{FullList}
use Rattle.theory.specs.Search.{State, Ended, Silent, Found, opening, step, free, all_free, no_waiters}

-- a ring, with the entries and the locks of the boats when it is found; or the end, with the entries
pub data Line : Type 0 where
  Ring : List ℕ → ℕ → List ℕ → Line
  End : ℕ → Line

-- the run from st shows these lines
pub data Shows (rows : Rows) (k : ℕ) : State → List Line → Type 0 where
  ends : {st : State} → step rows k st ≡ Ended → Shows rows k st (End st.entries ∷ [])
  goes : {st st' : State} {lines : List Line} → step rows k st ≡ Silent st' → Shows rows k st' lines → Shows rows k st lines
  finds : {st st' : State} {r : List ℕ} {lines : List Line} → step rows k st ≡ Found r st' → Shows rows k st' lines →
      Shows rows k st (Ring r st'.entries (take (length rows) st'.locks) ∷ lines)

abbrev pub rings_of : List Line → List (List ℕ)
rings_of [] = []
rings_of (Ring r e locks ∷ lines) = r ∷ rings_of lines
rings_of (End e ∷ lines) = rings_of lines

pub record Case : Type 0 where
  pub rows : Rows
  pub bound : ℕ
  pub lines : List Line

-- the rule shows the lines, and their rings are the full list
pub record Holds (c : Case) : Type 0 where
  pub shows : Shows c.rows c.bound opening c.lines
  pub full : FullList c.rows c.bound (rings_of c.lines)

abbrev pub book_p : Rows
book_p = (3 ∷ 4 ∷ []) ∷ (3 ∷ 4 ∷ []) ∷ (0 ∷ 1 ∷ []) ∷ (0 ∷ 1 ∷ []) ∷ (2 ∷ []) ∷ []

abbrev pub cases : List Case
cases =
    -- the worked book, bound 5: at the third ring boats 1 and 3 are free, and 0, 4 and 2 have the locks 0, 1 and 2
    record {
      rows = book_p;
      bound = 5;
      lines =
          Ring (0 ∷ 3 ∷ []) 2 (0 ∷ free ∷ free ∷ 1 ∷ free ∷ [])
          ∷ Ring (0 ∷ 3 ∷ 1 ∷ 4 ∷ 2 ∷ []) 5 (0 ∷ 2 ∷ 4 ∷ 1 ∷ 3 ∷ [])
          ∷ Ring (0 ∷ 4 ∷ 2 ∷ []) 7 (0 ∷ free ∷ 2 ∷ free ∷ 1 ∷ [])
          ∷ Ring (0 ∷ 4 ∷ 2 ∷ 1 ∷ 3 ∷ []) 9 (0 ∷ 3 ∷ 2 ∷ 4 ∷ 1 ∷ [])
          ∷ Ring (1 ∷ 3 ∷ []) 11 (free ∷ 0 ∷ free ∷ 1 ∷ free ∷ [])
          ∷ Ring (1 ∷ 4 ∷ 2 ∷ []) 13 (free ∷ 0 ∷ 2 ∷ free ∷ 1 ∷ [])
          ∷ End 16 ∷ [];
    }
    -- the same, bound 4
    ∷ record {
      rows = book_p;
      bound = 4;
      lines =
          Ring (0 ∷ 3 ∷ []) 2 (0 ∷ free ∷ free ∷ 1 ∷ free ∷ [])
          ∷ Ring (0 ∷ 4 ∷ 2 ∷ []) 6 (0 ∷ free ∷ 2 ∷ free ∷ 1 ∷ [])
          ∷ Ring (1 ∷ 3 ∷ []) 9 (free ∷ 0 ∷ free ∷ 1 ∷ free ∷ [])
          ∷ Ring (1 ∷ 4 ∷ 2 ∷ []) 11 (free ∷ 0 ∷ 2 ∷ free ∷ 1 ∷ [])
          ∷ End 14 ∷ [];
    }
    -- the same without boat 3: its row is empty, and it is gone from the others
    ∷ record {
      rows = (4 ∷ []) ∷ (4 ∷ []) ∷ (0 ∷ 1 ∷ []) ∷ [] ∷ (2 ∷ []) ∷ [];
      bound = 5;
      lines =
          Ring (0 ∷ 4 ∷ 2 ∷ []) 3 (0 ∷ free ∷ 2 ∷ free ∷ 1 ∷ [])
          ∷ Ring (1 ∷ 4 ∷ 2 ∷ []) 7 (free ∷ 0 ∷ 2 ∷ free ∷ 1 ∷ [])
          ∷ End 10 ∷ [];
    }
    -- a way that leads to no ring is not tried again from deeper down
    ∷ record {
      rows = (1 ∷ 2 ∷ []) ∷ (3 ∷ []) ∷ (3 ∷ 0 ∷ []) ∷ (4 ∷ []) ∷ [] ∷ [];
      bound = 5;
      lines =
          Ring (0 ∷ 2 ∷ []) 5 (0 ∷ 1 ∷ 1 ∷ 2 ∷ 3 ∷ [])
          ∷ End 14 ∷ [];
    }
    -- all wishes of three boats
    ∷ record {
      rows = (1 ∷ 2 ∷ []) ∷ (0 ∷ 2 ∷ []) ∷ (0 ∷ 1 ∷ []) ∷ [];
      bound = 3;
      lines =
          Ring (0 ∷ 1 ∷ []) 2 (0 ∷ 1 ∷ free ∷ [])
          ∷ Ring (0 ∷ 1 ∷ 2 ∷ []) 3 (0 ∷ 1 ∷ 2 ∷ [])
          ∷ Ring (0 ∷ 2 ∷ []) 4 (0 ∷ free ∷ 1 ∷ [])
          ∷ Ring (0 ∷ 2 ∷ 1 ∷ []) 5 (0 ∷ 2 ∷ 1 ∷ [])
          ∷ Ring (1 ∷ 2 ∷ []) 7 (free ∷ 0 ∷ 1 ∷ [])
          ∷ End 8 ∷ [];
    }
    -- two boats
    ∷ record {
      rows = (1 ∷ []) ∷ (0 ∷ []) ∷ [];
      bound = 2;
      lines =
          Ring (0 ∷ 1 ∷ []) 2 (0 ∷ 1 ∷ [])
          ∷ End 3 ∷ [];
    }
    -- no boats
    ∷ record {
      rows = [];
      bound = 2;
      lines =
          End 0 ∷ [];
    }
    -- a waiter that is on the path is not released
    ∷ record {
      rows = (3 ∷ 2 ∷ []) ∷ (3 ∷ 2 ∷ 0 ∷ []) ∷ (1 ∷ 3 ∷ []) ∷ (1 ∷ 0 ∷ 2 ∷ []) ∷ [];
      bound = 5;
      lines =
          Ring (0 ∷ 3 ∷ 1 ∷ []) 4 (0 ∷ 2 ∷ 3 ∷ 1 ∷ [])
          ∷ Ring (0 ∷ 3 ∷ []) 4 (0 ∷ free ∷ free ∷ 1 ∷ [])
          ∷ Ring (0 ∷ 3 ∷ 2 ∷ 1 ∷ []) 6 (0 ∷ 3 ∷ 2 ∷ 1 ∷ [])
          ∷ Ring (0 ∷ 2 ∷ 1 ∷ 3 ∷ []) 9 (0 ∷ 2 ∷ 1 ∷ 3 ∷ [])
          ∷ Ring (0 ∷ 2 ∷ 1 ∷ []) 9 (0 ∷ 2 ∷ 1 ∷ free ∷ [])
          ∷ Ring (0 ∷ 2 ∷ 3 ∷ 1 ∷ []) 11 (0 ∷ 3 ∷ 1 ∷ 2 ∷ [])
          ∷ Ring (0 ∷ 2 ∷ 3 ∷ []) 11 (0 ∷ free ∷ 1 ∷ 2 ∷ [])
          ∷ Ring (1 ∷ 3 ∷ []) 13 (free ∷ 0 ∷ free ∷ 1 ∷ [])
          ∷ Ring (1 ∷ 3 ∷ 2 ∷ []) 14 (free ∷ 0 ∷ 2 ∷ 1 ∷ [])
          ∷ Ring (1 ∷ 2 ∷ []) 15 (free ∷ 0 ∷ 1 ∷ free ∷ [])
          ∷ Ring (1 ∷ 2 ∷ 3 ∷ []) 16 (free ∷ 0 ∷ 1 ∷ 2 ∷ [])
          ∷ Ring (2 ∷ 3 ∷ []) 18 (free ∷ free ∷ 0 ∷ 1 ∷ [])
          ∷ End 19 ∷ [];
    }
    -- a lock is compared with the depth itself
    ∷ record {
      rows = (3 ∷ 1 ∷ []) ∷ (2 ∷ []) ∷ (0 ∷ 3 ∷ 1 ∷ []) ∷ (2 ∷ 0 ∷ 1 ∷ []) ∷ [];
      bound = 3;
      lines =
          Ring (0 ∷ 3 ∷ 2 ∷ []) 3 (0 ∷ free ∷ 2 ∷ 1 ∷ [])
          ∷ Ring (0 ∷ 3 ∷ []) 3 (0 ∷ free ∷ free ∷ 1 ∷ [])
          ∷ Ring (0 ∷ 1 ∷ 2 ∷ []) 6 (0 ∷ 1 ∷ 2 ∷ free ∷ [])
          ∷ Ring (1 ∷ 2 ∷ 3 ∷ []) 9 (free ∷ 0 ∷ 1 ∷ 2 ∷ [])
          ∷ Ring (1 ∷ 2 ∷ []) 9 (free ∷ 0 ∷ 1 ∷ free ∷ [])
          ∷ Ring (2 ∷ 3 ∷ []) 11 (free ∷ free ∷ 0 ∷ 1 ∷ [])
          ∷ End 12 ∷ [];
    }
    -- the boat before a found one is marked found
    ∷ record {
      rows = (3 ∷ 1 ∷ []) ∷ (0 ∷ 3 ∷ []) ∷ (1 ∷ 3 ∷ 0 ∷ []) ∷ (1 ∷ 2 ∷ []) ∷ [];
      bound = 4;
      lines =
          Ring (0 ∷ 3 ∷ 1 ∷ []) 3 (0 ∷ 2 ∷ free ∷ 1 ∷ [])
          ∷ Ring (0 ∷ 3 ∷ 2 ∷ 1 ∷ []) 5 (0 ∷ 3 ∷ 2 ∷ 1 ∷ [])
          ∷ Ring (0 ∷ 3 ∷ 2 ∷ []) 5 (0 ∷ free ∷ 2 ∷ 1 ∷ [])
          ∷ Ring (0 ∷ 1 ∷ []) 6 (0 ∷ 1 ∷ free ∷ free ∷ [])
          ∷ Ring (0 ∷ 1 ∷ 3 ∷ 2 ∷ []) 8 (0 ∷ 1 ∷ 3 ∷ 2 ∷ [])
          ∷ Ring (1 ∷ 3 ∷ []) 10 (free ∷ 0 ∷ free ∷ 1 ∷ [])
          ∷ Ring (1 ∷ 3 ∷ 2 ∷ []) 11 (free ∷ 0 ∷ 2 ∷ 1 ∷ [])
          ∷ Ring (2 ∷ 3 ∷ []) 13 (free ∷ free ∷ 0 ∷ 1 ∷ [])
          ∷ End 14 ∷ [];
    }
    -- a release goes on to the waiters of waiters
    ∷ record {
      rows = (3 ∷ 2 ∷ 1 ∷ []) ∷ (3 ∷ []) ∷ (0 ∷ 1 ∷ 3 ∷ []) ∷ (0 ∷ 1 ∷ []) ∷ [];
      bound = 5;
      lines =
          Ring (0 ∷ 3 ∷ []) 2 (0 ∷ free ∷ free ∷ 1 ∷ [])
          ∷ Ring (0 ∷ 2 ∷ []) 4 (0 ∷ free ∷ 1 ∷ free ∷ [])
          ∷ Ring (0 ∷ 2 ∷ 1 ∷ 3 ∷ []) 6 (0 ∷ 2 ∷ 1 ∷ 3 ∷ [])
          ∷ Ring (0 ∷ 2 ∷ 3 ∷ []) 7 (0 ∷ free ∷ 1 ∷ 2 ∷ [])
          ∷ Ring (0 ∷ 1 ∷ 3 ∷ []) 10 (0 ∷ 1 ∷ free ∷ 2 ∷ [])
          ∷ Ring (1 ∷ 3 ∷ []) 12 (free ∷ 0 ∷ free ∷ 1 ∷ [])
          ∷ End 15 ∷ [];
    }
    ∷ []

-- a search at its opening that has counted e entries already
abbrev pub counted_to : ℕ → State
counted_to e = record { root = 0; path = []; locks = all_free; waiters = no_waiters; entries = e }

-- two boats, from 4,294,967,293 entries on
abbrev pub capped : Case
capped =
    record {
      rows = (1 ∷ []) ∷ (0 ∷ []) ∷ [];
      bound = 2;
      lines = Ring (0 ∷ 1 ∷ []) 4294967295 (0 ∷ 1 ∷ []) ∷ End 4294967295 ∷ [];
    }

-- every case holds, and entries stand at 4,294,967,295 once they are there
pub record Worked : Type 0 where
  pub table : AllByRecursion Holds cases
  pub cap : Shows capped.rows capped.bound (counted_to 4294967293) capped.lines
