-- The worked rows, computed.
-- Assumes nothing.
use Rattle.std.proofs.Common.{◌≡◌, ℕ, zero, suc, Bool, true, false, ◌&&◌, leb, List, [], ◌∷◌, length, take, map, refl}
use Rattle.std.specs.List.{list_all}
use Rattle.exchange.specs.Rows.{Rows}
use Rattle.theory.specs.Search.{State, Outcome, Ended, Silent, Found, opening, step, release_within}
use Rattle.theory.specs.Worked.{Line, Ring, End, Case, cases, counted_to, capped}
use Rattle.theory.proofs.WellFormed.{rows_test}

-- the lines from st on, where the step gives this, and `on` are those from the state after it
abbrev pub lines_of : Rows → (State → List Line) → State → Outcome → List Line
lines_of rows on st Ended = End st.entries ∷ []
lines_of rows on st (Silent st') = on st'
lines_of rows on st (Found r st') = Ring r st'.entries (take (length rows) st'.locks) ∷ on st'

-- the lines that the run from st shows within so many steps
unfoldable pub run_lines : ℕ → Rows → ℕ → State → List Line
run_lines zero rows k st = []
run_lines (suc fuel) rows k st = lines_of rows (run_lines fuel rows k) st (step rows k st)

-- the run has come to its end
abbrev pub has_end : List Line → Bool
has_end [] = false
has_end (Ring r e locks ∷ lines) = has_end lines
has_end (End e ∷ lines) = true

abbrev pub case_test : Case → Bool
case_test c = rows_test c.rows && (leb 2 c.bound && (leb c.bound 16 && has_end c.lines))

abbrev pub case_lines : Case → List Line
case_lines c = run_lines 1000 c.rows c.bound opening

pub cases_pass : list_all case_test cases ≡ true
cases_pass = refl

pub cases_run : map case_lines cases ≡ map (λ c. c.lines) cases
unfolding run_lines release_within
cases_run = refl

pub cap_runs : run_lines 1000 capped.rows capped.bound (counted_to 4294967293) ≡ capped.lines
unfolding run_lines release_within
cap_runs = refl
