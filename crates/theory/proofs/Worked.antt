-- What the computed table tells.
-- Assumes nothing.
use Rattle.std.proofs.Common.{◌≡◌, ℕ, zero, suc, true, List, [], ◌∷◌, map, refl, sym, arith}
use Rattle.std.specs.List.{AllByRecursion, list_all}
use Rattle.std.proofs.lemmas.Bool.Decides.{nat_tests}
use Rattle.exchange.specs.Rows.{Rows}
use Rattle.theory.specs.Search.{State, Outcome, Ended, Silent, Found, opening, step}
use Rattle.theory.specs.Runs.{Hands}
use Rattle.theory.specs.Worked.{Line, Shows, ends, goes, finds, rings_of, Case, Holds, cases, counted_to, capped, Worked}
use Rattle.theory.proofs.WellFormed.{well_formed}
use Rattle.theory.proofs.Table.{lines_of, run_lines, has_end, case_test, case_lines, cases_pass, cases_run, cap_runs}
use Rattle.theory.proofs.Runs.{before}
use Rattle.theory.proofs.Main.{complete}

module _ (rows : Rows) (k : ℕ) where
  told : (on : State → List Line) → ((st : State) → has_end (on st) ≡ true → Shows rows k st (on st)) →
      (st : State) (o : Outcome) → step rows k st ≡ o → has_end (lines_of rows on st o) ≡ true →
      Shows rows k st (lines_of rows on st o)
  told on more st Ended s e = ends s
  told on more st (Silent st') s e = goes s (more st' e)
  told on more st (Found r st') s e = finds s (more st' e)

  shown : (fuel : ℕ) (st : State) → has_end (run_lines fuel rows k st) ≡ true → Shows rows k st (run_lines fuel rows k st)
  unfolding run_lines
  shown zero st e = grind arith
  shown (suc fuel) st e = told (run_lines fuel rows k) (shown fuel) st (step rows k st) refl e

  shows : (st : State) (lines : List Line) → run_lines 1000 rows k st ≡ lines → has_end lines ≡ true → Shows rows k st lines
  shows st lines r e = rw (sym r) (shown 1000 st (rw r e))

  -- a run that shows lines hands out their rings
  handed : {st : State} {lines : List Line} → Shows rows k st lines → Hands rows k st (rings_of lines)
  handed (ends s) = before rows k _ [] Ended s refl
  handed (goes s more) = before rows k _ _ _ s (handed more)
  handed (finds s more) = before rows k _ _ _ s (_, refl, handed more)

case_holds : (c : Case) → case_test c ≡ true → case_lines c ≡ c.lines → Holds c
case_holds c e r =
    let s = shows c.rows c.bound opening c.lines r (grind arith) in
    let wf = well_formed c.rows (grind arith) in
    record {
      shows = s;
      full = (complete c.rows c.bound wf (grind (arith, nat_tests)) (grind (arith, nat_tests)) (rings_of c.lines)).1
          (handed c.rows c.bound s);
    }

all_hold : (cs : List Case) → list_all case_test cs ≡ true → map case_lines cs ≡ map (λ c. c.lines) cs → AllByRecursion Holds cs
all_hold [] e r = tt
all_hold (c ∷ cs) e r = (case_holds c (grind arith) (cc), all_hold cs (grind arith) (cc))

pub worked : Worked
worked =
    record {
      table = all_hold cases cases_pass cases_run;
      cap = shows capped.rows capped.bound (counted_to 4294967293) capped.lines cap_runs refl;
    }
