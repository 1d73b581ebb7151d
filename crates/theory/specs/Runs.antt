-- Runs of the rule.
-- Assumes nothing.
use Rattle.std.specs.Prelude.{◌≡◌, ℕ, List, [], ◌∷◌}
use Rattle.exchange.specs.Rows.{Rows}
use Rattle.theory.specs.Search.{State, Ended, Silent, Found, step}

-- the rule goes from a state to a state in some steps, and finds these rings on the way, in this order
pub data Run (rows : Rows) (k : ℕ) : State → List (List ℕ) → State → Type 0 where
  stays : {st : State} → Run rows k st [] st
  goes : {st st' to : State} {l : List (List ℕ)} → step rows k st ≡ Silent st' → Run rows k st' l to → Run rows k st l to
  finds : {st st' to : State} {r : List ℕ} {l : List (List ℕ)} →
      step rows k st ≡ Found r st' → Run rows k st' l to → Run rows k st (r ∷ l) to

-- from the state st the rule hands out the rings l, in this order, and then ends
pub record Hands (rows : Rows) (k : ℕ) (st : State) (l : List (List ℕ)) : Type 0 where
  pub last : State
  pub run : Run rows k st l last
  pub ended : step rows k last ≡ Ended
