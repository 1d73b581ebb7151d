-- What holds at each state that the search comes to, and what a step then does.
-- Assumes nothing.
use Rattle.std.proofs.Common.{◌≡◌, ℕ, ◌+◌, ◌<◌, ◌≤◌, true, false, ◌≢◌, List, [], ◌∷◌, length, take}
use Rattle.std.specs.List.{All}
use Rattle.exchange.specs.Rows.{Rows, row, ◌∈◌}
use Rattle.theory.specs.Search.{Waiters, Frame, State, Outcome, Ended, Silent, Found, boats, lock, waits}
use Rattle.theory.proofs.Remaining.{remaining}

-- a boat on the path has its depth for a lock
abbrev pub Depths : List ℕ → List Frame → Type 0
Depths locks [] = Unit {0}
Depths locks (f ∷ p) = (lock locks f.boat ≡ length p) × Depths locks p

-- the wish w of a boat at depth d - 1 leads to no ring, as the locks tell
abbrev pub LeadsNowhere : ℕ → ℕ → List ℕ → ℕ → ℕ → Type 0
LeadsNowhere k s locks d w = (w ≢ s) × (s < w → d < k → lock locks w ≤ d)

-- each of the wishes ws leads to no ring
abbrev pub Passed : ℕ → ℕ → List ℕ → ℕ → List ℕ → Type 0
Passed k s locks d ws = (w : ℕ) → w ∈ ws → LeadsNowhere k s locks d w

-- so it is with the wishes passed by the boats of the path, down to the last one that is marked found
abbrev pub Seen : Rows → ℕ → ℕ → List ℕ → List Frame → Type 0
Seen rows k s locks [] = Unit {0}
Seen rows k s locks (f ∷ p) =
    f.found ≡ false → Passed k s locks (length (f ∷ p)) (take f.place (row rows f.boat)) × Seen rows k s locks p

-- a locked boat off the path has no ring in its reach, and waits for each boat of its row that might bring one
abbrev pub Blocked : Rows → ℕ → ℕ → List ℕ → Waiters → List Frame → Type 0
Blocked rows k s locks waiters p =
    (v : ℕ) → ¬ (v ∈ boats p) → lock locks v < k → (w : ℕ) → w ∈ row rows v →
    (w ≢ s) × (s < w → lock locks v + 1 < k → (lock locks w ≤ lock locks v + 1) × (waits waiters w v ≡ true))

-- there are 256 marks for each of 256 boats
abbrev pub Wide : Waiters → Type 0
Wide waiters = (length waiters ≡ 256) × All (λ marks. length marks ≡ 256) waiters

-- THE INVARIANT
pub record Inv (rows : Rows) (k : ℕ) (st : State) : Type 0 where
  pub long : length st.locks ≡ 256
  pub wide : Wide st.waiters
  pub short : length st.path ≤ k
  pub depths : Depths st.locks st.path
  pub seen : Seen rows k st.root st.locks st.path
  pub blocked : Blocked rows k st.root st.locks st.waiters st.path

-- a step keeps this, and what remains changes as it should
abbrev pub Good : Rows → ℕ → State → Outcome → Type 0
Good rows k st Ended = remaining rows k st ≡ []
Good rows k st (Silent st') = Inv rows k st' × (remaining rows k st ≡ remaining rows k st')
Good rows k st (Found r st') = Inv rows k st' × (remaining rows k st ≡ r ∷ remaining rows k st')
