-- The rings that remain to be found at a state, by plain search: every path is tried, and no lock is asked.
-- Assumes nothing.
use Rattle.std.proofs.Common.{◌≡◌, ℕ, zero, suc, ◌+◌, ◌-◌, ◌<◌, not, ◌&&◌, cond, eqb, ltb, List, [], ◌∷◌, ◌++◌, reverse, length, drop, arith}
use Rattle.std.specs.List.{flat_map}
use Rattle.std.proofs.lemmas.Bool.Decides.{nat_tests}
use Rattle.exchange.specs.Rows.{Rows, row, ◌∈◌, has}
use Rattle.theory.specs.Search.{Waiters, Frame, State, boats}
use Rattle.theory.proofs.Lists.{has_true, has_false}

-- the rings by the step from the path to w: the path itself where w is the root s, and `onward` where w may follow the path
abbrev pub choose : ℕ → List ℕ → ℕ → List (List ℕ) → List (List ℕ)
choose s path w onward = cond (eqb w s) (reverse path ∷ []) (cond (ltb s w && not (has path w)) onward [])

-- the rings that begin with the path and then w, with at most j boats behind the path; its last boat stands first in it
abbrev pub deeper : Rows → ℕ → ℕ → List ℕ → ℕ → List (List ℕ)
deeper rows s zero path w = []
deeper rows s (suc j) path w = flat_map (λ x. choose s (w ∷ path) x (deeper rows s j (w ∷ path) x)) (row rows w)

-- the rings that begin with the path and take the step to w, with at most j boats more
abbrev pub part : Rows → ℕ → ℕ → List ℕ → ℕ → List (List ℕ)
part rows s j path w = choose s path w (deeper rows s j path w)

-- those that take a step to one of the boats ws
abbrev pub onward : Rows → ℕ → ℕ → List ℕ → List ℕ → List (List ℕ)
onward rows s j path ws = flat_map (part rows s j path) ws

module _ (s : ℕ) (path : List ℕ) (w : ℕ) (on : List (List ℕ)) where
  pub choose_back : w ≡ s → choose s path w on ≡ reverse path ∷ []
  choose_back e = grind (arith, nat_tests)

  pub choose_on : s < w → ¬ (w ∈ path) → choose s path w on ≡ on
  choose_on above off = grind (arith, nat_tests, has_true path w)

  -- what holds in each case
  pub chosen : (P : List (List ℕ) → Type 0) → (w ≡ s → P (reverse path ∷ [])) → P [] → (s < w → ¬ (w ∈ path) → P on) →
      P (choose s path w on)
  chosen P back none go = grind (arith, nat_tests, has_false path w)

-- the rings of the first boats i, i + 1, .., m of them
abbrev pub from_roots : Rows → ℕ → ℕ → ℕ → List (List ℕ)
from_roots rows k i zero = []
from_roots rows k i (suc m) = onward rows i (k - 1) (i ∷ []) (row rows i) ++ from_roots rows k (i + 1) m

-- the rings that go on from a boat of the path by a wish that it has not come to yet
abbrev pub on_frames : Rows → ℕ → ℕ → List Frame → List (List ℕ)
on_frames rows k s [] = []
on_frames rows k s (f ∷ p) =
    onward rows s (k - 1 - length p) (boats (f ∷ p)) (drop f.place (row rows f.boat)) ++ on_frames rows k s p

-- the root that comes next
abbrev pub later : State → List Frame → ℕ
later st [] = st.root
later st (f ∷ p) = st.root + 1

abbrev pub remaining : Rows → ℕ → State → List (List ℕ)
remaining rows k st =
    on_frames rows k st.root st.path ++ from_roots rows k (later st st.path) (length rows - later st st.path)

abbrev pub at : ℕ → List Frame → List ℕ → Waiters → ℕ → State
at s p locks waiters e = record { root = s; path = p; locks = locks; waiters = waiters; entries = e }
