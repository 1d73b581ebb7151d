-- How many steps a search takes at most, if no lock holds it back: with each step there are fewer.
-- Assumes nothing.
use Rattle.std.proofs.Common.{◌≡◌, ℕ, zero, suc, ◌+◌, ◌-◌, ◌<◌, ◌≤◌, Bool, List, [], ◌∷◌, length, get_or, drop, refl, arith}
use Rattle.std.specs.List.{sum_by}
use Rattle.std.proofs.lemmas.List.{drop_all}
use Rattle.std.proofs.lemmas.List.Sums.{sum_by-drop_more}
use Rattle.std.proofs.lemmas.Bool.Decides.{nat_tests}
use Rattle.exchange.specs.Rows.{Rows, row}
use Rattle.theory.specs.Search.{Waiters, Frame, State, Silent, has_wish, wish, may_enter, on_wish, on_path, used_up, step}
use Rattle.theory.specs.Theorems.{Falls, Ends}
use Rattle.theory.proofs.Remaining.{later, at}

-- the steps for one wish, with all that may be entered from it, at most j boats deep
abbrev cost : Rows → ℕ → ℕ → ℕ
cost rows zero w = 1
cost rows (suc j) w = (sum_by (cost rows j) (row rows w) + 1) + 1

-- those for the wishes ws of a boat, and to leave the boat
abbrev work : Rows → ℕ → List ℕ → ℕ
work rows j ws = sum_by (cost rows j) ws + 1

abbrev work_roots : Rows → ℕ → ℕ → ℕ → ℕ
work_roots rows k i zero = 0
work_roots rows k i (suc m) = (work rows (k - 1) (row rows i) + 1) + work_roots rows k (i + 1) m

abbrev work_frames : Rows → ℕ → List Frame → ℕ
work_frames rows k [] = 0
work_frames rows k (f ∷ p) = work rows (k - 1 - length p) (drop f.place (row rows f.boat)) + work_frames rows k p

-- no search from st takes more steps
abbrev pub work_left : Rows → ℕ → State → ℕ
work_left rows k st =
    work_frames rows k st.path + work_roots rows k (later st st.path) (length rows - later st st.path)

cost_some : (rows : Rows) (j w : ℕ) → 0 < cost rows j w
cost_some rows zero w = omega arith
cost_some rows (suc j) w = omega arith

work_pull : (rows : Rows) (j : ℕ) (ws : List ℕ) (i : ℕ) → i < length ws →
    work rows j (drop i ws) ≡ cost rows j (get_or ws i 0) + work rows j (drop (i + 1) ws)
work_pull rows j ws i h = omega (arith, sum_by-drop_more (cost rows j) ws i 0 h)

module _ (rows : Rows) (k : ℕ) where
  abbrev left : State → ℕ
  left st = work_left rows k st

  roots_pull : (i : ℕ) → i < length rows →
      work_roots rows k i (length rows - i)
      ≡ (work rows (k - 1 - 0) (row rows i) + 1) + work_roots rows k (i + 1) (length rows - (i + 1))
  roots_pull i h =
      let e : length rows - i ≡ suc (length rows - (i + 1)) = omega arith in
      let z : k - 1 - 0 ≡ k - 1 = omega arith in
      rw (e, z) refl

  root_falls : (s : ℕ) (locks : List ℕ) (waiters : Waiters) (e : ℕ) →
      Falls left (at s [] locks waiters e) (step rows k (at s [] locks waiters e))
  root_falls s locks waiters e = grind (arith, nat_tests, roots_pull s)

  -- a boat that may be entered is worth what its own wishes are
  cost_room : (d w : ℕ) → d + 1 < k → cost rows (k - 1 - d) w ≡ work rows (k - 1 - (d + 1)) (row rows w) + 1
  cost_room d w room = let e : k - 1 - d ≡ suc (k - 1 - (d + 1)) = omega arith in rw e refl

  module _ (s : ℕ) (f : Frame) (p : List Frame) (locks : List ℕ) (waiters : Waiters) (e : ℕ) where
    abbrev st : State
    st = at s (f ∷ p) locks waiters e

    wish_falls : f.place < length (row rows f.boat) → (b c : Bool) → may_enter k s locks (length (f ∷ p)) (wish rows f) ≡ c →
        Falls left st (on_wish b c st f p (wish rows f))
    wish_falls l b c ec =
        let j : ℕ = k - 1 - length p in
        grind (arith, nat_tests, cost_some rows j, work_pull rows j (row rows f.boat) f.place, cost_room (length p))

    used_falls : length (row rows f.boat) ≤ f.place → (b : Bool) → Falls left st (Silent (used_up b rows st f p))
    used_falls l b = grind (arith, drop_all f.place (row rows f.boat))

    path_falls : (b : Bool) → has_wish rows f ≡ b → Falls left st (on_path b rows k st f p)
    path_falls b t = grind (arith, nat_tests, wish_falls, used_falls)

  at_falls : (s : ℕ) (p : List Frame) (locks : List ℕ) (waiters : Waiters) (e : ℕ) →
      Falls left (at s p locks waiters e) (step rows k (at s p locks waiters e))
  at_falls s [] locks waiters e = root_falls s locks waiters e
  at_falls s (f ∷ p) locks waiters e = path_falls s f p locks waiters e (has_wish rows f) refl

pub step_falls : (rows : Rows) (k : ℕ) (st : State) → Falls (work_left rows k) st (step rows k st)
step_falls rows k st = at_falls rows k st.root st.path st.locks st.waiters st.entries

pub ends : Ends
ends rows k = (work_left rows k, step_falls rows k)
