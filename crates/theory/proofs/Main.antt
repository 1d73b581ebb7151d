-- From its opening the search hands out the full list.
-- Assumes nothing.
use Rattle.std.proofs.Common.{◌≡◌, ℕ, zero, suc, ◌-◌, ◌<◌, ◌≤◌, List, ◌∷◌, ◌++◌, length, sym, refl, ◌∙◌, subst, inl, arith}
use Rattle.exchange.specs.Rows.{Rows, WellFormed}
use Rattle.theory.specs.Rings.{FullList}
use Rattle.theory.specs.Search.{State, Outcome, Ended, Silent, Found, opening, step}
use Rattle.theory.specs.Runs.{Hands}
use Rattle.theory.specs.Theorems.{After, Falls, OneFullList, Complete, Midway, Sound}
use Rattle.theory.proofs.Lists.{in_right}
use Rattle.theory.proofs.Unique.{unique}
use Rattle.theory.proofs.Remaining.{from_roots, remaining}
use Rattle.theory.proofs.Plain.{full}
use Rattle.theory.proofs.Invariant.{Inv, Good}
use Rattle.theory.proofs.Keeping.{inv_opening}
use Rattle.theory.proofs.Steps.{step_good}
use Rattle.theory.proofs.Work.{work_left, step_falls}
use Rattle.theory.proofs.Runs.{before, hands_after, settled}

module _ (rows : Rows) (k : ℕ) (wf : WellFormed rows) (two : 2 ≤ k) (most : k ≤ 16) where
  remains_after : (st : State) (o : Outcome) → Good rows k st o → Falls (work_left rows k) st o →
      ((st' : State) → work_left rows k st' < work_left rows k st → Inv rows k st' → Hands rows k st' (remaining rows k st')) →
      After rows k (remaining rows k st) o
  remains_after st Ended g f on = g
  remains_after st (Silent st') g f on = subst (λ l. Hands rows k st' l) (sym g.1) (on st' f g.0)
  remains_after st (Found r st') g f on = (remaining rows k st', g.1, on st' f g.0)

  -- what remains is what is handed out
  hands_remaining : (fuel : ℕ) (st : State) → work_left rows k st < fuel → Inv rows k st → Hands rows k st (remaining rows k st)
  hands_remaining zero st n h = absurd (omega arith)
  hands_remaining (suc fuel) st n h =
      before rows k st (remaining rows k st) (step rows k st) refl
      (remains_after st (step rows k st) (step_good rows k wf two most st h) (step_falls rows k st)
      (λ st' less i. hands_remaining fuel st' (omega arith) i))

  -- at the opening the full list remains
  full_remaining : FullList rows k (remaining rows k opening)
  full_remaining =
      let e : length rows ≡ length rows - 0 = omega arith in
      subst (λ m. FullList rows k (from_roots rows k 0 m)) e (full rows k wf two most)

  hands_opening : Hands rows k opening (remaining rows k opening)
  hands_opening = hands_remaining (suc (work_left rows k opening)) opening (omega arith) (inv_opening rows k wf most)

pub one_full_list : OneFullList
one_full_list rows k wf two most =
    let l : List (List ℕ) = remaining rows k opening in
    let f : FullList rows k l = full_remaining rows k wf two most in
    (l, f, λ m g. unique rows k wf m l g f)

pub complete : Complete
complete rows k wf two most l =
    let f : FullList rows k (remaining rows k opening) = full_remaining rows k wf two most in
    let h : Hands rows k opening (remaining rows k opening) = hands_opening rows k wf two most in (
      λ g. subst (λ m. Hands rows k opening m) (unique rows k wf (remaining rows k opening) l f g) h,
      λ g. let s = settled rows k opening in subst (λ m. FullList rows k m) (s.2 (remaining rows k opening) h ∙ sym (s.2 l g)) f,
    )

pub midway : Midway
midway rows k wf two most done rest st run h = (complete rows k wf two most (done ++ rest)).1 (hands_after rows k run h)

pub sound : Sound
sound rows k wf two most done st st' r run e =
    let rest = settled rows k st' in
    let h : Hands rows k st (r ∷ rest.0) = before rows k st (r ∷ rest.0) (Found r st') e (rest.0, refl, rest.1) in
    (midway rows k wf two most done (r ∷ rest.0) st run h).only r (in_right r done (r ∷ rest.0) (inl refl))
