-- Runs of the rule: they join, and from each state there is one to the end.
-- Assumes nothing.
use Rattle.std.proofs.Common.{◌≡◌, ℕ, zero, suc, ◌<◌, List, [], ◌∷◌, ◌++◌, sym, refl, ap, ◌∙◌, subst, arith, rules}
use Rattle.exchange.specs.Rows.{Rows}
use Rattle.theory.specs.Search.{State, Outcome, Ended, Silent, Found, step}
use Rattle.theory.specs.Runs.{Run, stays, goes, finds, Hands}
use Rattle.theory.specs.Theorems.{After, Falls, Settled, Stepwise}
use Rattle.theory.proofs.Work.{work_left, step_falls}

module _ (rows : Rows) (k : ℕ) where
  joined : {st to last : State} {done rest : List (List ℕ)} → Run rows k st done to → Run rows k to rest last →
      Run rows k st (done ++ rest) last
  joined stays b = b
  joined (goes e a) b = goes e (joined a b)
  joined (finds e a) b = finds e (joined a b)

  -- rings found on the way, and then those that are handed out from there
  pub hands_after : {st to : State} {done rest : List (List ℕ)} → Run rows k st done to → Hands rows k to rest →
      Hands rows k st (done ++ rest)
  hands_after a h = record { last = h.last; run = joined a h.run; ended = h.ended }

  -- what a step makes of what remains, and back
  after : (st : State) (l : List (List ℕ)) (o : Outcome) → step rows k st ≡ o → Hands rows k st l → After rows k l o
  after st l o e h = search rules

  pub before : (st : State) (l : List (List ℕ)) (o : Outcome) → step rows k st ≡ o → After rows k l o → Hands rows k st l
  before st l Ended e h = record { last = st; run = subst (λ m. Run rows k st m st) (sym h) stays; ended = e }
  before st l (Silent st') e h = record { last = h.last; run = goes e h.run; ended = h.ended }
  before st l (Found r st') e h =
      let on = h.2 in
      record { last = on.last; run = subst (λ m. Run rows k st m on.last) (sym h.1) (finds e on.run); ended = on.ended }

  -- from each state a list is handed out
  some_after : (st : State) (o : Outcome) → Falls (work_left rows k) st o →
      ((st' : State) → work_left rows k st' < work_left rows k st → (l : List (List ℕ)) × Hands rows k st' l) →
      (l : List (List ℕ)) × After rows k l o
  some_after st Ended f on = ([], refl)
  some_after st (Silent st') f on = on st' f
  some_after st (Found r st') f on = let h = on st' f in (r ∷ h.0, (h.0, refl, h.1))

  some : (fuel : ℕ) (st : State) → work_left rows k st < fuel → (l : List (List ℕ)) × Hands rows k st l
  some zero st n = absurd (omega arith)
  some (suc fuel) st n =
      let a = some_after st (step rows k st) (step_falls rows k st) (λ st' less. some fuel st' (omega arith)) in
      (a.0, before st a.0 (step rows k st) refl a.1)

  -- and no other
  one : {st last : State} {l : List (List ℕ)} → Run rows k st l last → step rows k last ≡ Ended →
      (m : List (List ℕ)) → Hands rows k st m → m ≡ l
  one stays e m h = after _ m Ended e h
  one (goes {st' = st'} g run) e m h = one run e m (after _ m (Silent st') g h)
  one (finds {st' = st'} {r = r} g run) e m h =
      let a = after _ m (Found r st') g h in a.1 ∙ ap (λ l. r ∷ l) (one run e a.0 a.2)

pub stepwise : Stepwise
stepwise rows k st l h = after rows k st l (step rows k st) refl h

pub settled : Settled
settled rows k st =
    let h = some rows k (suc (work_left rows k st)) st (omega arith) in
    (h.0, h.1, one rows k h.1.run h.1.ended)
