-- Each step of the rule keeps the invariant, and does to what remains what it should.
-- Assumes nothing.
use Rattle.std.proofs.Common.{◌≡◌, ℕ, ◌+◌, ◌-◌, ◌<◌, ◌≤◌, Bool, true, false, eqb, ltb, List, [], ◌∷◌, length, take, set, refl, arith}
use Rattle.std.proofs.lemmas.List.{get_or-set_same}
use Rattle.std.proofs.lemmas.Bool.{eqb-true, eqb-false, ltb-true, ltb-false}
use Rattle.exchange.specs.Rows.{Rows, row, ◌∈◌, WellFormed}
use Rattle.theory.specs.Search.{Waiters, Frame, State, Silent, boats, lock, free, has_wish, wish, used_up, may_enter, on_wish, on_path, on_root, step, moved}
use Rattle.theory.proofs.Lists.{in-get_or}
use Rattle.theory.proofs.Remaining.{deeper, chosen, at}
use Rattle.theory.proofs.Invariant.{Inv, Good}
use Rattle.theory.proofs.Blocking.{may, may_not, depth_below, seen_lower, passed_lower, set_lower, blocked_none}
use Rattle.theory.proofs.Progress.{remains_root, remains_ring, remains_passed, remains_entered, remains_left}
use Rattle.theory.proofs.Keeping.{in_row, inv_none, inv_entered, passed_more, inv_found, inv_passed, inv_waits, inv_released}

module _ (rows : Rows) (k : ℕ) (wf : WellFormed rows) (two : 2 ≤ k) (most : k ≤ 16) where
  root_good : (s : ℕ) (locks : List ℕ) (waiters : Waiters) (e : ℕ) → Inv rows k (at s [] locks waiters e) →
      (b : Bool) → ltb s (length rows) ≡ b → Good rows k (at s [] locks waiters e) (on_root b (at s [] locks waiters e))
  root_good s locks waiters e h true t =
      let n = ltb-true s (length rows) t in (
        inv_entered rows k wf most s [] locks waiters _ s (omega arith) (omega arith) (omega arith)
            h.long h.wide tt tt h.blocked,
        remains_root rows k s n,
      )
  root_good s locks waiters e h false t =
      let n = ltb-false s (length rows) t in
      let z : length rows - s ≡ 0 = omega arith in
      rw z refl

  module _ (s : ℕ) (f : Frame) (p : List Frame) (locks : List ℕ) (waiters : Waiters) (e : ℕ)
      (h : Inv rows k (at s (f ∷ p) locks waiters e)) where
    abbrev st : State
    st = at s (f ∷ p) locks waiters e

    abbrev ws : List ℕ
    ws = row rows f.boat

    abbrev w : ℕ
    w = wish rows f

    abbrev d : ℕ
    d = length (f ∷ p)

    wish_good : f.place < length ws → (b c : Bool) → eqb w s ≡ b → may_enter k s locks d w ≡ c →
        Good rows k st (on_wish b c st f p w)
    wish_good l true c eb ec = (inv_found rows k wf most s f p locks waiters e h, remains_ring rows k s f p l (eqb-true w s eb))
    wish_good l false true eb ec =
        let m = may k s d locks w ec in
        let off : ¬ (w ∈ boats (f ∷ p)) = λ i. let q = depth_below locks (f ∷ p) h.depths w i in omega arith in
        let small : w < 256 = in_row rows k wf most f.boat w (in-get_or ws f.place 0 l) in
        let now : lock (set locks w d) w ≡ d = get_or-set_same locks w d free (omega arith) in
        let lower : (x : ℕ) → lock (set locks w d) x ≤ lock locks x = set_lower locks w d (omega arith) in (
          inv_entered rows k wf most s (moved f ∷ p) locks waiters _ w small (omega arith) m.room
              h.long h.wide h.depths
              (λ q. (
                passed_more rows k wf most s d (set locks w d) ws f.place l
                    (passed_lower k s d locks (set locks w d) (take f.place ws) lower (h.seen q).0)
                    (eqb-false w s eb, λ x y. omega arith),
                seen_lower rows k s locks (set locks w d) p lower (h.seen q).1,
              ))
              h.blocked,
          remains_entered rows k s f p l m.above off m.room,
        )
    wish_good l false false eb ec = (
      inv_passed rows k wf most s f p locks waiters e h l (eqb-false w s eb, may_not k s d locks w ec),
      remains_passed rows k s f p l
          (chosen s (boats (f ∷ p)) w (deeper rows s (k - 1 - length p) (boats (f ∷ p)) w) (λ r. r ≡ [])
          (λ z. absurd (eqb-false w s eb z)) refl
          (λ above off.
          blocked_none rows k s locks waiters (f ∷ p) h.blocked (k - 1 - length p) (boats (f ∷ p)) w (λ x q. q) off
          (λ some. let n = may_not k s d locks w ec above (omega arith) in omega arith))),
    )

  used_good : (s : ℕ) (f : Frame) (p : List Frame) (locks : List ℕ) (waiters : Waiters) (e : ℕ) →
      Inv rows k (at s (f ∷ p) locks waiters e) → length (row rows f.boat) ≤ f.place → (b : Bool) → f.found ≡ b →
      Good rows k (at s (f ∷ p) locks waiters e) (Silent (used_up b rows (at s (f ∷ p) locks waiters e) f p))
  used_good s f [] locks waiters e h l true t = (inv_none rows k wf most (s + 1) e, remains_left rows k s f [] l)
  used_good s f (g ∷ p) locks waiters e h l true t =
      (inv_released rows k wf most s f g p locks waiters e h, remains_left rows k s f (g ∷ p) l)
  used_good s f [] locks waiters e h l false t = (inv_none rows k wf most (s + 1) e, remains_left rows k s f [] l)
  used_good s f (g ∷ p) locks waiters e h l false t =
      (inv_waits rows k wf most s f (g ∷ p) locks waiters e h t l, remains_left rows k s f (g ∷ p) l)

  path_good : (s : ℕ) (f : Frame) (p : List Frame) (locks : List ℕ) (waiters : Waiters) (e : ℕ) →
      Inv rows k (at s (f ∷ p) locks waiters e) → (b : Bool) → has_wish rows f ≡ b →
      Good rows k (at s (f ∷ p) locks waiters e) (on_path b rows k (at s (f ∷ p) locks waiters e) f p)
  path_good s f p locks waiters e h true t =
      wish_good s f p locks waiters e h (ltb-true f.place (length (row rows f.boat)) t) _ _ refl refl
  path_good s f p locks waiters e h false t =
      used_good s f p locks waiters e h (ltb-false f.place (length (row rows f.boat)) t) f.found refl

  at_good : (s : ℕ) (p : List Frame) (locks : List ℕ) (waiters : Waiters) (e : ℕ) →
      Inv rows k (at s p locks waiters e) → Good rows k (at s p locks waiters e) (step rows k (at s p locks waiters e))
  at_good s [] locks waiters e h = root_good s locks waiters e h (ltb s (length rows)) refl
  at_good s (f ∷ p) locks waiters e h = path_good s f p locks waiters e h (has_wish rows f) refl

  pub step_good : (st : State) → Inv rows k st → Good rows k st (step rows k st)
  step_good st h = at_good st.root st.path st.locks st.waiters st.entries h
