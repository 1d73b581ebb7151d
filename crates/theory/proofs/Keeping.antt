-- The invariant is kept as boats are entered, move on and leave.
-- Assumes nothing.
use Rattle.std.proofs.Common.{◌≡◌, ℕ, ◌+◌, ◌<◌, ◌≤◌, true, false, List, [], ◌∷◌, length, get_or, take, set, refl, ◌∙◌, subst, inr, arith, rules, length-set}
use Rattle.std.proofs.lemmas.List.{get_or-set_same, get_or-set_other, length-replicate, take_all, take_more}
use Rattle.std.proofs.lemmas.Bool.{cases_eq, both_ways}
use Rattle.exchange.specs.Rows.{Rows, row, ◌∈◌, WellFormed}
use Rattle.theory.specs.Search.{Waiters, Frame, boats, lock, free, all_free, no_waiters, opening, release, wait_each, wish, moved, marked, entered}
use Rattle.theory.proofs.Lists.{in_cases, get_or-all}
use Rattle.theory.proofs.Remaining.{at}
use Rattle.theory.proofs.Release.{finite, deep_enough}
use Rattle.theory.proofs.Closure.{left, stays}
use Rattle.theory.proofs.Invariant.{Depths, LeadsNowhere, Passed, Seen, Blocked, Wide, Inv}
use Rattle.theory.proofs.Waiting.{wait_keeps, waited, none_wide}
use Rattle.theory.proofs.Blocking.{depth_below, depths_kept, locked_in, blocked_enter}

module _ (rows : Rows) (k : ℕ) (wf : WellFormed rows) (most : k ≤ 16) where
  pub in_row : (v w : ℕ) → w ∈ row rows v → w < 256
  in_row v w h = omega (arith, wf.few, wf.below v w h)

  -- no path: at the opening, and when a root has left
  pub inv_none : (s e : ℕ) → Inv rows k (at s [] all_free no_waiters e)
  inv_none s e =
      record {
        long = length-replicate 256 free;
        wide = none_wide;
        short = omega arith;
        depths = tt;
        seen = tt;
        blocked = λ v n h w i. let a = get_or-all 256 v free in absurd (omega arith);
      }

  pub inv_opening : Inv rows k opening
  inv_opening = inv_none 0 0

  -- v is entered behind p, at a depth that is not above its lock
  pub inv_entered : (s : ℕ) (p : List Frame) (locks : List ℕ) (waiters : Waiters) (e v : ℕ) →
      v < 256 → length p ≤ lock locks v → length p < k → length locks ≡ 256 → Wide waiters → Depths locks p →
      Seen rows k s (set locks v (length p)) p → Blocked rows k s locks waiters p →
      Inv rows k (at s (entered v ∷ p) (set locks v (length p)) waiters e)
  inv_entered s p locks waiters e v small low room long wide depths seen blocked =
      let off : ¬ (v ∈ boats p) = λ m. let d = depth_below locks p depths v m in omega arith in
      record {
        long = length-set locks v (length p) ∙ long;
        wide = wide;
        short = omega arith;
        depths = (
          get_or-set_same locks v (length p) free (omega arith),
          depths_kept locks (set locks v (length p)) p
              (λ x m. get_or-set_other locks v x (length p) free (λ z. off (subst (λ y. y ∈ boats p) z m))) depths,
        );
        seen = λ f. (λ w i. absurd i, seen);
        blocked = blocked_enter rows k s locks waiters p (entered v) (length p) low blocked;
      }

  -- one wish more that leads to no ring
  pub passed_more : (s d : ℕ) (locks ws : List ℕ) (i : ℕ) → i < length ws → Passed k s locks d (take i ws) →
      LeadsNowhere k s locks d (get_or ws i 0) → Passed k s locks d (take (i + 1) ws)
  passed_more s d locks ws i l h g w m =
      let c = in_cases w (take i ws) (get_or ws i 0 ∷ []) (subst (λ z. w ∈ z) (take_more ws i 0 l) m) in grind (arith, h w)

  module _ (s : ℕ) (f : Frame) (p : List Frame) (locks : List ℕ) (waiters : Waiters) (e : ℕ)
      (h : Inv rows k (at s (f ∷ p) locks waiters e)) where
    -- the wish of the last boat is the root
    pub inv_found : Inv rows k (at s (marked (moved f) ∷ p) locks waiters e)
    inv_found = search rules

    -- the wish of the last boat is passed by
    pub inv_passed : f.place < length (row rows f.boat) → LeadsNowhere k s locks (length (f ∷ p)) (wish rows f) →
        Inv rows k (at s (moved f ∷ p) locks waiters e)
    inv_passed l g =
        let seen : Seen rows k s locks (moved f ∷ p) =
        λ q. (passed_more s (length (f ∷ p)) locks (row rows f.boat) f.place l (h.seen q).0 g, (h.seen q).1) in
        search rules

    -- the last boat leaves and becomes a waiter
    pub inv_waits : f.found ≡ false → length (row rows f.boat) ≤ f.place →
        Inv rows k (at s p locks (wait_each s f.boat (row rows f.boat) waiters) e)
    inv_waits unfound l =
        let v : ℕ = f.boat in
        let ws : List ℕ = row rows v in
        let small : v < length locks = locked_in locks v (omega arith) in
        let seen : Passed k s locks (length (f ∷ p)) ws =
        subst (λ y. Passed k s locks (length (f ∷ p)) y) (take_all f.place ws l) (h.seen unfound).0 in
        let r = waited s v ws waiters (in_row v) (omega arith) h.wide in
        record {
          long = h.long;
          wide = r.wide;
          short = omega arith;
          depths = h.depths.1;
          seen = (h.seen unfound).1;
          blocked = λ u off low w i. grind (arith, seen w, h.blocked u, r.does w, wait_keeps s v ws waiters w u, cases_eq u v);
        }

  -- the last boat leaves and is released; g is the boat before it
  pub inv_released : (s : ℕ) (f g : Frame) (p : List Frame) (locks : List ℕ) (waiters : Waiters) (e : ℕ) →
      Inv rows k (at s (f ∷ g ∷ p) locks waiters e) →
      Inv rows k (at s (marked g ∷ p) (release waiters (boats (f ∷ g ∷ p)) f.boat locks) waiters e)
  inv_released s f g p locks waiters e h =
      let v : ℕ = f.boat in
      let o : List ℕ = boats (f ∷ g ∷ p) in
      let m : List ℕ = release waiters o v locks in
      let deep : finite (set locks v free) ≤ 256 = deep_enough locks v (omega arith) in
      let r = left waiters o v locks 256 in
      record {
        long = r.freed.long ∙ h.long;
        wide = h.wide;
        short = omega arith;
        depths = depths_kept locks m (g ∷ p)
            (λ x i.
            let a = depth_below locks (g ∷ p) h.depths.1 x i in stays waiters o v locks 256 x (inr i) (λ z. grind arith))
            h.depths.1;
        seen = λ q. absurd (both_ways true q refl);
        blocked = λ u off low w i. grind (arith, h.blocked u, r.freed.only u, r.freed.only w, r.freed.closed deep w);
      }
