-- What becoming a waiter leaves.
-- Assumes nothing.
use Rattle.std.proofs.Common.{◌≡◌, ℕ, ◌<◌, ◌≤◌, Bool, true, false, leb, List, [], ◌∷◌, length, replicate, refl, inl, inr, arith, rules, length-set}
use Rattle.std.proofs.lemmas.List.{get_or-set_same, length-replicate}
use Rattle.std.proofs.lemmas.List.Elements.{All-set, All-replicate}
use Rattle.std.proofs.lemmas.Bool.{le-leb}
use Rattle.exchange.specs.Rows.{◌∈◌}
use Rattle.theory.specs.Search.{Waiters, waits, wait_one, wait_each, no_waiters}
use Rattle.theory.proofs.Lists.{set_cases}
use Rattle.theory.proofs.Invariant.{Wide}

-- with the waiters `new`, v waits for each of the boats ws that is not below the root s
pub record Waits (s v : ℕ) (ws : List ℕ) (new : Waiters) : Type 0 where
  pub wide : Wide new
  pub does : (w : ℕ) → w ∈ ws → s ≤ w → waits new w v ≡ true

one_keeps : (b : Bool) (v x : ℕ) (waiters : Waiters) (w u : ℕ) → waits waiters w u ≡ true →
    waits (wait_one b v x waiters) w u ≡ true
one_keeps false v x waiters w u e = e
one_keeps true v x waiters w u e = grind (arith, set_cases {A = Bool}, set_cases {A = List Bool})

-- none is lost
pub wait_keeps : (s v : ℕ) (ws : List ℕ) (waiters : Waiters) (w u : ℕ) → waits waiters w u ≡ true →
    waits (wait_each s v ws waiters) w u ≡ true
wait_keeps s v [] waiters w u e = e
wait_keeps s v (x ∷ ws) waiters w u e = wait_keeps s v ws _ w u (one_keeps (leb s x) v x waiters w u e)

one_wide : (b : Bool) (v x : ℕ) (waiters : Waiters) → x < 256 → Wide waiters → Wide (wait_one b v x waiters)
one_wide false v x waiters l h = h
one_wide true v x waiters l h = search (rules, length-set, All-set)

one_does : (v x : ℕ) (waiters : Waiters) → x < 256 → v < 256 → Wide waiters → waits (wait_one true v x waiters) x v ≡ true
one_does v x waiters l n h = grind (arith, get_or-set_same, h.1 x [])

pub wait_wide : (s v : ℕ) (ws : List ℕ) (waiters : Waiters) → ((w : ℕ) → w ∈ ws → w < 256) → Wide waiters →
    Wide (wait_each s v ws waiters)
wait_wide s v [] waiters l h = h
wait_wide s v (x ∷ ws) waiters l h = wait_wide s v ws _ (λ w k. l w (inr k)) (one_wide (leb s x) v x waiters (l x (inl refl)) h)

pub waited : (s v : ℕ) (ws : List ℕ) (waiters : Waiters) → ((w : ℕ) → w ∈ ws → w < 256) → v < 256 → Wide waiters →
    Waits s v ws (wait_each s v ws waiters)
waited s v [] waiters l n h = record { wide = h; does = λ w m. absurd m }
waited s v (x ∷ ws) waiters l n h =
    let small : x < 256 = l x (inl refl) in
    let one = wait_one (leb s x) v x waiters in
    let r = waited s v ws one (λ y k. l y (inr k)) n (one_wide (leb s x) v x waiters small h) in
    record {
      wide = wait_wide s v (x ∷ ws) waiters l h;
      does = λ w. elim [
        | inl e ↦ (λ a. rw e (wait_keeps s v ws one x v (rw (le-leb s x (omega arith)) (one_does v x waiters small n h))))
        | inr m ↦ r.does w m
      ];
    }

pub none_wide : Wide no_waiters
none_wide = (
  length-replicate 256 (replicate 256 false),
  All-replicate (λ marks. length marks ≡ 256) 256 (replicate 256 false) (length-replicate 256 false),
)
