-- The first fault along the places of a list.
-- Assumes nothing.
use Rattle.std.proofs.Common.{◌≡◌, ℕ, zero, suc, ◌+◌, ◌-◌, ◌<◌, ◌≤◌, map, Some, None, Ok, Err, Option, Result, refl, sym, arith}
use Rattle.std.specs.Fn.{Called}
use Rattle.std.specs.Iterator.Runs.{SomeRun, EachRunFrom, IsTryForEachRun, ItemsCountUp}
use Rattle.std.specs.List.{range_with_len}
use Rattle.std.specs.Result.{result_err, result_from_control_flow, IsErr, IsErrAnd}
use Rattle.exchange.specs.declared.fault.Fault.{Fault}
use Rattle.exchange.specs.Checks.{first_of}
use denote.Param.Members.{Mut}

-- what a check answers
abbrev Answer : Type 0
Answer = Result (Unit {0}) Fault

module _ (t : ℕ → Option Fault) where
  -- where none of the places has a fault, the one at j has none
  pub none_at : (i n j : ℕ) → first_of (map t (range_with_len i n)) ≡ None → i ≤ j → j < i + n → t j ≡ None
  none_at i zero j e l h = absurd (omega arith)
  none_at i (suc n) j e l h = grind (arith, none_at (i + 1) n j)

  none_from : (i n : ℕ) → ((k : ℕ) → i ≤ k → k < i + n → t k ≡ None) → first_of (map t (range_with_len i n)) ≡ None
  none_from i zero h = refl
  none_from i (suc n) h =
      let rest = none_from (i + 1) n (λ k l m. h k (omega arith) (omega arith)) in
      grind (arith, h i, rest)

  found_from : (i n u : ℕ) (f : Fault) → i ≤ u → u < i + n → ((k : ℕ) → i ≤ k → k < u → t k ≡ None) → t u ≡ Some f
      → first_of (map t (range_with_len i n)) ≡ Some f
  found_from i zero u f l m h e = absurd (omega arith)
  found_from i (suc n) u f l m h e =
      let rest = λ (q : i < u). found_from (i + 1) n u f (omega arith) (omega arith) (λ k a b. h k (omega arith) b) e in
      grind (arith, h i (omega arith), rest)

  -- where none of n places has a fault, there is none
  pub none_first : (n : ℕ) → ((k : ℕ) → k < n → t k ≡ None) → first_of (map t (range_with_len 0 n)) ≡ None
  none_first n h = none_from 0 n (λ k l m. h k (omega arith))

  -- the first of the faults is the one before which there is none
  pub found_first : (n u : ℕ) (f : Fault) → u < n → ((k : ℕ) → k < u → t k ≡ None) → t u ≡ Some f
      → first_of (map t (range_with_len 0 n)) ≡ Some f
  found_first n u f l h e = found_from 0 n u f (omega arith) (omega arith) (λ k a b. h k b) e

  -- where each call tells the fault of its number, `try_for_each` over the numbers below n tells the first of the faults
  pub first_told : {S F : Type 0} {steps : S → Option ℕ → S → Type 0} {g : Mut F (ℕ × Unit {0}) Answer} (n : ℕ) (s : S) (f : F) (r : Answer)
      → SomeRun steps s (λ p. IsTryForEachRun p g f (λ v c. v ≡ result_from_control_flow c) (λ e v. IsErr v × IsErrAnd v (λ y. y ≡ e.0)) r)
      → EachRunFrom steps s (λ p. ItemsCountUp p 0 n)
      → ((k : ℕ) (v : Answer) (h : F) → Called g f (k, tt) v h → (h ≡ f) × (result_err v ≡ t k))
      → result_err r ≡ first_of (map t (range_with_len 0 n))
  first_told n s f (Ok x) (p, from, ran) counts calls =
      let up = counts p p.seen from in
      sym (none_first n (λ k l. grind (arith, ran, up, up.3 k, calls)))
  first_told n s f (Err e) (p, from, ran) counts calls =
      let up = counts p p.seen from in
      let before : (k : ℕ) → k < p.len - 1 → t k ≡ None = λ k l. grind (arith, ran, up, up.3 k, calls) in
      sym (found_first n (p.len - 1) e (grind (arith, ran, up)) before (grind (arith, ran, up, up.3 (p.len - 1), calls)))
