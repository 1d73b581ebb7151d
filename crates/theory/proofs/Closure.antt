-- A release frees what is reached through waiters off the path and locked, and nothing else.
-- Assumes nothing.
use Rattle.std.proofs.Common.{◌≡◌, ℕ, ◌≤◌, ◌⊎◌, ◌≢◌, List, set, sym, ◌∙◌, subst, inl, inr, ⊎_elim, arith}
use Rattle.std.proofs.lemmas.List.{ext_get_or}
use Rattle.std.proofs.lemmas.Bool.{cases_eq}
use Rattle.exchange.specs.Rows.{◌∈◌}
use Rattle.theory.specs.Search.{Waiters, free, lock, release_within}
use Rattle.theory.specs.Releases.{here, then, Frees}
use Rattle.theory.specs.Theorems.{Releases}
use Rattle.theory.proofs.Release.{finite, deep_enough, Near, Onward, Released, released}

module _ (waiters : Waiters) (path : List ℕ) (v : ℕ) (l : List ℕ) (depth : ℕ) where
  abbrev m : List ℕ
  m = release_within depth waiters path v l

  pub left : Released waiters path l v (finite (set l v free) ≤ depth) v l m
  left = released waiters path l v depth v l here (λ w h. h)

  -- a boat on the path keeps its lock, but for v
  pub stays : (w : ℕ) → w ∈ path → w ≢ v → lock m w ≡ lock l w
  stays w i n = let a = left.freed.only w in grind arith

  -- at each depth from the number of finite locks on: none of them gives another result
  module _ (deep : finite (set l v free) ≤ depth) where
    onward : {w : ℕ} → Near waiters path l v w → Onward waiters path l v m w
    onward here = left.onward deep
    onward (then {x = x} w c e off low) = left.freed.closed deep w low (onward c w e off)

    freed : {w : ℕ} → Near waiters path l v w → lock m w ≡ free
    freed here = left.self
    freed (then w c e off low) = let up = onward c w e off in let a = left.freed.only w in grind arith

    pub frees : Frees waiters path v l m
    frees =
        record {
          long = left.freed.long;
          freed = λ w c. freed c;
          kept = λ w n. let a = left.freed.only w in grind arith;
        }

    -- a boat other than v that is reached was locked, so that the locks tell whether it was
    near_or_not : (w : ℕ) → Near waiters path l v w ⊎ (¬ Near waiters path l v w)
    near_or_not w =
        ⊎_elim (λ e. inl (subst (Near waiters path l v) (sym e) here))
        (λ n. ⊎_elim (λ a. inr (λ c. let now = freed c in grind arith)) (λ a. inl a.1) (left.freed.only w))
        (cases_eq w v)

    pub frees_one : (o : List ℕ) → Frees waiters path v l o → o ≡ m
    frees_one o a =
        ext_get_or free o m (a.long ∙ sym frees.long)
        (λ w h. ⊎_elim (λ c. a.freed w c ∙ sym (freed c)) (λ c. a.kept w c ∙ sym (frees.kept w c)) (near_or_not w))

pub releases : Releases
releases waiters path v l long =
    let deep = deep_enough l v long in
    (frees waiters path v l 256 deep, frees_one waiters path v l 256 deep)
