-- What a release leaves: it frees boats that are reached from the released one, with their waiters off the path.
-- Assumes nothing.
use Rattle.std.proofs.Common.{◌≡◌, ℕ, zero, suc, ◌+◌, ◌<◌, ◌≤◌, Bool, true, false, ltb, ◌≢◌, ◌⊎◌, List, [], ◌∷◌, length, get_or, set, sym, refl, ◌∙◌, subst, inl, ⊎_elim, arith, length-set}
use Rattle.std.specs.List.{count_by}
use Rattle.std.proofs.lemmas.List.{get_or-set_same, get_or-set_other, get_or_past, set_past}
use Rattle.std.proofs.lemmas.List.Sums.{sum_by-set, get_or-le-sum_by, count_by-le-length}
use Rattle.std.proofs.lemmas.Bool.{cases_eq, cases_lt}
use Rattle.std.proofs.lemmas.Bool.Decides.{nat_tests}
use Rattle.std.proofs.lemmas.Grind.{common_steps}
use Rattle.exchange.specs.Rows.{◌∈◌}
use Rattle.theory.specs.Search.{Waiters, free, lock, waits, visit, each_mark, held, release_within}
use Rattle.theory.specs.Releases.{Reached, then}
use Rattle.theory.proofs.Lists.{has_true, has_false}

-- THE NUMBER OF FINITE LOCKS

abbrev pub finite : List ℕ → ℕ
finite l = count_by (λ x. ltb x free) l

pub set_free : (l : List ℕ) (v : ℕ) → lock (set l v free) v ≡ free
set_free l v = grind (arith, get_or-set_same, get_or_past, set_past, cases_lt v (length l))

-- what is locked where v has been freed was locked before
locked_before : (l : List ℕ) (v w : ℕ) → lock (set l v free) w < free → lock l w < free
locked_before l v w h = grind (arith, set_free l v, get_or-set_other, cases_eq w v)

-- a boat that was locked is one finite lock less, and no boat is one more
finite_less : (l : List ℕ) (v : ℕ) → lock l v < free → finite (set l v free) + 1 ≡ finite l
finite_less l v h = grind (arith, nat_tests, sum_by-set, get_or_past)

finite_falls : (l : List ℕ) (v : ℕ) → finite (set l v free) ≤ finite l
finite_falls l v = grind (arith, nat_tests, sum_by-set, set_past, get_or_past, cases_lt (lock l v) free)

pub deep_enough : (l : List ℕ) (v : ℕ) → length l ≤ 256 → finite (set l v free) ≤ 256
deep_enough l v h = grind (arith, common_steps, count_by-le-length)

none_finite : (l : List ℕ) → finite l ≡ 0 → (u : ℕ) → free ≤ lock l u
none_finite l e u = grind (arith, nat_tests, get_or-le-sum_by, get_or_past, cases_lt u (length l))

-- WHAT IS FREED, as the boat r is released at the locks `base`

module _ (waiters : Waiters) (path : List ℕ) (base : List ℕ) (r : ℕ) where
  abbrev pub Near : ℕ → Type 0
  Near w = Reached waiters path base r w

  -- what is locked in l was locked
  abbrev pub Under : List ℕ → Type 0
  Under l = (w : ℕ) → lock l w < free → lock base w < free

  -- where w was freed, each of its waiters that is off the path is free
  abbrev pub Onward : List ℕ → ℕ → Type 0
  Onward m w = (u : ℕ) → waits waiters w u ≡ true → ¬ (u ∈ path) → free ≤ lock m u

  -- from the locks l to the locks m, only boats that are reached were freed, and with each, where the release goes deep enough, its
  -- waiters off the path
  pub record Freed (Deep : Type 0) (l m : List ℕ) : Type 0 where
    pub long : length m ≡ length l
    pub fewer : finite m ≤ finite l
    pub only : (w : ℕ) → (lock m w ≡ lock l w) ⊎ ((lock m w ≡ free) × Near w)
    pub closed : Deep → (w : ℕ) → lock l w < free → free ≤ lock m w → Onward m w

  -- the same where v was freed first, which may be on the path
  pub record Released (Deep : Type 0) (v : ℕ) (l m : List ℕ) : Type 0 where
    pub freed : Freed Deep l m
    pub self : lock m v ≡ free
    pub onward : Deep → Onward m v

  freed_none : (Deep : Type 0) (l : List ℕ) → Freed Deep l l
  freed_none Deep l =
      record { long = refl; fewer = omega arith; only = λ w. inl refl; closed = λ n w a b u c d. absurd (omega arith) }

  keeps_free : {Deep : Type 0} (l m : List ℕ) → Freed Deep l m → (u : ℕ) → free ≤ lock l u → free ≤ lock m u
  keeps_free l m f u e = let a = f.only u in grind arith

  under_freed : {Deep : Type 0} (l m : List ℕ) → Under l → Freed Deep l m → Under m
  under_freed l m under f w h = let a = f.only w in grind (arith, under w)

  freed_both : {Deep Next : Type 0} (l m o : List ℕ) → (Deep → Next) → Freed Deep l m → Freed Next m o → Freed Deep l o
  freed_both l m o on f g =
      record {
        long = g.long ∙ f.long;
        fewer = let a = f.fewer in let b = g.fewer in omega arith;
        only = λ w. let a = f.only w in let b = g.only w in grind arith;
        closed = λ n w a b u c d.
            ⊎_elim (λ k. g.closed (on n) w k b u c d) (λ k. keeps_free m o g u (f.closed n w a k u c d)) (cases_lt (lock m w) free);
      }

  -- what f does at the mark of w
  abbrev One : ℕ → (ℕ → List ℕ → List ℕ) → ℕ → Type 0
  One most f w =
      (l : List ℕ) → Under l →
      Freed (finite l ≤ most) l (f w l) × (finite l ≤ most → ¬ (w ∈ path) → free ≤ lock (f w l) w)

  -- what it does at all marks, from the number i on
  record Marks (Deep : Type 0) (i : ℕ) (marks : List Bool) (l m : List ℕ) : Type 0 where
    freed : Freed Deep l m
    each : Deep → (j : ℕ) → get_or marks j false ≡ true → (u : ℕ) → u ≡ i + j → ¬ (u ∈ path) → free ≤ lock m u

  marks_all : (most : ℕ) (f : ℕ → List ℕ → List ℕ) (i : ℕ) (marks : List Bool) →
      ((j : ℕ) → get_or marks j false ≡ true → (w : ℕ) → w ≡ i + j → One most f w) →
      (l : List ℕ) → Under l → Marks (finite l ≤ most) i marks l (each_mark f i marks l)
  marks_all most f i [] o l under = record { freed = freed_none (finite l ≤ most) l; each = λ n j e. grind arith }
  marks_all most f i (true ∷ marks) o l under =
      let a = o 0 refl i (omega arith) l under in
      let less = a.0.fewer in
      let r = marks_all most f (suc i) marks (λ j e w at. o (suc j) e w (omega arith)) (f i l) (under_freed l (f i l) under a.0) in
      let m : List ℕ = each_mark f (suc i) marks (f i l) in
      record {
        freed = freed_both l (f i l) m (λ n. omega arith) a.0 r.freed;
        each = λ n. elim [
          | zero ↦ (λ e u at off.
              let same : u ≡ i = omega arith in
              keeps_free (f i l) m r.freed u (rw same (a.1 n (subst (λ z. ¬ (z ∈ path)) same off))))
          | suc j ↦ (λ e u at. r.each (omega arith) j e u (omega arith))
        ];
      }
  marks_all most f i (false ∷ marks) o l under =
      let r = marks_all most f (suc i) marks (λ j e w at. o (suc j) e w (omega arith)) l under in
      record {
        freed = r.freed;
        each = λ n. elim [ zero ↦ (λ e. grind arith) | suc j ↦ (λ e u at. r.each n j e u (omega arith)) ];
      }

  not_held : (l : List ℕ) (w : ℕ) → held path l w ≡ false → ¬ (w ∈ path) → free ≤ lock l w
  not_held l w e n = grind (arith, nat_tests, has_true path w)

  is_held : (l : List ℕ) (w : ℕ) → held path l w ≡ true → ¬ (w ∈ path) × (lock l w < free)
  is_held l w e = grind (arith, nat_tests, has_false path w)

  visited : {Deep Next : Type 0} (w : ℕ) (l : List ℕ) (f : List ℕ → List ℕ) (b : Bool) → held path l w ≡ b →
      (¬ (w ∈ path) → lock l w < free → (Deep → Next) × Released Next w l (f l)) →
      Freed Deep l (visit b f l) × (Deep → ¬ (w ∈ path) → free ≤ lock (visit b f l) w)
  visited {Deep = Deep} w l f false e g = (freed_none Deep l, λ d. not_held l w e)
  visited w l f true e g =
      let h = is_held l w e in
      let r = g h.0 h.1 in
      let self = r.1.self in
      (freed_both l l (f l) r.0 (freed_none _ l) r.1.freed, λ d n. omega arith)

  first_freed : {Deep : Type 0} (v : ℕ) (l m : List ℕ) → Near v → Freed Deep (set l v free) m → (Deep → Onward m v) →
      Released Deep v l m
  first_freed v l m near f g =
      let same : (w : ℕ) → w ≢ v → lock (set l v free) w ≡ lock l w = λ w n. get_or-set_other l v w free free n in
      record {
        freed = record {
          long = f.long ∙ length-set l v free;
          fewer = let e = finite_falls l v in let a = f.fewer in omega arith;
          only = λ w. let k = f.only w in grind (arith, set_free l v, same, cases_eq w v);
          closed = λ d w a b.
              ⊎_elim (λ e. subst (λ z. Onward m z) (sym e) (g d)) (λ n. f.closed d w (rw (same w n) a) b) (cases_eq w v);
        };
        self = let k = f.only v in grind (arith, set_free l v);
        onward = g;
      }

  -- it is deep enough from the number of finite locks on
  pub released : (depth v : ℕ) (l : List ℕ) → Near v → Under l →
      Released (finite (set l v free) ≤ depth) v l (release_within depth waiters path v l)
  unfolding release_within
  released zero v l near under =
      first_freed v l (set l v free) near (freed_none _ (set l v free)) (λ n u c d. none_finite (set l v free) (omega arith) u)
  released (suc depth) v l near under =
      let o : List ℕ = set l v free in
      let on : ℕ → List ℕ → List ℕ = release_within depth waiters path in
      let a = marks_all (suc depth) (λ w now. visit (held path now w) (on w) now) 0 (get_or waiters v [])
      (λ j e w at now low.
      visited w now (on w) (held path now w) refl
      (λ off locked.
      let same : j ≡ w = omega arith in (
        λ n. let f = finite_less now w locked in omega arith,
        released depth w now (then w near (subst (λ z. waits waiters v z ≡ true) same e) off (low w locked)) low,
      )))
      o (λ w h. under w (locked_before l v w h)) in
      first_freed v l (release_within (suc depth) waiters path v l) near a.freed (λ n u c d. a.each n u c u (omega arith) d)
