-- There is one full list only, and each ring stands in it once.
-- Assumes nothing.
use Rattle.std.proofs.Common.{◌≡◌, ℕ, ◌⊎◌, List, [], ◌∷◌, ◌++◌, get_or, refl, subst, inl, inr, arith}
use Rattle.std.proofs.lemmas.Grind.{common_steps}
use Rattle.exchange.specs.Rows.{Rows, row, ◌∈◌, WellFormed}
use Rattle.theory.specs.Rings.{Earlier, Sorted, first, next, Parts, Before, FullList}
use Rattle.theory.specs.Theorems.{EachOnce}
use Rattle.theory.proofs.Lists.{all_in, earlier_asym, sorted_places}

abbrev rest_of : List ℕ → List ℕ
rest_of [] = []
rest_of (s ∷ t) = t

-- of the rests t and u of two rings behind v: the first step that differs stands earlier for t
abbrev Lesser : Rows → ℕ → ℕ → List ℕ → List ℕ → Type 0
Lesser rows s v [] u = Earlier (row rows v) s (next s u)
Lesser rows s v (w ∷ t) [] = Earlier (row rows v) w s
Lesser rows s v (w ∷ t) (x ∷ u) = Earlier (row rows v) w x ⊎ ((w ≡ x) × Lesser rows s w t u)

module _ (rows : Rows) where
  lesser_here : (s v : ℕ) (t u : List ℕ) → Earlier (row rows v) (next s t) (next s u) → Lesser rows s v t u
  lesser_here s v [] u h = h
  lesser_here s v (w ∷ t) [] h = h
  lesser_here s v (w ∷ t) (x ∷ u) h = inl h

  lesser_behind : (s c v : ℕ) (b t u : List ℕ) → Earlier (row rows v) (next s t) (next s u) →
      Lesser rows s c (b ++ v ∷ t) (b ++ v ∷ u)
  lesser_behind s c v [] t u h = inr (refl, lesser_here s v t u h)
  lesser_behind s c v (d ∷ b) t u h = inr (refl, lesser_behind s d v b t u h)

  -- behind the first boat, which both rings have
  lesser_first : (b : List ℕ) (v : ℕ) (t u : List ℕ) →
      Earlier (row rows v) (next (first (b ++ v ∷ t)) t) (next (first (b ++ v ∷ t)) u) →
      Lesser rows (first (b ++ v ∷ t)) (first (b ++ v ∷ t)) (rest_of (b ++ v ∷ t)) (rest_of (b ++ v ∷ u))
  lesser_first [] v t u h = lesser_here v v t u h
  lesser_first (c ∷ b) v t u h = lesser_behind c c v b t u h

  lesser_of : (r q : List ℕ) → Parts rows r q → Lesser rows (first r) (first r) (rest_of r) (rest_of q)
  lesser_of r q h =
      let e = subst (λ z. Earlier (row rows h.v) (next (first z) h.t) (next (first z) h.u)) h.r_is h.earlier in
      rw (h.r_is, h.q_is) (lesser_first h.beginning h.v h.t h.u e)

  parts_first : (r q : List ℕ) → Parts rows r q → first r ≡ first q
  parts_first r q h = grind (arith, common_steps)

  module _ (wf : WellFormed rows) where
    asym : (v a b : ℕ) → Earlier (row rows v) a b → Earlier (row rows v) b a → ⊥
    asym v a b = earlier_asym [] (row rows v) a b (wf.once v)

    lesser_asym : (s v : ℕ) (t u : List ℕ) → Lesser rows s v t u → Lesser rows s v u t → ⊥
    lesser_asym s v [] [] h k = asym v s s h k
    lesser_asym s v [] (x ∷ u) h k = asym v s x h k
    lesser_asym s v (w ∷ t) [] h k = asym v w s h k
    lesser_asym s v (w ∷ t) (x ∷ u) h k = grind (arith, asym v, lesser_asym s w t u)

    parts_asym : (r q : List ℕ) → Parts rows r q → Parts rows q r → ⊥
    parts_asym r q h k =
        lesser_asym (first r) (first r) (rest_of r) (rest_of q) (lesser_of r q h)
        (subst (λ z. Lesser rows z z (rest_of q) (rest_of r)) (parts_first q r k) (lesser_of q r k))

    before_asym : (r q : List ℕ) → Before rows r q → Before rows q r → ⊥
    before_asym r q (inl h) (inl k) = omega arith
    before_asym r q (inl h) (inr k) = omega (arith, parts_first q r k)
    before_asym r q (inr h) (inl k) = omega (arith, parts_first r q h)
    before_asym r q (inr h) (inr k) = parts_asym r q h k

sorted_same : {A : Type 0} (R : A → A → Type 0) → ((x y : A) → R x y → R y x → ⊥) → (xs ys : List A) → Sorted R xs → Sorted R ys →
    ((x : A) → x ∈ xs → x ∈ ys) → ((x : A) → x ∈ ys → x ∈ xs) → xs ≡ ys
sorted_same R no_two [] [] a b f g = refl
sorted_same R no_two [] (y ∷ ys) a b f g = absurd (g y (inl refl))
sorted_same R no_two (x ∷ xs) [] a b f g = absurd (f x (inl refl))
sorted_same {A} R no_two (x ∷ xs) (y ∷ ys) a b f g =
    let later_x : (z : A) → z ∈ xs → R x z = λ z. all_in (R x) xs z a.0 in
    let later_y : (z : A) → z ∈ ys → R y z = λ z. all_in (R y) ys z b.0 in
    let e : x ≡ y = grind (arith, f x (inl refl), g y (inl refl), later_x y, later_y x, no_two x y) in
    let same : xs ≡ ys =
    sorted_same R no_two xs ys a.1 b.1
    (λ z m. grind (arith, f z (inr m), later_x z m, no_two x z, e))
    (λ z m. grind (arith, g z (inr m), later_y z m, no_two y z, e)) in
    cc

pub unique : (rows : Rows) (k : ℕ) → WellFormed rows → (l m : List (List ℕ)) → FullList rows k l → FullList rows k m → l ≡ m
unique rows k wf l m f g =
    sorted_same (Before rows) (before_asym rows wf) l m f.sorted g.sorted
    (λ r h. g.each r (f.only r h)) (λ r h. f.each r (g.only r h))

pub each_once : EachOnce
each_once rows k wf l f i j h n e =
    let itself : Before rows (get_or l j []) (get_or l j []) =
    subst (λ r. Before rows r (get_or l j [])) e (sorted_places (Before rows) l [] f.sorted i j h n) in
    before_asym rows wf (get_or l j []) (get_or l j []) itself itself
