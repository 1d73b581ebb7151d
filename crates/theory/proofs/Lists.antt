-- Lists: what stands in them, lists joined end to end, sorted lists.
-- Assumes nothing.
use Rattle.std.proofs.Common.{◌≡◌, ℕ, zero, suc, ◌<◌, true, false, ◌⊎◌, List, [], ◌∷◌, ◌++◌, length, get_or, set, replicate, refl, inl, inr, ⊎_elim, arith, rules}
use Rattle.std.specs.List.{AllByRecursion, flat_map}
use Rattle.std.proofs.lemmas.List.{get_or-set_same, get_or-set_other, set_past, get_or_past}
use Rattle.std.proofs.lemmas.Bool.{cases_eq, cases_lt}
use Rattle.std.proofs.lemmas.Bool.Decides.{nat_tests}
use Rattle.std.proofs.lemmas.Grind.{common_steps}
use Rattle.exchange.specs.Rows.{◌∈◌, has, Fresh}
use Rattle.theory.specs.Rings.{Earlier, Sorted}

-- WHAT STANDS IN A LIST

pub in_left : {A : Type 0} (x : A) (xs ys : List A) → x ∈ xs → x ∈ (xs ++ ys)
in_left x [] ys h = absurd h
in_left x (y ∷ xs) ys h = search (rules, in_left x xs ys)

pub in_right : {A : Type 0} (x : A) (xs ys : List A) → x ∈ ys → x ∈ (xs ++ ys)
in_right x [] ys h = h
in_right x (y ∷ xs) ys h = inr (in_right x xs ys h)

pub in_cases : {A : Type 0} (x : A) (xs ys : List A) → x ∈ (xs ++ ys) → (x ∈ xs) ⊎ (x ∈ ys)
in_cases x [] ys h = inr h
in_cases x (y ∷ xs) ys h = search (rules, in_cases x xs ys)

pub in-get_or : {A : Type 0} (xs : List A) (i : ℕ) (d : A) → i < length xs → get_or xs i d ∈ xs
in-get_or [] i d h = absurd (omega arith)
in-get_or (x ∷ xs) zero d h = inl refl
in-get_or (x ∷ xs) (suc i) d h = search (rules, in-get_or xs i d)

pub in_some : {A : Type 0} (x : A) (xs : List A) → x ∈ xs → 0 < length xs
in_some x [] h = absurd h
in_some x (y ∷ ys) h = omega arith

pub has_true : (xs : List ℕ) (x : ℕ) → has xs x ≡ true → x ∈ xs
has_true [] x e = grind arith
has_true (y ∷ ys) x e = grind (arith, nat_tests, has_true ys x)

pub has_false : (xs : List ℕ) (x : ℕ) → has xs x ≡ false → ¬ (x ∈ xs)
has_false [] x e h = h
has_false (y ∷ ys) x e h = grind (arith, nat_tests, has_false ys x)

pub all_in : {A : Type 0} (P : A → Type 0) (xs : List A) (x : A) → AllByRecursion P xs → x ∈ xs → P x
all_in P [] x a h = absurd h
all_in P (y ∷ ys) x a h = grind (arith, all_in P ys x)

all_from : {A : Type 0} (P : A → Type 0) (xs : List A) → ((x : A) → x ∈ xs → P x) → AllByRecursion P xs
all_from P [] h = tt
all_from P (y ∷ ys) h = (h y (inl refl), all_from P ys (λ x k. h x (inr k)))

all_append : {A : Type 0} (P : A → Type 0) (xs ys : List A) → AllByRecursion P xs → AllByRecursion P ys → AllByRecursion P (xs ++ ys)
all_append P [] ys a b = b
all_append P (x ∷ xs) ys a b = (a.0, all_append P xs ys a.1 b)

fresh_not : (before xs : List ℕ) (x : ℕ) → Fresh before xs → x ∈ before → ¬ (x ∈ xs)
fresh_not before [] x f b h = h
fresh_not before (y ∷ ys) x f b h = grind (arith, fresh_not (y ∷ before) ys x)

-- A LIST FOR EACH ELEMENT, END TO END

pub in_flat_map : {X A : Type 0} (f : X → List A) (ws : List X) (r : A) (w : X) → w ∈ ws → r ∈ f w → r ∈ flat_map f ws
in_flat_map f [] r w h k = absurd h
in_flat_map f (x ∷ ws) r w h k =
    grind (arith, in_left r (f x) (flat_map f ws), in_right r (f x) (flat_map f ws), in_flat_map f ws r w)

pub flat_map_in : {X A : Type 0} (f : X → List A) (ws : List X) (r : A) → r ∈ flat_map f ws → (w : X) × (w ∈ ws) × (r ∈ f w)
flat_map_in f [] r h = absurd h
flat_map_in f (w ∷ ws) r h =
    ⊎_elim (λ k. (w, inl refl, k)) (λ k. let t = flat_map_in f ws r k in (t.0, inr t.1, t.2)) (in_cases r (f w) (flat_map f ws) h)

pub flat_map_none : {X A : Type 0} (f : X → List A) (ws : List X) → ((w : X) → w ∈ ws → f w ≡ []) → flat_map f ws ≡ []
flat_map_none f [] h = refl
flat_map_none f (w ∷ ws) h = rw (h w (inl refl)) (flat_map_none f ws (λ x k. h x (inr k)))

-- SORTED LISTS

pub sorted-append : {A : Type 0} (R : A → A → Type 0) (xs ys : List A) → Sorted R xs → Sorted R ys →
    ((x y : A) → x ∈ xs → y ∈ ys → R x y) → Sorted R (xs ++ ys)
sorted-append R [] ys a b h = b
sorted-append R (x ∷ xs) ys a b h = (
  all_append (R x) xs ys a.0 (all_from (R x) ys (λ y k. h x y (inl refl) k)),
  sorted-append R xs ys a.1 b (λ u y m k. h u y (inr m) k),
)

pub sorted-flat_map : {A : Type 0} (R : A → A → Type 0) (f : ℕ → List A) (ws : List ℕ) → ((w : ℕ) → w ∈ ws → Sorted R (f w)) →
    ((a b : ℕ) → Earlier ws a b → (x y : A) → x ∈ f a → y ∈ f b → R x y) → Sorted R (flat_map f ws)
sorted-flat_map R f [] s h = tt
sorted-flat_map R f (w ∷ ws) s h =
    sorted-append R (f w) (flat_map f ws) (s w (inl refl))
    (sorted-flat_map R f ws (λ x k. s x (inr k)) (λ a b e. h a b (inr e)))
    (λ x y m n. let t = flat_map_in f ws y n in h w t.0 (inl (refl, t.1)) x y m t.2)

-- an earlier element stands in the relation to a later one
pub sorted_places : {A : Type 0} (R : A → A → Type 0) (xs : List A) (d : A) → Sorted R xs →
    (i j : ℕ) → i < j → j < length xs → R (get_or xs i d) (get_or xs j d)
sorted_places R [] d s i j l h = absurd (omega arith)
sorted_places R (x ∷ xs) d s i zero l h = absurd (omega arith)
sorted_places R (x ∷ xs) d s zero (suc j) l h = all_in (R x) xs (get_or xs j d) s.0 (in-get_or xs j d (omega arith))
sorted_places R (x ∷ xs) d s (suc i) (suc j) l h = sorted_places R xs d s.1 i j (omega arith) (omega arith)

earlier_second : (xs : List ℕ) (a b : ℕ) → Earlier xs a b → b ∈ xs
earlier_second [] a b h = absurd h
earlier_second (x ∷ xs) a b h = grind (arith, earlier_second xs a b)

-- of two elements of a list in which none stands twice, not each stands earlier than the other
pub earlier_asym : (before xs : List ℕ) (a b : ℕ) → Fresh before xs → Earlier xs a b → Earlier xs b a → ⊥
earlier_asym before [] a b f h k = h
earlier_asym before (x ∷ xs) a b f h k =
    grind (arith, earlier_asym (x ∷ before) xs a b, earlier_second xs a b, earlier_second xs b a, fresh_not (x ∷ before) xs x)

-- LISTS WITH ONE PLACE SET, AND OF ONE ELEMENT

-- there it has the new element, elsewhere the old one
pub set_cases : {A : Type 0} (l : List A) (i : ℕ) (a : A) (j : ℕ) (d : A) →
    (get_or (set l i a) j d ≡ get_or l j d) ⊎ ((j ≡ i) × (get_or (set l i a) j d ≡ a))
set_cases l i a j d = grind (arith, get_or-set_same, get_or-set_other, set_past, cases_lt i (length l), cases_eq j i)

-- a list of one element, which is its default too
pub get_or-all : {A : Type 0} (n i : ℕ) (a : A) → get_or (replicate n a) i a ≡ a
get_or-all n i a = grind (arith, common_steps, get_or_past)
