-- Rings of boats, their order, and the full list of them.
-- Assumes nothing.
use Rattle.std.specs.Prelude.{◌≡◌, ℕ, ◌<◌, ◌≤◌, ◌⊎◌, List, [], ◌∷◌, ◌++◌, length, slice_index}
use Rattle.std.specs.List.{AllByRecursion}
use Rattle.exchange.specs.Rows.{Rows, row, ◌∈◌, Fresh}

-- each later boat is above the first
abbrev pub LeastFirst : List ℕ → Type 0
LeastFirst [] = Unit {0}
LeastFirst (s ∷ t) = AllByRecursion (λ w. s < w) t

-- a ring: 2 to 16 boats, no boat twice, the least boat first
pub record IsRing (r : List ℕ) : Type 0 where
  pub two : 2 ≤ length r
  pub sixteen : length r ≤ 16
  pub apart : Fresh [] r
  pub least : LeastFirst r

-- from v by the boats of t, each in the row of the one before it, and back to s
abbrev pub Leads : Rows → ℕ → ℕ → List ℕ → Type 0
Leads rows s v [] = s ∈ row rows v
Leads rows s v (w ∷ t) = (w ∈ row rows v) × Leads rows s w t

-- each boat's row holds the next boat, and the last boat's row holds the first
abbrev pub RingOf : Rows → List ℕ → Type 0
RingOf rows [] = ⊥
RingOf rows (s ∷ t) = Leads rows s s t

-- a ring of the rows, of at most k boats
pub record RingWithin (rows : Rows) (k : ℕ) (r : List ℕ) : Type 0 where
  pub ring : IsRing r
  pub of : RingOf rows r
  pub bound : length r ≤ k

-- a stands earlier than b in the list
abbrev pub Earlier : List ℕ → ℕ → ℕ → Type 0
Earlier [] a b = ⊥
Earlier (x ∷ xs) a b = ((a ≡ x) × (b ∈ xs)) ⊎ Earlier xs a b

abbrev pub first : List ℕ → ℕ
first r = slice_index r 0

-- the step that a ring with the first boat s takes where t is what is left of it: on to the next boat, or back to s
abbrev pub next : ℕ → List ℕ → ℕ
next s [] = s
next s (w ∷ t) = w

-- the rings r and q have a common beginning, its last boat is v, and the step of r from v stands earlier in v's row
pub record Parts (rows : Rows) (r q : List ℕ) : Type 0 where
  pub beginning : List ℕ
  pub v : ℕ
  pub t : List ℕ
  pub u : List ℕ
  pub r_is : r ≡ beginning ++ v ∷ t
  pub q_is : q ≡ beginning ++ v ∷ u
  pub earlier : Earlier (row rows v) (next (first r) t) (next (first r) u)

-- THE ORDER: a lower first boat comes first; of two rings with one first boat, the one that takes the earlier step where they
-- part
abbrev pub Before : Rows → List ℕ → List ℕ → Type 0
Before rows r q = (first r < first q) ⊎ Parts rows r q

-- each element stands in the relation R to each later one
abbrev pub Sorted : {A : Type 0} → (A → A → Type 0) → List A → Type 0
Sorted R [] = Unit {0}
Sorted R (x ∷ xs) = AllByRecursion (R x) xs × Sorted R xs

-- THE FULL LIST: it holds the rings of the rows of at most k boats, each of them and nothing else, in their order
pub record FullList (rows : Rows) (k : ℕ) (l : List (List ℕ)) : Type 0 where
  pub only : (r : List ℕ) → r ∈ l → RingWithin rows k r
  pub each : (r : List ℕ) → RingWithin rows k r → r ∈ l
  pub sorted : Sorted (Before rows) l
