-- The rows of wishes that a host shows.
-- Assumes nothing.
use Rattle.std.specs.Prelude.{◌≡◌, ℕ, ◌<◌, ◌≤◌, Bool, false, ◌||◌, ◌≢◌, ◌⊎◌, List, [], ◌∷◌, length, sum_by, ◌==◌, slice_index_or}

-- row u lists the boats that the club of boat u would take, the best liked first
abbrev pub Rows : Type 0
Rows = List (List ℕ)

-- past the last boat the row is empty
abbrev pub row : Rows → ℕ → List ℕ
row rows u = slice_index_or rows u []

-- x stands in the list
abbrev pub ◌∈◌ : {A : Type 0} → A → List A → Type 0
◌∈◌ x [] = ⊥
◌∈◌ x (y ∷ ys) = (x ≡ y) ⊎ (x ∈ ys)

infix 40 ◌∈◌
-- the test of it, for numbers
abbrev pub has : List ℕ → ℕ → Bool
has [] x = false
has (y ∷ ys) x = x == y || has ys x

-- no element of the list is among `before`, and none stands twice
abbrev pub Fresh : List ℕ → List ℕ → Type 0
Fresh before [] = Unit {0}
Fresh before (x ∷ xs) = ¬ (x ∈ before) × Fresh (x ∷ before) xs

-- at most 256 boats; each wish is for one of them, not for the club's own boat, and stands once in its row
pub record WellFormed (rows : Rows) : Type 0 where
  pub few : length rows ≤ 256
  pub below : (u w : ℕ) → w ∈ row rows u → w < length rows
  pub other : (u w : ℕ) → w ∈ row rows u → w ≢ u
  pub once : (u : ℕ) → Fresh [] (row rows u)

-- how many wishes there are in all rows together
abbrev pub wish_count : Rows → ℕ
wish_count rows = sum_by length rows
