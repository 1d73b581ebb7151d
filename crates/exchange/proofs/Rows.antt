-- What stands in a row: a test for it, and that there are at most as many wishes as boats, since each stands once; and how many
-- wishes there are in all.
-- Assumes nothing.
use Rattle.std.proofs.Common.{◌≡◌, ℕ, suc, ◌+◌, ◌<◌, ◌≤◌, true, false, eqb, List, [], ◌∷◌, length, map, sum_by, get_or, take, sym, refl, inl, inr, suc-le-suc, arith}
use Rattle.std.proofs.lemmas.Bool.Decides.{nat_tests}
use Rattle.std.proofs.lemmas.List.Elements.{All-from_get_or}
use Rattle.std.proofs.lemmas.List.Folds.{fold-map, list_any_at, list_any_more}
use Rattle.std.proofs.lemmas.List.FromFn.{fill_by_all}
use Rattle.std.proofs.lemmas.List.Sums.{sum_by-le}
use Rattle.std.proofs.lemmas.Map.Steps.{length-le_from_distinct_below}
use Rattle.std.specs.List.{range_with_len, list_any, AllByRecursion, IsDistinct}
use Rattle.exchange.specs.Rows.{Rows, row, ◌∈◌, has, Fresh, WellFormed, wish_count}

-- the test in std's words
has_any : (xs : List ℕ) (w : ℕ) → has xs w ≡ list_any (eqb w) xs
has_any [] w = refl
has_any (x ∷ xs) w = grind (arith, has_any xs w)

-- the test along a list, one element more, and at an element
pub has_more : (xs : List ℕ) (i w : ℕ) → i < length xs → has (take i xs) w ≡ false → (get_or xs i 0 ≡ w → ⊥)
    → has (take (i + 1) xs) w ≡ false
has_more xs i w h e n = grind (arith, nat_tests, has_any, list_any_more (eqb w) xs i 0)

pub has_at : (xs : List ℕ) (i w : ℕ) → i < length xs → get_or xs i 0 ≡ w → has xs w ≡ true
has_at xs i w h e = grind (arith, nat_tests, has_any, list_any_at (eqb w) xs i 0)

-- what stands in a list has a place there
pub place_of : (w : ℕ) (xs : List ℕ) → w ∈ xs → (j : ℕ) × (j < length xs) × (get_or xs j 0 ≡ w)
place_of w [] h = absurd h
place_of w (x ∷ xs) (inl e) = (0, omega arith, sym e)
place_of w (x ∷ xs) (inr h) = let p = place_of w xs h in (suc p.0, suc-le-suc p.1, p.2)

-- fresh, place by place: none is among `before`, and none stands earlier in the list
fresh_by_places : (before xs : List ℕ)
    → ((j : ℕ) → j < length xs → ¬ (get_or xs j 0 ∈ before) × (has (take j xs) (get_or xs j 0) ≡ false)) → Fresh before xs
fresh_by_places before [] h = tt
fresh_by_places before (x ∷ xs) h =
    ((h 0 (omega arith)).0, fresh_by_places (x ∷ before) xs (λ j l. let e = h (suc j) (suc-le-suc l) in grind (arith, nat_tests, e)))

pub fresh_from_places : (xs : List ℕ) → ((j : ℕ) → j < length xs → has (take j xs) (get_or xs j 0) ≡ false) → Fresh [] xs
fresh_from_places xs h = fresh_by_places [] xs (λ j l. (λ z. z, h j l))

-- fresh in std's words: no two elements are equal
apart_from_fresh : (x : ℕ) (before xs : List ℕ) → x ∈ before → Fresh before xs → AllByRecursion (λ y. eqb x y ≡ false) xs
apart_from_fresh x before [] h f = tt
apart_from_fresh x before (y ∷ ys) h f = grind (arith, nat_tests, apart_from_fresh x (y ∷ before) ys (inr h) f.1, f.0)

distinct_from_fresh : (before xs : List ℕ) → Fresh before xs → IsDistinct eqb xs
unfolding IsDistinct
distinct_from_fresh before [] f = tt
distinct_from_fresh before (x ∷ xs) f =
    (apart_from_fresh x (x ∷ before) xs (inl refl) f.1, distinct_from_fresh (x ∷ before) xs f.1)

member_from_any : (w : ℕ) (xs : List ℕ) → list_any (eqb w) xs ≡ true → w ∈ xs
member_from_any w [] h = absurd cc
member_from_any w (x ∷ xs) h = grind (arith, nat_tests, member_from_any w xs)

pub row_short : (rows : Rows) → WellFormed rows → (u : ℕ) → length (row rows u) ≤ 256
row_short rows ok u =
    let distinct = distinct_from_fresh [] (row rows u) (ok.once u) in
    let below = λ (w : ℕ) (h : list_any (eqb w) (row rows u) ≡ true). ok.below u w (member_from_any w (row rows u) h) in
    let short = length-le_from_distinct_below (row rows u) (length rows) distinct below in
    let few = ok.few in
    omega arith

-- all wishes, boat by boat
pub wish_count_by_boat : (rows : Rows) → sum_by (λ u. length (row rows u)) (range_with_len 0 (length rows)) ≡ wish_count rows
wish_count_by_boat rows =
    let made : rows ≡ map (row rows) (range_with_len 0 (length rows)) = fill_by_all (row rows) rows _ [] refl (λ k h. refl) in
    grind (arith, made, fold-map)

-- at most 256 for each of at most 256 boats
pub wish_count_fits : (rows : Rows) → WellFormed rows → wish_count rows ≤ 65536
wish_count_fits rows ok =
    let each = All-from_get_or (λ r. length r ≤ 256) rows [] (λ u h. row_short rows ok u) in
    let few = ok.few in
    omega (arith, sum_by-le length 256 rows each)
