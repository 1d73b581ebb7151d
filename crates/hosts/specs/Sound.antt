-- That the rows of accepted bytes are well formed, which proves the law that a book owes as a host, and what that proof and those of
-- the book's functions share. It stands here because an `impl` may cite nothing of its crate's `proofs/`; it defines nothing that a
-- contract speaks of, and need not be read.
-- Assumes nothing.
use Rattle.std.specs.Prelude.{◌≡◌, ℕ, ◌<◌, ◌≤◌, true, false, ◌≢◌, ◌⊎◌, List, [], ◌∷◌, length, take, None, slice_index, refl}
use Rattle.std.proofs.Common.{sym, inl, inr, ⊎_elim, arith}
use Rattle.std.proofs.lemmas.List.FromFn.{length-map-range_with_len, get_or-map-range_with_len}
use Rattle.std.proofs.lemmas.List.{get_or_past}
use Rattle.std.proofs.lemmas.Bool.Decides.{nat_tests}
use Rattle.std.proofs.lemmas.Bool.{cases_lt}
use Rattle.exchange.specs.Rows.{row, ◌∈◌, Fresh, WellFormed, has}
use Rattle.exchange.proofs.Checks.{none_at}
use Rattle.exchange.proofs.Rows.{place_of, fresh_from_places}
use Rattle.hosts.specs.Books.{boats, row_at, book_row, book_rows, header_fault, table_fault, wish_fault, row_fault, boat_fault, wishes_fault, book_fault, may_hold}
use Rattle.hosts.specs.Layouts.{HeaderStands}

-- ---- what the checks of the header leave

pub header_facts : (b : List ℕ) → header_fault b ≡ None → HeaderStands b
unfolding header_fault
header_facts b e = record { few = grind (arith, nat_tests); small = grind (arith, nat_tests); long = grind (arith, nat_tests) }

-- ---- the rows that such bytes show

pub length-book_rows : (b : List ℕ) → length (book_rows b) ≡ boats b
unfolding book_rows
length-book_rows b = length-map-range_with_len (book_row b) 0 (boats b)

pub row_is : (b : List ℕ) (u : ℕ) → u < boats b → row (book_rows b) u ≡ book_row b u
unfolding book_rows
row_is b u h = get_or-map-range_with_len (book_row b) 0 (boats b) u u [] h (omega arith)

pub row_past : (b : List ℕ) (u : ℕ) → boats b ≤ u → row (book_rows b) u ≡ []
row_past b u h = get_or_past (book_rows b) u [] (let e = length-book_rows b in omega arith)

-- by these the search knows what a book shows
pub ruleset rows_shown = (length-book_rows, row_is, row_past)

-- ---- the rows of accepted bytes are well formed

-- the wish at place j of row u keeps its rules
pub record Kept (n u : ℕ) (cut : List ℕ) (j : ℕ) : Type 0 where
  pub below : slice_index cut j < n
  pub other : slice_index cut j ≢ u
  pub once : has (take j cut) (slice_index cut j) ≡ false

wish_kept : (b : List ℕ) → wishes_fault b ≡ None → (u : ℕ) → u < boats b → (j : ℕ) → j < length (book_row b u)
    → Kept (boats b) u (book_row b u) j
unfolding wishes_fault row_fault wish_fault
wish_kept b e u h j l =
    let cut = book_row b u in
    let row = none_at (boat_fault b) 0 (boats b) u e (omega arith) (omega arith) in
    let wish = none_at (wish_fault (boats b) u (row_at b u) cut) 0 (length cut) j row (omega arith) (omega arith) in
    record { below = grind (arith, nat_tests); other = grind (arith, nat_tests); once = grind (arith, nat_tests) }

-- a wish of row u is one of a boat's row, at some place of it
wish_of : (b : List ℕ) → wishes_fault b ≡ None → (u w : ℕ) → w ∈ row (book_rows b) u → (w < boats b) × (w ≢ u)
wish_of b e u w h =
    ⊎_elim
    (λ (l : u < boats b).
    let p = place_of w (book_row b u) (rw (sym (row_is b u l)) h) in
    let k = wish_kept b e u l p.0 p.1 in
    grind (arith, p.2, k.below, k.other))
    (λ (l : boats b ≤ u). absurd (rw (row_past b u l) at h))
    (cases_lt u (boats b))

row_once : (b : List ℕ) → wishes_fault b ≡ None → (u : ℕ) → Fresh [] (row (book_rows b) u)
row_once b e u =
    ⊎_elim
    (λ (l : u < boats b). rw (row_is b u l) (fresh_from_places (book_row b u) (λ j g. (wish_kept b e u l j g).once)))
    (λ (l : boats b ≤ u). rw (row_past b u l) tt)
    (cases_lt u (boats b))

pub well_formed : (b : List ℕ) → boats b ≤ 256 → wishes_fault b ≡ None → WellFormed (book_rows b)
well_formed b few e = record {
  few = let n = length-book_rows b in omega arith;
  below = λ u w h. let n = length-book_rows b in let k = (wish_of b e u w h).0 in omega arith;
  other = λ u w h. (wish_of b e u w h).1;
  once = row_once b e;
}

-- ---- what a book may hold

-- no bytes at all, or bytes that passed every check
pub cases_held : (b : List ℕ) → may_hold b ≡ true → (b ≡ []) ⊎ (book_fault b ≡ None)
unfolding may_hold
cases_held [] e = inl refl
cases_held (x ∷ b) e = inr (grind (arith, nat_tests))

pub all_passed : (b : List ℕ) → book_fault b ≡ None → (header_fault b ≡ None) × (table_fault b ≡ None) × (wishes_fault b ≡ None)
unfolding book_fault
all_passed b e = grind arith

no_wishes : wishes_fault [] ≡ None
unfolding wishes_fault
no_wishes = refl

pub held_rows : (b : List ℕ) → may_hold b ≡ true → WellFormed (book_rows b)
held_rows b e =
    ⊎_elim (λ h. rw h (well_formed [] (omega arith) no_wishes))
    (λ h. let p = all_passed b h in well_formed b (header_facts b p.0).few p.2)
    (cases_held b e)
