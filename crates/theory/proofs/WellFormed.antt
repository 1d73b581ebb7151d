-- A test that tells well-formed rows.
-- Assumes nothing.
use Rattle.std.proofs.Common.{◌≡◌, ℕ, ◌<◌, Bool, true, not, ◌&&◌, eqb, ltb, leb, ◌≢◌, List, [], ◌∷◌, length, refl, ⊎_elim, arith}
use Rattle.std.proofs.lemmas.Bool.{and_parts, leb-true, cases_lt, agree_below, agree_below_at}
use Rattle.std.proofs.lemmas.Bool.Decides.{nat_tests}
use Rattle.std.proofs.lemmas.List.{get_or_past}
use Rattle.exchange.specs.Rows.{Rows, row, ◌∈◌, has, Fresh, WellFormed}
use Rattle.theory.proofs.Lists.{has_false}

-- each wish of boat u is below n, not u, and not among those before it
abbrev row_test : ℕ → ℕ → List ℕ → List ℕ → Bool
row_test n u before [] = true
row_test n u before (w ∷ ws) = (ltb w n && (not (eqb w u) && not (has before w))) && row_test n u (w ∷ before) ws

abbrev pub rows_test : Rows → Bool
rows_test rows =
    leb (length rows) 256 && agree_below (λ u. row_test (length rows) u [] (row rows u)) (λ u. true) (length rows)

row_told : (n u : ℕ) (before ws : List ℕ) → row_test n u before ws ≡ true → (w : ℕ) → w ∈ ws → (w < n) × (w ≢ u)
row_told n u before [] e w h = absurd h
row_told n u before (x ∷ ws) e w h = grind (arith, nat_tests, row_told n u (x ∷ before) ws, h)

row_fresh : (n u : ℕ) (before ws : List ℕ) → row_test n u before ws ≡ true → Fresh before ws
row_fresh n u before [] e = tt
row_fresh n u before (x ∷ ws) e = grind (arith, nat_tests, row_fresh n u (x ∷ before) ws, has_false before x)

pub well_formed : (rows : Rows) → rows_test rows ≡ true → WellFormed rows
well_formed rows e =
    let n : ℕ = length rows in
    let passes : ℕ → Bool = λ u. row_test n u [] (row rows u) in
    let a = and_parts (leb n 256) (agree_below passes (λ u. true) n) e in
    let told : (u : ℕ) → passes u ≡ true =
    λ u. ⊎_elim (agree_below_at passes (λ u. true) n u a.1) (λ l. rw (get_or_past rows u [] l) refl) (cases_lt u n) in
    record {
      few = leb-true n 256 a.0;
      below = λ u w h. (row_told n u [] (row rows u) (told u) w h).0;
      other = λ u w h. (row_told n u [] (row rows u) (told u) w h).1;
      once = λ u. row_fresh n u [] (row rows u) (told u);
    }
