-- What each kind of step does to what remains.
-- Assumes nothing.
use Rattle.std.proofs.Common.{◌≡◌, ℕ, suc, ◌+◌, ◌-◌, ◌<◌, ◌≤◌, List, [], ◌∷◌, ◌++◌, reverse, length, drop, refl, ap, ◌∙◌, append_assoc, append-nil, arith}
use Rattle.std.proofs.lemmas.List.{drop_more, drop_all}
use Rattle.exchange.specs.Rows.{Rows, row, ◌∈◌}
use Rattle.theory.specs.Search.{Frame, boats, wish, moved}
use Rattle.theory.proofs.Remaining.{deeper, part, onward, choose_back, choose_on, from_roots, on_frames}

module _ (rows : Rows) (k s : ℕ) where
  -- the next root is entered: its rings come first of what remains
  pub remains_root : s < length rows →
      from_roots rows k s (length rows - s)
      ≡ (onward rows s (k - 1 - 0) (s ∷ []) (row rows s) ++ []) ++ from_roots rows k (s + 1) (length rows - (s + 1))
  remains_root h =
      let e : length rows - s ≡ suc (length rows - (s + 1)) = omega arith in
      let z : k - 1 - 0 ≡ k - 1 = omega arith in
      rw (e, append-nil, z) refl

  -- what remains, where the rings x go on from the last boat of the path and p are the boats before it
  abbrev pub behind : List Frame → List (List ℕ) → List (List ℕ)
  behind p x = (x ++ on_frames rows k s p) ++ from_roots rows k (s + 1) (length rows - (s + 1))

  module _ (f : Frame) (p : List Frame) where
    abbrev j : ℕ
    j = k - 1 - length p

    abbrev path : List ℕ
    path = boats (f ∷ p)

    abbrev ws : List ℕ
    ws = row rows f.boat

    abbrev w : ℕ
    w = wish rows f

    -- by the wish at the place of f, and by the later ones
    abbrev pub here : List (List ℕ)
    here = onward rows s j path (drop f.place ws)

    abbrev pub later : List (List ℕ)
    later = onward rows s j path (drop (f.place + 1) ws)

    split : f.place < length ws → here ≡ part rows s j path w ++ later
    split l = ap (λ x. onward rows s j path x) (drop_more ws f.place 0 l)

    pub remains_ring : f.place < length ws → w ≡ s → behind p here ≡ reverse path ∷ behind p later
    remains_ring l e = rw (split l, choose_back s path w (deeper rows s j path w) e) refl

    pub remains_passed : f.place < length ws → part rows s j path w ≡ [] → behind p here ≡ behind p later
    remains_passed l e = rw (split l, e) refl

    pub remains_entered : f.place < length ws → s < w → ¬ (w ∈ path) → length (f ∷ p) < k →
        behind p here ≡ behind (moved f ∷ p) (onward rows s (k - 1 - length (f ∷ p)) (w ∷ path) (row rows w))
    remains_entered l above off room =
        let ji : j ≡ suc (k - 1 - length (f ∷ p)) = omega arith in
        let e : part rows s j path w ≡ onward rows s (k - 1 - length (f ∷ p)) (w ∷ path) (row rows w) =
        choose_on s path w (deeper rows s j path w) above off ∙ ap (λ x. deeper rows s x path w) ji in
        rw (split l, e) (simp append_assoc)

    pub remains_left : length ws ≤ f.place → behind p here ≡ behind p []
    remains_left l = rw (drop_all f.place ws l) refl
