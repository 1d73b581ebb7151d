-- Plain search gives the full list.
-- Assumes nothing.
use Rattle.std.proofs.Common.{◌≡◌, ℕ, zero, suc, ◌+◌, ◌-◌, ◌<◌, ◌≤◌, List, [], ◌∷◌, ◌++◌, reverse, length, sym, refl, ap, ◌∙◌, subst, inl, inr, ⊎_elim, append_assoc, append-nil, arith}
use mathlib.Core.List.{reverse-cons}
use Rattle.std.specs.List.{AllByRecursion}
use Rattle.std.proofs.lemmas.Bool.{cases_eq}
use Rattle.std.proofs.lemmas.List.{get_or_past}
use Rattle.exchange.specs.Rows.{Rows, row, ◌∈◌, Fresh, WellFormed}
use Rattle.theory.specs.Rings.{Earlier, Sorted, first, next, Leads, RingWithin, Before, FullList}
use Rattle.theory.proofs.Lists.{in_left, in_right, in_cases, in_some, flat_map_in, in_flat_map, sorted-append, sorted-flat_map}
use Rattle.theory.proofs.Remaining.{deeper, part, onward, choose_back, choose_on, chosen, from_roots}

reverse_on : (w : ℕ) (path t : List ℕ) → reverse (w ∷ path) ++ t ≡ reverse path ++ w ∷ t
reverse_on w path t = ap (λ x. x ++ t) (reverse-cons w path) ∙ append_assoc (reverse path) (w ∷ []) t

-- ONE ROOT

module _ (rows : Rows) (s : ℕ) where
  -- each of the boats t but the first is in the row of the one before it, and s is in that of the last
  abbrev Inside : List ℕ → Type 0
  Inside [] = Unit {0}
  Inside (w ∷ t) = Leads rows s w t

  leads_next : (v : ℕ) (t : List ℕ) → Leads rows s v t → next s t ∈ row rows v
  leads_next v [] l = l
  leads_next v (w ∷ t) l = l.0

  leads_inside : (v : ℕ) (t : List ℕ) → Leads rows s v t → Inside t
  leads_inside v [] l = tt
  leads_inside v (w ∷ t) l = l.1

  leads_from : (v : ℕ) (t : List ℕ) → next s t ∈ row rows v → Inside t → Leads rows s v t
  leads_from v [] n i = n
  leads_from v (w ∷ t) n i = (n, i)

  -- the boats t may follow the path, and then s: at most j of them
  record Way (j : ℕ) (path t : List ℕ) : Type 0 where
    above : AllByRecursion (λ w. s < w) t
    fresh : Fresh path t
    inside : Inside t
    short : length t ≤ j

  -- a ring that begins with the path and goes on by a way whose first step is w
  record Goes (j : ℕ) (path : List ℕ) (w : ℕ) (r : List ℕ) : Type 0 where
    t : List ℕ
    is : r ≡ reverse path ++ t
    first_step : next s t ≡ w
    way : Way j path t

  goes_back : (j : ℕ) (path : List ℕ) (w : ℕ) (r : List ℕ) → w ≡ s → r ∈ (reverse path ∷ []) → Goes j path w r
  goes_back j path w r e h =
      record {
        t = [];
        is = ⊎_elim (λ k. k) (λ k. absurd k) h ∙ sym (append-nil (reverse path));
        first_step = sym e;
        way = record { above = tt; fresh = tt; inside = tt; short = omega arith };
      }

  part_only : (j : ℕ) (path : List ℕ) (w : ℕ) (r : List ℕ) → r ∈ part rows s j path w → Goes j path w r
  part_only zero path w r =
      chosen s path w [] (λ l. r ∈ l → Goes zero path w r) (goes_back zero path w r) (λ k. absurd k) (λ above off k. absurd k)
  part_only (suc j) path w r =
      chosen s path w (onward rows s j (w ∷ path) (row rows w)) (λ l. r ∈ l → Goes (suc j) path w r)
      (goes_back (suc j) path w r)
      (λ k. absurd k)
      (λ above off k.
      let g = flat_map_in (part rows s j (w ∷ path)) (row rows w) r k in
      let i = part_only j (w ∷ path) g.0 r g.2 in
      let short = i.way.short in
      record {
        t = w ∷ i.t;
        is = i.is ∙ reverse_on w path i.t;
        first_step = refl;
        way = record {
          above = (above, i.way.above);
          fresh = (off, i.way.fresh);
          inside = leads_from w i.t (subst (λ x. x ∈ row rows w) (sym i.first_step) g.1) i.way.inside;
          short = omega arith;
        };
      })

  part_each : (j : ℕ) (path t : List ℕ) → Way j path t → (reverse path ++ t) ∈ part rows s j path (next s t)
  part_each j path [] h = rw (append-nil, choose_back s path s (deeper rows s j path s) refl) (inl refl)
  part_each zero path (w ∷ t) h = absurd (omega (arith, h.short))
  part_each (suc j) path (w ∷ t) h =
      let short = h.short in
      rw (choose_on s path w (onward rows s j (w ∷ path) (row rows w)) h.above.0 h.fresh.0, ← reverse_on w path t)
      (in_flat_map (part rows s j (w ∷ path)) (row rows w) (reverse (w ∷ path) ++ t) (next s t) (leads_next w t h.inside)
      (part_each j (w ∷ path) t
      (record { above = h.above.1; fresh = h.fresh.1; inside = leads_inside w t h.inside; short = omega arith })))

  -- of two rings that part behind v, the one with the earlier step comes first
  goes_before : (j v : ℕ) (p b : List ℕ) → reverse (v ∷ p) ≡ s ∷ b → (a c : ℕ) → Earlier (row rows v) a c →
      (x y : List ℕ) → Goes j (v ∷ p) a x → Goes j (v ∷ p) c y → Before rows x y
  goes_before j v p b e a c m x y g h =
      let f : first x ≡ s = ap (λ z. first z) (g.is ∙ ap (λ z. z ++ g.t) e) in
      inr (record {
        beginning = reverse p;
        v = v;
        t = g.t;
        u = h.t;
        r_is = g.is ∙ reverse_on v p g.t;
        q_is = h.is ∙ reverse_on v p h.t;
        earlier = rw (f, g.first_step, h.first_step) m;
      })

  sorted_row : (j v : ℕ) (p b : List ℕ) → reverse (v ∷ p) ≡ s ∷ b → ((w : ℕ) → Sorted (Before rows) (part rows s j (v ∷ p) w)) →
      Sorted (Before rows) (onward rows s j (v ∷ p) (row rows v))
  sorted_row j v p b e each =
      sorted-flat_map (Before rows) (part rows s j (v ∷ p)) (row rows v) (λ w k. each w)
      (λ a c h x y m n. goes_before j v p b e a c h x y (part_only j (v ∷ p) a x m) (part_only j (v ∷ p) c y n))

  part_sorted : (j v : ℕ) (p b : List ℕ) → reverse (v ∷ p) ≡ s ∷ b → (w : ℕ) → Sorted (Before rows) (part rows s j (v ∷ p) w)
  part_sorted zero v p b e w = chosen s (v ∷ p) w [] (Sorted (Before rows)) (λ z. (tt, tt)) tt (λ above off. tt)
  part_sorted (suc j) v p b e w =
      let on : reverse (w ∷ v ∷ p) ≡ s ∷ (b ++ w ∷ []) = reverse-cons w (v ∷ p) ∙ ap (λ z. z ++ w ∷ []) e in
      chosen s (v ∷ p) w (onward rows s j (w ∷ v ∷ p) (row rows w)) (Sorted (Before rows)) (λ z. (tt, tt)) tt
      (λ above off. sorted_row j w (v ∷ p) (b ++ w ∷ []) on (part_sorted j w (v ∷ p) (b ++ w ∷ []) on))

  -- the rings with the first boat s, of at most j boats more
  abbrev of_root : ℕ → List (List ℕ)
  of_root j = onward rows s j (s ∷ []) (row rows s)

  root_only : (j : ℕ) (r : List ℕ) → r ∈ of_root j → (t : List ℕ) × (r ≡ s ∷ t) × (next s t ∈ row rows s) × Way j (s ∷ []) t
  root_only j r h =
      let g = flat_map_in (part rows s j (s ∷ [])) (row rows s) r h in
      let i = part_only j (s ∷ []) g.0 r g.2 in
      (i.t, i.is, subst (λ x. x ∈ row rows s) (sym i.first_step) g.1, i.way)

  root_each : (j : ℕ) (t : List ℕ) → next s t ∈ row rows s → Way j (s ∷ []) t → (s ∷ t) ∈ of_root j
  root_each j t n h = in_flat_map (part rows s j (s ∷ [])) (row rows s) (s ∷ t) (next s t) n (part_each j (s ∷ []) t h)

  root_sorted : (j : ℕ) → Sorted (Before rows) (of_root j)
  root_sorted j = sorted_row j s [] [] refl (part_sorted j s [] [] refl)

-- ALL ROOTS

module _ (rows : Rows) (k : ℕ) where
  roots_only : (i m : ℕ) (r : List ℕ) → r ∈ from_roots rows k i m → (s : ℕ) × (i ≤ s) × (r ∈ of_root rows s (k - 1))
  roots_only i zero r h = absurd h
  roots_only i (suc m) r h =
      ⊎_elim
      (λ g. (i, omega arith, g))
      (λ g. let o = roots_only (i + 1) m r g in (o.0, omega arith, o.2))
      (in_cases r (of_root rows i (k - 1)) (from_roots rows k (i + 1) m) h)

  roots_each : (i m s : ℕ) (r : List ℕ) → i ≤ s → s < i + m → r ∈ of_root rows s (k - 1) → r ∈ from_roots rows k i m
  roots_each i zero s r a b h = absurd (omega arith)
  roots_each i (suc m) s r a b h =
      let here = in_left r (of_root rows i (k - 1)) (from_roots rows k (i + 1) m) in
      let behind = in_right r (of_root rows i (k - 1)) (from_roots rows k (i + 1) m) in
      grind (arith, here, behind, roots_each (i + 1) m s r, cases_eq i s)

  root_first : (s : ℕ) (r : List ℕ) → r ∈ of_root rows s (k - 1) → first r ≡ s
  root_first s r h = ap (λ z. first z) (root_only rows s (k - 1) r h).1

  roots_sorted : (i m : ℕ) → Sorted (Before rows) (from_roots rows k i m)
  roots_sorted i zero = tt
  roots_sorted i (suc m) =
      sorted-append (Before rows) (of_root rows i (k - 1)) (from_roots rows k (i + 1) m)
      (root_sorted rows i (k - 1)) (roots_sorted (i + 1) m)
      (λ x y g h.
      let o = roots_only (i + 1) m y h in
      inl (omega (arith, root_first i x g, root_first o.0 y o.2)))

row_below : (rows : Rows) (v : ℕ) → 0 < length (row rows v) → v < length rows
row_below rows v h = grind (arith, get_or_past)

module _ (rows : Rows) (k : ℕ) (wf : WellFormed rows) (two : 2 ≤ k) (most : k ≤ 16) where
  within_from : (s : ℕ) (t : List ℕ) → next s t ∈ row rows s → Way rows s (k - 1) (s ∷ []) t → RingWithin rows k (s ∷ t)
  within_from s [] n h = absurd (wf.other s s n refl)
  within_from s (w ∷ t) n h =
      record {
        ring = record { two = omega arith; sixteen = omega arith; apart = (λ x. x, h.fresh); least = h.above };
        of = leads_from rows s s (w ∷ t) n h.inside;
        bound = omega arith;
      }

  within_in : (r : List ℕ) → RingWithin rows k r → r ∈ from_roots rows k 0 (length rows)
  within_in [] h = absurd h.of
  within_in (s ∷ t) h =
      let n = leads_next rows s s t h.of in
      let below = row_below rows s (in_some (next s t) (row rows s) n) in
      roots_each rows k 0 (length rows) s (s ∷ t) (omega arith) (omega arith)
      (root_each rows s (k - 1) t n
      (record { above = h.ring.least; fresh = h.ring.apart.1; inside = leads_inside rows s s t h.of; short = omega arith }))

  only_within : (r : List ℕ) → r ∈ from_roots rows k 0 (length rows) → RingWithin rows k r
  only_within r h =
      let o = roots_only rows k 0 (length rows) r h in
      let i = root_only rows o.0 (k - 1) r o.2 in
      subst (λ z. RingWithin rows k z) (sym i.1) (within_from o.0 i.0 i.2 i.3)

  pub full : FullList rows k (from_roots rows k 0 (length rows))
  full = record { only = only_within; each = within_in; sorted = roots_sorted rows k 0 (length rows) }
