-- Entries, depths, passed wishes and blocked boats, as the locks change; and that no ring is in the reach of a blocked boat.
-- Assumes nothing.
use Rattle.std.proofs.Common.{◌≡◌, ℕ, zero, suc, ◌+◌, ◌<◌, ◌≤◌, true, false, List, [], ◌∷◌, length, take, set, refl, ◌∙◌, inl, inr, arith}
use Rattle.std.proofs.lemmas.List.{get_or-set_other, get_or_past}
use Rattle.std.proofs.lemmas.Bool.Decides.{nat_tests}
use Rattle.exchange.specs.Rows.{Rows, row, ◌∈◌}
use Rattle.theory.specs.Search.{Waiters, Frame, boats, lock, free, may_enter}
use Rattle.theory.proofs.Lists.{flat_map_none, set_cases}
use Rattle.theory.proofs.Remaining.{deeper, part, chosen}
use Rattle.theory.proofs.Invariant.{Depths, Passed, Seen, Blocked}

-- what the test tells, where a boat may be entered and where not
pub record Entry (k s d : ℕ) (locks : List ℕ) (w : ℕ) : Type 0 where
  pub above : s < w
  pub low : d < lock locks w
  pub room : d < k

pub may : (k s d : ℕ) (locks : List ℕ) (w : ℕ) → may_enter k s locks d w ≡ true → Entry k s d locks w
may k s d locks w e = grind (arith, nat_tests)

pub may_not : (k s d : ℕ) (locks : List ℕ) (w : ℕ) → may_enter k s locks d w ≡ false → s < w → d < k → lock locks w ≤ d
may_not k s d locks w e above room = grind (arith, nat_tests)

pub depth_below : (locks : List ℕ) (p : List Frame) → Depths locks p → (x : ℕ) → x ∈ boats p → lock locks x < length p
depth_below locks [] h x m = absurd m
depth_below locks (f ∷ p) h x m = grind (arith, depth_below locks p h.1 x)

pub depths_kept : (l m : List ℕ) (p : List Frame) → ((x : ℕ) → x ∈ boats p → lock m x ≡ lock l x) → Depths l p → Depths m p
depths_kept l m [] s h = tt
depths_kept l m (f ∷ p) s h = (s f.boat (inl refl) ∙ h.0, depths_kept l m p (λ x k. s x (inr k)) h.1)

pub locked_in : (locks : List ℕ) (v : ℕ) → lock locks v < free → v < length locks
locked_in locks v h = grind (arith, get_or_past)

pub passed_lower : (k s d : ℕ) (l m ws : List ℕ) → ((x : ℕ) → lock m x ≤ lock l x) → Passed k s l d ws → Passed k s m d ws
passed_lower k s d l m ws low h w i = grind (arith, h w, low w)

pub seen_lower : (rows : Rows) (k s : ℕ) (l m : List ℕ) (p : List Frame) → ((x : ℕ) → lock m x ≤ lock l x) →
    Seen rows k s l p → Seen rows k s m p
seen_lower rows k s l m [] low h = tt
seen_lower rows k s l m (f ∷ p) low h =
    λ e. (
      passed_lower k s (length (f ∷ p)) l m (take f.place (row rows f.boat)) low (h e).0,
      seen_lower rows k s l m p low (h e).1,
    )

pub set_lower : (l : List ℕ) (w d : ℕ) → d ≤ lock l w → (x : ℕ) → lock (set l w d) x ≤ lock l x
set_lower l w d h x = grind (arith, set_cases l w d x free)

-- entering w, at a depth not above its lock
pub blocked_enter : (rows : Rows) (k s : ℕ) (l : List ℕ) (waiters : Waiters) (p : List Frame) (f : Frame) (d : ℕ) →
    d ≤ lock l f.boat → Blocked rows k s l waiters p → Blocked rows k s (set l f.boat d) waiters (f ∷ p)
blocked_enter rows k s l waiters p f d h b v n a w i =
    let e : lock (set l f.boat d) v ≡ lock l v = get_or-set_other l f.boat v d free (λ z. n (inl z)) in
    grind (arith, b v, set_lower l f.boat d h w)

-- from a blocked boat no ring is found in its reach
module _ (rows : Rows) (k s : ℕ) (l : List ℕ) (waiters : Waiters) (p : List Frame) (b : Blocked rows k s l waiters p) where
  pub blocked_none : (j : ℕ) (q : List ℕ) (w : ℕ) → ((x : ℕ) → x ∈ boats p → x ∈ q) → ¬ (w ∈ boats p) →
      (0 < j → lock l w + j ≤ k) → deeper rows s j q w ≡ []
  blocked_none zero q w on off h = refl
  blocked_none (suc j) q w on off h =
      flat_map_none (part rows s j (w ∷ q)) (row rows w)
      (λ x m.
      let g = b w off (omega arith) x m in
      chosen s (w ∷ q) x (deeper rows s j (w ∷ q) x) (λ r. r ≡ []) (λ e. absurd (g.0 e)) refl
      (λ above out.
      blocked_none j (w ∷ q) x (λ y n. inr (on y n)) (λ n. out (inr (on x n)))
      (λ some. let low = (g.1 above (omega arith)).0 in omega arith)))
