-- The rule of the search, one step at a time.
-- Assumes nothing.
use Rattle.std.specs.Prelude.{ℕ, zero, suc, ◌+◌, min, Bool, true, false, not, ◌&&◌, List, [], ◌∷◌, reverse, length, replicate, ◌==◌, nat_le, nat_lt, slice_index, slice_index_or, slice_set}
use Rattle.exchange.specs.Rows.{Rows, row, has}

-- THE STATE

-- a boat on the path, with its place in its row and its found mark
pub record Frame : Type 0 where
  pub boat : ℕ
  pub place : ℕ
  pub found : Bool

-- a lock for each of 256 boats: 0 to 15, or free, which is above every depth
abbrev pub Locks : Type 0
Locks = List ℕ

abbrev pub free : ℕ
free = 16

abbrev pub lock : Locks → ℕ → ℕ
lock locks v = slice_index_or locks v free

-- for each of 256 boats a mark for each of 256: whether that one waits for it
abbrev pub Waiters : Type 0
Waiters = List (List Bool)

-- v is a waiter of w
abbrev pub waits : Waiters → ℕ → ℕ → Bool
waits waiters w v = slice_index_or (slice_index_or waiters w []) v false

-- `root` is the root of the path, or the next root where there is no path. The last boat of the path stands first in it, so that
-- the depth of a boat is the number of those behind it
pub record State : Type 0 where
  pub root : ℕ
  pub path : List Frame
  pub locks : Locks
  pub waiters : Waiters
  pub entries : ℕ

abbrev pub all_free : Locks
all_free = replicate 256 free

abbrev pub no_waiters : Waiters
no_waiters = replicate 256 (replicate 256 false)

-- THE OPENING: no path, the next root is 0, no entries, all boats are free, none has waiters
abbrev pub opening : State
opening = record { root = 0; path = []; locks = all_free; waiters = no_waiters; entries = 0 }

-- what one step gives: the search has ended; or it goes on in silence; or the path is a ring, and it goes on
pub data Outcome : Type 0 where
  Ended : Outcome
  Silent : State → Outcome
  Found : List ℕ → State → Outcome

-- PARTS OF A STEP

abbrev pub boats : List Frame → List ℕ
boats [] = []
boats (f ∷ p) = f.boat ∷ boats p

-- has a boat on the path a wish at its place, and which
abbrev pub has_wish : Rows → Frame → Bool
has_wish rows f = nat_lt f.place (length (row rows f.boat))

abbrev pub wish : Rows → Frame → ℕ
wish rows f = slice_index (row rows f.boat) f.place

-- one entry more, up to 4,294,967,295
abbrev pub counted : ℕ → ℕ
counted e = min (e + 1) 4294967295

abbrev pub entered : ℕ → Frame
entered v = record { boat = v; place = 0; found = false }

abbrev pub moved : Frame → Frame
moved f = record f { place = f.place + 1 }

abbrev pub marked : Frame → Frame
marked f = record f { found = true }

abbrev pub mark_last : List Frame → List Frame
mark_last [] = []
mark_last (f ∷ p) = marked f ∷ p

abbrev pub with_path : State → List Frame → State
with_path st p = record st { path = p }

-- entering v behind the path p: it is on the path with its depth for a lock, at place 0, not found; one entry more
abbrev pub enter : State → List Frame → ℕ → State
enter st p v = record st { path = entered v ∷ p; locks = slice_set st.locks v (length p); entries = counted st.entries }

-- w may be entered at depth d: it is above the root, and d is below its lock and below the bound
abbrev pub may_enter : ℕ → ℕ → Locks → ℕ → ℕ → Bool
may_enter k root locks d w = nat_lt root w && (nat_lt d (lock locks w) && nat_lt d k)

-- off the path and still locked
abbrev pub held : List ℕ → Locks → ℕ → Bool
held path locks w = not (has path w) && nat_lt (lock locks w) free

abbrev pub visit : Bool → (Locks → Locks) → Locks → Locks
visit true f locks = f locks
visit false f locks = locks

-- f at the number of each mark that is set, in turn; the first mark has the number i
abbrev pub each_mark : (ℕ → Locks → Locks) → ℕ → List Bool → Locks → Locks
each_mark f i [] locks = locks
each_mark f i (true ∷ marks) locks = each_mark f (suc i) marks (f i locks)
each_mark f i (false ∷ marks) locks = each_mark f (suc i) marks locks

-- v becomes free, and in turn each of its waiters that is off the path and still locked is released, at most `depth` deep
unfoldable pub release_within : ℕ → Waiters → List ℕ → ℕ → Locks → Locks
release_within zero waiters path v locks = slice_set locks v free
release_within (suc depth) waiters path v locks =
    each_mark (λ w now. visit (held path now w) (release_within depth waiters path w) now) 0
    (slice_index_or waiters v []) (slice_set locks v free)

-- each release that is made within another frees one boat more, so that it never goes deeper than there are boats
abbrev pub release : Waiters → List ℕ → ℕ → Locks → Locks
release waiters path v locks = release_within 256 waiters path v locks

abbrev pub wait_one : Bool → ℕ → ℕ → Waiters → Waiters
wait_one true v w waiters = slice_set waiters w (slice_set (slice_index_or waiters w []) v true)
wait_one false v w waiters = waiters

-- v becomes a waiter of each of these boats that is not below the root
abbrev pub wait_each : ℕ → ℕ → List ℕ → Waiters → Waiters
wait_each root v [] waiters = waiters
wait_each root v (w ∷ ws) waiters = wait_each root v ws (wait_one (nat_le root w) v w waiters)

-- the last boat has left, and p is the path that remains. Where the root has left, all boats become free, all waiters go, and the
-- next root is one higher
abbrev pub left : State → List Frame → Locks → Waiters → State
left st [] locks waiters =
    record { root = st.root + 1; path = []; locks = all_free; waiters = no_waiters; entries = st.entries }
left st (f ∷ p) locks waiters = record st { path = f ∷ p; locks = locks; waiters = waiters }

-- THE STEP

-- the row of the last boat f is used up. Is it found: it is released, and the boat before it is marked found. Is it not: it
-- becomes a waiter of the boats of its row, and keeps its lock. Then it leaves
abbrev pub used_up : Bool → Rows → State → Frame → List Frame → State
used_up true rows st f p =
    left st (mark_last p) (release st.waiters (boats (f ∷ p)) f.boat st.locks) st.waiters
used_up false rows st f p =
    left st p st.locks (wait_each st.root f.boat (row rows f.boat) st.waiters)

-- the last boat f has the wish w at its place, and the place moves on. Is w the root: the path is a ring, and f is marked found.
-- Else, may w be entered: it is. Else nothing more
abbrev pub on_wish : Bool → Bool → State → Frame → List Frame → ℕ → Outcome
on_wish true may st f p w = Found (reverse (boats (f ∷ p))) (with_path st (marked (moved f) ∷ p))
on_wish false true st f p w = Silent (enter st (moved f ∷ p) w)
on_wish false false st f p w = Silent (with_path st (moved f ∷ p))

-- the last boat f of the path: has it a wish at its place
abbrev pub on_path : Bool → Rows → ℕ → State → Frame → List Frame → Outcome
on_path true rows k st f p =
    let w : ℕ = wish rows f in
    on_wish (w == st.root) (may_enter k st.root st.locks (length (f ∷ p)) w) st f p w
on_path false rows k st f p = Silent (used_up f.found rows st f p)

-- no path: is there a next root
abbrev pub on_root : Bool → State → Outcome
on_root true st = Silent (enter st [] st.root)
on_root false st = Ended

abbrev pub step_on : Rows → ℕ → State → List Frame → Outcome
step_on rows k st [] = on_root (nat_lt st.root (length rows)) st
step_on rows k st (f ∷ p) = on_path (has_wish rows f) rows k st f p

-- THE RULE: one step of the search over the rows, with the bound k, from the state st
abbrev pub step : Rows → ℕ → State → Outcome
step rows k st = step_on rows k st st.path
