-- What the helpers of the tracker promise to its operations; no public call speaks of these.
-- Assumes nothing.
use Rattle.std.specs.Prelude.{ℕ, ◌+◌, ◌-◌, ◌*◌, ◌^◌, ◌≤◌, ◌<◌, ◌≡◌, Bool, true, List, length, get_or, ltb, leb, eqb, ℤ, nat_abs}
use Rattle.std.specs.List.{between, position}
use Rattle.std.specs.Option.{unwrap_or}
use Rattle.tracker.specs.declared.Tracker.{Tracker}
use Rattle.tracker.specs.declared.Front.{Front}
use Rattle.tracker.specs.State.{Waiting, seg, waiting_at, view, places}
use Rattle.tracker.specs.Sound.{all_below}
use Rattle.tracker.specs.Sums.{sum_front, count_front, sum_of}

-- every queue stays within its own thirty-two places
pub record Roomy (t : Tracker) : Type 0 where
  pub room : (i : ℕ) → i < 16 → get_or t.lengths i 0 ≤ 32

-- and shard s's has a free place
pub record HasRoom (t : Tracker) (s : ℕ) : Type 0 where
  pub roomy : Roomy t
  pub on_shard : s < 16
  pub free : get_or t.lengths s 0 < 32

-- what complete and abandon know once no test of theirs holds, and what reserve and record do
pub record FinishFree (isSound : Bool) (shard : ℕ) : Type 0 where
  pub soundness : isSound ≡ true
  pub on_shard : shard < 16

pub record ReserveFree (isSound : Bool) (shard next waiting used capacity len : ℕ) : Type 0 where
  pub soundness : isSound ≡ true
  pub on_shard : shard < 16
  pub numbers_left : next ≡ 2 ^ 64 - 1 → ⊥
  pub room : waiting ≡ 32 → ⊥
  pub small : capacity ≤ 268435456
  pub fits : used + len ≤ capacity

pub record RecordFree (isSound : Bool) (shard next waiting number : ℕ) : Type 0 where
  pub soundness : isSound ≡ true
  pub on_shard : shard < 16
  pub numbers_left : next ≡ 2 ^ 64 - 1 → ⊥
  pub room : waiting + places number < 32

-- sixteen lengths that are 0
abbrev pub all_zero : List ℕ → Bool
all_zero lengths = all_below (λ (k : ℕ). eqb (get_or lengths k 0) 0) 16

-- shard s's part of an array that has thirty-two places for each shard: as many values as its length says
abbrev pub part : {A : Type 0} → List A → List ℕ → ℕ → List A
part xs lengths s = between (s * 32) (s * 32 + get_or lengths s 0) xs

-- the parts of shard s's queue, its numbers and its deltas
pub record QueueOf (t : Tracker) (s : ℕ) (numbers : List ℕ) (deltas : List ℤ) : Type 0 where
  pub numbers_are : numbers ≡ part t.numbers t.lengths s
  pub deltas_are : deltas ≡ part t.deltas t.lengths s
  pub count : length numbers ≡ get_or t.lengths s 0
  pub beside : length deltas ≡ get_or t.lengths s 0

-- the queue that has these numbers and deltas
abbrev pub queue_from : List ℕ → List ℤ → List Waiting
queue_from numbers deltas = seg (waiting_at numbers deltas) 0 (length numbers)

-- each of the count numbers from base on is at most the one behind it
abbrev pub neighbours_ascend_from : List ℕ → ℕ → ℕ → Bool
neighbours_ascend_from numbers base count = all_below (λ (j : ℕ). leb (get_or numbers (base + j) 0) (get_or numbers (base + j + 1) 0)) (count - 1)

-- each number of a queue is at most the one behind it
abbrev pub neighbours_ascend : List ℕ → Bool
neighbours_ascend numbers = all_below (λ (j : ℕ). leb (get_or numbers j 0) (get_or numbers (j + 1) 0)) (length numbers - 1)

-- each is below the next number
abbrev pub numbers_below : List ℕ → ℕ → Bool
numbers_below numbers next = all_below (λ (j : ℕ). ltb (get_or numbers j 0) next) (length numbers)

-- where a number goes among those of a queue: before the first larger one
abbrev pub place_behind : List ℕ → ℕ → ℕ
place_behind numbers number = unwrap_or (position (λ (x : ℕ). ltb number x) numbers) (length numbers)

-- ys is xs with x put in at a place, and what stood from there to the end one place further
pub record PutIn {A : Type 0} (xs ys : List A) (place end : ℕ) (x : A) : Type 0 where
  pub long : length ys ≡ length xs
  pub low : (p : ℕ) (d : A) → p < place → get_or ys p d ≡ get_or xs p d
  pub here : (d : A) → get_or ys place d ≡ x
  pub moved : (p : ℕ) (d : A) → place ≤ p → p < end → get_or ys (p + 1) d ≡ get_or xs p d
  pub high : (p : ℕ) (d : A) → end < p → get_or ys p d ≡ get_or xs p d

-- a queue's front: how many entries are below the limit, and their sum, which is small
pub record Fronted (limit : ℕ) (q : List Waiting) (r : Front) : Type 0 where
  pub count_is : r.count ≡ count_front limit q
  pub sum_is : r.sum ≡ sum_front limit q
  pub small : nat_abs r.sum ≤ 128 * r.count
  pub within : r.count ≤ length q

pub record Summed (t : Tracker) (limit : ℕ) (r : ℤ) : Type 0 where
  pub sum_is : r ≡ sum_of limit (view t).queues
  pub small : nat_abs r ≤ 65536
