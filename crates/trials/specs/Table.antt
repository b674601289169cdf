-- Document 01, "Trials": "The [T] trials form a single table, proved with one claim". Each line below is a sentence of the paper and its tests;
-- `all_hold` of proofs/Held.antt is the claim.
-- Assumes nothing.
use Rattle.std.specs.Prelude.{ℕ, ◌+◌, ◌-◌, List, [], ◌∷◌, ◌++◌, Bool, true, false, not, ◌&&◌, eqb, replicate, pos, negsuc, ◌+ℤ◌}
use Rattle.answers.specs.Answers.{Said, accepted, refused}
use Rattle.fields.specs.Numbers.{field, bytes_of, aligned}
use Rattle.entry.specs.Words.{version1, word_of, word_mark}
use Rattle.entry.specs.Layout.{length_of, verifies}
use Rattle.tail.specs.Tail.{used_bound}
use Rattle.tracker.specs.State.{State, fresh_state, slot_of}
use Rattle.tracker.specs.Reserving.{Granted, reserve_of, reserved}
use Rattle.tracker.specs.Recording.{record_of, recorded}
use Rattle.tracker.specs.Finishing.{matches, completed, is_zero}
use Rattle.tracker.specs.Checkpoints.{reached_of}

abbrev pub same : List ℕ → List ℕ → Bool
same [] [] = true
same [] (b ∷ ys) = false
same (a ∷ xs) [] = false
same (a ∷ xs) (b ∷ ys) = let rest = same xs ys in eqb a b && rest

abbrev pub all : List Bool → Bool
all [] = true
all (b ∷ bs) = let rest = all bs in b && rest

-- the filling behind an entry of that length
abbrev filling : ℕ → ℕ
filling n = aligned n - n

-- a region of n bytes of which only byte 33 is nonzero
abbrev only33 : ℕ → List ℕ
only33 n = replicate 33 0 ++ (1 ∷ replicate (n - 34) 0)

-- the line at offset 173,966,336 and what follows it: marks are counted from there
abbrev from_there : ℕ → ℕ
from_there p = version1 (173966336 + p)

-- the tracker's trial, with 5 for the delta that is recorded: after two reserves, after the record, and after the completion
abbrev one_open : State
one_open = reserved fresh_state 0 7 0

abbrev two_open : State
two_open = reserved one_open 1 7 16

abbrev recorded_third : State
recorded_third = recorded two_open 0 (pos 5)

abbrev completed_first : State
completed_first = completed recorded_third 0 1 (pos 1)

abbrev number_granted : Said Granted → ℕ
number_granted (accepted g) = g.number
number_granted (refused n values) = 0

abbrev number_taken : Said ℕ → ℕ
number_taken (accepted n) = n
number_taken (refused n values) = 0

unfoldable pub trials : List Bool
trials =
    -- Mark at 0 is 0x5A17C0; at 32, 0x5A17C2.
    eqb (version1 0) 0x5A17C0
    ∷ eqb (version1 32) 0x5A17C2
    -- Word for insert, namespace 1, offset 32: C2 17 5A 01.
    ∷ same (bytes_of 4 (word_of (version1 32) 1 0)) (0xC2 ∷ 0x17 ∷ 0x5A ∷ 0x01 ∷ [])
    -- Tombstone, namespace 1, at 48: C3 17 5A 81.
    ∷ same (bytes_of 4 (word_of (version1 48) 1 2)) (0xC3 ∷ 0x17 ∷ 0x5A ∷ 0x81 ∷ [])
    -- Update, namespace 63, offset 0: 0x7F5A17C0.
    ∷ eqb (word_of (version1 0) 63 1) 0x7F5A17C0
    -- Insert with key 2 and value 1: 13 bytes, 3 of filling.
    ∷ eqb (length_of 0 2 1) 13
    ∷ eqb (filling (length_of 0 2 1)) 3
    -- Tombstone with key 2: 10 and 6.
    ∷ eqb (length_of 2 2 0) 10
    ∷ eqb (filling (length_of 2 2 0)) 6
    -- Empty: data 10 and 6, tombstone 8 and 8.
    ∷ eqb (length_of 0 0 0) 10
    ∷ eqb (filling (length_of 0 0 0)) 6
    ∷ eqb (length_of 2 0 0) 8
    ∷ eqb (filling (length_of 2 0 0)) 8
    -- Used bound of no bytes and of 40 zeros: 0; of 40 with only byte 33 nonzero: 40; of 64 so: 48.
    ∷ eqb (used_bound []) 0
    ∷ eqb (used_bound (replicate 40 0)) 0
    ∷ eqb (used_bound (only33 40)) 40
    ∷ eqb (used_bound (only33 64)) 48
    -- The mark is 0 at offset 173,966,336; zeros there match it and don't verify.
    ∷ eqb (version1 173966336) 0
    ∷ eqb (word_mark (field 4 (replicate 16 0) 0)) (from_there 0)
    ∷ not (verifies from_there (replicate 16 0) 0)
    -- Shard 0 reserves number 1, shard 1 reserves 2, shard 0 records 3, then completes 1 with delta 1: limit 2, and by document 02's request 6
    -- "The trial in document 01 with sum 0 now counts the delta of number 1": sum 1.
    ∷ eqb (number_granted (reserve_of fresh_state 0 0 4096 false 16)) 1
    ∷ eqb (number_granted (reserve_of one_open 1 16 4096 false 16)) 2
    ∷ eqb (number_taken (record_of two_open 0)) 3
    ∷ matches (slot_of recorded_third 0) 1
    ∷ eqb (reached_of completed_first 7 32).limit 2
    ∷ is_zero ((reached_of completed_first 7 32).sum +ℤ negsuc 0)
    ∷ []
