-- Document 01, "Tracker": the least place and the least number over a run of slots, which give the checkpoint's cursor and limit. The search along
-- a lent run answers by the same definition. proofs/Leasts.antt shows that what is found is least, and stands in the run.
-- Assumes nothing.
use Rattle.std.specs.Prelude.{ℕ, ◌-◌, ◌^◌, Bool, true, false, cond, List, [], ◌∷◌, ltb, eqb}
use Rattle.tracker.specs.declared.Slot.{Slot}
use Rattle.tracker.specs.declared.Least.{Least}

-- (ordinal, offset) lies before (ordinal', offset'): by the ordinal, and by the offset where the ordinals agree
unfoldable pub before : ℕ → ℕ → ℕ → ℕ → Bool
before ordinal offset ordinal' offset' = cond (ltb ordinal ordinal') true (cond (ltb ordinal' ordinal) false (ltb offset offset'))

unfoldable pub lesser_of : ℕ → ℕ → ℕ
lesser_of a b = cond (ltb a b) a b

-- an open slot: its number counts, and its place where it is taken
abbrev pub placed : Least → Slot → Bool → Least
placed l slot true = record { any = true; ordinal = slot.ordinal; offset = slot.offset; limit = lesser_of slot.number l.limit }
placed l slot false = record { any = true; ordinal = l.ordinal; offset = l.offset; limit = lesser_of slot.number l.limit }

-- one slot more: an idle one says nothing; the first open one's place is taken, and a later one's where it lies before the one kept
unfoldable pub step_of : Least → Slot → Least
step_of l slot =
    cond (eqb slot.number 0) l
    (placed l slot (cond l.any (before slot.ordinal slot.offset l.ordinal l.offset) true))

-- "else (active ordinal, used count)", "else 2^64 - 1": what is answered where no slot is open
abbrev pub none_are_open : ℕ → ℕ → Least
none_are_open ordinal used = record { any = false; ordinal = ordinal; offset = used; limit = 2 ^ 64 - 1 }

abbrev pub least_from : Least → List Slot → Least
least_from l [] = l
least_from l (slot ∷ slots) = least_from (step_of l slot) slots

-- "cursor is the least (ordinal, offset) over open slots, .. Limit is the least open number, .."
unfoldable pub least_of : ℕ → ℕ → List Slot → Least
least_of ordinal used slots = least_from (none_are_open ordinal used) slots
