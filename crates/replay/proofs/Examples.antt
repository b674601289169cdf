-- The start file computed: request 5's story, and each limit.
-- Assumes nothing.
use Prim.Native.Nat.{ℕ, ◌-◌, ◌^◌}
use mathlib.Core.Path.{◌≡◌, refl}
use mathlib.Core.List.{List, [], ◌∷◌}
use lib.ListN.{replicate}
use Rattle.answers.specs.Answers.{accepted, refused}
use Rattle.replay.specs.Start.{file, nothing, start_ordinal, start_of}
use Rattle.replay.specs.Choice.{place_as_listed, start_as_listed}

-- files 9, 5 and 1 in a directory that came unsorted, and the cursor in file 5
abbrev unsorted : List ℕ
unsorted = 9 ∷ 5 ∷ 1 ∷ []

-- "Document 01's "first in the list as given" picked a late file."
pub late_file : start_as_listed unsorted 5 ≡ accepted (file 0)
unfolding start_as_listed place_as_listed
late_file = refl

pub right_file : start_of unsorted 5 ≡ accepted (file 1)
unfolding start_of start_ordinal
right_file = refl

-- at or above, and one past it
pub above_it : start_of unsorted 6 ≡ accepted (file 0)
unfolding start_of start_ordinal
above_it = refl

-- "else the one with the largest", wherever it stands
pub all_below_lem : start_of (5 ∷ 9 ∷ 1 ∷ []) 10 ≡ accepted (file 1)
unfolding start_of start_ordinal
all_below_lem = refl

-- the least and the greatest ordinals and cursors
pub greatest : start_of ((2 ^ 64 - 1) ∷ 0 ∷ []) (2 ^ 64 - 1) ≡ accepted (file 0)
unfolding start_of start_ordinal
greatest = refl

pub only_zero : start_of (0 ∷ []) (2 ^ 64 - 1) ≡ accepted (file 0)
unfolding start_of start_ordinal
only_zero = refl

pub no_file : start_of [] 0 ≡ accepted nothing
unfolding start_of
no_file = refl

-- "22 for two equal ordinals, after 18"
pub equal_ends : start_of (5 ∷ 9 ∷ 5 ∷ []) 6 ≡ refused 22 []
unfolding start_of
equal_ends = refl

pub sixty_four_equal : start_of (replicate 64 7) 0 ≡ refused 22 []
unfolding start_of
sixty_four_equal = refl

pub sixty_five_equal : start_of (replicate 65 7) 0 ≡ refused 18 []
unfolding start_of
sixty_five_equal = refl
