-- Document 01, "Answer numbers": the number of each refusal, line by line as in the table.
-- Assumes nothing.
use Rattle.std.specs.Prelude.{ℕ, Result, Ok, Err}
use Rattle.answers.specs.declared.Refusal.{Refusal}
use Rattle.answers.specs.declared.Refusal.TheVariants.{HeaderTooShort, WrongHeader, RegionTooLarge, BoundPastRegion, NotOnLine, EntryTooShort, WrongMark, WrongChecksum, TypeNotAllowed, UnknownType, KeyTooLong, ValueTooLong, NoSpace, ShardTooLarge, NoWaitingRoom, NumbersUsedUp, NamespaceTooLarge, TooManyOrdinals, EqualOrdinals, NotSound}
use Rattle.answers.specs.declared.Stopped.{Stopped}
use Rattle.answers.specs.declared.Stopped.TheVariants.{Refused, UnknownAt}

abbrev pub number_of : Refusal → ℕ
number_of HeaderTooShort = 1
number_of WrongHeader = 2
number_of RegionTooLarge = 3
number_of BoundPastRegion = 4
number_of NotOnLine = 5
number_of EntryTooShort = 6
number_of WrongMark = 7
number_of WrongChecksum = 8
number_of TypeNotAllowed = 9
number_of UnknownType = 10
number_of KeyTooLong = 11
number_of ValueTooLong = 12
number_of NoSpace = 13
number_of ShardTooLarge = 14
number_of NoWaitingRoom = 15
number_of NumbersUsedUp = 16
number_of NamespaceTooLarge = 17
number_of TooManyOrdinals = 18
number_of EqualOrdinals = 22
number_of NotSound = 28

-- "10 also its place": the number is the same at every place
abbrev pub number_of_stopped : Stopped → ℕ
number_of_stopped (Refused r) = number_of r
number_of_stopped (UnknownAt p) = 10

-- a check's answer: 0 where it accepts
abbrev pub number_of_verdict : Result (Unit {0}) Refusal → ℕ
number_of_verdict (Ok done) = 0
number_of_verdict (Err r) = number_of r
