-- Document 01, "Tracker": reserve.
-- Assumes nothing.
use Rattle.std.specs.Prelude.{ℕ, ◌+◌, ◌-◌, ◌%◌, ◌^◌, Bool, not, ◌||◌, List, [], ◌∷◌, length, ltb, eqb, Result}
use Rattle.answers.specs.Limits.{largest_region}
use Rattle.answers.specs.Answers.{Said, accepted, first_of, unless_refused}
use Rattle.answers.specs.declared.Refusal.{Refusal}
use Rattle.tracker.specs.declared.Tracker.{Tracker}
use Rattle.tracker.specs.declared.Reserved.{Reserved}
use Rattle.tracker.specs.declared.After.{After}
use Rattle.tracker.specs.State.{State, view, queue, with_slot, with_next}
use Rattle.tracker.specs.Sound.{sound}
use Rattle.tracker.specs.Outcome.{Met, said_as}

-- what an accepted reserve answers: its number, its place, and the used count afterwards
pub record Granted : Type 0 where
  pub number : ℕ
  pub place : ℕ
  pub used : ℕ

-- "then reserve 14, 16, 15, 5, 3 (capacity), 13". "Reserve gets 15 exactly if the shard's queue holds 32." 5: "used count or length not a
-- multiple of 16, or reserved length 0". 13: "sealed, or used count + length over capacity", where the sum is the true one and doesn't wrap
unfoldable pub reserve_tests : Bool → ℕ → ℕ → ℕ → ℕ → ℕ → Bool → ℕ → List (Bool × ℕ)
reserve_tests isSound shard next waiting used capacity sealed len =
    (not isSound, 28)
    ∷ (ltb 15 shard, 14)
    ∷ (eqb next (2 ^ 64 - 1), 16)
    ∷ (eqb waiting 32, 15)
    ∷ (not (eqb (used % 16) 0) || not (eqb (len % 16) 0) || eqb len 0, 5)
    ∷ (ltb largest_region capacity, 3)
    ∷ (sealed || ltb capacity (used + len), 13)
    ∷ []

abbrev pub reserve_refusal : State → ℕ → ℕ → ℕ → Bool → ℕ → ℕ
reserve_refusal m shard used capacity sealed len = first_of (reserve_tests (sound m) shard m.next (length (queue m shard)) used capacity sealed len)

-- "Accepted: place = used count, used count grows by the length, the next number is taken"
abbrev pub reserve_of : State → ℕ → ℕ → ℕ → Bool → ℕ → Said Granted
reserve_of m shard used capacity sealed len =
    unless_refused (reserve_refusal m shard used capacity sealed len) (accepted (record { number = m.next; place = used; used = used + len }))

-- "the shard's slot is set. An open slot on that shard is overwritten."
unfoldable pub reserved : State → ℕ → ℕ → ℕ → State
reserved m shard ordinal used = with_next (with_slot m shard (record { number = m.next; ordinal = ordinal; offset = used })) (m.next + 1)

abbrev pub granted : Reserved → Granted
granted a = record { number = a.number; place = a.place; used = a.used }

abbrev pub said_reserve : Result Reserved Refusal → Said Granted
said_reserve = said_as granted

abbrev pub ReserveMet : Tracker → ℕ → ℕ → ℕ → ℕ → Bool → ℕ → After Reserved → Type 0
ReserveMet t shard ordinal used capacity sealed len r =
    Met Granted (reserve_of (view t) shard used capacity sealed len) (said_reserve r.answer) t r.tracker (reserved (view t) shard ordinal used)
