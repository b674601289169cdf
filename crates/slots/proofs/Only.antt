-- No second answer fits a contract. These functions take borrowed structs or call one that does; each `-says` below holds the contract's own clause,
-- as the prover reads it off the source, to the fact that its `-only` is about: a weaker `ensures` would fail it.
-- Assumes nothing.
use Prim.Native.Nat.{ℕ}
use mathlib.Core.Path.{◌≡◌, refl, sym, ◌∙◌}
use mathlib.Core.List.{List}
use seplogic.Ra.Ura.{Ura}
use base.Logic.{SProp}
use base.Fml.{Lft}
use prog.Memory.{Memory}
use prog.Routine.{Routine}
use types.Logic.{Logic}
use contract.Monad.{Fun, fact}
use denote.MutBor.{MutBor}
use denote.Ref.{Bor}
use denote.Triple.Clauses.{at_exit}
use Rattle.tracker.specs.declared.Slot.{Slot}
use Rattle.tracker.specs.declared.Least.{Least}
use Rattle.tracker.specs.Least.{least_of}
use Rattle.slots.specs.Slots.{said_slot, SlotAbandoned}
use Rattle.slots.specs.declared.KeptSlot.{KeptSlot}
use Rattle.tracker.specs.declared.Finish.{Finish}
use Rattle.tracker.proofs.Sayings.{finished_once}
use Rattle.slots.specs.contracts.abandon_slot as abandon-slot
use Rattle.slots.specs.contracts.abandon_kept as abandon-kept
use Rattle.slots.specs.contracts.least_along as least-along
use Rattle.slots.specs.contracts.least_of as least-of

pub slot_says : (x y : Finish) → said_slot x ≡ said_slot y → x ≡ y
slot_says = finished_once

-- of `abandon_slot`, and of `abandon_kept`, which promises the same
pub abandon_slot_only : (slot : Slot) (number : ℕ) (after after' : Slot) (r r' : Finish)
    → SlotAbandoned slot number after r → SlotAbandoned slot number after' r' → (after ≡ after') × (r ≡ r')
abandon_slot_only slot number after after' r r' a b = (a.left ∙ sym b.left, slot_says r r' (a.answer ∙ sym b.answer))

-- of `least_along`, and of `least_of`
pub least_along_only : (slots : List Slot) (ordinal used : ℕ) (r r' : Least) → r ≡ least_of ordinal used slots → r' ≡ least_of ordinal used slots → r ≡ r'
least_along_only slots ordinal used r r' a b = a ∙ sym b

module _ {M : Type 1} {𝓤 : Ura M} (𝓛 : Logic 𝓤) (mem : Memory → SProp 𝓤) (run : Routine → Fun 𝓤) where
  pub abandon_slot_says : (κ : Lft) (slot : MutBor Slot) (number : ℕ) (after : Slot) (r : Finish)
      → (abandon-slot.clauses 𝓛 mem run (κ, tt) (slot, (number, tt))).ensures tt r (at_exit abandon-slot.ended (κ, tt) (slot, (number, tt)) (after, (tt, tt)))
      ≡ fact 𝓤 (SlotAbandoned slot.now number after r)
  abandon_slot_says κ slot number after r = refl

  pub abandon_kept_says : (slot : Slot) (number : ℕ) (r : KeptSlot)
      → (abandon-kept.clauses 𝓛 mem run tt (slot, (number, tt))).ensures tt r (at_exit abandon-kept.ended tt (slot, (number, tt)) (tt, (tt, tt)))
      ≡ fact 𝓤 (SlotAbandoned slot number r.slot r.answer)
  abandon_kept_says slot number r = refl

  pub least_along_says : (κ : Lft) (slots : Bor (List Slot)) (ordinal used : ℕ) (r : Least)
      → (least-along.clauses 𝓛 mem run (κ, tt) (slots, (ordinal, (used, tt)))).ensures tt r (at_exit least-along.ended (κ, tt) (slots, (ordinal, (used, tt))) (tt, (tt, (tt, tt))))
      ≡ fact 𝓤 (r ≡ least_of ordinal used slots.now)
  least_along_says κ slots ordinal used r = refl

  pub least_of_says : (slots : List Slot) (ordinal used : ℕ) (r : Least)
      → (least-of.clauses 𝓛 mem run tt (slots, (ordinal, (used, tt)))).ensures tt r (at_exit least-of.ended tt (slots, (ordinal, (used, tt))) (tt, (tt, (tt, tt))))
      ≡ fact 𝓤 (r ≡ least_of ordinal used slots)
  least_of_says slots ordinal used r = refl
