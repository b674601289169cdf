-- Each answer says its own: two answers that say the same in document 01's numbers and values are the same answer.
-- Assumes nothing.
use Prim.Native.Nat.{ℕ}
use mathlib.Core.Path.{◌≡◌, refl, ap}
use native.Mathlib.Omega.{arith}
use lib.IntN.{ℤ}
use Rattle.std.specs.Prelude.{Result, Ok, Err}
use Rattle.answers.specs.Answers.{said}
use Rattle.answers.specs.declared.Refusal.{Refusal}
use Rattle.answers.proofs.Cases.{same_number}
use Rattle.tracker.specs.declared.Reserved.{Reserved}
use Rattle.tracker.specs.declared.Finish.{Finish}
use Rattle.tracker.specs.declared.Finish.TheVariants.{Done, Stale}
use Rattle.tracker.specs.declared.Progress.{Progress}
use Rattle.tracker.specs.Outcome.{said_as}
use Rattle.tracker.specs.Reserving.{Granted, granted, said_reserve}
use Rattle.tracker.specs.Recording.{said_record}
use Rattle.tracker.specs.Finishing.{finished, said_finish}
use Rattle.tracker.specs.Checkpoints.{Reached, reached, said_checkpoint}
use Rattle.tracker.specs.Draining.{said_drain}
use Rattle.tracker.specs.Clearing.{empty, said_clear}

-- where the paper's words tell the values apart, they tell the answers apart
pub as_says : {A B : Type 0} (f : A → B) → ((a b : A) → f a ≡ f b → a ≡ b) → (x y : Result A Refusal) → said_as f x ≡ said_as f y → x ≡ y
as_says f once (Ok a) (Ok b) e = ap Ok (once a b (cc))
as_says f once (Ok a) (Err r) e = let z : ◌≡◌ {A = ℕ} 0 1 = cc in absurd (omega arith)
as_says f once (Err r) (Ok a) e = let z : ◌≡◌ {A = ℕ} 0 1 = cc in absurd (omega arith)
as_says f once (Err r) (Err r') e = ap Err (same_number r r' (cc))

pub says : {A : Type 0} (x y : Result A Refusal) → said x ≡ said y → x ≡ y
says (Ok a) (Ok b) e = cc
says (Ok a) (Err r) e = let z : ◌≡◌ {A = ℕ} 0 1 = cc in absurd (omega arith)
says (Err r) (Ok a) e = let z : ◌≡◌ {A = ℕ} 0 1 = cc in absurd (omega arith)
says (Err r) (Err r') e = ap Err (same_number r r' (cc))

pub finished_once : (a b : Finish) → finished a ≡ finished b → a ≡ b
finished_once Done Done e = refl
finished_once Done Stale e = let z : ◌≡◌ {A = ℕ} 0 1 = cc in absurd (omega arith)
finished_once Stale Done e = let z : ◌≡◌ {A = ℕ} 0 1 = cc in absurd (omega arith)
finished_once Stale Stale e = refl

pub reserve_says : (x y : Result Reserved Refusal) → said_reserve x ≡ said_reserve y → x ≡ y
reserve_says = as_says granted once
  where
    once : (a b : Reserved) → granted a ≡ granted b → a ≡ b
    once a b e = ap (λ (g : Granted). record { number = g.number; place = g.place; used = g.used }) e

pub record_says : (x y : Result ℕ Refusal) → said_record x ≡ said_record y → x ≡ y
record_says = says

pub finish_says : (x y : Result Finish Refusal) → said_finish x ≡ said_finish y → x ≡ y
finish_says = as_says finished finished_once

pub checkpoint_says : (x y : Result Progress Refusal) → said_checkpoint x ≡ said_checkpoint y → x ≡ y
checkpoint_says = as_says reached once
  where
    once : (a b : Progress) → reached a ≡ reached b → a ≡ b
    once a b e =
        ap (λ (g : Reached). record { ordinal = g.ordinal; offset = g.offset; sum = g.sum; limit = g.limit; pending = g.pending }) e

pub drain_says : (x y : Result ℤ Refusal) → said_drain x ≡ said_drain y → x ≡ y
drain_says = says

pub clear_says : (x y : Result (Unit {0}) Refusal) → said_clear x ≡ said_clear y → x ≡ y
clear_says = as_says (λ done. empty) (λ a b e. refl)
