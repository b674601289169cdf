-- Where no test of an ordered list holds: what an accepting operation has found out.
-- Assumes nothing.
use Prim.Native.Nat.{ℕ, zero, suc}
use mathlib.Core.Bool.{Bool, true, false, not}
use mathlib.Core.List.{List, []}
use mathlib.Core.Path.{◌≡◌, refl}
use native.Mathlib.Omega.{arith}
use Rattle.answers.specs.Answers.{Said, accepted, refused, pick_number, unless_refused}

-- what the test of a negation has found out
pub not-true : (b : Bool) → not b ≡ true → b ≡ false
not-true true h = absurd (let z : ◌≡◌ {A = ℕ} 0 1 = cc in omega arith)
not-true false h = refl

pub not-false : (b : Bool) → not b ≡ false → b ≡ true
not-false true h = refl
not-false false h = absurd (let z : ◌≡◌ {A = ℕ} 0 1 = cc in omega arith)

-- the test at hand is passed over, and the number of none of them is 0
pub first_passed : (test : Bool) (n rest : ℕ) → pick_number test (suc n) rest ≡ 0 → (test ≡ false) × (rest ≡ 0)
first_passed true n rest e = absurd (omega arith)
first_passed false n rest e = (refl, e)

-- an accepting answer comes behind no refusal
pub accepted_unrefused : {A : Type 0} (n : ℕ) (answer : Said A) {a : A} → unless_refused n answer ≡ accepted a → (n ≡ 0) × (answer ≡ accepted a)
accepted_unrefused zero answer e = (refl, e)
accepted_unrefused (suc n) answer e = let z : ◌≡◌ {A = ℕ} 0 1 = cc in absurd (omega arith)

-- a refusal that comes before an answer that is accepted comes before any other
pub refused_first : {A B : Type 0} (n : ℕ) (a : A) (answer : Said B) {number : ℕ} {values : List ℕ} → unless_refused n (accepted a) ≡ refused number values → unless_refused n answer ≡ refused number values
refused_first zero a answer e = absurd (let z : ◌≡◌ {A = ℕ} 0 1 = cc in omega arith)
refused_first (suc n) a answer {number} {values} e =
    let k : suc n ≡ number = cc in
    let v : ◌≡◌ {A = List ℕ} [] values = cc in
    cc
