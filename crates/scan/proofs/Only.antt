-- No second answer fits the contracts of the walk and of the parts that are handed back.
-- Assumes nothing.
use Prim.Native.Nat.{ℕ}
use mathlib.Core.Path.{◌≡◌, refl, sym, ap, ◌∙◌}
use native.Mathlib.Omega.{arith}
use Rattle.std.specs.Prelude.{Option, Some, None, Result, Ok, Err}
use Rattle.answers.specs.OneAnswer.{Agree, OneAnswer}
use Rattle.answers.specs.declared.Stopped.{Stopped}
use Rattle.answers.specs.declared.Stopped.TheVariants.{Refused, UnknownAt}
use Rattle.answers.proofs.Cases.{stopped_once}
use Rattle.entry.specs.declared.Entry.{Entry}
use Rattle.scan.specs.Walk.{Step, step_of, said}
use Rattle.scan.proofs.key_of.Kinds as key-of-kinds
use Rattle.scan.proofs.key_of.Reads as key_of
use Rattle.scan.proofs.value_of.Kinds as value-of-kinds
use Rattle.scan.proofs.value_of.Reads as value-of-reads
use Rattle.scan.proofs.walk.Kinds as walk-kinds
use Rattle.scan.proofs.walk.Reads as walk

step_once : (a b : Option Entry) → step_of a ≡ step_of b → a ≡ b
step_once (Some d) (Some e) h = cc
step_once (Some d) None h = absurd (let z : ◌≡◌ {A = ℕ} 0 1 = cc in omega arith)
step_once None (Some e) h = absurd (let z : ◌≡◌ {A = ℕ} 0 1 = cc in omega arith)
step_once None None h = refl

-- the paper's words tell the answers apart
pub said_once : (a b : Result (Option Entry) Stopped) → said a ≡ said b → a ≡ b
said_once (Ok x) (Ok y) e = let z : step_of x ≡ step_of y = cc in ap Ok (step_once x y z)
said_once (Ok x) (Err (Refused r)) e = absurd (let z : ◌≡◌ {A = ℕ} 0 1 = cc in omega arith)
said_once (Ok x) (Err (UnknownAt p)) e = absurd (let z : ◌≡◌ {A = ℕ} 0 1 = cc in omega arith)
said_once (Err (Refused r)) (Ok y) e = absurd (let z : ◌≡◌ {A = ℕ} 0 1 = cc in omega arith)
said_once (Err (UnknownAt p)) (Ok y) e = absurd (let z : ◌≡◌ {A = ℕ} 0 1 = cc in omega arith)
said_once (Err x) (Err y) e = let z : ◌≡◌ {A = Result Step Stopped} (Err x) (Err y) = stopped_once (Err x) (Err y) e in cc

pub walk_only : OneAnswer 1 walk-kinds.ps walk-kinds.r walk.Post
walk_only κs args r s x y hr hs = said_once r s (hr ∙ sym hs)

-- a part that is handed back is known by its bytes and by the place it points to
pub key_of_only : Agree 1 key-of-kinds.ps key-of-kinds.r key_of.Post (λ κs r s x y. (r.now ≡ s.now) × (r.ref_ptr.0 ≡ s.ref_ptr.0) × (r.ref_ptr.1 ≡ s.ref_ptr.1))
key_of_only κs args r s x y hr hs = (hr.0 ∙ sym hs.0, hr.1.0 ∙ sym hs.1.0, hr.1.1 ∙ sym hs.1.1)

pub value_of_only : Agree 1 value-of-kinds.ps value-of-kinds.r value-of-reads.Post (λ κs r s x y. (r.now ≡ s.now) × (r.ref_ptr.0 ≡ s.ref_ptr.0) × (r.ref_ptr.1 ≡ s.ref_ptr.1))
value_of_only κs args r s x y hr hs = (hr.0 ∙ sym hs.0, hr.1.0 ∙ sym hs.1.0, hr.1.1 ∙ sym hs.1.1)
