-- No second answer fits the header's contracts, and no other bytes.
-- Assumes nothing.
use Prim.Native.Nat.{ℕ}
use mathlib.Core.Path.{◌≡◌, sym, ap, ap₂, ◌∙◌}
use native.Mathlib.Omega.{arith}
use Rattle.answers.specs.Numbers.{number_of}
use Rattle.answers.specs.OneAnswer.{OneAnswer, OneOutcome}
use Rattle.answers.proofs.Cases.{same_number, verdict_once}
use Rattle.header.specs.Header.{said_header}
use Rattle.std.specs.Prelude.{Result, Ok, Err}
use Rattle.answers.specs.declared.LogFile.{LogFile}
use Rattle.answers.specs.declared.Refusal.{Refusal}
use Rattle.header.proofs.read_header.Kinds as read-kinds
use Rattle.header.proofs.read_header.Reads as read
use Rattle.header.proofs.write_header.Kinds as write-kinds
use Rattle.header.proofs.write_header.Reads as write

-- the paper's words tell the answers apart
pub said_once : (a b : Result LogFile Refusal) → said_header a ≡ said_header b → a ≡ b
said_once (Ok a) (Ok b) e =
    let both : ◌≡◌ {A = ℕ × ℕ} (a.version, a.ordinal) (b.version, b.ordinal) = cc in
    ap₂ (λ (version ordinal : ℕ). Ok (record { version = version; ordinal = ordinal })) (ap (λ (x : ℕ × ℕ). x.0) both) (ap (λ (x : ℕ × ℕ). x.1) both)
said_once (Ok a) (Err q) e = absurd (let z : ◌≡◌ {A = ℕ} 0 1 = cc in omega arith)
said_once (Err r) (Ok b) e = absurd (let z : ◌≡◌ {A = ℕ} 0 1 = cc in omega arith)
said_once (Err r) (Err q) e = let n : number_of r ≡ number_of q = cc in ap Err (same_number r q n)

pub read_header_only : OneAnswer 1 read-kinds.ps read-kinds.r read.Post
read_header_only κs args r s x y hr hs = said_once r s (hr ∙ sym hs)

pub write_header_only : OneOutcome 1 write-kinds.ps write-kinds.r write.Post (λ κs x. x.0.now)
write_header_only κs args r s x y hr hs = (verdict_once r s (hr.says ∙ sym hs.says), hr.leaves ∙ sym hs.leaves)
