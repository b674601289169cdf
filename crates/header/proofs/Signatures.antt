-- The signature as one number, and that no other eight bytes make it.
-- Assumes nothing.
use Prim.Native.Nat.{ℕ, zero, suc, ◌<◌, ◌≤◌}
use mathlib.Core.Path.{◌≡◌, refl, ◌∙◌}
use mathlib.Core.List.{List}
use native.Mathlib.Nat.{zero-add}
use native.Mathlib.Omega.{arith}
use lib.ListN.{length, take, get_or, length-take}
use lib.Seq.{ext_get_or, get_or-take}
use Rattle.fields.specs.Numbers.{field}
use Rattle.fields.proofs.Widths.{field_once}
use Rattle.header.specs.Header.{signature}

pub signature_number : field 8 signature 0 ≡ 0x3154_4144_4B43_4F4C
unfolding field signature
signature_number = refl

signature_low : (i : ℕ) → get_or signature i 0 < 256
unfolding signature
signature_low zero = omega arith
signature_low (suc zero) = omega arith
signature_low (suc (suc zero)) = omega arith
signature_low (suc (suc (suc zero))) = omega arith
signature_low (suc (suc (suc (suc zero)))) = omega arith
signature_low (suc (suc (suc (suc (suc zero))))) = omega arith
signature_low (suc (suc (suc (suc (suc (suc zero)))))) = omega arith
signature_low (suc (suc (suc (suc (suc (suc (suc zero))))))) = omega arith
signature_low (suc (suc (suc (suc (suc (suc (suc (suc i)))))))) = omega arith

-- what the reader takes for the signature is the signature, byte for byte
pub signature_bytes : (s : List ℕ) → ((i : ℕ) → get_or s i 0 < 256) → 8 ≤ length s → field 8 s 0 ≡ field 8 signature 0 → take 8 s ≡ signature
unfolding signature
signature_bytes s bytes long e =
    ext_get_or 0 (take 8 s) signature (simp length-take (omega arith))
    (λ i l.
    let short = simp length-take at l in
    get_or-take 8 s i 0 (omega arith) ∙ (simp zero-add at (field_once 8 s signature 0 0 bytes signature_low e i (omega arith))))
