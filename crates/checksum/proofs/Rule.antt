-- What stands at a place of a table, from what the whole table is; and so the steps by the code's two tables.
-- Assumes nothing.
use mathlib.Core.Path.{◌≡◌, refl, sym, ap, ap₂, ◌∙◌}
use mathlib.Core.List.{List}
use Prim.Native.Nat.{ℕ, zero, suc, ◌+◌, ◌*◌, ◌/◌, ◌%◌, ◌^◌, ◌<◌}
use native.Mathlib.Nat.{zero-add, le_of_suc-le-suc, not-suc-le-zero}
use native.Mathlib.Omega.{arith}
use lib.Bits.{bit_xor}
use lib.ListN.{get_or}
use Rattle.checksum.specs.Catalogue.{taken, step, steps, byte}
use Rattle.checksum.specs.Table.{tabulate, entries}
use Rattle.checksum.specs.declared.TheConstants.{TABLE, SECOND_TABLE}
use Rattle.checksum.proofs.Linear.{place_lt, lower_place_lt, byte_by_place, pair_by_places}

tabulated : (f : ℕ → ℕ) (m i k : ℕ) → k < m → get_or (tabulate f i m) k 0 ≡ f (i + k)
unfolding tabulate
tabulated f zero i k h = absurd (not-suc-le-zero h)
tabulated f (suc m) i zero h = let e : i ≡ i + 0 = omega arith in ap f e
tabulated f (suc m) i (suc k) h =
    let e : suc i + k ≡ i + suc k = omega arith in
    tabulated f m (suc i) k (le_of_suc-le-suc h) ∙ ap f e

pub entry_at_lem : (n k : ℕ) (t : List ℕ) → t ≡ entries n → k < 256 → get_or t k 0 ≡ steps n (k * 2 ^ 8)
unfolding entries
entry_at_lem n k t e h =
    ap (λ (l : List ℕ). get_or l k 0) e
    ∙ tabulated (λ j. steps n (j * 2 ^ 8)) 256 0 k h
    ∙ ap (λ (j : ℕ). steps n (j * 2 ^ 8)) (zero-add k)

-- ---- the code's tables: the checker computes both by their one rule, and finds these

pub table_is : TABLE ≡ entries 8
unfolding entries tabulate steps step taken
table_is = refl

pub second_table_is : SECOND_TABLE ≡ entries 16
unfolding entries tabulate steps step taken
second_table_is = refl

-- a byte goes by one place, and two go by two
pub byte_by_table : (r b : ℕ) → r < 2 ^ 16 → b < 2 ^ 8 → byte r b ≡ bit_xor (r * 2 ^ 8 % 2 ^ 16) (get_or TABLE (bit_xor (r / 2 ^ 8) b) 0)
byte_by_table r b hr hb =
    let place = bit_xor (r / 2 ^ 8) b in
    byte_by_place r b hr hb
    ∙ ap (bit_xor (r * 2 ^ 8 % 2 ^ 16)) (sym (entry_at_lem 8 place TABLE table_is (place_lt r b hr hb)))

pub pair_by_tables : (r a b : ℕ) → r < 2 ^ 16 → a < 2 ^ 8 → b < 2 ^ 8
    → byte (byte r a) b ≡ bit_xor (get_or SECOND_TABLE (bit_xor (r / 2 ^ 8) a) 0) (get_or TABLE (bit_xor (r % 2 ^ 8) b) 0)
pair_by_tables r a b hr ha hb =
    let upper = bit_xor (r / 2 ^ 8) a in
    let lower = bit_xor (r % 2 ^ 8) b in
    pair_by_places r a b hr ha hb
    ∙ ap₂ bit_xor
    (sym (entry_at_lem 16 upper SECOND_TABLE second_table_is (place_lt r a hr ha)))
    (sym (entry_at_lem 8 lower TABLE table_is (lower_place_lt r b hb)))
