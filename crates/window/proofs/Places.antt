-- What holds of the places of the window and of the powers, one place after the other.
-- Assumes nothing.
use mathlib.Core.Path.{◌≡◌, refl, sym, ap, subst, ◌∙◌}
use mathlib.Core.Logic.{⊎_elim}
use mathlib.Core.List.{List}
use Prim.Native.Nat.{ℕ, ◌+◌, ◌-◌, ◌*◌, ◌^◌, ◌<◌, ◌≤◌}
use native.Mathlib.Nat.{eq-or-lt_of_le}
use native.Mathlib.Omega.{arith}
use lib.Dec.{lit<}
use lib.ListN.{length, take, drop, get_or, set}
use lib.Pow.{pow-add}
use lib.Seq.{get_or-set_same, get_or-set_other, take-add, drop-drop}
use Rattle.checksum.specs.Catalogue.{steps, crc_from}
use Rattle.checksum.proofs.Linear.{steps_lt}
use Rattle.checksum.proofs.Runs.{crc_from_append}
use Rattle.folds.specs.Leaves.{Same}
use Rattle.folds.proofs.Congruence.{same_of, same_sym, same_trans, same_shift, same_low, same_steps}
use Rattle.window.specs.Windows.{Registers, PowersLeft, Powers, Keeps, Times}
use Rattle.window.specs.declared.Window.{Window}
use Rattle.window.proofs.Products.{power_right}

-- ---- a store adds a place: what holds of each before it, and of what is stored there, holds of one more

one_more : (P : ℕ → ℕ → Type 0) (l : List ℕ) (n r : ℕ) → n < length l → ((j : ℕ) → j < n → P j (get_or l j 0)) → P n r
    → (j : ℕ) → j < n + 1 → P j (get_or (set l n r) j 0)
one_more P l n r room all this j h =
    ⊎_elim
    (λ (e : j ≡ n). subst (λ (i : ℕ). P i (get_or (set l n r) i 0)) (sym e) (subst (P n) (sym (get_or-set_same l n r 0 room)) this))
    (λ (lt : j < n). subst (P j) (sym (get_or-set_other l n j r 0 (λ e. absurd (let same : j ≡ n = e in omega arith)))) (all j lt))
    (eq-or-lt_of_le (omega arith))

-- ---- the powers

pub powers_first : (l : List ℕ) → 0 < length l → PowersLeft (set l 0 1) 1
unfolding steps
powers_first l h = one_more (λ j x. x ≡ steps (2048 * j) 1) l 0 1 h (λ j lt. absurd (omega arith)) refl

-- what the power at a place leaves
pub power_at : (l : List ℕ) {n : ℕ} → PowersLeft l n → (j : ℕ) → j < n → Same (get_or l j 0) (2 ^ (2048 * j))
power_at l w j h =
    let one : 1 * 2 ^ (2048 * j) ≡ 2 ^ (2048 * j) = omega arith in
    same_trans (same_of (w j h)) (same_trans (same_sym (same_steps (2048 * j) 1 (lit< tt))) (same_of one))

pub powers_more : (l : List ℕ) {n r : ℕ} → n < length l → 0 < n → PowersLeft l n → Times (get_or l (n - 1) 0) 64848 r
    → PowersLeft (set l n r) (n + 1)
powers_more l {n} {r} room some w t =
    let e : 2048 * (n - 1) + 2048 ≡ 2048 * n = omega arith in
    let one : 1 * 2 ^ (2048 * n) ≡ 2 ^ (2048 * n) = omega arith in
    one_more (λ j x. x ≡ steps (2048 * j) 1) l n r room w
    (same_low t.low (steps_lt (2048 * n) 1 (lit< tt))
    (same_trans (t.by 2048 power_right)
    (same_trans (same_shift 2048 (power_at l w (n - 1) (omega arith)))
    (same_trans (same_of (sym (pow-add 2 (2048 * (n - 1)) 2048) ∙ ap (λ (i : ℕ). 2 ^ i) e ∙ sym one))
    (same_steps (2048 * n) 1 (lit< tt))))))

-- ---- the registers

-- the bytes from a to c, by those from a to b and those from b to c
pub run_on : (r a b c : ℕ) (s : List ℕ) → a ≤ b → b ≤ c
    → crc_from r (take (c - a) (drop a s)) ≡ crc_from (crc_from r (take (b - a) (drop a s))) (take (c - b) (drop b s))
run_on r a b c s h k =
    let parts : c - a ≡ (b - a) + (c - b) = omega arith in
    let there : a + (b - a) ≡ b = omega arith in
    ap (λ (n : ℕ). crc_from r (take n (drop a s))) parts
    ∙ ap (crc_from r) (take-add (b - a) (c - b) (drop a s))
    ∙ crc_from_append r (take (b - a) (drop a s)) (take (c - b) (drop (b - a) (drop a s)))
    ∙ ap (λ (l : List ℕ). crc_from (crc_from r (take (b - a) (drop a s))) (take (c - b) l)) (drop-drop (b - a) a s ∙ ap (λ (n : ℕ). drop n s) there)

-- a register, by where its bytes end
pub register_at : (l s : List ℕ) (base : ℕ) {n : ℕ} → Registers l s base n → (j : ℕ) → j < n
    → get_or l j 0 ≡ crc_from 0 (take (base + 256 * j - base) (drop base s))
register_at l s base w j h =
    let e : 256 * j ≡ base + 256 * j - base = omega arith in
    w j h ∙ ap (λ (n : ℕ). crc_from 0 (take n (drop base s))) e

pub registers_first : (l s : List ℕ) (base : ℕ) → 0 < length l → Registers (set l 0 0) s base 1
unfolding crc_from
registers_first l s base h =
    one_more (λ j x. x ≡ crc_from 0 (take (256 * j) (drop base s))) l 0 0 h (λ j lt. absurd (omega arith)) refl

pub registers_more : (l s : List ℕ) (base n r : ℕ) → n < length l → 0 < n → Registers l s base n
    → let at = base + 256 * (n - 1) in r ≡ crc_from (get_or l (n - 1) 0) (take (at + 256 - at) (drop at s))
    → Registers (set l n r) s base (n + 1)
registers_more l s base n r room some w e =
    let at = base + 256 * (n - 1) in
    let next : at + 256 - base ≡ 256 * n = omega arith in
    one_more (λ j x. x ≡ crc_from 0 (take (256 * j) (drop base s))) l n r room w
    (e ∙ ap (λ (x : ℕ). crc_from x (take (at + 256 - at) (drop at s))) (register_at l s base w (n - 1) (omega arith))
    ∙ sym (run_on 0 base at (at + 256) s (omega arith) (omega arith))
    ∙ ap (λ (k : ℕ). crc_from 0 (take k (drop base s))) next)

-- ---- the caller's laws

-- a window that isn't open is right whatever stands in it
pub keeps_none : (registers powers s : List ℕ) (base : ℕ) → Keeps registers powers s base 0
keeps_none registers powers s base = record { room = omega arith; window = λ j h. absurd (omega arith); powers = λ h. absurd (omega arith) }

-- what a window has
pub keeps_window : (w : Window) → Keeps w.registers w.powers w.region.now w.base w.count
keeps_window w = record { room = w.room; window = w.taken; powers = λ h. record { at = power_at w.powers (w.known h) } }

-- numbers of sixteen bits that leave what the powers of x leave are what these leave
pub powers_left : (l : List ℕ) {n : ℕ} → ((j : ℕ) → get_or l j 0 < 2 ^ 16) → Powers l n → PowersLeft l n
powers_left l small w j h =
    let one : 2 ^ (2048 * j) ≡ 1 * 2 ^ (2048 * j) = omega arith in
    same_low (small j) (steps_lt (2048 * j) 1 (lit< tt)) (same_trans (w.at j h) (same_trans (same_of one) (same_steps (2048 * j) 1 (lit< tt))))

-- and with it, what makes a window
pub keeps_makes : {registers powers s : List ℕ} {base count : ℕ} → ((j : ℕ) → get_or powers j 0 < 2 ^ 16) → Keeps registers powers s base count
    → (count ≤ 1024) × Registers registers s base count × (0 < count → PowersLeft powers 1024)
keeps_makes {powers = powers} small k = (k.room, k.window, λ h. powers_left powers small (k.powers h))
