-- What the window holds. Division leaves of a run what it leaves of the run's first part, moved up, and of the rest; so from the
-- registers at two places and the power of x between them comes the register of the bytes between.
-- Assumes nothing.
use Rattle.std.specs.Prelude.{◌≡◌, List, ℕ, ◌*◌, ◌^◌, ◌<◌, ◌≤◌, take, drop, get_or}
use Rattle.checksum.specs.Catalogue.{steps, crc_from}
use Rattle.folds.specs.Leaves.{Same}

-- the first n of l are the registers, from a register of zeros, after the first 0, 256, 512, .. bytes of s from base on
abbrev pub Registers : List ℕ → List ℕ → ℕ → ℕ → Type 0
Registers l s base n = (j : ℕ) → j < n → get_or l j 0 ≡ crc_from 0 (take (256 * j) (drop base s))

-- the first n of l are what x ^ 0, x ^ 2048, x ^ 4096, .. leave: 256 bytes are 2,048 bits
abbrev pub PowersLeft : List ℕ → ℕ → Type 0
PowersLeft l n = (j : ℕ) → j < n → get_or l j 0 ≡ steps (2048 * j) 1

-- the first n of l leave what x ^ 0, x ^ 2048, x ^ 4096, .. leave
pub record Powers (l : List ℕ) (n : ℕ) : Type 0 where
  pub at : (j : ℕ) → j < n → Same (get_or l j 0) (2 ^ (2048 * j))

-- what a caller keeps from sum to sum: registers of the bytes from base on, and with the first of them the powers; before the window is opened nothing
pub record Keeps (registers lent s : List ℕ) (base count : ℕ) : Type 0 where
  pub room : count ≤ 1024
  pub window : Registers registers s base count
  pub powers : 0 < count → Powers lent 1024

-- the register r leaves what the product of a and b leaves, where b leaves what a power of x leaves
pub record Times (a b r : ℕ) : Type 0 where
  pub low : r < 2 ^ 16
  pub by : (e : ℕ) → Same b (2 ^ e) → Same r (a * 2 ^ e)
