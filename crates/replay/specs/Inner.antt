-- What the helper of both limits promises; no public call speaks of it.
-- Assumes nothing.
use Rattle.std.specs.Prelude.{ℕ, ◌+◌, [], ◌∷◌, ltb}
use Rattle.answers.specs.Answers.{first_of}
use Rattle.answers.specs.Limits.{largest_region, largest_key, largest_value}
use Rattle.fields.specs.Numbers.{aligned}

-- the limits of an entry by the length that its head has
unfoldable pub entry_limits : ℕ → ℕ → ℕ → ℕ → ℕ
entry_limits head klen vlen maximum =
    first_of (
    (ltb largest_region maximum, 3)
    ∷ (ltb largest_key klen, 11)
    ∷ (ltb largest_value vlen, 12)
    ∷ (ltb maximum (aligned (head + klen + vlen)), 13)
    ∷ [])
