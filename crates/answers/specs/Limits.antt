-- Document 01, "Values the text names but does not define": the limits that refusals speak of.
-- Assumes nothing.
use Rattle.std.specs.Prelude.{ℕ}

-- "Largest data region 268,435,456 bytes."
abbrev pub largest_region : ℕ
largest_region = 268435456

-- "Key at most 4,096 bytes, value at most 32,768"
abbrev pub largest_key : ℕ
largest_key = 4096

abbrev pub largest_value : ℕ
largest_value = 32768

-- "Namespace: 6 bits, 0 to 63."
abbrev pub last_namespace : ℕ
last_namespace = 63
