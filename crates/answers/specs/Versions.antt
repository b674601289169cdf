-- Document 02, request 10: the two versions of a file, and the refusal of any other.
-- Assumes nothing.
use Rattle.std.specs.Prelude.{ℕ, ◌≡◌, [], ◌∷◌, Bool, not, ◌||◌, eqb, Result, Ok, Err}
use Rattle.answers.specs.Numbers.{number_of}
use Rattle.answers.specs.Answers.{Said, accepted, refused, first_of, unless_refused}
use Rattle.answers.specs.declared.Refusal.{Refusal}
use Rattle.answers.specs.declared.Version.{Version}
use Rattle.answers.specs.declared.Version.TheVariants.{One, Two}

-- "Version 1", and "Version 2 files"
unfoldable pub is_version : ℕ → Bool
is_version version = eqb version 1 || eqb version 2

-- "Refusals: 2 for a wrong signature or neither version, in header reader and writer after 1, elsewhere before all others.": 2 of a version that
-- is neither, else 0
unfoldable pub version_refusal : ℕ → ℕ
version_refusal version = first_of ((not (is_version version), 2) ∷ [])

-- the number that a file has for its version
abbrev pub version_number : Version → ℕ
version_number One = 1
version_number Two = 2

-- what a number is read as: the version that has it, or 2
abbrev pub said_version : Result Version Refusal → Said ℕ
said_version (Ok version) = accepted (version_number version)
said_version (Err r) = refused (number_of r) []

abbrev pub VersionRead : ℕ → Result Version Refusal → Type 0
VersionRead number r = said_version r ≡ unless_refused (version_refusal number) (accepted number)
