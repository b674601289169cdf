-- Document 01, "Bytes on the card": the file header, with document 02's request 10, by which there are two versions.
-- Assumes nothing.
use Rattle.std.specs.Prelude.{ℕ, ◌≡◌, List, [], ◌∷◌, ◌++◌, Bool, not, length, replicate, ltb, eqb, Result, Ok, Err}
use Rattle.answers.specs.Numbers.{number_of}
use Rattle.answers.specs.Answers.{Said, accepted, refused, first_of, unless_refused, afterwards, said_verdict}
use Rattle.answers.specs.Versions.{is_version}
use Rattle.answers.specs.declared.LogFile.{LogFile}
use Rattle.answers.specs.declared.Refusal.{Refusal}
use Rattle.fields.specs.Numbers.{field, bytes_of}
use Rattle.fields.specs.Runs.{over}

-- "Signature: the bytes 4C 4F 43 4B 44 41 54 31."
unfoldable pub signature : List ℕ
signature = 0x4C ∷ 0x4F ∷ 0x43 ∷ 0x4B ∷ 0x44 ∷ 0x41 ∷ 0x54 ∷ 0x31 ∷ []

-- "Header: signature 8, version 4, zero 4, ordinal 8, zero 4,072."
unfoldable pub header_of : (version ordinal : ℕ) → List ℕ
header_of version ordinal = signature ++ (bytes_of 4 version ++ (bytes_of 4 0 ++ (bytes_of 8 ordinal ++ replicate 4072 0)))

-- "A reader checks only length, signature and version, in that order". Eight bytes make the signature's number only where they are the
-- signature: `signature_bytes` of proofs/Signatures.antt. "2 for a wrong signature or neither version, in header reader and writer after 1"
unfoldable pub read_tests : List ℕ → List (Bool × ℕ)
read_tests s =
    (ltb (length s) 4096, 1) ∷ (not (eqb (field 8 s 0) (field 8 signature 0)), 2) ∷ (not (is_version (field 4 s 8)), 2) ∷ []

-- "The header reader answers version and ordinal"
unfoldable pub read_of : List ℕ → Said (ℕ × ℕ)
read_of s = unless_refused (first_of (read_tests s)) (accepted (field 4 s 8, field 8 s 16))

-- the answer in the paper's words
abbrev pub said_header : Result LogFile Refusal → Said (ℕ × ℕ)
said_header (Ok file) = accepted (file.version, file.ordinal)
said_header (Err r) = refused (number_of r) []

-- "header writer 1", and 2 after it
unfoldable pub write_of : List ℕ → (version : ℕ) → Said (Unit {0})
write_of lent version = unless_refused (first_of ((ltb (length lent) 4096, 1) ∷ (not (is_version version), 2) ∷ [])) (accepted tt)

-- "The writer fills the first 4,096 lent bytes and touches no more."
pub record Writes (lent : List ℕ) (version ordinal : ℕ) (verdict : Result (Unit {0}) Refusal) (after : List ℕ) : Type 0 where
  pub says : said_verdict verdict ≡ write_of lent version
  pub leaves : after ≡ afterwards (write_of lent version) lent (over lent 0 (header_of version ordinal))
