-- Document 01, "Append writes at the given used count and answers the new one": its answer and the region afterwards.
-- Assumes nothing.
use Rattle.std.specs.Prelude.{ℕ, ◌+◌, ◌%◌, ◌≡◌, List, [], ◌∷◌, Bool, not, length, ltb, eqb, Result}
use Rattle.answers.specs.Answers.{Said, accepted, said, first_of, unless_refused, afterwards}
use Rattle.answers.specs.Limits.{largest_region, largest_key, largest_value, last_namespace}
use Rattle.fields.specs.Numbers.{aligned}
use Rattle.fields.specs.Runs.{over}
use Rattle.entry.specs.Layout.{length_of}
use Rattle.append.specs.Bytes.{Item, encoded, size_of}
use Rattle.answers.specs.declared.Refusal.{Refusal}

-- "Order: append 3, 5, 9, 17, 11, 12, 13.": n is the region's length, "its capacity", and `allowed` says whether the type is one that this append takes
unfoldable pub append_tests : (n used : ℕ) → Bool → (kind ns klen vlen : ℕ) → List (Bool × ℕ)
append_tests n used allowed kind ns klen vlen =
    (ltb largest_region n, 3)
    ∷ (not (eqb (used % 16) 0), 5)
    ∷ (not allowed, 9)
    ∷ (ltb last_namespace ns, 17)
    ∷ (ltb largest_key klen, 11)
    ∷ (ltb largest_value vlen, 12)
    ∷ (ltb n (used + aligned (length_of kind klen vlen)), 13)
    ∷ []

unfoldable pub append_refusal : (n used : ℕ) → Bool → (kind ns klen vlen : ℕ) → ℕ
append_refusal n used allowed kind ns klen vlen = first_of (append_tests n used allowed kind ns klen vlen)

unfoldable pub append_of : List ℕ → ℕ → Bool → Item → Said ℕ
append_of region used allowed i =
    unless_refused (append_refusal (length region) used allowed i.kind i.ns (length i.key) (length i.value))
    (accepted (used + size_of i))

-- "Bytes outside the aligned entry stay.": under a mark rule, what an append answers for a region and what it leaves of it. `first` is the refusal
-- that comes "before all others", 0 where there is none: a version's (document 02, request 10), as `version_refusal` gives it
pub record Appends (first : ℕ) (mark : ℕ → ℕ) (region : List ℕ) (used : ℕ) (allowed : Bool) (i : Item) (answer : Result ℕ Refusal) (after : List ℕ) : Type 0 where
  pub says : said answer ≡ unless_refused first (append_of region used allowed i)
  pub leaves : after ≡ afterwards (unless_refused first (append_of region used allowed i)) region (over region used (encoded (mark used) i))

-- "A data append takes type 0 or 1"
abbrev pub data_kind : ℕ → Bool
data_kind kind = ltb kind 2
