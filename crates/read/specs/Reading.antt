-- Document 01, "Read at a place", with document 02's request 4, over any mark rule, and for a file of either version (request 10).
-- Assumes nothing.
use Rattle.std.specs.Prelude.{ℕ, ◌+◌, ◌-◌, ◌%◌, min, List, [], ◌∷◌, Bool, not, length, take, drop, ltb, eqb}
use Rattle.answers.specs.Answers.{Said, accepted, refused, first_of, unless_refused}
use Rattle.answers.specs.Limits.{largest_region}
use Rattle.answers.specs.Versions.{version_refusal}
use Rattle.fields.specs.Numbers.{field}
use Rattle.entry.specs.Words.{mark_of, word_mark, word_namespace, word_kind}
use Rattle.entry.specs.Layout.{placed, agrees}
use Rattle.entry.specs.declared.Entry.{Entry}
use Rattle.read.specs.declared.Fields.{Fields}

-- "the reader looks at min(hint, N - p) bytes starting at p inside the region, or none if p is past N."
unfoldable pub view_of : List ℕ → ℕ → ℕ → List ℕ
view_of region p hint = take (min hint (length region - p)) (drop p region)

-- "The data layout is used whatever the type": key length, value length and the checksum's place in what is looked at
abbrev pub view_klen : List ℕ → ℕ
view_klen view = field 2 view 4

abbrev pub view_vlen : List ℕ → ℕ
view_vlen view = field 2 view 6

abbrev pub view_sum : List ℕ → ℕ
view_sum view = 8 + view_vlen view + view_klen view

-- "Order: 6 if under 8 bytes; 7; 6 if shorter than the data layout says; 8; 9 if type 2 or 3."
unfoldable pub parse_tests : ℕ → List ℕ → List (Bool × ℕ)
parse_tests mark view =
    (ltb (length view) 8, 6)
    ∷ (not (eqb (word_mark (field 4 view 0)) mark), 7)
    ∷ (ltb (length view) (view_sum view + 2), 6)
    ∷ (not (agrees view 0 (view_sum view)), 8)
    ∷ (ltb 1 (word_kind (field 4 view 0)), 9)
    ∷ []

-- the fields of an entry that begins with the view's first byte, whatever its place. Document 02, request 4: "The read at a place shall report Insert or Update as the word says." Document 01's line, by which an update was told
-- as an insert, is withdrawn
abbrev pub fields_of : List ℕ → Fields
fields_of view = record { kind = word_kind (field 4 view 0); ns = word_namespace (field 4 view 0); klen = view_klen view; vlen = view_vlen view }

unfoldable pub parse_of : ℕ → List ℕ → Said Fields
parse_of mark view = unless_refused (first_of (parse_tests mark view)) (accepted (fields_of view))

-- the entry at p with these fields
abbrev pub at : ℕ → Said Fields → Said Entry
at p (accepted f) = accepted (placed p f.kind f.ns f.klen f.vlen)
at p (refused n values) = refused n values

-- "Read at a place 3, 5, then as above."
unfoldable pub read_of : (ℕ → ℕ) → List ℕ → ℕ → ℕ → Said Entry
read_of mark region p hint =
    unless_refused (first_of ((ltb largest_region (length region), 3) ∷ (not (eqb (p % 16) 0), 5) ∷ []))
    (at p (parse_of (mark p) (view_of region p hint)))

-- "every call that needs a mark takes both", version and ordinal, and 2 comes "before all others"
abbrev pub read_in : (version ordinal : ℕ) → List ℕ → ℕ → ℕ → Said Entry
read_in version ordinal region p hint = unless_refused (version_refusal version) (read_of (mark_of version ordinal) region p hint)
