-- `card::file_and_data` is safe: a header that was accepted is 4,096 bytes long, so the data region begins within the card, and its version is one
-- of the two.
-- Assumes nothing.
use Rattle.std.proofs.Common.{sym, ap, ◌∙◌, rules}
use Rattle.header.specs.Header.{said_header}
use Rattle.header.proofs.Accepted.{accepted_long, accepted_version}
use Rattle.card.proofs.file_and_data.Goals as goal

pub slice_bounds-result-count : goal.slice_bounds-result-count
slice_bounds-result-count c =
    accepted_long _ (sym c.read_header.ensures ∙ ap said_header c.in_ok-file.was)

pub slice_bounds-result-start : goal.slice_bounds-result-start
slice_bounds-result-start c =
    accepted_long _ (sym c.read_header.ensures ∙ ap said_header c.in_ok-file.was)

pub returns : goal.returns
returns c =
    let accepted = sym c.read_header.ensures ∙ ap said_header c.in_ok-file.was in
    let long = accepted_long _ accepted in
    (accepted_version _ accepted, search rules)
