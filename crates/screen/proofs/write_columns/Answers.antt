-- `screen::write_columns` leaves no cell out: in each turn it adds one column, so behind the last it has the sum of all cells.
-- Assumes nothing.
use Rattle.std.proofs.Common.{◌≡◌, ℕ, ◌+◌, ◌≤◌, [], length, get_or, subst, ◌∙◌, arith, rules}
use Rattle.counts.specs.Totals.{total}
use Rattle.screen.proofs.Columns.{rows_long, first, first_none, first_more, first_all, three_rows}
use Rattle.screen.proofs.write_columns.Goals as goal

pub loop-ns-init : goal.loop-ns-init
loop-ns-init g c = (omega arith, first_none c.args.grid)

pub loop-ns-preserved : goal.loop-ns-preserved
loop-ns-preserved g c =
    let n = c.loop-ns.ns in
    let a = first_more 0 c.args.grid n in
    let b = first_more 1 c.args.grid n in
    let d = first_more 2 c.args.grid n in
    (omega arith, omega arith)

pub returns : goal.returns
returns g c =
    let grid = c.args.grid in
    let n : c.loop-ns.ns ≡ 64 = omega arith in
    let told = c.loop-ns.invariant.1 in
    -- there are three rows, and none is longer than 64
    let three : length grid ≡ 3 = search rules in
    let row0 : length (get_or grid 0 []) ≤ 64 = search (rows_long, rules) in
    let row1 : length (get_or grid 1 []) ≤ 64 = search (rows_long, rules) in
    let row2 : length (get_or grid 2 []) ≤ 64 = search (rows_long, rules) in
    let a = first_all 0 grid 64 row0 in
    let b = first_all 1 grid 64 row1 in
    let d = first_all 2 grid 64 row2 in
    let all = three_rows grid three in
    subst (λ (k : ℕ). c.loop-ns.told ≡ first 0 grid k + first 1 grid k + first 2 grid k) n told ∙ (let e : first 0 grid 64 + first 1 grid 64 + first 2 grid 64 ≡ total grid = omega arith in e)
