use lib.ListN.{length}
use Prim.Native.Nat.{◌+◌, ◌*◌, ◌^◌, ◌≤◌, ◌<◌}
use native.Mathlib.Omega.{arith}
use borrow.Author.Rules.{rules}
use Rattle.text_laws.specs.Lines.{longest_line}
use Rattle.book_laws.specs.Bounds.{most_number}
use Rattle.book_laws.proofs.ReportLaws.{refusals-room-left, priced-ok, book-stands}
use Rattle.book_lines.proofs.put_book.Goals as goal
use Rattle.book_lines.proofs.put_book.Goals.{After-put_sums-sums_start, Start}

-- the room that the sums leave
after-sums : (c : After-put_sums-sums_start) →
    (longest_line * most_number + longest_line ≤ c.put_sums-sums_start.result) × (c.put_sums-sums_start.result ≤ length c.put_sums-sums_start.new.out)
after-sums c =
    refusals-room-left c.args.book c.put_sums-sums_start.ensures c.requires.0 (search rules) (search rules) (search rules) (search rules)

-- the number of priced jobs fits
priced-fits : (s : Start) → s.args.book.priced < 2 ^ 64
priced-fits s = search rules

pub put_refusals-refusals_start-requires : goal.put_refusals-refusals_start-requires
put_refusals-refusals_start-requires c =
    let r = after-sums (goal.at.put_refusals-refusals_start-requires c).After-put_sums-sums_start in
    (search rules, omega arith, r.1)

pub unwrap-requires : goal.unwrap-requires
unwrap-requires c =
    let r = after-sums (goal.at.unwrap-requires c).After-put_sums-sums_start in
    let q = c.put_refusals-refusals_start.ensures in
    priced-ok c.args.book q.put q.end_bound r.0 _ c.whole_line.result (c.whole_line.ensures.value, c.whole_line.ensures.out_after)

pub returns : goal.returns
returns c =
    let r = after-sums (goal.at.returns c).After-put_sums-sums_start in
    book-stands c.args.book c.put_sums-sums_start.ensures c.put_refusals-refusals_start.ensures.put c.put_refusals-refusals_start.ensures.end_bound
    r.0 (priced-fits (goal.at.returns c).Start)
    (rw c.unwrap.ensures at c.whole_line.ensures.value, c.whole_line.ensures.out_after)
