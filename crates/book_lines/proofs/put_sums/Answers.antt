use Rattle.std.proofs.Common.{◌≤◌, arith, length}
use Rattle.text_laws.proofs.WordLineLaws.{whole_room, amount-room, word-ok, word-left}
use Rattle.book_laws.specs.Report.{bonds_word, options_word, allowances_word, dearest_word}
use Rattle.book_laws.proofs.ReportLaws.{sums-stand}
use Rattle.book_lines.proofs.put_sums.Goals as goal
use Rattle.book_lines.proofs.put_sums.Goals.{After-unwrap-dearest, After-unwrap-allowed, After-unwrap-optional}

pub unwrap-dearest-requires : goal.unwrap-dearest-requires
unwrap-dearest-requires c =
    word-ok dearest_word _ _ _ c.whole_line.result (omega arith) (omega arith) c.requires.1 (c.whole_line.ensures.value, c.whole_line.ensures.out_after)

-- the room that each line leaves for those above it
below-dearest : (c : After-unwrap-dearest) → (384 ≤ c.unwrap-dearest.result) × (c.unwrap-dearest.result ≤ length c.whole_line.new.out)
below-dearest c =
    word-left dearest_word _ _ _ 384 (omega arith) (omega arith) c.requires.1 (whole_room dearest_word (omega arith) c.args.place c.ranges.place.fits)
    (rw c.unwrap-dearest.ensures at c.whole_line.ensures.value, c.whole_line.ensures.out_after)

pub unwrap-allowed-requires : goal.unwrap-allowed-requires
unwrap-allowed-requires c =
    let room = below-dearest (goal.at.unwrap-allowed-requires c).After-unwrap-dearest in
    word-ok allowances_word _ _ _ c.whole_line-2.result (omega arith) (omega arith) room.1 (c.whole_line-2.ensures.value, c.whole_line-2.ensures.out_after)

below-allowed : (c : After-unwrap-allowed) → (256 ≤ c.unwrap-allowed.result) × (c.unwrap-allowed.result ≤ length c.whole_line-2.new.out)
below-allowed c =
    let room = below-dearest (goal.at.After-unwrap-allowed c).After-unwrap-dearest in
    word-left allowances_word _ _ _ 256 (omega arith) (omega arith) room.1
    (whole_room allowances_word (omega arith) c.args.error_bounds c.ranges.error_bounds.fits)
    (rw c.unwrap-allowed.ensures at c.whole_line-2.ensures.value, c.whole_line-2.ensures.out_after)

pub unwrap-optional-requires : goal.unwrap-optional-requires
unwrap-optional-requires c =
    let room = below-allowed (goal.at.unwrap-optional-requires c).After-unwrap-allowed in
    word-ok options_word _ _ _ c.amount_line.result (omega arith) (omega arith) room.1 (c.amount_line.ensures.value, c.amount_line.ensures.out_after)

below-optional : (c : After-unwrap-optional) → (128 ≤ c.unwrap-optional.result) × (c.unwrap-optional.result ≤ length c.amount_line.new.out)
below-optional c =
    let room = below-allowed (goal.at.After-unwrap-optional c).After-unwrap-allowed in
    word-left options_word _ _ _ 128 (omega arith) (omega arith) room.1 (amount-room options_word (omega arith) c.args.options c.ranges.options.fits)
    (rw c.unwrap-optional.ensures at c.amount_line.ensures.value, c.amount_line.ensures.out_after)

pub unwrap-requires : goal.unwrap-requires
unwrap-requires c =
    let room = below-optional (goal.at.unwrap-requires c).After-unwrap-optional in
    word-ok bonds_word _ _ _ c.amount_line-2.result (omega arith) room.0 room.1 (c.amount_line-2.ensures.value, c.amount_line-2.ensures.out_after)

pub returns : goal.returns
returns c =
    sums-stand c.args.bonds c.args.options c.args.error_bounds c.args.place c.ranges.bonds.fits c.ranges.options.fits
    c.ranges.error_bounds.fits c.ranges.place.fits c.requires.0 c.requires.1
    (rw c.unwrap-dearest.ensures at c.whole_line.ensures.value, c.whole_line.ensures.out_after)
    (rw c.unwrap-allowed.ensures at c.whole_line-2.ensures.value, c.whole_line-2.ensures.out_after)
    (rw c.unwrap-optional.ensures at c.amount_line.ensures.value, c.amount_line.ensures.out_after)
    (rw c.unwrap.ensures at c.amount_line-2.ensures.value, c.amount_line-2.ensures.out_after)
