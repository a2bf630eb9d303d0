use native.Mathlib.Omega.{arith}
use Rattle.book_laws.specs.Report.{book_lines}
use Rattle.book_laws.proofs.ReportLaws.{answer-short, memory-short, answer-put, memory-put}
use Rattle.book_lines.proofs.lines.Goals as goal

pub returns-then-room-lt-BOOK_ROOM : goal.returns-then-room-lt-BOOK_ROOM
returns-then-room-lt-BOOK_ROOM c =
    record { answer = answer-short _ c.args.out.now c.if-room-lt-BOOK_ROOM.true; within = omega arith; memory = memory-short _ _ c.if-room-lt-BOOK_ROOM.true }

pub returns : goal.returns
returns c =
    let a = c.args in
    let text = book_lines a.book in
    let long = c.if-room-lt-BOOK_ROOM.false in
    let put = c.put_book-start.ensures in
    record { answer = answer-put text a.out.now long put; within = omega arith; memory = memory-put text a.out.now long put }
