use Rattle.book_report.proofs.report.Goals as goal

pub returns : goal.returns
returns c =
    let of-file = c.file_book.ensures in
    let written = c.lines.ensures in
    record { answer = rw (← of-file) written.answer; within = written.within; memory = rw (← of-file) written.memory }
