use Rattle.std.proofs.Common.{◌≡◌, ◌∙◌, ◌+◌, ◌-◌, ◌≤◌, ℕ, length, arith}
use Rattle.book_laws.specs.Books.{most_fields}
use Rattle.book_laws.proofs.FileLaws.{walk_start, walk_step, walk-stop, walk-full, end-room}
use Rattle.book_report.proofs.file_book.Goals as goal
use Rattle.book_report.proofs.file_book.Goals.{Else-end-at}

pub loop-init : goal.loop-init
loop-init c = (omega arith, rw c.empty-book.ensures (walk_start c.args.file.now))

pub returns-then-end-at : goal.returns-then-end-at
returns-then-end-at c =
    let l = c.loop in
    c.closed.ensures
    ∙ walk-stop c.args.file.now l.at c.field_end-end.result c.field_end-end.ensures l.invariant.0 (most_fields - l.counter) l.book _
    l.invariant.1 c.if-end-at.true

-- a field that ends past its place lies in the file
inside : (c : Else-end-at) →
    (c.loop.at + 3 ≤ c.field_end-end.result)
    × (c.field_end-end.result ≤ length c.args.file.now)
inside c =
    let l = c.loop in
    end-room c.args.file.now l.at c.field_end-end.result c.field_end-end.ensures l.invariant.0 c.if-end-at.false

pub overflow_add-from : goal.overflow_add-from
overflow_add-from c = let r = inside (c) in omega arith

pub slice_bounds-field-count : goal.slice_bounds-field-count
slice_bounds-field-count c = let r = inside (c) in omega arith

pub slice_bounds-field-start : goal.slice_bounds-field-start
slice_bounds-field-start c = let r = inside (c) in omega arith

pub slice_bounds-field-end : goal.slice_bounds-field-end
slice_bounds-field-end c = let r = inside (c) in omega arith

pub loop-preserved : goal.loop-preserved
loop-preserved c =
    let l = c.loop in
    let left : ℕ = most_fields - l.counter in
    let step = walk_step c.args.file.now l.at c.field_end-end.result c.field_end-end.ensures l.invariant.0 left l.book _ l.invariant.1 in
    let less : most_fields - (l.counter + 1) ≡ left - 1 = omega arith in
    ((inside (goal.at.loop-preserved c).Else-end-at).1, rw (c.with_field_in-book.ensures.answer, less) (step (omega arith) c.if-end-at.false))

pub returns : goal.returns
returns c =
    let l = c.loop in
    c.closed-2.ensures ∙ walk-full c.args.file.now l.at (most_fields - l.counter) l.book _ l.invariant.1 (omega arith)
