use Rattle.sheet_laws.proofs.SheetLaws as laws
use Rattle.record_sheet.proofs.room_cause.Goals as goal

pub returns-then-room-lt-SHEET_ROOM : goal.returns-then-room-lt-SHEET_ROOM
returns-then-room-lt-SHEET_ROOM c = laws.room-short c.args.room c.if-room-lt-SHEET_ROOM.true

pub returns : goal.returns
returns c = laws.room-enough c.args.room c.if-room-lt-SHEET_ROOM.false
