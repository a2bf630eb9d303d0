use Rattle.std.proofs.Common.{◌≡◌, ◌+◌, take}
use Rattle.text_laws.specs.Put.{put_before}
use Rattle.text.proofs.put_word.Given as goal

abbrev pub invariant-loop-index : goal.invariant-loop-index
invariant-loop-index l =
    put_before l.out (l.start + l.index) (take l.index l.word) ≡ put_before l.initial.out l.end l.word
