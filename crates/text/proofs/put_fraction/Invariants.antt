use Rattle.std.proofs.Common.{◌≡◌, ◌<◌, ◌-◌}
use Rattle.text_laws.specs.Decimal.{last_digits}
use Rattle.text_laws.specs.Put.{put_before}
use Rattle.text.proofs.put_fraction.Given as goal

abbrev pub invariant-loop-place : goal.invariant-loop-place
invariant-loop-place l =
    (l.point < l.place)
    × (put_before l.out l.place (last_digits (l.place - l.place-start) l.rest) ≡ put_before l.initial.out l.end (last_digits l.decimals l.number))
