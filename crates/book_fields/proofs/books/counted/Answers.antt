use Prim.Native.Nat.{◌-◌}
use mathlib.Core.Path.{refl}
use native.Mathlib.Omega.{arith}
use Rattle.book_laws.proofs.OpenLaws.{counts-within}
use Rattle.book_laws.specs.Books.{counted}
use Rattle.book_fields.proofs.books.counted.Goals as goal

pub overflow_add-next : goal.overflow_add-next
overflow_add-next c = omega (arith, counts-within c.args.counts 500 (c.args.number - 1) c.requires.2 (omega arith))

pub returns : goal.returns
unfolding counted
returns c = refl
