use native.Mathlib.Omega.{arith}
use lib.ListN.{length-take}
use Rattle.fitting.proofs.TableFit as laws
use Rattle.fitting.proofs.tables.fit_quotes.Goals as goal

pub overflow_mul-count : goal.overflow_mul-count
overflow_mul-count c = omega (arith, laws.widest-small c.requires)

pub overflow_add-count : goal.overflow_add-count
overflow_add-count c = omega (arith, laws.widest-small c.requires)

pub slice_bounds-factors-end : goal.slice_bounds-factors-end
slice_bounds-factors-end c = omega (arith, laws.widest-small c.requires)

pub slice_bounds-fit_tables-end : goal.slice_bounds-fit_tables-end
slice_bounds-fit_tables-end c = simp length-take (omega (arith, laws.widest-small c.requires))

pub slice_bounds-downs-end : goal.slice_bounds-downs-end
slice_bounds-downs-end c = omega (arith, laws.widest-small c.requires)

pub slice_bounds-fit_tables-end-2 : goal.slice_bounds-fit_tables-end-2
slice_bounds-fit_tables-end-2 c = simp length-take (omega (arith, laws.widest-small c.requires))

pub fit_tables-requires : goal.fit_tables-requires
fit_tables-requires c = (
  c.requires,
  simp length-take (omega (arith, laws.widest-small c.requires)),
  simp length-take (omega (arith, laws.widest-small c.requires)),
  omega arith,
)

pub returns-then-fit_tables : goal.returns-then-fit_tables
returns-then-fit_tables c =
    let fitted = c.fit_tables.ensures in
    record { number = laws.number-none fitted.tested c.if-fit_tables.true; fitted = laws.fitted-as fitted.tested fitted.memories }

pub returns-else-fit_tables : goal.returns-else-fit_tables
returns-else-fit_tables c =
    let fitted = c.fit_tables.ensures in
    record { number = laws.number-nine fitted.tested c.if-fit_tables.false; fitted = laws.fitted-as fitted.tested fitted.memories }
