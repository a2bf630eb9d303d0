use mathlib.Core.Path.{refl, sym, ◌∙◌}
use native.Mathlib.Omega.{arith}
use lib.ListN.{get_or}
use Rattle.arithmetic.proofs.Implied.{implied}
use Rattle.std.proofs.lemmas.Result.{err_from_is_err_and}
use Rattle.bands.proofs.FaultLaws.{fault-some}
use Rattle.bands.proofs.TestLaws.{lengths-agree}
use Rattle.lending.proofs.LendingLaws.{in_table, haircut-fits, lending-accepted, lending-row-low}
use Rattle.lending.proofs.LendingLaws.{lending-row-high, lending-lengths, lending-price, lending-refused, product-fits}
use borrow.Author.Rules.{rules}
use Rattle.lending.proofs.lending_worth.Goals as goal

pub returns-then-row-lt1 : goal.returns-then-row-lt1
returns-then-row-lt1 c = lending-row-low implied c.if-row-lt1.true

pub returns-then-row-gt-LAST_ROW : goal.returns-then-row-gt-LAST_ROW
returns-then-row-gt-LAST_ROW c = lending-row-high implied c.if-row-gt-LAST_ROW.true

pub returns-then-not-have_one_length : goal.returns-then-not-have_one_length
returns-then-not-have_one_length c =
    lending-lengths implied (sym c.have_one_length.ensures ∙ c.if-not-have_one_length.true)

pub returns-then-price-gt-VALUE_LIMIT : goal.returns-then-price-gt-VALUE_LIMIT
returns-then-price-gt-VALUE_LIMIT c =
    lending-price implied c.if-row-lt1.false c.if-row-gt-LAST_ROW.false
    (sym c.have_one_length.ensures ∙ c.if-not-have_one_length.false) c.if-price-gt-VALUE_LIMIT.true

pub returns-in_err-check_bands : goal.returns-in_err-check_bands
returns-in_err-check_bands c =
    let p = err_from_is_err_and c.from_residual.result c.from_residual.ensures.1 in
    rw (p.1, p.2)
    (lending-refused implied c.if-row-lt1.false c.if-row-gt-LAST_ROW.false (sym c.have_one_length.ensures ∙ c.if-not-have_one_length.false)
    c.in_err-check_bands.ensures c.if-price-gt-VALUE_LIMIT.false (fault-some _))

pub find_band-k-requires : goal.find_band-k-requires
find_band-k-requires c =
    (lengths-agree implied (sym c.have_one_length.ensures ∙ c.if-not-have_one_length.false)).0

pub offset_bounds-haircuts-k : goal.offset_bounds-haircuts-k
offset_bounds-haircuts-k c =
    let inside =
    in_table implied (sym c.have_one_length.ensures ∙ c.if-not-have_one_length.false) c.in_ok-check_bands.ensures refl
    c.if-row-lt1.false c.if-row-gt-LAST_ROW.false c.if-price-gt-VALUE_LIMIT.false c.find_band-k.ensures in
    search rules

pub bounds-haircuts-k : goal.bounds-haircuts-k
bounds-haircuts-k c =
    in_table implied (sym c.have_one_length.ensures ∙ c.if-not-have_one_length.false) c.in_ok-check_bands.ensures refl
    c.if-row-lt1.false c.if-row-gt-LAST_ROW.false c.if-price-gt-VALUE_LIMIT.false c.find_band-k.ensures

pub overflow_sub-result : goal.overflow_sub-result
overflow_sub-result c =
    haircut-fits implied (sym c.have_one_length.ensures ∙ c.if-not-have_one_length.false) c.in_ok-check_bands.ensures refl
    c.if-row-lt1.false c.if-row-gt-LAST_ROW.false c.if-price-gt-VALUE_LIMIT.false c.find_band-k.ensures

pub overflow_mul-result : goal.overflow_mul-result
overflow_mul-result c =
    omega (arith, product-fits c.args.price (get_or c.args.haircuts.now c.find_band-k.result 0) c.if-price-gt-VALUE_LIMIT.false)

pub returns : goal.returns
returns c =
    lending-accepted implied (sym c.have_one_length.ensures ∙ c.if-not-have_one_length.false) c.in_ok-check_bands.ensures refl
    c.if-row-lt1.false c.if-row-gt-LAST_ROW.false c.if-price-gt-VALUE_LIMIT.false c.find_band-k.ensures
