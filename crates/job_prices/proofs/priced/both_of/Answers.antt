use mathlib.Core.Path.{◌≡◌, ap, ◌∙◌}
use native.Mathlib.Omega.{arith}
use Prim.Native.Nat.{◌≤◌}
use lib.ListN.{length}
use Rattle.job_laws.proofs.FitLaws.{lent-column}
use Rattle.job_record.specs.Form.{most_dates}
use Rattle.price_laws.specs.declared.BondAndOption.{BondAndOption}
use borrow.Author.Rules.{rules}
use Rattle.job_laws.proofs.PriceLaws as laws
use Rattle.job_prices.proofs.priced.both_of.Goals as goal
use Rattle.job_prices.proofs.priced.both_of.Goals.{Start}

pub returns-then-option-eq8 : goal.returns-then-option-eq8
returns-then-option-eq8 c =
    let both = c.bond_and_option.ensures in
    let a = c.args in record {
      bond = ap (λ (r : BondAndOption). r.bond) both;
      option = ap (λ (r : BondAndOption). r.option) both
          ∙ laws.tagged-kind a.steps a.reversion a.discounts.now a.flows.now a.option c.if-option-eq8.true;
    }

dates-size : (s : Start) → length s.args.option.dates ≡ most_dates
dates-size s = search rules

room : (s : Start) → s.args.option.count ≤ length s.args.option.dates
room s = omega (arith, dates-size s, s.requires)

pub slice_bounds-dates-end : goal.slice_bounds-dates-end
slice_bounds-dates-end c = room (goal.at.slice_bounds-dates-end c).Start

pub slice_bounds-bond_and_dated_option-end : goal.slice_bounds-bond_and_dated_option-end
slice_bounds-bond_and_dated_option-end c =
    lent-column c.args.option.dates c.args.option.count (room (goal.at.slice_bounds-bond_and_dated_option-end c).Start)

pub returns : goal.returns
returns c =
    let both = c.bond_and_dated_option.ensures in
    let a = c.args in record {
      bond = ap (λ (r : BondAndOption). r.bond) both;
      option = ap (λ (r : BondAndOption). r.option) both
          ∙ laws.tagged-list a.steps a.reversion a.discounts.now a.flows.now a.option c.if-option-eq8.false;
    }
