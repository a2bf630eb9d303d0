-- The figures that document 02 prints hold: each part of document 01's job is worked out once.
-- Assumes nothing.
use mathlib.Core.Path.{◌≡◌, refl, ap}
use mathlib.Core.Bool.{false}
use mathlib.Core.List.{List, [], ◌∷◌, ◌++◌}
use Prim.Native.Nat.{ℕ, ◌≤◌}
use lib.Ieee.{is_nan, of_bits}
use borrow.Author.Tests.{le-ltb}
use Rattle.arithmetic.specs.Answers.{lowest_cause, first_cause}
use Rattle.arithmetic.specs.Frequency.{is_frequency}
use Rattle.arithmetic.specs.Rounding.{nearest, round_down, round_up}
use Rattle.arithmetic.specs.Row.{row, overlay, each, padded, sum_of}
use Rattle.arithmetic.specs.Sum.{sum, only, greatest}
use Rattle.limits.specs.Limits.{shape_cause, limit_cause}
use Rattle.tree.specs.Tree.{chance, incoming, outgoing}
use Rattle.tree.specs.Layout.{laid}
use Rattle.lattice.specs.Shape.{half_width, node_count, row_start, discounts_needed, state_prices_needed}
use Rattle.lattice.specs.Branching.{branching, lowest_of, z_of, up_formula, middle_formula, down_formula, up_probability, middle_probability, down_probability}
use Rattle.lattice.specs.RateTree.{node_of_index, low, rate_tree}
use Rattle.lattice.specs.Entries.{about_tree, memory_cause}
use Rattle.lent_tree.specs.LentTree.{stored, stored_row, accepted_discounts, discounts_cause}
use Rattle.figure.specs.Figure.{magnitude_of, billionths_of, beyond, pattern_float}
use Rattle.quotes.specs.Quotes.{row_known, in_range, factor_discount, ranged_answer, figure_answer, quote_answer, kind_answer, lone_answer}
use Rattle.curve.specs.Curve.{in_place, answer_at, curve_number}
use Rattle.reversion.specs.Reversion.{is_version, working_reversion, is_exact}
use Rattle.spacing.specs.Spacing.{greatest_passing, greatest_root, version_variance, version_spacing, version_spacing_answer}
use Rattle.factor.specs.Series.{term, series}
use Rattle.factor.specs.Factor.{factor}
use Rattle.step_rate.specs.StepRate.{rate_answer}
use Rattle.fit_laws.specs.Step.{normaliser, discount, carried, next_state_price}
use Rattle.fit_laws.specs.StatePrices.{fitted_state_price, fitted_discount, accepted_row, state_price_error_bound}
use Rattle.fitted_laws.specs.Fit.{quoted, curve_accepted}
use Rattle.fitted_laws.specs.Entry.{early_cause, late_cause, fitted_number}
use Rattle.state_price_bound.specs.ErrorBound.{row_cause, bound_cause, state_price_error_bound_answer}
use Rattle.pricing_laws.specs.Pricer.{bond_from, bond, error_bound_from, error_bound}
use Rattle.pricing_laws.specs.TreePricer.{node_roll, roll, greatest_discount}
use Rattle.pricing_laws.specs.Peak.{peak_from, peak, greatest_value}
use Rattle.price_bound.specs.PriceBound.{tree_error_bound}
use Rattle.price_causes.specs.Causes.{flows_cause, option_cause}
use Rattle.price_laws.specs.declared.Price.{Price}
use Rattle.price_laws.specs.Prices.{flow_at, tree_cause, priced, bond_value, bond_peak, bond_price, option_price}
use Rattle.job_record.specs.declared.OptionRecord.{OptionRecord}
use Rattle.job_record.specs.Bytes.{number_at}
use Rattle.job_record.specs.Form.{is_kind, field_at, fields_from, head_formed, has_version, quotes_at, kind_formed, list_formed, rest_formed, body_formed, well_formed}
use Rattle.job_record.specs.Reader.{no_option, option_at, version_of, job_of, accepted_reading, reading_of}
use Rattle.job_record.specs.Example.{example_quote, job_with, example, example_put, record_with}
use Rattle.job_record.proofs.Examples.{example-read}
use Rattle.job_laws.specs.RecordFit.{meant_version, meant_reversion, job_quotes, job_discounts, job_state_prices, record_fit}
use Rattle.job_laws.specs.JobPrices.{option_form, tagged_option, tree_number, record_number}
use Rattle.text_laws.specs.Decimal.{natural, natural_within, last_digits, decimal, signed_decimal}
use Rattle.text_laws.specs.Lines.{line_of_node, node_line, row_line, price_line, refused_line}
use Rattle.node_lines.specs.Rows.{node_text, lines}
use Rattle.sheet_room.specs.Room.{sheet_room}
use Rattle.sheet_laws.specs.TreeSheet.{line_of_row, price_lines, tree_sheet}
use Rattle.sheet_laws.specs.WholeJob.{room_cause, job_number, job_text, sheet_number, printed_text}
use Rattle.worked_examples.specs.Sheets.{Sheets}

-- ---- the tree of the job, whatever its option

module _ (option : OptionRecord) where
  quotes-are : job_quotes (record_with 5 option) ≡ 1002500000 ∷ []
  unfolding job_quotes row answer_at lone_answer kind_answer quote_answer figure_answer ranged_answer in_range factor_discount billionths_of magnitude_of nearest beyond
      pattern_float is_nan of_bits is_frequency row_known
  quotes-are = refl

  fit_none : record_fit (record_with 5 option) 3600 3721 ≡ 0
  unfolding record_fit fitted_number early_cause lowest_cause curve_number in_place each row answer_at lone_answer kind_answer quote_answer figure_answer ranged_answer
      in_range factor_discount billionths_of magnitude_of nearest beyond pattern_float is_nan of_bits is_frequency row_known about_tree shape_cause memory_cause
      meant_version working_reversion is_version is_exact version_variance version_spacing version_spacing_answer
      discounts_needed state_prices_needed row_start sum node_count half_width late_cause greatest_root greatest_passing curve_accepted accepted_row rate_tree
      fitted_discount discount normaliser fitted_state_price factor node_of_index series term round_down quoted
  fit_none = refl

  discounts-are : job_discounts (record_with 5 option) ≡ 1002500000 ∷ []
  unfolding job_discounts laid row answer_at lone_answer kind_answer quote_answer figure_answer ranged_answer
      in_range factor_discount billionths_of magnitude_of nearest beyond pattern_float is_nan of_bits is_frequency row_known
      meant_version meant_reversion working_reversion is_exact version_variance version_spacing
      sum node_count half_width greatest_root greatest_passing rate_tree
      fitted_discount discount normaliser fitted_state_price factor node_of_index series term round_down quoted
  discounts-are = refl

  prices-are : job_state_prices (record_with 5 option) ≡ 1000000000 ∷ 167083333 ∷ 668333333 ∷ 167083333 ∷ []
  unfolding job_state_prices laid row answer_at lone_answer kind_answer quote_answer figure_answer ranged_answer
      in_range factor_discount billionths_of magnitude_of nearest beyond pattern_float is_nan of_bits is_frequency row_known
      meant_version meant_reversion working_reversion is_exact version_variance version_spacing
      sum node_count half_width greatest_root greatest_passing rate_tree
      fitted_discount discount normaliser fitted_state_price factor node_of_index series term round_down quoted
      next_state_price carried incoming chance only low branching lowest_of z_of up_formula middle_formula down_formula up_probability middle_probability down_probability
  prices-are = refl

  -- without a cause of form or fit, the job's number is its tree's
  number_is : (form : option_form option.tag option.count ≡ 0) (number : ℕ) →
      tree_number 1 0 (1002500000 ∷ []) (1000000000 ∷ []) option ≡ number → record_number (record_with 5 option) 3600 3721 ≡ number
  unfolding meant_version meant_reversion working_reversion record_number first_cause lowest_cause memory_cause about_tree shape_cause
      discounts_needed state_prices_needed row_start sum node_count half_width
  number_is form number e = rw (form, fit_none, discounts-are) e

  module _ (room : ℕ) (h : sheet_room ≤ room) where
    job_is : (form : option_form option.tag option.count ≡ 0) (number : ℕ) →
        tree_number 1 0 (1002500000 ∷ []) (1000000000 ∷ []) option ≡ number → job_number (record_with 5 option) room ≡ lowest_cause number 0
    unfolding job_number room_cause
    job_is form number e = rw (number_is form number e, le-ltb room sheet_room h)

-- ---- with its option, an American put that expires on row n

put-number : tree_number 1 0 (1002500000 ∷ []) (1000000000 ∷ []) example_put ≡ 11
unfolding tree_number tagged_option option_price first_cause tree_cause lowest_cause discounts_cause shape_cause accepted_discounts each discounts_needed row_start sum
    node_count half_width flows_cause option_cause priced
put-number = refl

put-form : option_form example_put.tag example_put.count ≡ 0
unfolding option_form
put-form = refl

own-number : (room : ℕ) → sheet_room ≤ room → sheet_number example room ≡ 11
unfolding sheet_number first_cause lowest_cause
own-number room h = rw example-read (job_is example_put room h put-form 11 put-number)

own-job : (room : ℕ) → sheet_room ≤ room → printed_text example room ≡ 114 ∷ 101 ∷ 102 ∷ 117 ∷ 115 ∷ 101 ∷ 100 ∷ 32 ∷ 49 ∷ 49 ∷ 10 ∷ []
unfolding printed_text refused_line natural natural_within last_digits decimal signed_decimal
own-job room h = rw (own-number room h) refl

-- ---- without it

plain-read : reading_of (job_with example_quote []) ≡ accepted_reading (record_with 5 no_option)
unfolding number_at is_kind field_at fields_from head_formed has_version quotes_at kind_formed list_formed rest_formed body_formed well_formed
    padded version_of job_of reading_of row overlay each option_at
plain-read = refl

bond-is : bond_price 1 0 (1002500000 ∷ []) (1000000000 ∷ []) ≡ record { number = 0; value = 1002500000; bound = 2 }
unfolding bond_price first_cause tree_cause lowest_cause discounts_cause shape_cause accepted_discounts each discounts_needed row_start sum node_count half_width
    flows_cause priced limit_cause bond_peak peak peak_from greatest_value greatest bond_value bond bond_from roll node_roll outgoing nearest rate_tree low node_of_index
    branching lowest_of z_of up_formula middle_formula down_formula up_probability middle_probability down_probability stored flow_at tree_error_bound
    error_bound error_bound_from greatest_discount round_up
bond-is = refl

plain-number : tree_number 1 0 (1002500000 ∷ []) (1000000000 ∷ []) no_option ≡ 0
unfolding tree_number
plain-number = ap (λ (p : Price). p.number) bond-is

plain_form : option_form no_option.tag no_option.count ≡ 0
unfolding option_form
plain_form = refl

whole-number : (room : ℕ) → sheet_room ≤ room → sheet_number (job_with example_quote []) room ≡ 0
unfolding sheet_number first_cause lowest_cause
whole-number room h = rw plain-read (job_is no_option room h plain_form 0 plain-number)

abbrev node_bytes : List ℕ
node_bytes =
    110 ∷ 111 ∷ 100 ∷ 101 ∷ 32 ∷ 48 ∷ 32 ∷ 48 ∷ 32 ∷
    49 ∷ 46 ∷ 48 ∷ 48 ∷ 50 ∷ 53 ∷ 48 ∷ 48 ∷ 48 ∷ 48 ∷ 48 ∷ 32 ∷ 45 ∷ 48 ∷ 46 ∷ 50 ∷ 52 ∷ 57 ∷ 51 ∷ 55 ∷ 54 ∷ 54 ∷ 10 ∷ []

abbrev row_bytes : List ℕ
row_bytes =
    114 ∷ 111 ∷ 119 ∷ 32 ∷ 49 ∷ 32 ∷
    49 ∷ 46 ∷ 48 ∷ 48 ∷ 50 ∷ 53 ∷ 48 ∷ 48 ∷ 48 ∷ 48 ∷ 48 ∷ 32 ∷ 49 ∷ 46 ∷ 48 ∷ 48 ∷ 50 ∷ 52 ∷ 57 ∷ 57 ∷ 57 ∷ 57 ∷ 57 ∷ 32 ∷ 52 ∷ 10 ∷ []

abbrev bond_bytes : List ℕ
bond_bytes = 98 ∷ 111 ∷ 110 ∷ 100 ∷ 32 ∷ 49 ∷ 46 ∷ 48 ∷ 48 ∷ 50 ∷ 53 ∷ 48 ∷ 48 ∷ 48 ∷ 48 ∷ 48 ∷ 32 ∷ 50 ∷ 10 ∷ []

tree-text : (option : Price) →
    tree_sheet 1 0 (1002500000 ∷ []) (1002500000 ∷ []) (1000000000 ∷ 167083333 ∷ 668333333 ∷ 167083333 ∷ [])
    (record { number = 0; value = 1002500000; bound = 2 }) false option
    ≡ node_bytes ++ (row_bytes ++ bond_bytes)
unfolding tree_sheet lines node_text line_of_node node_of_index stored_row row_start sum node_count half_width node_line natural natural_within last_digits decimal
    signed_decimal rate_answer nearest line_of_row row_line sum_of state_price_error_bound_answer bound_cause row_cause lowest_cause discounts_cause shape_cause
    accepted_discounts each discounts_needed state_price_error_bound greatest rate_tree stored round_up price_lines price_line
tree-text option = refl

job-text : job_text (record_with 5 no_option) ≡ node_bytes ++ (row_bytes ++ bond_bytes)
unfolding meant_version meant_reversion working_reversion job_text
job-text = rw (quotes-are no_option, discounts-are no_option, prices-are no_option, bond-is) (tree-text _)

without-option : (room : ℕ) → sheet_room ≤ room → printed_text (job_with example_quote []) room ≡ node_bytes ++ (row_bytes ++ bond_bytes)
unfolding printed_text
without-option room h = rw (whole-number room h, plain-read) job-text

pub sheets : Sheets
sheets = record { own-job = own-job; without-option = without-option }
