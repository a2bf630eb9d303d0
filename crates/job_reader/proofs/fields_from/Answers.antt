use Rattle.std.proofs.Common.{◌≡◌, ℕ, true, false, refl, arith, rules}
use Rattle.std.proofs.lemmas.Iterator.{cases_from_all, YieldsList-from_range}
use Rattle.job_record.specs.Form.{fields_from, field_at, after_fields}
use Rattle.job_record.proofs.Tests.{each-by_range}
use Rattle.job_reader.proofs.fields_from.Goals as goal

pub returns : goal.returns
unfolding fields_from
returns c =
    let count = c.args.count in
    let p = λ (i : ℕ). field_at c.args.bytes.now (after_fields c.args.from c.args.width i) c.args.tags c.args.width in
    each-by_range count p c.all.result
    (cases_from_all _ _ _ (λ i. p i ≡ true) (λ i. p i ≡ false) c.all.ensures.ran (YieldsList-from_range 0 count count refl (omega arith))
    (λ x q k. search rules) (λ x q k. search rules))
