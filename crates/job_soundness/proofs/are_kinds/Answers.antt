use Rattle.std.proofs.Common.{◌≡◌, true, false, rules}
use Rattle.std.proofs.lemmas.Iterator.{cases_from_all, YieldsList-from_slice}
use Rattle.job_record.specs.Form.{is_kind}
use Rattle.job_record.proofs.Tests.{each-by_front}
use Rattle.writer_laws.specs.Sound.{are_kinds}
use Rattle.job_soundness.proofs.are_kinds.Goals as goal

pub returns : goal.returns
unfolding are_kinds
returns c =
    each-by_front c.args.count c.args.kinds.now is_kind c.all.result c.requires
    (cases_from_all _ _ _ (λ x. is_kind x ≡ true) (λ x. is_kind x ≡ false) c.all.ensures.ran (YieldsList-from_slice _ cc)
    (λ x q k. search rules) (λ x q k. search rules))
