use Rattle.arithmetic.proofs.Implied.{implied}
use Rattle.bands.proofs.TestLaws.{other-lasts, other-lowests, other-highests, other-haircuts, one-length}
use Rattle.bands.proofs.have_one_length.Goals as goal

pub returns-then-lasts-firsts : goal.returns-then-lasts-firsts
returns-then-lasts-firsts c = other-lasts implied c.if-lasts-firsts.true

pub returns-then-lowests-firsts : goal.returns-then-lowests-firsts
returns-then-lowests-firsts c = other-lowests implied c.if-lowests-firsts.true

pub returns-then-highests-firsts : goal.returns-then-highests-firsts
returns-then-highests-firsts c = other-highests implied c.if-highests-firsts.true

pub returns-then-haircuts-firsts : goal.returns-then-haircuts-firsts
returns-then-haircuts-firsts c = other-haircuts implied c.if-haircuts-firsts.true

pub returns : goal.returns
returns c =
    one-length implied c.if-lasts-firsts.false c.if-lowests-firsts.false c.if-highests-firsts.false c.if-haircuts-firsts.false
