use Rattle.row_branches.proofs.BranchLaws as laws
use Rattle.row_branches.proofs.lowest_target.Goals as goal

pub returns-then-count-next : goal.returns-then-count-next
returns-then-count-next c = laws.lowest-grown _ _ _ c.if-count-next.true

pub returns-then-index-lt2 : goal.returns-then-index-lt2
returns-then-index-lt2 c = laws.lowest-first _ _ _ c.if-count-next.false c.if-index-lt2.true

pub returns-then-index-count : goal.returns-then-index-count
returns-then-index-count c = laws.lowest-last _ _ _ c.if-count-next.false c.if-index-lt2.false c.if-index-count.true

pub returns : goal.returns
returns c = laws.lowest-inner _ _ _ c.if-count-next.false c.if-index-lt2.false c.if-index-count.false
