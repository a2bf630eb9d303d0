use Rattle.std.proofs.lemmas.Result.{err_from_is_err_and}
use Rattle.arithmetic.proofs.RefusalLaws.{refusal-some}
use Rattle.std.proofs.Common.{refl, sym, arith}
use Rattle.fitting.proofs.FitEntry as laws
use Rattle.fitting.proofs.fit_tree.Goals as goal

pub returns-in_err-plan : goal.returns-in_err-plan
returns-in_err-plan c =
    let p = err_from_is_err_and c.from_residual.result c.from_residual.ensures.1 in
    rw (p.1, p.2) (laws.clauses (laws.fit_refused
    (laws.prepared _ c.requires refl c.convert-converted.ensures.number c.convert-converted.ensures.memory c.in_err-plan.ensures)
    (refusal-some _)))

pub slice_bounds-quotes-end : goal.slice_bounds-quotes-end
slice_bounds-quotes-end c =
    omega (
      arith,
      laws.steps-few
          (laws.prepared _ c.requires refl c.convert-converted.ensures.number c.convert-converted.ensures.memory c.in_ok-plan.ensures)
          refl,
    )

pub slice_bounds-fit_quotes-end : goal.slice_bounds-fit_quotes-end
slice_bounds-fit_quotes-end c =
    sym (laws.quotes-length
    (laws.prepared _ c.requires refl c.convert-converted.ensures.number c.convert-converted.ensures.memory c.in_ok-plan.ensures)
    refl)

pub fit_quotes-requires : goal.fit_quotes-requires
fit_quotes-requires c =
    laws.quotes-ready
    (laws.prepared _ c.requires refl c.convert-converted.ensures.number c.convert-converted.ensures.memory c.in_ok-plan.ensures)
    refl

pub returns : goal.returns
returns c =
    laws.clauses (laws.fit-made
    (laws.prepared _ c.requires refl c.convert-converted.ensures.number c.convert-converted.ensures.memory c.in_ok-plan.ensures)
    refl c.fit_quotes.ensures.number c.fit_quotes.ensures.fitted)
