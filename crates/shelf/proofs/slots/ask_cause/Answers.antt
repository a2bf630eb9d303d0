use Rattle.std.proofs.Common.{◌≡◌, sym, ◌∙◌, refl, arith}
use Rattle.std.proofs.lemmas.Result.{err_from_is_err_and}
use Rattle.arithmetic.proofs.RefusalLaws.{refusal-some}
use Rattle.shelf_laws.specs.Shelf.{status_of}
use Rattle.shelf_laws.proofs.NameLaws.{ask-name, ask-refused, ask-14, ask-0, ask-fits}
use borrow.Author.Rules.{rules}
use Rattle.shelf.proofs.slots.ask_cause.Goals as goal
use Rattle.shelf.proofs.slots.ask_cause.Goals.{Else-status_of-ne0}

-- the name is free
free : (c : Else-status_of-ne0) → status_of c.args.shelf.slots c.args.name ≡ 0
free c = omega arith

pub returns-then-status_of-ne0 : goal.returns-then-status_of-ne0
returns-then-status_of-ne0 c = sym (ask-name _ _ _ _ (λ e. c.if-status_of-ne0.true (c.status_of.ensures ∙ e)))

pub returns-in_err-needed : goal.returns-in_err-needed
returns-in_err-needed c =
    let p = err_from_is_err_and c.from_residual.result c.from_residual.ensures.1 in
    rw (p.1, p.2)
    (ask-refused _ _ _ _ (free (goal.at.returns-in_err-needed c).Else-status_of-ne0) _ c.in_err-needed.ensures (refusal-some _))

pub overflow_add-needed : goal.overflow_add-needed
overflow_add-needed c =
    omega (
      arith,
      ask-fits _ _ _ _ (free (goal.at.overflow_add-needed c).Else-status_of-ne0) _ c.in_ok-needed.ensures refl
          c.nodes_before.result c.nodes_before.ensures,
    )

pub returns-then-needed-nodes_before-ge-TOO_MANY : goal.returns-then-needed-nodes_before-ge-TOO_MANY
returns-then-needed-nodes_before-ge-TOO_MANY c =
    ask-14 _ _ _ _ (free (goal.at.returns-then-needed-nodes_before-ge-TOO_MANY c).Else-status_of-ne0) _ c.in_ok-needed.ensures refl
    c.nodes_before.result c.nodes_before.ensures (search rules)

pub returns : goal.returns
returns c =
    ask-0 _ _ _ _ (free (goal.at.returns c).Else-status_of-ne0) _ c.in_ok-needed.ensures refl c.nodes_before.result
    c.nodes_before.ensures (search rules)
