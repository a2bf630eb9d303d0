use Rattle.std.proofs.Common.{◌∙◌, ap, length, refl, sym}
use Rattle.std.proofs.lemmas.Result.{err_from_is_err_and}
use mir.Facts.{to_z-of_z}
use Rattle.arithmetic.proofs.RefusalLaws.{refusal-some}
use Rattle.step_rate.specs.declared.Rate.{Rate}
use Rattle.step_rate.proofs.RateLaws.{value-back}
use Rattle.text_laws.proofs.LineLaws.{room-known, node-near, node-far, node-refused, node-put}
use Rattle.text.proofs.node_line.Goals as goal
use Rattle.text.proofs.node_line.Goals.{In_ok-line_cause}

clauses-value-out_after : {A B : Type 0} → A × B → record { value : A; out_after : B }
clauses-value-out_after w = record { value = w.0; out_after = w.1 }

pub returns-in_err-line_cause : goal.returns-in_err-line_cause
returns-in_err-line_cause c =
    let p = err_from_is_err_and c.from_residual.result c.from_residual.ensures.1 in
    let a = c.args in
    let near = node-near (length a.out.now) a.end a.discount (λ z. refusal-some _ (c.in_err-line_cause.ensures ∙ z)) in
    rw (p.1, p.2)
    (clauses-value-out_after (node-refused a.out.now a.end a.row a.discount _ _ (c.in_err-line_cause.ensures ∙ near) (refusal-some _)))

pub returns-in_err-rate : goal.returns-in_err-rate
returns-in_err-rate c =
    let f = c.from_residual-in_err-rate in
    let p = err_from_is_err_and f.result f.ensures.1 in
    let given = c.args in
    let cause = node-far (length given.out.now) given.end given.discount (sym c.in_ok-line_cause.ensures) in
    let number = ap (λ (r : Rate). r.number) c.in_err-rate.ensures in
    rw (p.1, p.2) (clauses-value-out_after (node-refused given.out.now given.end given.row given.discount _ _ (number ∙ cause) (refusal-some _)))

pub put_node-requires : goal.put_node-requires
put_node-requires c = room-known _ _ (sym c.in_ok-line_cause.ensures)

pub returns : goal.returns
returns c =
    let a = c.args in
    let e = c.in_ok-rate.ensures in
    let r = value-back a.discount _ e ∙ ap (λ (r : Rate). r.value) e in
    let far = node-far (length a.out.now) a.end a.discount (sym c.in_ok-line_cause.ensures) in
    clauses-value-out_after (node-put a.out.now a.end a.row a.discount _ _ (ap (λ (r : Rate). r.number) e ∙ far) refl _ r
    (rw (to_z-of_z c.ranges.node) at c.put_node.ensures))
