use native.Mathlib.Omega.{arith}
use mathlib.Core.Path.{◌≡◌, sym, ap, ◌∙◌}
use Prim.Native.Nat.{ℕ, ◌+◌, max}
use lib.Dec.{eqb}
use borrow.Author.Tests.{eq-eqb, ne_eqb}
use Rattle.arithmetic.specs.Row.{values, each, between}
use Rattle.arithmetic.proofs.Numbers.{by_equal, by_order}
use Rattle.arithmetic.proofs.RowLaws.{each_none, each_more, each-fails, each-split}
use Rattle.arithmetic.proofs.BetweenLaws.{between-holds, between-above}
use Rattle.job_soundness.proofs.all_zero.Goals as goal

-- the greatest of the bytes so far is 0 where they all are
next : (f : ℕ → ℕ) (k top : ℕ) → each k (between 0 0 f) ≡ eqb top 0 → each (k + 1) (between 0 0 f) ≡ eqb (max top (f k)) 0
next f k top e =
    by_order (f k) 0
    (λ h. by_equal top 0
    (λ z. each_more k (between 0 0 f) (e ∙ eq-eqb top 0 z) (between-holds 0 0 f k (omega arith) h) ∙ sym (eq-eqb (max top (f k)) 0 (omega arith)))
    (λ n.
    each-split k 1 (between 0 0 f) ∙ rw (e, ne_eqb top 0 n) (sym (ne_eqb (max top (f k)) 0 (λ z. n (omega arith))))))
    (λ h. each-fails (k + 1) k (between 0 0 f) (omega arith) (between-above 0 0 f k h) ∙ sym (ne_eqb (max top (f k)) 0 (λ z. omega arith)))

pub loop-byte-init : goal.loop-byte-init
loop-byte-init c = each_none _

pub loop-byte-preserved : goal.loop-byte-preserved
loop-byte-preserved c = rw c.max-top.ensures (next (values c.args.bytes.now) c.loop-byte.byte-index c.loop-byte.top c.loop-byte.invariant)

pub returns : goal.returns
returns c = sym (ap (λ (k : ℕ). each k (between 0 0 (values c.args.bytes.now))) (omega arith) ∙ c.loop-byte.invariant)
