use Rattle.std.proofs.Common.{arith, sym, ap, ◌∙◌, ◌≡◌, ◌+◌, ◌-◌, length, ℕ, take}
use Prim.Native.Nat.{suc}
use lib.Seq.{take-length, take-suc, length-take-le}
use Rattle.text_laws.proofs.PutLaws.{put-nothing, put_last, put_whole}
use Rattle.text.proofs.put_word.Goals as goal

pub loop-index-init : goal.loop-index-init
loop-index-init c =
    let word = c.args.word.now in
    let e : c.args.end - length word + length word ≡ c.args.end = omega arith in
    rw (take-length word, e)

pub loop-index-preserved : goal.loop-index-preserved
loop-index-preserved c =
    let l = c.loop-index in
    let word = c.args.word.now in
    let start : ℕ = c.args.end - length word in
    let last : ℕ = l.index - 1 in
    let e : start + last ≡ start + l.index - 1 = omega arith in
    let next : suc last ≡ l.index = omega arith in
    rw e (put_last l.out (take last word) (take l.index word) _ (start + l.index) _
    (ap (λ (n : ℕ). take n word) (sym next) ∙ take-suc word last 0 (omega arith))
    (rw (length-take-le l.index word (omega arith)) (omega arith)) (omega arith) l.invariant)

pub returns : goal.returns
returns c =
    let a = c.args in
    let l = c.loop-index in
    let z : l.index ≡ 0 = omega arith in
    let start : ℕ = a.end - length a.word.now in
    let e : start + l.index ≡ start = omega arith in
    put_whole a.out.now l.out a.word.now a.end start (omega arith) c.requires.1
    (sym (put-nothing l.out start) ∙ rw (e, z) at l.invariant)
