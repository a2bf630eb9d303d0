-- A loop that puts texts one before the other, the last first.
-- Assumes nothing.
use mathlib.Core.Path.{◌≡◌, refl, sym, ap, ◌∙◌}
use mathlib.Core.List.{List}
use Prim.Native.Nat.{ℕ, zero, suc, ◌+◌, ◌-◌, ◌≤◌, ◌<◌}
use native.Mathlib.Omega.{arith}
use lib.ListN.{length, length-append}
use Rattle.text_laws.specs.Put.{put_before}
use Rattle.text_laws.specs.inside.Put.{Put}
use Rattle.text_laws.proofs.PutLaws.{put-nothing, put_whole}
use Rattle.node_lines.specs.Rows.{lines}
use Rattle.node_lines.proofs.RowLaws.{lines_none, line-less, length-less}

-- n texts are to stand before `end`; those from `left` on stand there, from `start`. `room k` bytes are enough for the first k
pub record Progress (line : ℕ → List ℕ) (room : ℕ → ℕ) (out₀ : List ℕ) (end n : ℕ) (out : List ℕ) (start left : ℕ) : Type 0 where
  pub upto : left ≤ n
  pub enough : room left ≤ start
  pub place : start + length (lines line n) ≡ end + length (lines line left)
  pub below : start ≤ end
  pub same : length out ≡ length out₀
  pub memory : put_before out start (lines line left) ≡ put_before out₀ end (lines line n)

module _ (line : ℕ → List ℕ) (room : ℕ → ℕ) (n : ℕ) (fits : (i : ℕ) → i < n → room i + length (line i) ≤ room (suc i)) (out₀ : List ℕ) (end : ℕ) where
  pub lines_fit : (k : ℕ) → k ≤ n → length (lines line k) ≤ room k
  unfolding lines
  lines_fit zero h = omega arith
  lines_fit (suc k) h = simp length-append (omega (arith, fits k (omega arith), lines_fit k (omega arith)))

  pub begun : room n ≤ end → Progress line room out₀ end n out₀ end n
  begun h = record { upto = omega arith; enough = h; place = refl; below = omega arith; same = refl; memory = refl }

  pub gone : {out after : List ℕ} {start left mid : ℕ} → Progress line room out₀ end n out start left → 0 < left →
      Put out start (line (left - 1)) mid after → Progress line room out₀ end n after mid (left - 1)
  gone {out} {after} {start} {left} {mid} p h put =
      let e : suc (left - 1) ≡ left = omega arith in
      let f : room (left - 1) + length (line (left - 1)) ≤ room left = rw e at (fits (left - 1) (omega (arith, p.upto))) in
      let l = length-less line left h in
      record {
        upto = omega (arith, p.upto);
        enough = omega (arith, put.place, p.enough);
        place = omega (arith, put.place, p.place);
        below = omega (arith, put.place, p.below);
        same = put.same ∙ p.same;
        memory = line-less line out after _ start left mid h (omega (arith, lines_fit left p.upto, p.enough)) put p.memory;
      }

  pub ended : {out : List ℕ} {start left : ℕ} → Progress line room out₀ end n out start left → left ≡ 0 → end ≤ length out₀ →
      Put out₀ end (lines line n) start out
  ended {out} {start} {left} p z h =
      let e = lines_none line left z in
      let none : length (lines line left) ≡ 0 = ap length e in
      put_whole out₀ out (lines line n) end start (omega (arith, p.place)) h
      (sym (put-nothing out start) ∙ ap (λ (t : List ℕ). put_before out start t) (sym e) ∙ p.memory)
