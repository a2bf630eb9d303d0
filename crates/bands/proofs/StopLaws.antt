-- A band covers a run of prices of a row, so what covers a price changes at few prices only.
-- Assumes nothing.
use mathlib.Core.Path.{◌≡◌, refl, sym, ◌∙◌, ap}
use mathlib.Core.Bool.{Bool, true, false, and-false}
use Prim.Native.Nat.{ℕ, zero, suc, ◌+◌, ◌≤◌, ◌<◌}
use native.Mathlib.Nat.{le_refl}
use native.Mathlib.Numerals.{add-one}
use native.Mathlib.Omega.{arith}
use borrow.Author.Tests.{le-leb, lt-leb}
use Rattle.limits.specs.Limits.{value_limit}
use Rattle.bands.specs.Bands.{Bands, within, contains, flag, covering}
use Rattle.bands.specs.Stops.{Added}
use Rattle.bands.specs.inside.Stops.{StopAt}

pub row_before : {f : ℕ} (l lo hi : ℕ) {row : ℕ} (q : ℕ) → row < f → within f l lo hi row q ≡ false
unfolding within
row_before {f} l lo hi {row} q h = simp (lt-leb f row h)

pub row-after : (f : ℕ) {l : ℕ} (lo hi : ℕ) {row : ℕ} (q : ℕ) → l < row → within f l lo hi row q ≡ false
unfolding within
row-after f {l} lo hi {row} q h = simp (lt-leb row l h, and-false)

pub price-below : (f l : ℕ) {lo : ℕ} (hi row : ℕ) {q : ℕ} → q < lo → within f l lo hi row q ≡ false
unfolding within
price-below f l {lo} hi row {q} h = simp (lt-leb lo q h, and-false)

pub price-above : (f l lo : ℕ) {hi : ℕ} (row : ℕ) {q : ℕ} → hi < q → within f l lo hi row q ≡ false
unfolding within
price-above f l lo {hi} row {q} h = simp (lt-leb q hi h, and-false)

pub inside : {f l lo hi row q : ℕ} → f ≤ row → row ≤ l → lo ≤ q → q ≤ hi → within f l lo hi row q ≡ true
unfolding within
inside {f} {l} {lo} {hi} {row} {q} a b c d = simp (le-leb f row a, le-leb row l b, le-leb lo q c, le-leb q hi d)

-- a band that covers none, or all, of the prices from `price` to before `end'`
module _ {f l lo hi row price count end end' : ℕ} (further : price < end') (earlier : end' ≤ end) where
  pub added_none : ((q : ℕ) → price ≤ q → q < end' → within f l lo hi row q ≡ false) → Added f l lo hi row price count end count end'
  added_none none =
      let here : within f l lo hi row price ≡ false = none price (le_refl price) further in
      record {
        counted = rw here (omega arith);
        further = further;
        earlier = earlier;
        same = λ q h m. none q h m ∙ sym here;
      }

  pub added-one : ((q : ℕ) → price ≤ q → q < end' → within f l lo hi row q ≡ true) → Added f l lo hi row price count end (count + 1) end'
  added-one all =
      let here : within f l lo hi row price ≡ true = all price (le_refl price) further in
      record {
        counted = rw here;
        further = further;
        earlier = earlier;
        same = λ q h m. all q h m ∙ sym here;
      }

module _ (b : Bands) (row price : ℕ) where
  flag-most : (t : Bool) → flag t ≤ 1
  flag-most true = omega arith
  flag-most false = omega arith

  pub covering-most : (n : ℕ) → covering b row price n ≤ n
  unfolding covering
  covering-most zero = omega arith
  covering-most (suc n) = omega (arith, covering-most n, flag-most (contains b row price n))

  pub stop-none : (end : ℕ) → price < end → end ≤ value_limit + 1 → StopAt b row price 0 0 end
  unfolding covering
  stop-none end h m = record { counted = refl; further = h; most = m; same = λ q l k. refl }

  pub stop-more :
      {n count end count' end' : ℕ} → StopAt b row price n count end →
      Added (b.first_row n) (b.last_row n) (b.lowest n) (b.highest n) row price count end count' end' →
      StopAt b row price (n + 1) count' end'
  unfolding covering
  stop-more {n} s a =
      rw (add-one n)
      (record {
        counted = a.counted ∙ ap (λ (x : ℕ). x + flag (contains b row price n)) s.counted;
        further = a.further;
        most = omega (arith, a.earlier, s.most);
        same = λ q l m. both q (s.same q l (omega (arith, a.earlier))) (a.same q l m);
      })
    where
      both : (q : ℕ) → covering b row q n ≡ covering b row price n → contains b row q n ≡ contains b row price n
          → covering b row q n + flag (contains b row q n) ≡ covering b row price n + flag (contains b row price n)
      both q x y = rw (x, y)
