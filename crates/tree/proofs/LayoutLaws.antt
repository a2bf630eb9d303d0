-- Laws of rows stored row after row.
-- Assumes nothing.
use mathlib.Core.Path.{◌≡◌, refl, sym, ◌∙◌, ap, subst}
use mathlib.Core.List.{List, ◌++◌, append_assoc}
use Prim.Native.Nat.{ℕ, zero, suc, ◌+◌, ◌-◌, ◌≤◌, ◌<◌}
use native.Mathlib.Nat.{add-sub_of_le, not-suc-le-zero}
use native.Mathlib.Omega.{arith}
use lib.ListN.{length, take, drop, length-append, length-drop}
use lib.Seq.{take_at, drop_at, drop-drop}
use Rattle.arithmetic.specs.Sum.{sum}
use Rattle.arithmetic.specs.Row.{row, values, place}
use Rattle.tree.specs.Tree.{Tree}
use Rattle.tree.specs.Layout.{laid}
use Rattle.tree.specs.inside.Layout.{start}
use Rattle.arithmetic.proofs.SumLaws.{sum-suc, sum_grow}
use Rattle.arithmetic.proofs.RowLaws.{length-row, values-row, row-cong}
use Rattle.arithmetic.proofs.PartLaws.{part-value}
use Rattle.arithmetic.proofs.Numbers.{by_equal}

pub start-suc : (t : Tree) (i : ℕ) → start t (suc i) ≡ start t i + t.nodes i
unfolding start
start-suc t i = sum-suc i t.nodes

pub start-grow : (t : Tree) (n i : ℕ) → i ≤ n → start t i ≤ start t n
unfolding start
start-grow t n i h = sum_grow n i t.nodes h

pub length-laid : (t : Tree) (f : ℕ → ℕ → ℕ) (i : ℕ) → length (laid t f i) ≡ start t i
unfolding laid start sum
length-laid t f zero = refl
length-laid t f (suc i) =
    length-append (laid t f i) (row (t.nodes i) (f i)) ∙ rw (length-laid t f i, length-row (t.nodes i) (f i)) refl

-- the part of a memory that is row i
pub laid-row :
    (t : Tree) (f : ℕ → ℕ → ℕ) (i : ℕ) (rest : List ℕ) → take (t.nodes i) (drop (start t i) (laid t f (suc i) ++ rest)) ≡ row (t.nodes i) (f i)
unfolding laid
laid-row t f i rest =
    rw (append_assoc (laid t f i) (row (t.nodes i) (f i)) rest)
    (ap (take (t.nodes i)) (drop_at (laid t f i) (row (t.nodes i) (f i) ++ rest) (start t i) (length-laid t f i))
    ∙ take_at (row (t.nodes i) (f i)) rest (t.nodes i) (length-row (t.nodes i) (f i)))

-- a memory that holds rows before row i, and row i put into its place
pub laid_next :
    (t : Tree) (f : ℕ → ℕ → ℕ) (i : ℕ) (m m₀ : List ℕ) → m ≡ laid t f i ++ drop (start t i) m₀ →
    place m (start t i) (row (t.nodes i) (f i)) ≡ laid t f (suc i) ++ drop (start t (suc i)) m₀
unfolding laid place
laid_next t f i m m₀ e =
    let r = row (t.nodes i) (f i) in
    let d = drop (start t i) m₀ in
    rw (e, length-row (t.nodes i) (f i), ← drop-drop (t.nodes i) (start t i) (laid t f i ++ d))
    (rw (take_at (laid t f i) d (start t i) (length-laid t f i), drop_at (laid t f i) d (start t i) (length-laid t f i))
    (rw (drop-drop (t.nodes i) (start t i) m₀, start-suc t i) (sym (append_assoc (laid t f i) r _))))

-- what lies past row n - 1 is as it was
pub laid-past :
    (t : Tree) (f : ℕ → ℕ → ℕ) (i n : ℕ) (m m₀ : List ℕ) → i ≤ n → m ≡ laid t f i ++ drop (start t i) m₀ →
    drop (start t n) m ≡ drop (start t n) m₀
laid-past t f i n m m₀ h e =
    let g = start-grow t n i h in
    let d = start t n - start t i in
    let s : start t i + d ≡ start t n = add-sub_of_le g in
    rw (e, ← s)
    (sym (drop-drop d (start t i) (laid t f i ++ drop (start t i) m₀))
    ∙ (ap (drop d) (drop_at (laid t f i) (drop (start t i) m₀) (start t i) (length-laid t f i)) ∙ drop-drop d (start t i) m₀))

-- the memory is as long as it was
pub laid-length :
    (t : Tree) (f : ℕ → ℕ → ℕ) (i : ℕ) (m m₀ : List ℕ) → start t i ≤ length m₀ → m ≡ laid t f i ++ drop (start t i) m₀ → length m ≡ length m₀
laid-length t f i m m₀ h e =
    omega (
      arith,
      ap length e,
      length-append (laid t f i) (drop (start t i) m₀),
      length-laid t f i,
      length-drop (start t i) m₀,
    )

-- rows of the same values
pub laid-cong : (t : Tree) (f g : ℕ → ℕ → ℕ) (i : ℕ) → ((r k : ℕ) → r < i → k < t.nodes r → f r k ≡ g r k) → laid t f i ≡ laid t g i
unfolding laid
laid-cong t f g zero h = refl
laid-cong t f g (suc i) h =
    rw (laid-cong t f g i (λ r k l m. h r k (omega arith) m), row-cong (t.nodes i) (f i) (g i) (λ k m. h i k (omega arith) m))

-- the part of the rows stored that is row i
pub laid-part : (t : Tree) (f : ℕ → ℕ → ℕ) (n i : ℕ) (rest : List ℕ) → i < n →
    take (t.nodes i) (drop (start t i) (laid t f n ++ rest)) ≡ row (t.nodes i) (f i)
unfolding laid
laid-part t f zero i rest h = absurd (not-suc-le-zero h)
laid-part t f (suc n) i rest h =
    by_equal i n
    (λ e. subst (λ (m : ℕ). take (t.nodes i) (drop (start t i) (laid t f (suc m) ++ rest)) ≡ row (t.nodes i) (f i)) e (laid-row t f i rest))
    (λ ne. rw (append_assoc (laid t f n) (row (t.nodes n) (f n)) rest) (laid-part t f n i (row (t.nodes n) (f n) ++ rest) (omega (arith, ne))))

-- what the rows stored hold at a node
pub laid-value : (t : Tree) (f : ℕ → ℕ → ℕ) (n i k : ℕ) (rest : List ℕ) → i < n → k < t.nodes i → values (laid t f n ++ rest) (start t i + k) ≡ f i k
laid-value t f n i k rest h l =
    sym (part-value (laid t f n ++ rest) (start t i) (t.nodes i) k l)
    ∙ ap (λ (x : List ℕ). values x k) (laid-part t f n i rest h)
    ∙ values-row (t.nodes i) k (f i) l
