-- What the code found, and the entries' answers by it.
-- Assumes nothing.
use mathlib.Core.Path.{◌≡◌, refl, sym, ap, ap₂, ◌∙◌}
use mathlib.Core.List.{List, ◌++◌}
use Prim.Native.Nat.{ℕ, ◌+◌, ◌*◌, ◌≤◌}
use native.Mathlib.Omega.{arith}
use lib.ListN.{length, take, drop, length-take}
use lib.Seq.{take-append_seam}
use borrow.Author.Tests.{eq-eqb}
use Rattle.arithmetic.specs.Row.{values}
use Rattle.arithmetic.specs.Answers.{lowest_cause}
use Rattle.arithmetic.specs.declared.Answer.{Answer}
use Rattle.arithmetic.proofs.CauseLaws.{lowest-none}
use Rattle.limits.specs.Limits.{most_steps, most_reversion, most_nodes, limit_cause}
use Rattle.limits.proofs.LimitLaws.{limit-kept, limit-accepted}
use Rattle.lattice.specs.Shape.{half_width, node_count}
use Rattle.lattice.specs.Entries.{about_row, table_of, table_number}
use Rattle.lattice.proofs.EntryLaws.{row-found}
use Rattle.lattice.proofs.Sizes.{count-positive, count-within}
use Rattle.lattice.proofs.TableLaws as tables
use Rattle.lent_tree.specs.LentTree.{discounts_cause}
use Rattle.pricing_laws.specs.Pricer.{Side, Schedule}
use Rattle.pricing_laws.specs.Schedule.{last_date, kind_dates}
use Rattle.pricing_laws.proofs.Dates.{kind-last}
use Rattle.std.proofs.Common.{Result}
use Rattle.std.specs.Result.{IsOk}
use Rattle.arithmetic.specs.Refusals.{cause_of}
use Rattle.arithmetic.specs.declared.Refusal.{Refusal}
use Rattle.arithmetic.proofs.RefusalLaws.{cause-ok}
use Rattle.exercise.specs.declared.Terms.{Terms}
use Rattle.exercise.specs.Terms.{terms_of}
use Rattle.exercise.proofs.KindLaws.{strike-found, last_found}
use Rattle.exercise_dates.specs.declared.Dates.{Dates}
use Rattle.exercise_dates.specs.Dates.{marks_of, dated_terms, dates_of_kind}
use Rattle.exercise_dates.proofs.DateLaws.{marks-room, kind-list, dated-strike, dated-last}
use Rattle.price_bound.specs.PriceBound.{price_error_bound_answer}
use Rattle.price_bound.proofs.BoundLaws.{bound-number}
use Rattle.price_causes.specs.Causes.{flows_cause, option_cause}
use Rattle.price_causes.proofs.CheckLaws.{option-accepted, terms-accepted}
use Rattle.price_laws.specs.declared.Price.{Price}
use Rattle.price_laws.specs.Prices.{tree_cause, refused_price, bond_peak, option_limit, dated_cause}
use Rattle.price_laws.specs.inside.Accepted.{accepted_bond, accepted_option}
use Rattle.price_laws.proofs.AnswerLaws.{priced-refused, priced-given}
use Rattle.price_laws.proofs.OptionLaws.{dated-accepted}
use Rattle.pricing.specs.declared.walk.Rolled.{Rolled}
use Rattle.pricing.specs.inside.Trees.{down_table, TreeBounded, Exercisable, ExercisedOn, BondRolled, BothRolled}
use Rattle.pricing.proofs.TreeRows.{table-size}

-- what the lattice answers about row n
module _ (n b : ℕ) (hn : n ≤ most_steps) (hb : b ≤ most_reversion) (a : Answer) where
  pub answer-value : (x : ℕ) → a ≡ about_row b n x → a.value ≡ x
  answer-value x e = ap (λ (y : Answer). y.value) (e ∙ row-found b n x hb hn)

  pub widest_fits : a ≡ about_row b n (half_width b n) → 2 * a.value + 1 ≤ most_nodes
  unfolding node_count
  widest_fits e = omega (arith, answer-value (half_width b n) e, count-within b n hn)

  -- the table is not refused
  pub table-ok :
      (t : List ℕ) → length t ≡ most_nodes → a ≡ about_row b n (half_width b n) → {A : Type 0} (r : Result A Refusal) →
      cause_of r ≡ table_number b a.value (length (take (2 * a.value + 1) t)) → IsOk r
  unfolding node_count
  table-ok t room e r er =
      let w : a.value ≡ half_width b n = answer-value (half_width b n) e in
      let long : length (take (2 * half_width b n + 1) t) ≡ 2 * half_width b n + 1 = simp length-take (omega (arith, count-within b n hn)) in
      cause-ok r (er ∙ rw w (tables.table_fits b n (take (2 * half_width b n + 1) t) hb hn long).0)

  -- the table that the lattice fills at the start of a row is the table of row n
  pub table_filled :
      (t after : List ℕ) → length t ≡ most_nodes → a ≡ about_row b n (half_width b n) → after ≡ table_of b a.value (take (2 * a.value + 1) t) →
      take (node_count b n) (after ++ drop (2 * a.value + 1) t) ≡ down_table n b
  unfolding node_count down_table
  table_filled t after room e et =
      let w : a.value ≡ half_width b n = answer-value (half_width b n) e in
      let long : length (take (2 * half_width b n + 1) t) ≡ 2 * half_width b n + 1 = simp length-take (omega (arith, count-within b n hn)) in
      let filled : after ≡ down_table n b
      = et ∙ rw w (tables.table_fits b n (take (2 * half_width b n + 1) t) hb hn long).1 in
      let front : take (length (down_table n b)) (after ++ drop (2 * a.value + 1) t) ≡ down_table n b
      = rw filled (take-append_seam (down_table n b) (drop (2 * a.value + 1) t)) in
      rw (table-size n b) at front

  -- and the part that is lent on is that table
  pub prefix-room : (t : List ℕ) → a ≡ about_row b n (node_count b n) → take (node_count b n) t ≡ down_table n b → a.value ≤ length t
  prefix-room t e h =
      omega (arith, answer-value (node_count b n) e, simp length-take at (ap length h ∙ table-size n b))

  pub prefix-is :
      (t : List ℕ) → a ≡ about_row b n (node_count b n) → take (node_count b n) t ≡ down_table n b → take a.value t ≡ down_table n b
  prefix-is t e h = ap (λ (k : ℕ). take k t) (answer-value (node_count b n) e) ∙ h

pub prefix-length : (k : ℕ) (t : List ℕ) → k ≤ length t → k ≡ length (take k t)
prefix-length k t h = sym (simp length-take (omega arith))

-- the error bound of a tree, and the cause about it and its flows, as the code works them out
pub tree-bounded : {n b : ℕ} {discounts flows : List ℕ} {a : Answer} {f c : ℕ} →
    a ≡ price_error_bound_answer n b discounts → f ≡ flows_cause n flows →
    c ≡ lowest_cause a.number f → TreeBounded n b discounts flows (record { number = c; value = a.value })
unfolding tree_cause price_error_bound_answer
tree-bounded {n} {b} {discounts} {flows} ea ef ec =
    record {
      cause-is = ec ∙ ap₂ lowest_cause (ap (λ (x : Answer). x.number) ea ∙ bound-number n b discounts) ef;
      bound-is =
          λ z.
          ap (λ (x : Answer). x.value) ea
          ∙ rw (eq-eqb (discounts_cause n b discounts) 0 (lowest-none (discounts_cause n b discounts) (flows_cause n flows) z).0);
    }

module _ {n b : ℕ} {discounts flows : List ℕ} where
  -- the bond of an accepted tree, with an error bound e
  module _ {number : ℕ} (e : ℕ) {l : List ℕ} (s : BondRolled n b discounts flows 0 number l) where
    pub bond-refused : (number ≡ 0 → ⊥) → refused_price number ≡ accepted_bond n b discounts flows e
    unfolding bond_peak
    bond-refused z = priced-refused number _ _ _ s.cause z

    pub bond-given : number ≡ 0 → ◌≡◌ {A = Price} (record { number = 0; value = values l 0; bound = e }) (accepted_bond n b discounts flows e)
    unfolding bond_peak
    bond-given z = priced-given number _ _ _ _ s.cause z (s.held z 0 (count-positive b 0))

  -- the option of an accepted tree, with an error bound e
  module _ {side : Side} {strike : ℕ} {rows : Schedule} where
    module _ (e : ℕ) {r : Rolled} (s : BothRolled n b discounts flows side strike rows r) where
      pub option-refused : (r.number ≡ 0 → ⊥) → refused_price r.number ≡ accepted_option n b discounts flows side strike rows e
      option-refused z = priced-refused r.number _ _ _ s.cause z

      pub option-given : r.number ≡ 0 →
          ◌≡◌ {A = Price} (record { number = 0; value = r.option; bound = e }) (accepted_option n b discounts flows side strike rows e)
      option-given z = priced-given r.number _ _ _ _ s.cause z (s.option-held z)

      -- no value of the bond was above the limit either
      bond-passed : r.number ≡ 0 → 0 ≡ limit_cause (bond_peak n b discounts flows)
      unfolding option_limit
      bond-passed z = limit-kept _ (omega (arith, limit-accepted _ (sym s.cause ∙ z)))

      pub beside-given : r.number ≡ 0 → ◌≡◌ {A = Price} (record { number = 0; value = r.bond; bound = e }) (accepted_bond n b discounts flows e)
      beside-given z = priced-given 0 _ _ _ _ (bond-passed z) refl (s.bond-held z)

-- an option by its kind, and one on listed rows, that the tree may have
module _ (n kind expiry strike : ℕ) {cause : ℕ} (ec : cause ≡ option_cause n kind expiry strike) (terms : Terms)
    (et : terms ≡ terms_of kind expiry strike) (dates : Dates) (ed : dates ≡ dates_of_kind kind expiry) where
  abbrev handed : List ℕ
  handed = take dates.count dates.rows

  pub kind-exercised : cause ≡ 0 → n ≤ most_steps → ExercisedOn terms n handed
  kind-exercised z few =
      let judged = option-accepted n kind expiry strike (sym ec ∙ z) in
      let listed : handed ≡ kind_dates kind expiry = kind-list kind expiry (omega (arith, judged.0)) dates ed in
      let last : last_date handed ≡ expiry = ap last_date listed ∙ kind-last kind expiry in
      record {
        last-listed = last_found kind expiry strike terms et ∙ sym last;
        before-end = omega (arith, last, judged.0);
        strike-within = omega (arith, strike-found kind expiry strike terms et, judged.1);
      }

module _ {n : ℕ} (number : ℕ) {dates : List ℕ} (strike : ℕ) {cause : ℕ} (ec : cause ≡ dated_cause n number dates strike) (terms : Terms)
    (et : terms ≡ dated_terms number dates strike) where
  pub dated-exercised : cause ≡ 0 → n ≤ most_steps → ExercisedOn terms n dates
  dated-exercised z few =
      let judged = dated-accepted n number dates strike (sym ec ∙ z) in
      record {
        last-listed = dated-last number dates strike terms et;
        before-end = judged.0;
        strike-within = omega (arith, dated-strike number dates strike terms et, terms-accepted number strike judged.1);
      }

-- an option on listed rows, with the marks that the code makes of them
pub marks-exercisable : (terms : Terms) (n : ℕ) (dates marks : List ℕ) → ExercisedOn terms n dates → n ≤ most_steps → marks ≡ marks_of dates →
    Exercisable terms n marks
marks-exercisable terms n dates marks on few e =
    record {
      last-inside = omega (arith, on.last-listed, on.before-end);
      marked-rows = omega (arith, on.last-listed, marks-room dates marks e (omega (arith, on.before-end)));
      strike-most = on.strike-within;
    }
