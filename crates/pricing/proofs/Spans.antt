-- The spans of a row: where their nodes lead.
-- Assumes nothing.
use mathlib.Core.Path.{◌≡◌, sym, ◌∙◌}
use mathlib.Core.List.{List}
use Prim.Native.Nat.{ℕ, ◌+◌, ◌-◌, ◌≤◌, ◌<◌}
use native.Mathlib.Omega.{arith}
use lib.ListN.{length}
use Rattle.row_branches.specs.RowBranches.{lowest, row_branch}
use Rattle.row_branches.proofs.BranchLaws.{branch_leads, lowest-grown, lowest-first, lowest-inner, lowest-last}
use Rattle.arithmetic.proofs.Numbers.{by_order}
use borrow.Author.Tests.{lt-ltb, le-ltb}
use Rattle.pricing.specs.declared.rows.Span.{Span}
use Rattle.pricing.specs.inside.Rows.{growing_span, lowest_span, inner_span, highest_span, edge_nodes, between_edges, Rollable, Leads}

module _ (downs discounts : List ℕ) (next : ℕ) (r : Rollable downs discounts next) where
  leads-to : (k : ℕ) → k < length discounts → (row_branch downs next k).low ≡ lowest (length downs) next k
  leads-to k h = branch_leads downs next k (r.total k h) (omega (arith, r.paired))

  pub leads-growing : length discounts < next → Leads downs (growing_span (length discounts) next) (length discounts)
  leads-growing g =
      record {
        ordered = omega arith;
        ends = omega arith;
        shifted = omega arith;
        leads = λ k from to.
            let z : k ≡ k - 0 = omega arith in
            leads-to k to ∙ sym (lowest-grown (length downs) next k (omega (arith, r.paired))) ∙ z;
      }

  module _ (capped : next ≤ length discounts) where
    -- where the highest node leads there are three
    wide : 2 < length discounts
    wide = omega (arith, r.inside 0 r.some)

    narrow : next ≤ length downs
    narrow = omega (arith, r.paired)

    pub leads-lowest : Leads downs (lowest_span next) (length discounts)
    leads-lowest =
        record {
          ordered = omega arith;
          ends = omega (arith, wide);
          shifted = omega arith;
          leads = λ k from to.
              let z : 0 ≡ k - 0 = omega arith in
              leads-to k (omega (arith, wide)) ∙ sym (lowest-first (length downs) next k narrow (omega arith)) ∙ z;
        }

    inner-leads : (k : ℕ) → 1 ≤ k → k < length discounts - 1 → (row_branch downs next k).low ≡ k - 1
    inner-leads k from to =
        leads-to k (omega arith)
        ∙ by_order 2 k
        (λ h. sym (lowest-inner (length downs) next k narrow h (λ e. let none : ⊥ = omega (arith, r.paired) in absurd none)))
        (λ h. let z : 0 ≡ k - 1 = omega arith in sym (lowest-first (length downs) next k narrow h) ∙ z)

    pub leads-inner : Leads downs (inner_span (length discounts) next) (length discounts)
    leads-inner = record { ordered = omega (arith, wide); ends = omega arith; shifted = omega arith; leads = inner-leads }

    pub leads-highest : Leads downs (highest_span (length discounts) next) (length discounts)
    leads-highest =
        record {
          ordered = omega arith;
          ends = omega arith;
          shifted = omega (arith, wide);
          leads = λ k from to.
              leads-to k to ∙ sym (lowest-last (length downs) next k narrow (omega (arith, wide)) (omega (arith, wide, r.paired)));
        }

  -- the edges are one node or none, and fit
  pub edge-growing : (edge : ℕ) → edge ≡ edge_nodes (length discounts) next → length discounts < next → edge ≡ 0
  edge-growing edge e g = e ∙ rw (lt-ltb (length discounts) next g)

  pub edge-capped : (edge : ℕ) → edge ≡ edge_nodes (length discounts) next → next ≤ length discounts → edge ≡ 1
  edge-capped edge e c = e ∙ rw (le-ltb (length discounts) next c)

  pub edge-fits : (edge : ℕ) → edge ≡ edge_nodes (length discounts) next → (edge ≤ 1) × (edge + edge ≤ length discounts)
  edge-fits edge e =
      by_order next (length discounts)
      (λ c. let z = edge-capped edge e c in (omega arith, omega (arith, wide c)))
      (λ g. let z = edge-growing edge e g in (omega arith, omega arith))

  pub leads-between : (edge : ℕ) → edge ≡ edge_nodes (length discounts) next →
      (span : Span) → span ≡ between_edges edge (length discounts) next → Leads downs span (length discounts)
  leads-between edge e span es =
      rw es
      (by_order next (length discounts)
      (λ c. rw (edge-capped edge e c) (leads-inner c))
      (λ g. let z : length discounts ≡ length discounts - 0 = omega arith in
      rw (edge-growing edge e g, ← z) (leads-growing g)))
