-- The promises on prices and strips are kept.
-- Assumes nothing.
use Prim.Native.Nat.{ℕ}
use mathlib.Core.List.{List}
use Rattle.price_laws.proofs.Accuracy.{bond-within-bound, bond-bound-a-step}
use Rattle.price_laws.proofs.Accuracy.{option-within-bound, option-bound-a-step, dated-within-bound, dated-bound-a-step}
use Rattle.price_laws.proofs.OptionLaws.{kind-is-list}
use Rattle.price_laws.proofs.RightsLaws.{dates-no-less, american-no-less, kind-no-more, kind-no-less}
use Rattle.promises.specs.Promises.{PricePromises, TreePricePromises}
use Rattle.promises.specs.Strips.{StripPromises}
use Rattle.promises.proofs.RowsKept.{engine-kept, exact-kept, bound-kept, bounds-kept, priced-kept}
use Rattle.promises.proofs.KindsKept.{flows-kept, exercise-kept, listed_kept, kinds_kept}
use Rattle.promises.proofs.PayoffsKept.{weighed-kept, payoffs-kept}
use Rattle.promises.proofs.FitStored.{fit-unaltered}
use Rattle.price_laws.proofs.StripLaws.{listed-shown, kind-shown}

pub on-tree-kept : (n b : ℕ) (discounts flows : List ℕ) → TreePricePromises n b discounts flows
on-tree-kept n b discounts flows =
    record {
      by_rows = priced-kept n b discounts flows;
      bond-accurate = bond-within-bound n b discounts flows;
      option-accurate = option-within-bound n b discounts flows;
      dated-accurate = dated-within-bound n b discounts flows;
      kinds-are-lists = kind-is-list n b discounts flows;
      dates-no-less = dates-no-less n b discounts flows;
      american-no-less = american-no-less n b discounts flows;
      kind-no-more = kind-no-more n b discounts flows;
      kind-no-less = kind-no-less n b discounts flows;
      bond-a-step = bond-bound-a-step n b discounts flows;
      option-a-step = option-bound-a-step n b discounts flows;
      dated-a-step = dated-bound-a-step n b discounts flows;
    }

pub prices-kept : PricePromises
prices-kept =
    record {
      engine-rows = engine-kept;
      exact-rows = exact-kept;
      bound-rows = bound-kept;
      bounds-known = bounds-kept;
      flow-rows = flows-kept;
      exercise-values = exercise-kept;
      listed-rows = listed_kept;
      four-kinds = kinds_kept;
      on-tree = on-tree-kept;
      weighed = weighed-kept;
      payoffs-accurate = payoffs-kept;
      fit-stored = fit-unaltered;
    }

pub strips-kept : StripPromises
strips-kept = record { listed-strips = listed-shown; kind-strips = kind-shown }
