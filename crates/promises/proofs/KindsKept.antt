-- Flows by row, exercise values, and the four kinds as sides and lists.
-- Assumes nothing.
use mathlib.Core.Path.{◌≡◌, refl, sym, subst}
use mathlib.Core.List.{List}
use Prim.Native.Nat.{ℕ}
use lib.ListN.{length}
use Rattle.pricing_laws.specs.Schedule.{every_row, dated_schedule, kind_dates, schedule_of}
use Rattle.pricing_laws.proofs.Dates.{among-entry, among-some}
use Rattle.pricing_laws.proofs.Recurrences.{sides, schedules, kind-sides, numbered-sides, kind-lists, every-row-is, exercise-values}
use Rattle.price_laws.specs.Prices.{flow_at}
use Rattle.promises.specs.Promises.{FlowRows, Exercised, ListedRows, EveryRow, Kinds}

pub flows-kept : (flows : List ℕ) → FlowRows flows
unfolding flow_at
flows-kept flows = record { none = refl; of_row = λ t. refl }

pub exercise-kept : (strike price : ℕ) → Exercised strike price
exercise-kept strike price = record { of-call = (exercise-values strike price).0; of-put = (exercise-values strike price).1 }

pub listed_kept : (dates : List ℕ) → ListedRows dates
unfolding dated_schedule
listed_kept dates =
    record { last_entry = refl; entries = among-entry dates (length dates); no_other = among-some dates (length dates) }

every-kept : (expiry : ℕ) → EveryRow expiry (every_row expiry)
every-kept expiry = record { size = (every-row-is expiry).0; rows = (every-row-is expiry).1 }

list-is : (kind expiry : ℕ) → schedule_of kind expiry ≡ dated_schedule (kind_dates kind expiry)
unfolding schedule_of
list-is kind expiry = refl

pub kinds_kept : (expiry : ℕ) → Kinds expiry
kinds_kept expiry =
    record {
      european-call =
          record {
            side-is = sides.0;
            number_is = kind-sides.0;
            numbered = numbered-sides.0;
            list-is = list-is 1 expiry;
            rows_are = (schedules expiry).0;
          };
      european-put =
          record {
            side-is = sides.1;
            number_is = kind-sides.1;
            numbered = numbered-sides.1;
            list-is = list-is 2 expiry;
            rows_are = (schedules expiry).1;
          };
      american-call =
          record {
            side-is = sides.2;
            number_is = kind-sides.2;
            numbered = numbered-sides.0;
            list-is = list-is 3 expiry;
            rows_are = (schedules expiry).2;
          };
      american-put =
          record {
            side-is = sides.3;
            number_is = kind-sides.3;
            numbered = numbered-sides.1;
            list-is = list-is 4 expiry;
            rows_are = (schedules expiry).3;
          };
      call-alone = (kind-lists expiry).0;
      put_alone = (kind-lists expiry).1;
      call-every = subst (EveryRow expiry) (sym (kind-lists expiry).2) (every-kept expiry);
      put-every = subst (EveryRow expiry) (sym (kind-lists expiry).3) (every-kept expiry);
    }
