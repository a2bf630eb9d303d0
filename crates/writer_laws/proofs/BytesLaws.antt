-- What is written are bytes.
-- Assumes nothing.
use Prim.Native.Nat.{ℕ, zero, suc, ◌+◌, ◌/◌, ◌%◌, ◌≤◌, ◌<◌}
use native.Mathlib.Nat.{le_dest}
use native.Mathlib.Omega.{arith}
use mathlib.Core.List.{List, [], ◌∷◌, ◌++◌}
use lib.ListN.{length, take, length-take, get_or-append, get_or-eq_default}
use lib.Seq.{get_or-append-add, get_or-take}
use Rattle.arithmetic.proofs.Numbers.{by_order, by_equal}
use Rattle.job_record.specs.Bytes.{Bytes, number_bytes}
use Rattle.job_record.specs.Grammar.{field, joined, quote_field, flow_field, kind_data, list_data, option_field, version_field, encode, SoundOption, SoundJob}
use Rattle.job_record.specs.declared.OptionRecord.{OptionRecord}
use Rattle.job_record.specs.declared.Job.{Job}
use Rattle.job_record.proofs.Options.{field-kind, field-list, field-none}
use Rattle.writer_laws.proofs.SizeLaws.{version-absent, version-there}

no_bytes : Bytes []
no_bytes i = omega arith

byte-and : (x : ℕ) (l : List ℕ) → x < 256 → Bytes l → Bytes (x ∷ l)
byte-and x l small h zero = small
byte-and x l small h (suc i) = h i

both_bytes : (a b : List ℕ) → Bytes a → Bytes b → Bytes (a ++ b)
both_bytes a b p q i =
    by_order (length a) i (λ past. let (j, e) = le_dest past in rw (← e) (rw (get_or-append-add a b j 0) (q j)))
    (λ inside. rw (get_or-append a b 0 i inside) (p i))

number-bytes : (k v : ℕ) → Bytes (number_bytes k v)
unfolding number_bytes
number-bytes zero v = no_bytes
number-bytes (suc k) v = both_bytes (number_bytes k (v / 256)) (v % 256 ∷ []) (number-bytes k (v / 256)) (byte-and (v % 256) [] (omega arith) no_bytes)

field-bytes : (tag : ℕ) (content : List ℕ) → tag < 256 → Bytes content → Bytes (field tag content)
unfolding field
field-bytes tag content small h =
    byte-and tag (number_bytes 2 (length content) ++ content) small (both_bytes (number_bytes 2 (length content)) content (number-bytes 2 (length content)) h)

number-field-bytes : (tag k v : ℕ) → tag < 256 → Bytes (field tag (number_bytes k v))
number-field-bytes tag k v small = field-bytes tag (number_bytes k v) small (number-bytes k v)

joined_bytes : (n : ℕ) (f : ℕ → List ℕ) → ((i : ℕ) → Bytes (f i)) → Bytes (joined n f)
unfolding joined
joined_bytes zero f h = no_bytes
joined_bytes (suc n) f h = both_bytes (joined n f) (f n) (joined_bytes n f h) (h n)

take-bytes : (n : ℕ) (l : List ℕ) → Bytes l → Bytes (take n l)
take-bytes n l h i =
    by_order n i
    (λ past.
    let beyond : length (take n l) ≤ i = simp length-take (omega arith) in
    rw (get_or-eq_default (take n l) 0 beyond) (omega arith))
    (λ inside. rw (get_or-take n l i 0 inside) (h i))

module _ (option : OptionRecord) (sound : SoundOption option) where
  kind-bytes : Bytes (kind_data option)
  kind-bytes =
      both_bytes (number_bytes 1 option.kind) _ (number-bytes 1 option.kind)
      (both_bytes (number_bytes 1 option.expiry) _ (number-bytes 1 option.expiry) (number-bytes 4 option.strike))

  list-bytes : Bytes (list_data option)
  list-bytes =
      both_bytes (number_bytes 1 option.kind) _ (number-bytes 1 option.kind)
      (both_bytes (number_bytes 4 option.strike) _ (number-bytes 4 option.strike)
      (take-bytes option.count option.dates sound.dates.below))

  option-bytes : Bytes (option_field option)
  option-bytes =
      by_equal option.tag 8 (λ tag. rw (field-kind option tag) (field-bytes 8 (kind_data option) (omega arith) kind-bytes))
      (λ unlike.
      by_equal option.tag 10 (λ tag. rw (field-list option unlike tag) (field-bytes 10 (list_data option) (omega arith) list-bytes))
      (λ neither. rw (field-none option unlike neither) no_bytes))

version-bytes : (v : ℕ) → Bytes (version_field v)
version-bytes v =
    by_equal v 0 (λ none. rw (version-absent v none) no_bytes) (λ some. rw (version-there v some) (number-field-bytes 11 1 v (omega arith)))

pub encode-bytes : (job : Job) → SoundJob job → Bytes (encode job)
unfolding encode
encode-bytes job sound =
    both_bytes (field 1 (number_bytes 1 job.frequency)) _ (number-field-bytes 1 1 job.frequency (omega arith))
    (both_bytes (field 2 (number_bytes 1 job.steps)) _ (number-field-bytes 2 1 job.steps (omega arith))
    (both_bytes (field 3 (number_bytes 2 job.reversion)) _ (number-field-bytes 3 2 job.reversion (omega arith))
    (both_bytes (field 4 (number_bytes 4 job.volatility)) _ (number-field-bytes 4 4 job.volatility (omega arith))
    (both_bytes (version_field job.version) _ (version-bytes job.version)
    (both_bytes (joined job.steps (quote_field job)) _
    (joined_bytes job.steps (quote_field job) (λ i. number-field-bytes _ 8 _ (sound.kinds.below i)))
    (both_bytes (joined job.steps (flow_field job)) _
    (joined_bytes job.steps (flow_field job) (λ i. number-field-bytes 7 4 _ (omega arith))) (option-bytes job.option sound.option)))))))
