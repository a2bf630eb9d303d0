-- The test of a record: it holds exactly where the record is a sound one.
-- Assumes nothing.
use Prim.Native.Nat.{ℕ, ◌+◌, ◌≤◌, ◌<◌}
use native.Mathlib.Omega.{arith}
use mathlib.Core.Bool.{Bool, true, false, ◌&&◌}
use mathlib.Core.List.{List}
use mathlib.Core.Path.{◌≡◌, sym, ◌∙◌}
use borrow.Author.Tests.{le-leb, leb-true, eq-eqb, ne_eqb, eqb-true}
use lib.Dec.{leb, eqb}
use lib.ListN.{length, replicate}
use Rattle.arithmetic.specs.Row.{values}
use Rattle.arithmetic.proofs.Numbers.{by_equal}
use Rattle.arithmetic.proofs.RowLaws.{each_all, each_holds, each_none, each_more, each-fails}
use Rattle.job_record.specs.Form.{most_job_steps, most_dates, is_kind}
use Rattle.job_record.specs.Reader.{no_option}
use Rattle.job_record.specs.Grammar.{Column, SoundOption, SoundJob}
use Rattle.job_record.specs.declared.OptionRecord.{OptionRecord}
use Rattle.job_record.specs.declared.Job.{Job}
use Rattle.job_record.proofs.Answers.{first, second, both}
use Rattle.job_record.proofs.Columns.{column-zeros}
use Rattle.writer_laws.specs.Sound.{most_in, is_column, are_kinds, are_columns, version_fits, head_fits, option_fits, is_absent, option_belongs}
use Rattle.writer_laws.specs.Sound.{is_sound_option, is_sound}
use Rattle.writer_laws.proofs.ColumnTests.{column-is, column-test}

-- four limits, one after the other
module _ (a b c d ma mb mc md : ℕ) where
  abbrev four : Bool
  four = leb a ma && (leb b mb && (leb c mc && leb d md))

  four-holds : four ≡ true → (a ≤ ma) × (b ≤ mb) × (c ≤ mc) × (d ≤ md)
  four-holds h =
      let h₂ = second (leb a ma) h in
      let h₃ = second (leb b mb) h₂ in (
        leb-true a ma (first (leb a ma) _ h),
        leb-true b mb (first (leb b mb) _ h₂),
        leb-true c mc (first (leb c mc) _ h₃),
        leb-true d md (second (leb c mc) h₃),
      )

  four-test : a ≤ ma → b ≤ mb → c ≤ mc → d ≤ md → four ≡ true
  four-test p q r s = both (le-leb a ma p) (both (le-leb b mb q) (both (le-leb c mc r) (le-leb d md s)))

-- as many dates as a record has places for
pub dates-few : (kind expiry strike count : ℕ) → option_fits kind expiry strike count ≡ true → count ≤ most_dates
unfolding option_fits
dates-few kind expiry strike count h = (four-holds kind expiry strike count (most_in 1) (most_in 1) (most_in 4) most_dates h).3

-- the numbers of a head, and its version
module _ (f n b s v : ℕ) (h : head_fits f n b s v ≡ true) where
  head-holds : (f ≤ most_in 1) × (n ≤ most_in 1) × (b ≤ most_in 2) × (s ≤ most_in 4)
  unfolding head_fits
  head-holds =
      four-holds f n b s (most_in 1) (most_in 1) (most_in 2) (most_in 4)
      (first (four f n b s (most_in 1) (most_in 1) (most_in 2) (most_in 4)) _ h)

  version-holds : version_fits v ≡ true
  unfolding head_fits
  version-holds = second (four f n b s (most_in 1) (most_in 1) (most_in 2) (most_in 4)) h

pub steps-few : (f : ℕ) {n : ℕ} (b s v : ℕ) → head_fits f n b s v ≡ true → n ≤ most_job_steps
steps-few f {n} b s v h = (head-holds f n b s v h).1

-- kinds: none, one more, one that is none, and all of them
module _ (kinds : List ℕ) where
  pub kinds-none : are_kinds kinds 0 ≡ true
  unfolding are_kinds
  kinds-none = each_none (λ k. is_kind (values kinds k))

  pub kinds-more : (n : ℕ) → are_kinds kinds n ≡ true → is_kind (values kinds n) ≡ true → are_kinds kinds (n + 1) ≡ true
  unfolding are_kinds
  kinds-more n = each_more n (λ k. is_kind (values kinds k))

  pub kinds-fails : (n k : ℕ) → k < n → is_kind (values kinds k) ≡ false → are_kinds kinds n ≡ false
  unfolding are_kinds
  kinds-fails n k = each-fails n k (λ i. is_kind (values kinds i))

  kinds-each : (n : ℕ) → are_kinds kinds n ≡ true → (k : ℕ) → k < n → is_kind (values kinds k) ≡ true
  unfolding are_kinds
  kinds-each n h k = each_holds n k (λ i. is_kind (values kinds i)) h

  kinds-test : (n : ℕ) → ((k : ℕ) → k < n → is_kind (values kinds k) ≡ true) → are_kinds kinds n ≡ true
  unfolding are_kinds
  kinds-test n = each_all n (λ i. is_kind (values kinds i))

-- an option that is not there
no-option-is :
    (t k e s c : ℕ) (d : List ℕ) → t ≡ 0 → k ≡ 0 → e ≡ 0 → s ≡ 0 → c ≡ 0 → replicate most_dates 0 ≡ d
    → record { tag = t; kind = k; expiry = e; strike = s; count = c; dates = d } ≡ no_option
no-option-is t k e s c d p q r u v w = rw (p, q, r, u, v, ← w)

module _ (t k e s c : ℕ) (h : is_absent t k e s c ≡ true) where
  absent-parts : (t ≡ 0) × (k ≡ 0) × (e ≡ 0) × (s ≡ 0) × (c ≡ 0)
  unfolding is_absent
  absent-parts =
      let h₂ = second (eqb t 0) h in
      let h₃ = second (eqb k 0) h₂ in
      let h₄ = second (eqb e 0) h₃ in (
        eqb-true t 0 (first (eqb t 0) _ h),
        eqb-true k 0 (first (eqb k 0) _ h₂),
        eqb-true e 0 (first (eqb e 0) _ h₃),
        eqb-true s 0 (first (eqb s 0) _ h₄),
        eqb-true c 0 (second (eqb s 0) h₄),
      )

absent-test : (t k e s c : ℕ) → t ≡ 0 → k ≡ 0 → e ≡ 0 → s ≡ 0 → c ≡ 0 → is_absent t k e s c ≡ true
unfolding is_absent
absent-test t k e s c p q r u v = rw (p, q, r, u, v)

-- by the tag
module _ {t : ℕ} (k e s c : ℕ) where
  pub belongs-kind : t ≡ 8 → option_belongs t k e s c ≡ eqb c 0
  unfolding option_belongs
  belongs-kind tag = rw (eq-eqb t 8 tag)

  module _ (unlike : t ≡ 8 → ⊥) where
    pub belongs-list : t ≡ 10 → option_belongs t k e s c ≡ eqb e 0
    unfolding option_belongs
    belongs-list tag = rw (ne_eqb t 8 unlike, eq-eqb t 10 tag)

    pub belongs-none : (t ≡ 10 → ⊥) → option_belongs t k e s c ≡ is_absent t k e s c
    unfolding option_belongs
    belongs-none neither = rw (ne_eqb t 8 unlike, ne_eqb t 10 neither)

module _ (option : OptionRecord) where
  abbrev pub fits : Bool
  fits = option_fits option.kind option.expiry option.strike option.count

  abbrev pub belonging : Bool
  belonging = option_belongs option.tag option.kind option.expiry option.strike option.count

  module _ (h : is_sound_option option ≡ true) where
    option-numbers :
        (option.kind ≤ most_in 1) × (option.expiry ≤ most_in 1) × (option.strike ≤ most_in 4) × (option.count ≤ most_dates)
    unfolding is_sound_option option_fits
    option-numbers =
        four-holds option.kind option.expiry option.strike option.count (most_in 1) (most_in 1) (most_in 4) most_dates (first fits _ h)

    option-own : belonging ≡ true
    unfolding is_sound_option
    option-own = first belonging _ (second fits h)

    option-dates : Column most_dates option.dates option.count 256
    unfolding is_sound_option
    option-dates =
        column-is most_dates option.dates option.count (most_in 1) 256 (second belonging (second fits h)) (omega arith)

    option-absent : (option.tag ≡ 8 → ⊥) → (option.tag ≡ 10 → ⊥) → option ≡ no_option
    option-absent unlike neither =
        let none = belongs-none option.kind option.expiry option.strike option.count unlike neither in
        let parts = absent-parts option.tag option.kind option.expiry option.strike option.count (sym none ∙ option-own) in
        let unlisted : Column most_dates option.dates 0 256 = rw parts.4 at option-dates in
        no-option-is option.tag option.kind option.expiry option.strike option.count option.dates parts.0 parts.1 parts.2
        parts.3 parts.4 (column-zeros most_dates option.dates 256 unlisted)

    pub sound-option : SoundOption option
    sound-option =
        let numbers = option-numbers in
        record {
          kind = omega arith;
          expiry = omega arith;
          strike = omega arith;
          few = numbers.3;
          dates = option-dates;
          no-list = λ tag. eqb-true _ _ (sym (belongs-kind _ _ _ option.count tag) ∙ option-own);
          no-expiry = λ tag.
              eqb-true _ _
              (sym (belongs-list _ option.expiry _ _ (λ eight. omega arith) tag) ∙ option-own);
          absent = option-absent;
        }

  module _ (sound : SoundOption option) where
    own-test : belonging ≡ true
    own-test =
        by_equal option.tag 8
        (λ tag. belongs-kind _ _ _ option.count tag ∙ eq-eqb option.count 0 (sound.no-list tag))
        (λ unlike.
        by_equal option.tag 10
        (λ tag. belongs-list _ option.expiry _ _ unlike tag ∙ eq-eqb option.expiry 0 (sound.no-expiry tag))
        (λ neither.
        let none : option ≡ no_option = sound.absent unlike neither in
        belongs-none option.kind option.expiry option.strike option.count unlike neither
        ∙ absent-test option.tag option.kind option.expiry option.strike option.count (rw none) (rw none) (rw none) (rw none) (rw none)))

    pub option-test : is_sound_option option ≡ true
    unfolding is_sound_option option_fits
    option-test =
        both
        (four-test option.kind option.expiry option.strike option.count (most_in 1) (most_in 1) (most_in 4) most_dates
        (omega (arith, sound.kind)) (omega (arith, sound.expiry)) (omega (arith, sound.strike)) sound.few)
        (both own-test (column-test most_dates option.dates option.count (most_in 1) 256 sound.dates (omega arith)))

module _ (job : Job) where
  abbrev pub head : Bool
  head = head_fits job.frequency job.steps job.reversion job.volatility job.version

  abbrev pub columns : Bool
  columns = are_columns job.kinds job.figures job.flows job.steps

  module _ (h : is_sound job ≡ true) where
    head-hold : head ≡ true
    unfolding is_sound
    head-hold = first head _ h

    head-numbers : (job.frequency ≤ most_in 1) × (job.steps ≤ most_in 1) × (job.reversion ≤ most_in 2) × (job.volatility ≤ most_in 4)
    head-numbers = head-holds job.frequency job.steps job.reversion job.volatility job.version head-hold

    columns-hold : columns ≡ true
    unfolding is_sound
    columns-hold = first columns _ (second head h)

    kinds-hold : are_kinds job.kinds job.steps ≡ true
    unfolding are_columns
    kinds-hold = first (are_kinds job.kinds job.steps) _ columns-hold

    after-kinds :
        (is_column most_job_steps job.kinds job.steps (most_in 1)
        && (is_column most_job_steps job.figures job.steps (most_in 8) && is_column most_job_steps job.flows job.steps (most_in 4)))
        ≡ true
    unfolding are_columns
    after-kinds = second (are_kinds job.kinds job.steps) columns-hold

    after-tags :
        (is_column most_job_steps job.figures job.steps (most_in 8) && is_column most_job_steps job.flows job.steps (most_in 4)) ≡ true
    after-tags = second (is_column most_job_steps job.kinds job.steps (most_in 1)) after-kinds

    option-hold : is_sound_option job.option ≡ true
    unfolding is_sound
    option-hold = second columns (second head h)

    pub sound-job : SoundJob job
    sound-job =
        let numbers = head-numbers in
        record {
          frequency = omega arith;
          steps = omega arith;
          reversion = omega arith;
          volatility = omega arith;
          version = version-holds job.frequency job.steps job.reversion job.volatility job.version head-hold;
          kinds = column-is most_job_steps job.kinds job.steps (most_in 1) 256 (first _ _ after-kinds) (omega arith);
          kind = kinds-each job.kinds job.steps kinds-hold;
          figures = column-is most_job_steps job.figures job.steps (most_in 8) _ (first _ _ after-tags) (omega arith);
          flows =
              column-is most_job_steps job.flows job.steps (most_in 4) _
              (second (is_column most_job_steps job.figures job.steps (most_in 8)) after-tags) (omega arith);
          option = sound-option job.option option-hold;
        }

  pub job-test : SoundJob job → is_sound job ≡ true
  unfolding is_sound head_fits are_columns
  job-test sound =
      both
      (both
      (four-test job.frequency job.steps job.reversion job.volatility (most_in 1) (most_in 1) (most_in 2) (most_in 4)
      (omega (arith, sound.frequency)) (omega (arith, sound.steps)) (omega (arith, sound.reversion)) (omega (arith, sound.volatility)))
      sound.version)
      (both
      (both (kinds-test job.kinds job.steps sound.kind)
      (both (column-test most_job_steps job.kinds job.steps (most_in 1) 256 sound.kinds (omega arith))
      (both (column-test most_job_steps job.figures job.steps (most_in 8) _ sound.figures (omega arith))
      (column-test most_job_steps job.flows job.steps (most_in 4) _ sound.flows (omega arith)))))
      (option-test job.option sound.option))

-- the answers of the code, by the test that fails first
pub column-here : {r : Bool} (places : ℕ) (l : List ℕ) (n most : ℕ) → length l ≡ places → r ≡ is_column (length l) l n most → r ≡ is_column places l n most
column-here places l n most long e = e ∙ rw long

module _ (kinds figures flows : List ℕ) (n : ℕ) where
  pub no-kinds : are_kinds kinds n ≡ false → false ≡ are_columns kinds figures flows n
  unfolding are_columns
  no-kinds bad = rw bad

  module _ (good : are_kinds kinds n ≡ true) where
    pub no-tags : is_column most_job_steps kinds n (most_in 1) ≡ false → false ≡ are_columns kinds figures flows n
    unfolding are_columns
    no-tags bad = rw (good, bad)

    module _ (tags : is_column most_job_steps kinds n (most_in 1) ≡ true) where
      pub no-figures : is_column most_job_steps figures n (most_in 8) ≡ false → false ≡ are_columns kinds figures flows n
      unfolding are_columns
      no-figures bad = rw (good, tags, bad)

      pub columns-by-flows :
          is_column most_job_steps figures n (most_in 8) ≡ true → is_column most_job_steps flows n (most_in 4) ≡ are_columns kinds figures flows n
      unfolding are_columns
      columns-by-flows numbers = rw (good, tags, numbers)

module _ (option : OptionRecord) where
  pub option-misfits : fits option ≡ false → false ≡ is_sound_option option
  unfolding is_sound_option
  option-misfits bad = rw bad

  module _ (good : fits option ≡ true) where
    pub option-alien : belonging option ≡ false → false ≡ is_sound_option option
    unfolding is_sound_option
    option-alien bad = rw (good, bad)

    pub option-by-dates : belonging option ≡ true → is_column most_dates option.dates option.count (most_in 1) ≡ is_sound_option option
    unfolding is_sound_option
    option-by-dates own = rw (good, own)

module _ (job : Job) where
  pub job-misfits : head job ≡ false → false ≡ is_sound job
  unfolding is_sound
  job-misfits bad = rw bad

  module _ (good : head job ≡ true) where
    pub job-columns : columns job ≡ false → false ≡ is_sound job
    unfolding is_sound
    job-columns bad = rw (good, bad)

    pub job-by-option : columns job ≡ true → is_sound_option job.option ≡ is_sound job
    unfolding is_sound
    job-by-option full = rw (good, full)
