-- A file that was written job by job gives the same jobs, and a file is its jobs and what is left.
-- Assumes nothing.
use mathlib.Core.Path.{◌≡◌, refl, sym, ap, ◌∙◌}
use mathlib.Core.Bool.{Bool, true, false, cond}
use mathlib.Core.List.{List, [], ◌∷◌, ◌++◌, append_assoc}
use Prim.Native.Nat.{ℕ, zero, suc, ◌+◌, ◌*◌, ◌/◌, ◌%◌, ◌≤◌, ◌<◌}
use native.Mathlib.Omega.{arith}
use borrow.Author.Tests.{le-leb, leb-true, eqb-true}
use lib.Dec.{leb}
use lib.ListN.{length, get_or, take, drop, length-append, take-append-drop}
use lib.Seq.{take_at, drop_at, drop-drop, get_or-drop, length-take-le}
use Rattle.book_laws.proofs.OpenLaws.{both}
use Rattle.book_laws.specs.Files.{head_sound, field_size, starts_whole, first_job, after_first, jobs_of, rest_of, field_of, file_of}

module _ (job rest : List ℕ) where
  size-written : field_size (field_of job ++ rest) ≡ length job
  unfolding field_size field_of
  size-written = omega arith

  long-written : 3 + length job ≤ length (field_of job ++ rest)
  unfolding field_of
  long-written = simp length-append (omega arith)

  head-written : head_sound (field_of job ++ rest) ≡ true
  unfolding head_sound field_of
  head-written = rw (le-leb 3 (length (field_of job ++ rest)) (omega (arith, long-written)))

  pub starts-written : starts_whole (field_of job ++ rest) ≡ true
  unfolding starts_whole
  starts-written = rw (head-written, size-written, le-leb (3 + length job) (length (field_of job ++ rest)) long-written)

  behind : drop 3 (field_of job ++ rest) ≡ job ++ rest
  unfolding field_of
  behind = refl

  job-written : first_job (field_of job ++ rest) ≡ job
  unfolding first_job
  job-written = rw (size-written, behind) (take_at job rest (length job) refl)

  after-written : after_first (field_of job ++ rest) ≡ rest
  unfolding after_first
  after-written = rw size-written (sym (drop-drop (length job) 3 (field_of job ++ rest)) ∙ ap (drop (length job)) behind ∙ drop_at job rest (length job) refl)

nothing-starts : starts_whole [] ≡ false
unfolding starts_whole head_sound
nothing-starts = refl

pub jobs-written : (jobs : List (List ℕ)) (most : ℕ) → length jobs ≤ most → jobs_of most (file_of jobs) ≡ jobs
unfolding jobs_of file_of
jobs-written [] zero h = refl
jobs-written [] (suc most) h = rw nothing-starts
jobs-written (job ∷ jobs) zero h = let none : ⊥ = omega arith in absurd none
jobs-written (job ∷ jobs) (suc most) h =
    rw (starts-written job (file_of jobs), job-written job (file_of jobs), after-written job (file_of jobs), jobs-written jobs most (omega arith))

pub rest-written : (jobs : List (List ℕ)) (most : ℕ) → length jobs ≤ most → rest_of most (file_of jobs) ≡ []
unfolding rest_of file_of
rest-written [] zero h = refl
rest-written [] (suc most) h = rw nothing-starts
rest-written (job ∷ jobs) zero h = let none : ⊥ = omega arith in absurd none
rest-written (job ∷ jobs) (suc most) h = rw (starts-written job (file_of jobs), after-written job (file_of jobs), rest-written jobs most (omega arith))

-- ---- the other way round

-- what was taken is a field, where its bytes are bytes
field-taken : (file : List ℕ) → get_or file 2 0 < 256 → starts_whole file ≡ true → field_of (first_job file) ++ after_first file ≡ file
unfolding starts_whole head_sound field_size first_job after_first field_of
field-taken [] b h = let z : ◌≡◌ {A = ℕ} 0 1 = cc in let none : ⊥ = omega arith in absurd none
field-taken (t ∷ []) b h = let z : ◌≡◌ {A = ℕ} 0 1 = cc in let none : ⊥ = omega arith in absurd none
field-taken (t ∷ u ∷ []) b h = let z : ◌≡◌ {A = ℕ} 0 1 = cc in let none : ⊥ = omega arith in absurd none
field-taken (t ∷ u ∷ v ∷ l) b h =
    let (s, w) = both (head_sound (t ∷ u ∷ v ∷ l)) _ h in
    let (r, e) = both (leb 3 (length (t ∷ u ∷ v ∷ l))) _ s in
    let room = leb-true (3 + (u * 256 + v)) (length (t ∷ u ∷ v ∷ l)) w in
    let n : length (take (u * 256 + v) l) ≡ u * 256 + v = length-take-le (u * 256 + v) l (omega arith) in
    let i : (u * 256 + v) / 256 ≡ u = omega arith in
    let j : (u * 256 + v) % 256 ≡ v = omega arith in
    rw (← drop-drop (u * 256 + v) 3 (t ∷ u ∷ v ∷ l), n, i, j, take-append-drop (u * 256 + v) l, eqb-true t 16 e)

after-bytes : (file : List ℕ) → ((i : ℕ) → get_or file i 0 < 256) → (i : ℕ) → get_or (after_first file) i 0 < 256
unfolding after_first
after-bytes file b i = rw (get_or-drop (3 + field_size file) file i 0) (b (3 + field_size file + i))

-- A FILE IS ITS JOBS AND WHAT IS LEFT: for bytes, at most so many fields and then the rest are the file
pub file-taken : (most : ℕ) (file : List ℕ) → ((i : ℕ) → get_or file i 0 < 256) → file_of (jobs_of most file) ++ rest_of most file ≡ file
unfolding jobs_of rest_of file_of
file-taken zero file b = refl
file-taken (suc most) file b = go (starts_whole file) refl (file-taken most (after_first file) (after-bytes file b))
  where
    go : (t : Bool) → starts_whole file ≡ t → file_of (jobs_of most (after_first file)) ++ rest_of most (after_first file) ≡ after_first file
        → file_of (cond t (first_job file ∷ jobs_of most (after_first file)) []) ++ cond t (rest_of most (after_first file)) file ≡ file
    go true e h = append_assoc (field_of (first_job file)) _ _ ∙ ap (λ (l : List ℕ). field_of (first_job file) ++ l) h ∙ field-taken file (b 2) e
    go false e h = refl

-- it ends after so many fields, or where no whole field starts
pub rest-stops : (most : ℕ) (file : List ℕ) → length (jobs_of most file) < most → starts_whole (rest_of most file) ≡ false
unfolding jobs_of rest_of
rest-stops zero file h = let none : ⊥ = omega arith in absurd none
rest-stops (suc most) file h = go (starts_whole file) refl h (λ l. rest-stops most (after_first file) l)
  where
    go : (t : Bool) → starts_whole file ≡ t → length (cond t (first_job file ∷ jobs_of most (after_first file)) []) < suc most
        → (length (jobs_of most (after_first file)) < most → starts_whole (rest_of most (after_first file)) ≡ false) →
        starts_whole (cond t (rest_of most (after_first file)) file) ≡ false
    go true e l f = f (omega arith)
    go false e l f = e
