-- Laws of files: the whole file against field by field, and a walk by offsets.
-- Assumes nothing.
use mathlib.Core.Path.{◌≡◌, refl, sym, ap, ◌∙◌}
use mathlib.Core.Bool.{Bool, true, false, cond, ◌&&◌}
use mathlib.Core.List.{List, [], ◌∷◌}
use Prim.Native.Nat.{ℕ, zero, suc, ◌+◌, ◌-◌, ◌≤◌, ◌<◌}
use native.Mathlib.Omega.{arith}
use borrow.Author.Tests.{eq-eqb, ne_eqb, lt-leb, le-leb, leb-true}
use lib.Dec.{leb}
use lib.ListN.{length, get_or, take, drop, length-drop}
use lib.Seq.{take-length, drop-drop}
use Rattle.book_laws.specs.declared.Book.{Book}
use Rattle.book_laws.specs.Books.{most_fields, empty_book, with_field, with_fields, closed_book}
use Rattle.book_laws.specs.Files.{Head, head_sound, field_size, head_of, starts_whole, first_job, after_first, jobs_of, rest_of, file_book, streamed}
use Rattle.book_laws.specs.inside.Files.{field_end}

-- ---- the book of the jobs, closed by what is left, is what a program gives that goes field by field

fold-stream : (most : ℕ) (b : Book) (file : List ℕ) → closed_book (with_fields b (jobs_of most file)) (length (rest_of most file)) ≡ streamed most b file
unfolding jobs_of rest_of streamed with_fields
fold-stream zero b file = refl
fold-stream (suc most) b file = go (starts_whole file) (fold-stream most (with_field b (first_job file)) (after_first file))
  where
    go : (t : Bool) → closed_book (with_fields (with_field b (first_job file)) (jobs_of most (after_first file))) (length (rest_of most (after_first file)))
        ≡ streamed most (with_field b (first_job file)) (after_first file)
        → closed_book (with_fields b (cond t (first_job file ∷ jobs_of most (after_first file)) [])) (length (cond t (rest_of most (after_first file)) file))
        ≡ cond t (streamed most (with_field b (first_job file)) (after_first file)) (closed_book b (length file))
    go true h = h
    go false h = refl

pub as-a-program-goes : (file : List ℕ) → file_book file ≡ streamed most_fields empty_book file
unfolding file_book
as-a-program-goes file = fold-stream most_fields empty_book file

-- one field of it
stream-taken : (most : ℕ) (b : Book) (file : List ℕ) → 0 < most → starts_whole file ≡ true →
    streamed most b file ≡ streamed (most - 1) (with_field b (first_job file)) (after_first file)
unfolding streamed
stream-taken zero b file p w = let none : ⊥ = omega arith in absurd none
stream-taken (suc most) b file p w = let e : suc most - 1 ≡ most = omega arith in rw (w, e)

stream-stops : (most : ℕ) (b : Book) (file : List ℕ) → starts_whole file ≡ false → streamed most b file ≡ closed_book b (length file)
unfolding streamed
stream-stops zero b file w = refl
stream-stops (suc most) b file w = rw w

stream-full : (most : ℕ) (b : Book) (file : List ℕ) → most ≡ 0 → streamed most b file ≡ closed_book b (length file)
unfolding streamed
stream-full most b file e = rw e

-- ---- heads

module _ (file : List ℕ) where
  pub head-short : length file < 3 → record { sound = false; size = 0 } ≡ head_of file
  unfolding head_of head_sound
  head-short h = rw (lt-leb 3 (length file) h)

  pub head-other : 3 ≤ length file → (get_or file 0 0 ≡ 16 → ⊥) → record { sound = false; size = 0 } ≡ head_of file
  unfolding head_of head_sound
  head-other h t = rw (le-leb 3 (length file) h, ne_eqb (get_or file 0 0) 16 t)

  pub head-sound : 3 ≤ length file → get_or file 0 0 ≡ 16 → record { sound = true; size = field_size file } ≡ head_of file
  unfolding head_of head_sound
  head-sound h t = rw (le-leb 3 (length file) h, eq-eqb (get_or file 0 0) 16 t)

  pub not_sound : (head_of file).sound ≡ false → starts_whole file ≡ false
  unfolding head_of starts_whole
  not_sound h = rw h

  pub size-sound : (head_of file).sound ≡ true → (head_of file).size ≡ field_size file
  unfolding head_of
  size-sound h = rw h

  sound-head : (head_of file).sound ≡ head_sound file
  unfolding head_of
  sound-head = refl

  pub not-whole : (head_of file).sound ≡ true → length file < 3 + (head_of file).size → starts_whole file ≡ false
  unfolding starts_whole
  not-whole h l = let s = sym sound-head ∙ h in let e = size-sound h in rw (s, lt-leb (3 + field_size file) (length file) (omega arith))

  pub whole : (head_of file).sound ≡ true → 3 + (head_of file).size ≤ length file → starts_whole file ≡ true
  unfolding starts_whole
  whole h l = let s = sym sound-head ∙ h in let e = size-sound h in rw (s, le-leb (3 + field_size file) (length file) (omega arith))

  -- a whole field lies in the file
  pub whole_room : starts_whole file ≡ true → 3 + field_size file ≤ length file
  unfolding starts_whole
  whole_room h = go (head_sound file) (leb (3 + field_size file) (length file)) refl h
    where
      go : (s t : Bool) → leb (3 + field_size file) (length file) ≡ t → (s && t) ≡ true → 3 + field_size file ≤ length file
      go true true e g = leb-true (3 + field_size file) (length file) e
      go true false e g = let z : ◌≡◌ {A = ℕ} 0 1 = cc in let none : ⊥ = omega arith in absurd none
      go false t e g = let z : ◌≡◌ {A = ℕ} 0 1 = cc in let none : ⊥ = omega arith in absurd none

-- ---- where a field ends

module _ (file : List ℕ) (at : ℕ) where
  none_end : starts_whole (drop at file) ≡ false → at ≡ field_end file at
  unfolding field_end
  none_end h = rw h

  some_end : starts_whole (drop at file) ≡ true → at + (3 + field_size (drop at file)) ≡ field_end file at
  unfolding field_end
  some_end h = rw h

  -- `head` is what the code read of the part from the place on
  module _ (head : Head) (read : head ≡ head_of (take (length file - at) (drop at file))) where
    lent : take (length file - at) (drop at file) ≡ drop at file
    lent = rw (← length-drop at file) (take-length (drop at file))

    e : head ≡ head_of (drop at file)
    e = read ∙ ap head_of lent

    pub end-unsound : head.sound ≡ false → at ≡ field_end file at
    end-unsound h = none_end (not_sound (drop at file) (rw e at h))

    pub end-cut : head.sound ≡ true → length file - at < 3 + head.size → at ≡ field_end file at
    end-cut h l = none_end (not-whole (drop at file) (rw e at h) (simp length-drop (rw e at l)))

    pub end_whole : head.sound ≡ true → 3 + head.size ≤ length file - at → at + 3 + head.size ≡ field_end file at
    end_whole h l =
        let s : (head_of (drop at file)).sound ≡ true = rw e at h in
        let n : head.size ≡ field_size (drop at file) = ap (λ (x : Head). x.size) e ∙ size-sound (drop at file) s in
        let w : starts_whole (drop at file) ≡ true = whole (drop at file) s (simp length-drop (rw e at l)) in
        omega (arith, some_end w)

  -- an end that is not the place itself
  module _ (end : ℕ) (e : end ≡ field_end file at) (below : at ≤ length file) where
    moved : (end ≡ at → ⊥) → starts_whole (drop at file) ≡ true
    moved n = go (starts_whole (drop at file)) refl
      where
        go : (t : Bool) → starts_whole (drop at file) ≡ t → t ≡ true
        go true h = refl
        go false h = absurd (n (e ∙ sym (none_end h)))

    stayed : end ≡ at → starts_whole (drop at file) ≡ false
    stayed n = go (starts_whole (drop at file)) refl
      where
        go : (t : Bool) → starts_whole (drop at file) ≡ t → t ≡ false
        go true h = let none : ⊥ = omega (arith, some_end h) in absurd none
        go false h = refl

    pub end-room : (end ≡ at → ⊥) → (at + 3 ≤ end) × (end ≤ length file)
    end-room n =
        let w = moved n in
        let r = simp length-drop at (whole_room (drop at file) w) in
        (omega (arith, some_end w), omega (arith, some_end w))

    job-there : (end ≡ at → ⊥) → first_job (drop at file) ≡ take (end - (at + 3)) (drop (at + 3) file)
    unfolding first_job
    job-there n =
        let w = moved n in
        let s : field_size (drop at file) ≡ end - (at + 3) = omega (arith, some_end w) in
        rw (s, drop-drop 3 at file)

    after-there : (end ≡ at → ⊥) → after_first (drop at file) ≡ drop end file
    unfolding after_first
    after-there n =
        let w = moved n in
        drop-drop (3 + field_size (drop at file)) at file ∙ ap (λ (k : ℕ). drop k file) (some_end w ∙ sym e)

    -- a walk of the file, with so many fields still to be taken
    module _ (left : ℕ) (b whole : Book) (h : streamed left b (drop at file) ≡ whole) where
      pub walk_step : 0 < left → (end ≡ at → ⊥) → streamed (left - 1) (with_field b (take (end - (at + 3)) (drop (at + 3) file))) (drop end file) ≡ whole
      walk_step l n = rw (← job-there n, ← after-there n) (sym (stream-taken left b (drop at file) l (moved n)) ∙ h)

      pub walk-stop : end ≡ at → closed_book b (length file - at) ≡ whole
      walk-stop n = rw (← length-drop at file) (sym (stream-stops left b (drop at file) (stayed n)) ∙ h)

  pub walk-full : (left : ℕ) (b whole : Book) → streamed left b (drop at file) ≡ whole → left ≡ 0 → closed_book b (length file - at) ≡ whole
  walk-full left b whole h z = rw (← length-drop at file) (sym (stream-full left b (drop at file) z) ∙ h)

pub walk_start : (file : List ℕ) → streamed most_fields empty_book file ≡ file_book file
walk_start file = sym (as-a-program-goes file)
