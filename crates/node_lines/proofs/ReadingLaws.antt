-- Laws of the nodes before a place, and of what a call that draws them leaves.
-- Assumes nothing.
use mathlib.Core.Path.{◌≡◌, refl, sym, ap, ◌∙◌, subst}
use mathlib.Core.Bool.{Bool, true, false, cond}
use mathlib.Core.List.{List}
use Prim.Native.Nat.{ℕ, ◌+◌, ◌-◌, ◌/◌, ◌≤◌, ◌<◌}
use native.Mathlib.Omega.{arith}
use borrow.Author.Tests.{le-leb, lt-leb, leb-true, eq-eqb, ne_eqb}
use lib.Dec.{leb}
use lib.ListN.{length, get_or, take, drop}
use Rattle.std.specs.Prelude.{Result, Ok, Err}
use Rattle.std.specs.Result.{IsOk}
use Rattle.arithmetic.specs.Refusals.{cause_of}
use Rattle.arithmetic.specs.declared.Refusal.{Refusal}
use Rattle.arithmetic.proofs.RefusalLaws.{cause-ok}
use Rattle.node_lines.specs.declared.Places.{Places}
use Rattle.arithmetic.proofs.PartLaws.{part_length, part-value}
use Rattle.limits.specs.Limits.{most_discount}
use Rattle.lattice.specs.RateTree.{node_of_index}
use Rattle.text_laws.specs.Lines.{line_of_node}
use Rattle.text_laws.specs.Put.{put_before, with_text}
use Rattle.text_laws.specs.inside.Put.{Put}
use Rattle.text_laws.proofs.PutLaws.{put_whole}
use Rattle.node_lines.specs.Rows.{node_text, is_row, has_room_for, accepted_nodes, row_number}
use Rattle.node_lines.specs.Reading.{Drawn, drawn_by, stand_before, nodes_before, read_number, drawn_of}
use Rattle.node_lines.specs.inside.Preconditions.{Readable}
use Rattle.node_lines.proofs.RowLaws.{and_both, row-none, row-short, row-judged, row_room, row-accepted, row_within, row-discount}

-- ---- the nodes before a place

pub stand-none : (count next size : ℕ) → next < count → stand_before count next size ≡ false
unfolding stand_before
stand-none count next size h = rw (lt-leb count next h)

pub stand-test : (count next size : ℕ) → count ≤ next → stand_before count next size ≡ leb next size
unfolding stand_before
stand-test count next size h = rw (le-leb count next h)

pub stand-known : (count next size : ℕ) → stand_before count next size ≡ true → (count ≤ next) × (next ≤ size)
unfolding stand_before
stand-known count next size e =
    let both = and_both (leb count next) (leb next size) e in
    (leb-true count next both.0, leb-true next size both.1)

module _ (discounts : List ℕ) (next count : ℕ) (standing : count ≤ next) (within : next ≤ length discounts) where
  pub before-length : length (nodes_before discounts next count) ≡ count
  unfolding nodes_before
  before-length = part_length discounts (next - count) count (omega arith)

  -- as lending has it
  pub before_lent : take (next - (next - count)) (drop (next - count) discounts) ≡ nodes_before discounts next count
  unfolding nodes_before
  before_lent = let e : next - (next - count) ≡ count = omega arith in rw e

  before-value : (k : ℕ) → k < count → get_or (nodes_before discounts next count) k 0 ≡ get_or discounts (next - count + k) 0
  unfolding nodes_before
  before-value k h = part-value discounts (next - count) count k h

  pub before_text : (row k : ℕ) → k < count →
      line_of_node row (node_of_index (count / 2) k) (get_or discounts (next - count + k) 0) ≡ node_text row (nodes_before discounts next count) k
  unfolding node_text
  before_text row k h = sym (rw (before-length, before-value k h))

  pub before-discount : accepted_nodes (nodes_before discounts next count) ≡ true → (k : ℕ) → k < count →
      (1 ≤ get_or discounts (next - count + k) 0) × (get_or discounts (next - count + k) 0 ≤ most_discount)
  before-discount a k h =
      subst (λ (d : ℕ). (1 ≤ d) × (d ≤ most_discount)) (before-value k h) (row-discount (nodes_before discounts next count) k a (omega (arith, before-length)))

-- ---- the number of what is read

module _ (size end row : ℕ) (discounts : List ℕ) (next count : ℕ) where
  pub read_none : stand_before count next (length discounts) ≡ false → 6 ≡ read_number size end row discounts next count
  unfolding read_number
  read_none e = sym (rw e)

  module _ (e : stand_before count next (length discounts) ≡ true) where
    known : (count ≤ next) × (next ≤ length discounts)
    known = stand-known count next (length discounts) e

    counted : length (nodes_before discounts next count) ≡ count
    counted = before-length discounts next count known.0 known.1

    row_read : row_number size end row (nodes_before discounts next count) ≡ read_number size end row discounts next count
    unfolding read_number
    row_read = sym (rw e)

    pub read-no-row : is_row row count ≡ false → 6 ≡ read_number size end row discounts next count
    read-no-row r = row-none size end row (nodes_before discounts next count) (rw counted r) ∙ row_read

    module _ (shaped : is_row row count ≡ true) where
      pub read_short : has_room_for count size end ≡ false → 6 ≡ read_number size end row discounts next count
      read_short r = row-short size end row (nodes_before discounts next count) (rw counted shaped) (rw counted r) ∙ row_read

      pub read-judged : has_room_for count size end ≡ true → (t : Bool) → accepted_nodes (nodes_before discounts next count) ≡ t →
          cond t 0 9 ≡ read_number size end row discounts next count
      read-judged r t a = row-judged size end row (nodes_before discounts next count) (rw counted shaped) (rw counted r) t a ∙ row_read

pub read-number-none : (size end row : ℕ) (discounts : List ℕ) (next count : ℕ) → count ≤ next → next ≤ length discounts →
    row_number size end row (nodes_before discounts next count) ≡ 0 → read_number size end row discounts next count ≡ 0
unfolding read_number stand_before
read-number-none size end row discounts next count h p z = rw (le-leb count next h, le-leb next (length discounts) p) z

read-parts : (stands : Bool) (number : ℕ) → cond stands number 6 ≡ 0 → (stands ≡ true) × (number ≡ 0)
read-parts true number e = (refl, e)
read-parts false number e = let none : ⊥ = omega arith in absurd none

pub read_known : (size end row : ℕ) (discounts : List ℕ) (next count : ℕ) → read_number size end row discounts next count ≡ 0 →
    Readable discounts next count end size
unfolding read_number
read_known size end row discounts next count z =
    let parts = read-parts (stand_before count next (length discounts)) _ z in
    let stands = stand-known count next (length discounts) parts.0 in
    let counted = before-length discounts next count stands.0 stands.1 in
    let room = row_room size end row (nodes_before discounts next count) parts.1 in record {
      standing = stands.0;
      next-within = stands.1;
      within-row = omega (arith, counted, row_within size end row (nodes_before discounts next count) parts.1);
      accepted = row-accepted size end row (nodes_before discounts next count) parts.1;
      room = omega (arith, counted, room.0);
      inside = room.1;
    }

-- ---- what a call leaves

pub drawn-cause : (answer : Result Places Refusal) → (drawn_by answer).number ≡ cause_of answer
drawn-cause (Ok places) = refl
drawn-cause (Err refusal) = refl

module _ (number : ℕ) (out : List ℕ) (end : ℕ) (text : List ℕ) (next : ℕ) where
  -- an answer, and the buffer afterwards
  abbrev pub Drew : Drawn → List ℕ → Type 0
  Drew answer after = (answer ≡ drawn_of number end text next) × (after ≡ with_text number out end text)

  pub drawn-refused : (found : ℕ) → found ≡ number → (found ≡ 0 → ⊥) → Drew (record { number = found; start = 0; next = 0 }) out
  unfolding drawn_of with_text
  drawn-refused found e nz = let test = ne_eqb number 0 (λ z. nz (e ∙ z)) in (rw (test, e), rw test)

  -- all lines put, and the place gone down
  pub drawn-whole : {start place : ℕ} {after : List ℕ} → Put out end text start after → place ≡ next →
      (◌≡◌ {A = Drawn} (record { number = 0; start = start; next = place }) (drawn_of 0 end text next)) × (after ≡ put_before out end text)
  unfolding drawn_of
  drawn-whole {start} {place} p e =
      let s : start ≡ end - length text = omega (arith, p.place) in
      (rw (s, e), p.memory)

  pub drawn-answered : {answer : Drawn} {after : List ℕ} → number ≡ 0 → answer ≡ drawn_of 0 end text next → after ≡ put_before out end text →
      Drew answer after
  unfolding with_text
  drawn-answered z a m = (a ∙ ap (λ (n : ℕ). drawn_of n end text next) (sym z), rw (eq-eqb number 0 z) m)

  -- lines that are put are not refused
  pub drawn-ok : (answer : Result Places Refusal) {after : List ℕ} → Drew (drawn_by answer) after → number ≡ 0 → IsOk answer
  unfolding drawn_of
  drawn-ok answer d z = cause-ok answer (sym (drawn-cause answer) ∙ ap (λ (a : Drawn). a.number) d.0 ∙ rw (eq-eqb number 0 z))

  -- what a caller has of it
  module _ {answer : Drawn} {after : List ℕ} (d : Drew answer after) (z : number ≡ 0) where
    answered : answer ≡ record { number = 0; start = end - length text; next = next }
    unfolding drawn_of
    answered = d.0 ∙ rw (eq-eqb number 0 z)

    pub drawn-put : length text ≤ end → end ≤ length out → Put out end text answer.start after
    unfolding with_text
    drawn-put l p =
        let s : answer.start ≡ end - length text = ap (λ (a : Drawn). a.start) answered in
        put_whole out after text end answer.start (omega arith) p (rw (eq-eqb number 0 z) at d.1)

    pub drawn-next : answer.next ≡ next
    drawn-next = ap (λ (a : Drawn). a.next) answered
