use Prim.Native.Nat.{◌≤◌}
use native.Mathlib.Omega.{arith}
use lib.ListN.{length}
use mir.Facts.{to_z-of_z}
use Rattle.text_laws.specs.Lines.{node_word, node_line}
use Rattle.text_laws.proofs.DecimalLaws.{field_room}
use Rattle.text_laws.proofs.Signs.{held-room}
use Rattle.text_laws.proofs.LineLaws as laws
use Rattle.text_laws.proofs.LineLaws.{room-left}
use Rattle.text_laws.proofs.PutLaws.{put-before}
use Rattle.text.proofs.put_node.Goals as goal
use Rattle.text.proofs.put_node.Goals.{After-put_field-discount_start, After-put_signed_field-node_start, After-put_signed_field-rate_start}

pub put_signed_field-rate_start-requires : goal.put_signed_field-rate_start-requires
put_signed_field-rate_start-requires c =
    (omega arith, omega (arith, held-room 7 10 c.args.rate c.ranges.rate, c.requires.0), c.requires.1)

rate-put : (c : After-put_signed_field-rate_start) →
    (98 ≤ c.put_signed_field-rate_start.result) × (c.put_signed_field-rate_start.result ≤ length c.put_signed_field-rate_start.new.out)
rate-put c =
    room-left 30 98 c.put_signed_field-rate_start.ensures (omega (arith, c.requires.0)) (held-room 7 10 c.args.rate c.ranges.rate)

pub put_field-discount_start-requires : goal.put_field-discount_start-requires
put_field-discount_start-requires c =
    let r = rate-put (goal.at.put_field-discount_start-requires c).After-put_signed_field-rate_start in
    (omega arith, omega (arith, field_room 9 c.args.discount 32 c.ranges.discount.fits), r.1)

discount-put : (c : After-put_field-discount_start) →
    (67 ≤ c.put_field-discount_start.result) × (c.put_field-discount_start.result ≤ length c.put_field-discount_start.new.out)
discount-put c =
    let r = rate-put (goal.at.After-put_field-discount_start c).After-put_signed_field-rate_start in
    room-left 31 67 c.put_field-discount_start.ensures (omega arith) (field_room 9 c.args.discount 32 c.ranges.discount.fits)

pub put_signed_field-node_start-requires : goal.put_signed_field-node_start-requires
put_signed_field-node_start-requires c =
    let r = discount-put (goal.at.put_signed_field-node_start-requires c).After-put_field-discount_start in
    (omega arith, omega (arith, held-room 0 32 c.args.node c.ranges.node), r.1)

node-put : (c : After-put_signed_field-node_start) →
    (44 ≤ c.put_signed_field-node_start.result) × (c.put_signed_field-node_start.result ≤ length c.put_signed_field-node_start.new.out)
node-put c =
    let r = discount-put (goal.at.After-put_signed_field-node_start c).After-put_field-discount_start in
    room-left 23 44 c.put_signed_field-node_start.ensures (omega arith) (held-room 0 32 c.args.node c.ranges.node)

pub put_label-requires : goal.put_label-requires
put_label-requires c = let r = node-put (goal.at.put_label-requires c).After-put_signed_field-node_start in (omega arith, r.1)

pub returns : goal.returns
unfolding node_line
returns c =
    let rate = rw (to_z-of_z c.ranges.rate) at c.put_signed_field-rate_start.ensures in
    let node = rw (to_z-of_z c.ranges.node) at c.put_signed_field-node_start.ensures in
    laws.put-label node_word _ (put-before (put-before rate c.put_field-discount_start.ensures) node) c.put_label.ensures
