use Rattle.std.proofs.Common.{◌≡◌, ◌∙◌, Bool, if◌then◌else◌, Some, None, ap, arith}
use Rattle.rly_hop.specs.FixedBytes.{refused_number}
use Rattle.rly_hop.specs.MessageReads.{field_at}
use Rattle.rly_hop.proofs.FixedBytes.{faulty, refused-other, refused-seen}
use Rattle.rly_hop.proofs.fixed_bytes.refused_number.Goals as goal

pub returns-then-packet-fixed_length : goal.returns-then-packet-fixed_length
returns-then-packet-fixed_length c =
    let whole : c.fixed_length.result ≡ 17 = c.fixed_length.ensures in
    refused-other c.args.packet.now c.args.from c.args.to (λ i. omega (arith, c.type_inv.packet i)) (λ e. omega (arith, whole, c.if-packet-fixed_length.true, e))

pub returns-in_default : goal.returns-in_default
returns-in_default c = ap (refused_number c.args.from c.args.to) (faulty c.args.packet.now c.in_default.field-0 c.in_default.ensures.fault)

pub returns : goal.returns
returns c =
    let header = c.in-Ok.header in
    let found = c.in-Ok.ensures in
    c.number_if.ensures
    ∙ ap (λ (b : Bool). if b then Some (field_at 8 8 c.args.packet.now) else None) c.is_refused.ensures
    ∙ refused-seen c.args.packet.now header.kind c.args.from c.args.to header.from header.to found.fault found.kind found.from found.to
