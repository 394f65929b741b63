use Rattle.std.proofs.Common.{◌≡◌, ◌∙◌, Bool, if◌then◌else◌, Some, None, ap, arith}
use Rattle.rly_hop.specs.FixedBytes.{data_number}
use Rattle.rly_hop.specs.MessageReads.{field_at}
use Rattle.rly_hop.proofs.FixedBytes.{data-seen, data-short, faulty}
use Rattle.rly_hop.proofs.fixed_bytes.data_number.Goals as goal

pub returns-then-packet-fixed_length : goal.returns-then-packet-fixed_length
returns-then-packet-fixed_length c =
    let whole : c.fixed_length.result ≡ 18 = c.fixed_length.ensures in
    data-short c.args.packet.now c.args.from c.args.to (λ i. omega (arith, c.type_inv.packet i)) (omega (arith, whole, c.if-packet-fixed_length.true))

pub returns-in_default : goal.returns-in_default
returns-in_default c = ap (data_number c.args.from c.args.to) (faulty c.args.packet.now c.in_default.field-0 c.in_default.ensures.fault)

pub returns : goal.returns
returns c =
    let header = c.in-Ok.header in
    let found = c.in-Ok.ensures in
    c.number_if.ensures
    ∙ ap (λ (b : Bool). if b then Some (field_at 8 8 c.args.packet.now) else None) c.is_data.ensures
    ∙ data-seen c.args.packet.now header.kind c.args.from c.args.to header.from header.to found.fault found.kind found.from found.to
