use Rattle.std.proofs.Common.{arith}
use Rattle.rly_hop.proofs.KindFields.{data-read, fixed-16, heard-read, limited-data-read, number-room, refused-read}
use Rattle.rly_hop.proofs.reader.fields_of.Goals as goal

pub slice_bounds-read_u64-count : goal.slice_bounds-read_u64-count
slice_bounds-read_u64-count c = omega (arith, fixed-16 c.args.header.kind, c.requires.fixed)

pub slice_bounds-read_u64-start : goal.slice_bounds-read_u64-start
slice_bounds-read_u64-start c = omega (arith, fixed-16 c.args.header.kind, c.requires.fixed)

pub slice_bounds-read_u64-end : goal.slice_bounds-read_u64-end
slice_bounds-read_u64-end c = omega (arith, fixed-16 c.args.header.kind, c.requires.fixed)

pub read_u64-number-requires : goal.read_u64-number-requires
read_u64-number-requires c = number-room c.args.bytes.now (omega (arith, fixed-16 c.args.header.kind, c.requires.fixed))

pub returns-in-Data : goal.returns-in-Data
returns-in-Data c =
    data-read c.args.bytes.now c.args.header.kind c.args.header.from c.args.header.to c.read_u64-number.result c.in-Data.is
    (record { from_is = c.requires.from; to_is = c.requires.to; number_is = c.read_u64-number.ensures })

pub returns-in-LimitedData : goal.returns-in-LimitedData
returns-in-LimitedData c =
    limited-data-read c.args.bytes.now c.args.header.kind c.args.header.from c.args.header.to c.read_u64-number.result c.limit_in.result c.in-LimitedData.is
    (record { from_is = c.requires.from; to_is = c.requires.to; number_is = c.read_u64-number.ensures }) c.limit_in.ensures

pub returns-in-Refused : goal.returns-in-Refused
returns-in-Refused c =
    refused-read c.args.bytes.now c.args.header.kind c.args.header.from c.args.header.to c.read_u64-number.result c.in-Refused.is
    (record { from_is = c.requires.from; to_is = c.requires.to; number_is = c.read_u64-number.ensures })

pub returns-in-Heard : goal.returns-in-Heard
returns-in-Heard c =
    heard-read c.args.bytes.now c.args.header.kind c.args.header.from c.args.header.to c.read_u64-number.result c.read_u64.result c.in-Heard.is
    (record { from_is = c.requires.from; to_is = c.requires.to; number_is = c.read_u64-number.ensures }) c.read_u64.ensures
