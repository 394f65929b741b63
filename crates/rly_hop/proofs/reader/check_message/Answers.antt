use Rattle.std.proofs.lemmas.Result.{err_from_is_err_and}
use Rattle.rly_hop.proofs.Faults.{end-fault, header-fault, length-fault}
use Rattle.rly_hop.proofs.reader.check_message.Goals as goal

pub returns-in_err-header-clause-fault : goal.returns-in_err-header-clause-fault
returns-in_err-header-clause-fault c =
    let p = err_from_is_err_and c.from_residual.result c.from_residual.ensures.1 in
    rw (p.1, p.2) (header-fault c.args.bytes.now c.in_err-header.field-0.0 c.in_err-header.ensures.fault)

pub read_length-requires : goal.read_length-requires
read_length-requires c = c.in_ok-header.ensures.kind

pub returns-in_err-whole-clause-fault : goal.returns-in_err-whole-clause-fault
returns-in_err-whole-clause-fault c =
    let p = err_from_is_err_and c.from_residual-in_err-whole.result c.from_residual-in_err-whole.ensures.1 in
    rw (p.1, p.2) (length-fault c.args.bytes.now c.in_err-whole.field-0.0 c.in_ok-header.ensures.fault c.in_err-whole.ensures.fault)

pub returns-in_err-check_length-clause-fault : goal.returns-in_err-check_length-clause-fault
returns-in_err-check_length-clause-fault c =
    let p = err_from_is_err_and c.from_residual-in_err-check_length.result c.from_residual-in_err-check_length.ensures.1 in
    rw (p.1, p.2) (end-fault c.args.bytes.now _ c.in_ok-whole.whole _ c.in_ok-header.ensures.fault c.in_ok-whole.ensures.fault c.in_ok-header.ensures.kind c.in_ok-whole.ensures.whole c.in_err-check_length.ensures)

pub returns-clause-fault : goal.returns-clause-fault
returns-clause-fault c =
    end-fault c.args.bytes.now _ c.in_ok-whole.whole _ c.in_ok-header.ensures.fault c.in_ok-whole.ensures.fault c.in_ok-header.ensures.kind c.in_ok-whole.ensures.whole c.in_ok-check_length.ensures

pub returns-clause-fixed : goal.returns-clause-fixed
returns-clause-fixed c = c.in_ok-whole.ensures.fixed
