use Rattle.std.proofs.Common.{◌≡◌, ◌∙◌, ap, sym}
use Rattle.std.specs.Prelude.{Ok, Err}
use Rattle.std.specs.Result.{result_ok}
use Rattle.rly_hop.specs.Payloads.{message_bytes}
use Rattle.rly_hop.specs.MessageReads.{message_or_fault}
use Rattle.rly_hop.proofs.Messages.{reading-spelling}
use Rattle.rly_link_folder.proofs.Packets.{faulty}
use Rattle.rly_link_folder.proofs.messages.message_of.Goals as goal

pub returns-in-Ok-clause-message : goal.returns-in-Ok-clause-message
returns-in-Ok-clause-message c =
    let found = c.in-Ok.ensures.found in
    let read : message_or_fault c.args.packet.now ≡ Ok (message_bytes c.in-Ok.message) = ap message_or_fault found.1 ∙ reading-spelling (message_bytes c.in-Ok.message) found.0 in
    sym (ap result_ok read)

pub returns-in-Err-clause-message : goal.returns-in-Err-clause-message
returns-in-Err-clause-message c =
    let read : message_or_fault c.args.packet.now ≡ Err c.in-Err.field-0 = faulty c.args.packet.now c.in-Err.field-0 c.in-Err.ensures.fault in
    sym (ap result_ok read)
