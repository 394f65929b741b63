use Rattle.std.proofs.Common.{◌≡◌, ◌∙◌, ap, sym, None, Some}
use Rattle.std.specs.Result.{result_ok}
use Rattle.rly_hop.specs.MessageReads.{message_or_fault}
use Rattle.rly_hop.specs.Receiver.{Receiver}
use Rattle.rly_hop.specs.Receiving.{take_reply}
use Rattle.rly_folder.specs.FolderModel.{file_with}
use Rattle.rly_link_folder.specs.HopNeighbour.{data_of, reply_of, with_reply}
use Rattle.rly_link_folder.proofs.Packets.{reply_same}
use Rattle.rly_link_folder.proofs.hop_neighbour.HopNeighbour.hear.Goals as goal

pub returns : goal.returns
returns g c =
    let old = c.self.inside in
    let number = c.in-Some-taken_from.number in
    let taken : data_of old.core (result_ok (message_or_fault c.args.packet.now)) ≡ Some (number, file_with c.in-Some-taken_from.payload.now c.in-Some-taken_from.limit) = sym (c.in-Some-taken_from.ensures.found ∙ ap (data_of old.core) c.in-Some.ensures.message) in
    let waits = c.in-Some-taken_from.ensures.some in
    let takes = c.take-answer.ensures in
    let core : c.reply_to-reply.new.core ≡ old.core = c.reply_to-reply.ensures.core ∙ ap (λ (k : Receiver). record k { pending = None }) waits ∙ (λ i. record old.core { pending = (sym (ap (λ (k : Receiver). k.pending) c.self.invariant.0)) i }) in
    let reply = c.reply_to-reply.ensures.reply ∙ ap (λ k. reply_of (take_reply k number c.take-answer.result)) waits ∙ ap reply_of (reply_same old.core (Some number) number c.take-answer.result) in
    rw (← c.self.view_is) (rw taken (
      c.take-answer.result,
      record {
        next = takes.next;
        other = takes.other;
        untouched = takes.untouched;
        greatest = takes.greatest;
        most = takes.most;
      },
      core,
      c.add.ensures ∙ ap (with_reply old.replies) reply,
    ))
