-- The requests of the cores of two ends to their spools, and the replies as the cores receive them.
use Rattle.std.specs.Prelude.{ℕ, ◌==◌, Bool, false, List, [], ◌∷◌, Option, Some, None}
use Rattle.rly_core.specs.declared.ids.HopId.{HopId}
use Rattle.rly_core.specs.declared.ids.PeerId.{PeerId}
use Rattle.rly_hop.specs.declared.message.Message.{Message}
use Rattle.rly_hop.specs.declared.receiving.event.InAction.{InAction}
use Rattle.rly_hop.specs.declared.receiving.event.InAction.TheVariants as in_action
use Rattle.rly_hop.specs.declared.receiving.event.TakeAnswer.{TakeAnswer}
use Rattle.rly_hop.specs.declared.receiving.event.TakeAnswer.TheVariants as answer
use Rattle.rly_hop.specs.declared.sending.event.OutAction.{OutAction}
use Rattle.rly_hop.specs.declared.sending.event.OutAction.TheVariants as out_action
use Rattle.rly_hop.specs.declared.sending.event.OutEvent.{OutEvent}
use Rattle.rly_hop.specs.declared.sending.event.OutEvent.TheVariants as event
use Rattle.rly_machine.specs.declared.command.Ask.{Ask}
use Rattle.rly_machine.specs.declared.command.Ask.TheVariants.{Command, Query}
use Rattle.rly_machine.specs.declared.command.Command.TheVariants as command
use Rattle.rly_machine.specs.declared.command.Query.TheVariants as query
use Rattle.rly_machine.specs.declared.reply.Reply.{Reply}
use Rattle.rly_machine.specs.declared.reply.Reply.TheVariants as reply

-- the request of a sending core for a hop, with a Pick at this time; and the message that it sends
abbrev pub sender_asks : HopId → ℕ → Option (OutAction (List ℕ)) → List Ask
sender_asks hop moment (Some out_action.AskWindow) = Query (query.Window hop) ∷ []
sender_asks hop moment (Some (out_action.Release number)) = Command (command.Release hop number) ∷ []
sender_asks hop moment (Some (out_action.Fetch number)) = Query (query.Fetch hop number) ∷ []
sender_asks hop moment (Some out_action.Pick) = Command (command.Pick hop moment) ∷ []
sender_asks hop moment (Some (out_action.Send m)) = []
sender_asks hop moment None = []

abbrev pub sender_sends : Option (OutAction (List ℕ)) → List (Message (List ℕ))
sender_sends (Some (out_action.Send m)) = m ∷ []
sender_sends (Some out_action.AskWindow) = []
sender_sends (Some (out_action.Release number)) = []
sender_sends (Some (out_action.Fetch number)) = []
sender_sends (Some out_action.Pick) = []
sender_sends None = []

-- the request of a receiving core for a peer, with a datagram for this hop with this stamp and its own limit; and the
-- message that it sends
abbrev pub receiver_asks : PeerId → HopId → ℕ → Option (InAction (List ℕ)) → List Ask
receiver_asks peer hop stamp (Some (in_action.Take number limit payload)) =
    Command (command.Take peer number hop stamp limit payload) ∷ []
receiver_asks peer hop stamp (Some (in_action.Send m)) = []
receiver_asks peer hop stamp None = []

abbrev pub receiver_sends : Option (InAction (List ℕ)) → List (Message (List ℕ))
receiver_sends (Some (in_action.Send m)) = m ∷ []
receiver_sends (Some (in_action.Take number limit payload)) = []
receiver_sends None = []

-- the event for a sending core from bytes with their limit: they are those under the number that it requested
abbrev pub fetched_event : Ask → List ℕ → ℕ → OutEvent (List ℕ)
fetched_event (Query (query.Fetch hop number)) payload limit = event.Fetched number limit payload
fetched_event (Query (query.Window hop)) payload limit = event.Other
fetched_event (Query (query.Show hop)) payload limit = event.Other
fetched_event (Command any) payload limit = event.Other

-- the event for a sending core from the reply to its request
abbrev pub sender_event : Ask → Reply → OutEvent (List ℕ)
sender_event ask (reply.WindowIs first next) = event.WindowIs first next
sender_event ask (reply.Picked number id expired dropped) = event.Picked number
sender_event ask (reply.Nothing expired) = event.Nothing
sender_event ask (reply.Bytes payload limit) = fetched_event ask payload limit
sender_event ask (reply.Released count) = event.Released
sender_event ask reply.Unchanged = event.Unchanged
sender_event ask (reply.Refused refusal) = event.Refused refusal
sender_event ask (reply.Taken id) = event.Other
sender_event ask (reply.Already last) = event.Other
sender_event ask (reply.Shown status) = event.Other

-- the result for a receiving core from the reply to its Take
abbrev pub take_answer : Reply → TakeAnswer
take_answer (reply.Taken id) = answer.Taken
take_answer (reply.Already last) = answer.Already last
take_answer (reply.Refused refusal) = answer.Refused refusal
take_answer (reply.Picked number id expired dropped) = answer.Other
take_answer (reply.Nothing expired) = answer.Other
take_answer (reply.Released count) = answer.Other
take_answer reply.Unchanged = answer.Other
take_answer (reply.Bytes payload limit) = answer.Other
take_answer (reply.WindowIs first next) = answer.Other
take_answer (reply.Shown status) = answer.Other

-- the requests that only the sending core of a hop makes: its Picks and Releases
abbrev pub is_for_sender : HopId → Ask → Bool
is_for_sender hop (Command (command.Pick to now)) = to.0 == hop.0
is_for_sender hop (Command (command.Release to number)) = to.0 == hop.0
is_for_sender hop (Command (command.Take peer number to stamp limit payload)) = false
is_for_sender hop (Query any) = false

-- the requests that only the receiving cores of a peer make: its Takes
abbrev pub is_for_receiver : PeerId → Ask → Bool
is_for_receiver peer (Command (command.Take from number hop stamp limit payload)) = from.0 == peer.0
is_for_receiver peer (Command (command.Pick to now)) = false
is_for_receiver peer (Command (command.Release to number)) = false
is_for_receiver peer (Query any) = false
