use Rattle.rly_hop.specs.Sending.{sender}
use Rattle.rly_hop.proofs.SendingLaws.{sender-in_order, sender_after-in_order}
use Rattle.rly_hop.proofs.laws.sending.law_cursor_is_in_order.Goals as goal

pub returns : goal.returns
returns c own hop window events = sender_after-in_order (sender own hop window) events (sender-in_order own hop window)
