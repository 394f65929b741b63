-- Helpers of private functions: the bytes of the kinds of message.
use Rattle.std.specs.Prelude.{ℕ}
use Rattle.rly_hop.specs.declared.kind.Kind.{Kind}
use Rattle.rly_hop.specs.declared.kind.Kind.TheVariants.{Data, Custody, Refused, LimitedData, Heard}

-- the byte of a kind
abbrev pub message_kind_byte : Kind → ℕ
message_kind_byte Data = 1
message_kind_byte Custody = 2
message_kind_byte Refused = 3
message_kind_byte LimitedData = 4
message_kind_byte Heard = 5
