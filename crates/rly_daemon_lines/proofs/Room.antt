-- The room for the line of a reply with a payload.
use Rattle.std.proofs.Common.{◌≡◌, ℕ, ◌<◌, ◌≤◌, ◌^◌, List, [], ◌∷◌, Bool, true, false, arith, length, length-append, nat_lt, refl}
use Rattle.std.specs.Fmt.{decimal}
use Rattle.std.proofs.lemmas.Fmt.{length-decimal-le}
use Rattle.hex.specs.Hex.{lower_digits}
use Rattle.hex.proofs.HexLemmas.{length-encode_with}
use Rattle.rly_daemon_reply.specs.Replies.{limit_text, payload_text}
use Rattle.rly_daemon_lines.specs.HelpersOutflow.{HasRoomForPayload}

number_long : (n : ℕ) → n < 2 ^ 64 → length (decimal n) ≤ 20
number_long n small = length-decimal-le 20 n (omega arith) (omega (arith, small)) small

payload_long : (payload : List ℕ) → length payload ≤ 8192 → length (payload_text payload) ≤ 16384
unfolding payload_text
payload_long [] few = omega arith
payload_long (b ∷ bs) few = omega (arith, length-encode_with lower_digits (b ∷ bs), few)

limit_long : (limit : ℕ) → limit < 2 ^ 64 → length (limit_text limit) ≤ 21
unfolding limit_text
limit_long limit small = by (nat_lt 0 limit) refl where
  by : (b : Bool) → nat_lt 0 limit ≡ b → length (limit_text limit) ≤ 21
  by true some = rw some (omega (arith, number_long limit small))
  by false none = rw none (omega arith)

-- a word of 6 bytes, two numbers, spaces and the newline beside the payload and its limit
pub has_room : (room : ℕ) → 81990 ≤ room → HasRoomForPayload room
has_room room wide params held subject payload limit sound few short hop number small =
    let digits = payload_long payload (omega (arith, short, sound.payload.1)) in
    let hops = number_long subject.hop.0 hop in
    let numbers = number_long subject.number number in
    let limits = limit_long limit small in
    grind (arith, length-append, wide, few, digits, hops, numbers, limits)
