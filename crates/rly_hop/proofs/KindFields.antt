-- The message of each kind, from the fields that were read.
use Rattle.std.proofs.Common.{◌≡◌, ℕ, ◌-◌, ◌≤◌, List, length, get_or, take, drop, sym, ap, ◌∙◌, arith}
use Rattle.std.proofs.lemmas.List.{length-drop, length-take, take_all}
use Rattle.byteorder.specs.Endian.{big_number}
use Rattle.rly_hop.specs.declared.kind.Kind.{Kind}
use Rattle.rly_hop.specs.declared.kind.Kind.TheVariants as kinds
use Rattle.rly_hop.specs.declared.message.Message.{Message}
use Rattle.rly_hop.specs.declared.message.Message.TheVariants.{Data, Refused, Heard}
use Rattle.rly_hop.specs.declared.message.StationId.{StationId}
use Rattle.rly_hop.specs.HelpersKinds.{message_kind_byte}
use Rattle.rly_hop.specs.MessageReads.{field_at, fixed_length, message_at, station_at}

-- a message of any kind has its number
pub fixed-16 : (kind : Kind) → 16 ≤ fixed_length (message_kind_byte kind)
fixed-16 kinds.Data = omega arith
fixed-16 kinds.Custody = omega arith
fixed-16 kinds.Refused = omega arith
fixed-16 kinds.LimitedData = omega arith
fixed-16 kinds.Heard = omega arith

-- all bytes from an offset on
all-behind : (place : ℕ) (bytes : List ℕ) → take (length bytes - place) (drop place bytes) ≡ drop place bytes
all-behind place bytes = take_all (length bytes - place) (drop place bytes) (omega (arith, length-drop place bytes))

pub number-room : (bytes : List ℕ) → 16 ≤ length bytes → 8 ≤ length (take (length bytes - 8) (drop 8 bytes))
number-room bytes long = omega (arith, length-take (length bytes - 8) (drop 8 bytes), length-drop 8 bytes)

-- the fields that each kind begins with were read
pub record AreRead (bytes : List ℕ) (from to : StationId) (number : ℕ) : Type 0 where
  pub from_is : from ≡ station_at 4 bytes
  pub to_is : to ≡ station_at 6 bytes
  pub number_is : number ≡ big_number 8 (take (length bytes - 8) (drop 8 bytes))

number-at : (bytes : List ℕ) (from to : StationId) (number : ℕ) → AreRead bytes from to number → number ≡ field_at 8 8 bytes
number-at bytes from to number are = are.number_is ∙ ap (λ (x : List ℕ). big_number 8 x) (all-behind 8 bytes)

of-kind : (bytes : List ℕ) (kind which : Kind) → kind ≡ which → message_at (message_kind_byte which) bytes ≡ message_at (message_kind_byte kind) bytes
of-kind bytes kind which is = ap (λ (k : Kind). message_at (message_kind_byte k) bytes) (sym is)

pub data-read : (bytes : List ℕ) (kind : Kind) (from to : StationId) (number : ℕ) → kind ≡ kinds.Data → AreRead bytes from to number
    → Data from to number 0 (take (length bytes - 18) (drop 18 bytes)) ≡ message_at (message_kind_byte kind) bytes
data-read bytes kind from to number is are =
    let n = number-at bytes from to number are in
    let fields : Data from to number 0 (take (length bytes - 18) (drop 18 bytes)) ≡ message_at 1 bytes =
    λ i. Data (are.from_is i) (are.to_is i) (n i) 0 (all-behind 18 bytes i) in
    fields ∙ of-kind bytes kind kinds.Data is

pub limited-data-read : (bytes : List ℕ) (kind : Kind) (from to : StationId) (number limit : ℕ) → kind ≡ kinds.LimitedData → AreRead bytes from to number → limit ≡ field_at 5 16 bytes
    → Data from to number limit (take (length bytes - 23) (drop 23 bytes)) ≡ message_at (message_kind_byte kind) bytes
limited-data-read bytes kind from to number limit is are limited =
    let n = number-at bytes from to number are in
    let fields : Data from to number limit (take (length bytes - 23) (drop 23 bytes)) ≡ message_at 4 bytes =
    λ i. Data (are.from_is i) (are.to_is i) (n i) (limited i) (all-behind 23 bytes i) in
    fields ∙ of-kind bytes kind kinds.LimitedData is

pub refused-read : (bytes : List ℕ) (kind : Kind) (from to : StationId) (number : ℕ) → kind ≡ kinds.Refused → AreRead bytes from to number
    → (let m : Message (List ℕ) = Refused from to number (get_or bytes 16 0) in m) ≡ message_at (message_kind_byte kind) bytes
refused-read bytes kind from to number is are =
    let n = number-at bytes from to number are in
    let fields : (let m : Message (List ℕ) = Refused from to number (get_or bytes 16 0) in m) ≡ message_at 3 bytes =
    λ i. Refused (are.from_is i) (are.to_is i) (n i) (get_or bytes 16 0) in
    fields ∙ of-kind bytes kind kinds.Refused is

pub heard-read : (bytes : List ℕ) (kind : Kind) (from to : StationId) (number bits : ℕ) → kind ≡ kinds.Heard → AreRead bytes from to number
    → bits ≡ big_number 8 (take (length bytes - 16) (drop 16 bytes))
    → (let m : Message (List ℕ) = Heard from to number bits in m) ≡ message_at (message_kind_byte kind) bytes
heard-read bytes kind from to number bits is are bits_is =
    let n = number-at bytes from to number are in
    let b : bits ≡ field_at 8 16 bytes = bits_is ∙ ap (λ (x : List ℕ). big_number 8 x) (all-behind 16 bytes) in
    let fields : (let m : Message (List ℕ) = Heard from to number bits in m) ≡ message_at 5 bytes =
    λ i. Heard (are.from_is i) (are.to_is i) (n i) (b i) in
    fields ∙ of-kind bytes kind kinds.Heard is
