-- What a look at a packet's fixed bytes finds is what the message says that the packet spells.
use Rattle.std.proofs.Common.{◌≡◌, ℕ, zero, suc, ◌<◌, ◌≤◌, ◌&&◌, ◌||◌, ◌==◌, if◌then◌else◌, List, length, Option, Some, None, Result, Ok, Err, ap, refl, sym, arith}
use Rattle.std.specs.Result.{result_ok}
use Rattle.rly_core.specs.declared.refusal.Refusal.{Refusal}
use Rattle.rly_hop.specs.declared.kind.Kind.{Kind}
use Rattle.rly_hop.specs.declared.kind.Kind.TheVariants as kinds
use Rattle.rly_hop.specs.declared.message.Message.{Message}
use Rattle.rly_hop.specs.declared.message.Message.TheVariants.{Data, Custody, Refused, Heard}
use Rattle.rly_hop.specs.declared.message.StationId.{StationId}
use Rattle.rly_hop.specs.HelpersKinds.{message_kind_byte}
use Rattle.rly_hop.specs.FixedBytes.{custody_number, data_number, refused_number}
use Rattle.rly_hop.specs.MessageReads.{field_at, first_fault, found_unless, kind_of, message_at, message_or_fault, station_at}
use Rattle.rly_hop.specs.Spelling.{spelling}
use Rattle.rly_hop.proofs.Fields.{IsBytes, unless-is}
use Rattle.rly_hop.proofs.Messages.{reading-spelled}

-- without a fault the packet's message is that of its kind
sound : (bytes : List ℕ) (kind : ℕ) → None ≡ first_fault bytes → kind_of bytes ≡ kind
    → Some (message_at kind bytes) ≡ result_ok (message_or_fault bytes)
unfolding message_or_fault
sound bytes kind none is =
    ap result_ok (sym (unless-is (first_fault bytes) (message_at (kind_of bytes) bytes) (message_at kind bytes) (sym none)
    (ap (λ (k : ℕ). message_at k bytes) is)))

-- with a fault it has none
pub faulty : (bytes : List ℕ) (fault : Refusal) → Some fault ≡ first_fault bytes → None ≡ result_ok (message_or_fault bytes)
unfolding message_or_fault
faulty bytes fault told =
    ap (λ (f : Option Refusal). result_ok (found_unless f (message_at (kind_of bytes) bytes))) told

-- the number of a Data, by the packet's header
pub data-seen : (bytes : List ℕ) (kind : Kind) (from to source target : StationId)
    → None ≡ first_fault bytes → kind_of bytes ≡ message_kind_byte kind
    → source ≡ station_at 4 bytes → target ≡ station_at 6 bytes
    → (if ((message_kind_byte kind == 1) || (message_kind_byte kind == 4)) && ((source.0 == from.0) && (target.0 == to.0))
    then Some (field_at 8 8 bytes) else None)
    ≡ data_number from to (result_ok (message_or_fault bytes))
data-seen bytes kinds.Data from to source target none is at_4 at_6 =
    rw (at_4, at_6) (ap (data_number from to) (sound bytes 1 none is))
data-seen bytes kinds.LimitedData from to source target none is at_4 at_6 =
    rw (at_4, at_6) (ap (data_number from to) (sound bytes 4 none is))
data-seen bytes kinds.Custody from to source target none is at_4 at_6 = ap (data_number from to) (sound bytes 2 none is)
data-seen bytes kinds.Refused from to source target none is at_4 at_6 = ap (data_number from to) (sound bytes 3 none is)
data-seen bytes kinds.Heard from to source target none is at_4 at_6 = ap (data_number from to) (sound bytes 5 none is)

-- the number of a custody, by the packet's header
pub custody-seen : (bytes : List ℕ) (kind : Kind) (from to source target : StationId)
    → None ≡ first_fault bytes → kind_of bytes ≡ message_kind_byte kind
    → source ≡ station_at 4 bytes → target ≡ station_at 6 bytes
    → (if (message_kind_byte kind == 2) && ((source.0 == from.0) && (target.0 == to.0))
    then Some (field_at 8 8 bytes) else None)
    ≡ custody_number from to (result_ok (message_or_fault bytes))
custody-seen bytes kinds.Data from to source target none is at_4 at_6 =
    ap (custody_number from to) (sound bytes 1 none is)
custody-seen bytes kinds.LimitedData from to source target none is at_4 at_6 =
    ap (custody_number from to) (sound bytes 4 none is)
custody-seen bytes kinds.Custody from to source target none is at_4 at_6 =
    rw (at_4, at_6) (ap (custody_number from to) (sound bytes 2 none is))
custody-seen bytes kinds.Refused from to source target none is at_4 at_6 =
    ap (custody_number from to) (sound bytes 3 none is)
custody-seen bytes kinds.Heard from to source target none is at_4 at_6 =
    ap (custody_number from to) (sound bytes 5 none is)

-- the number of a refusal, by the packet's header
pub refused-seen : (bytes : List ℕ) (kind : Kind) (from to source target : StationId)
    → None ≡ first_fault bytes → kind_of bytes ≡ message_kind_byte kind
    → source ≡ station_at 4 bytes → target ≡ station_at 6 bytes
    → (if (message_kind_byte kind == 3) && ((source.0 == from.0) && (target.0 == to.0))
    then Some (field_at 8 8 bytes) else None)
    ≡ refused_number from to (result_ok (message_or_fault bytes))
refused-seen bytes kinds.Data from to source target none is at_4 at_6 = ap (refused_number from to) (sound bytes 1 none is)
refused-seen bytes kinds.LimitedData from to source target none is at_4 at_6 =
    ap (refused_number from to) (sound bytes 4 none is)
refused-seen bytes kinds.Custody from to source target none is at_4 at_6 =
    ap (refused_number from to) (sound bytes 2 none is)
refused-seen bytes kinds.Refused from to source target none is at_4 at_6 =
    rw (at_4, at_6) (ap (refused_number from to) (sound bytes 3 none is))
refused-seen bytes kinds.Heard from to source target none is at_4 at_6 =
    ap (refused_number from to) (sound bytes 5 none is)

-- a Data has 18 bytes at least, a custody 16, and a refusal 17
data-least : (from to : StationId) (number limit : ℕ) (payload : List ℕ) → 18 ≤ length (spelling (Data from to number limit payload))
unfolding spelling
data-least from to number zero payload = omega arith
data-least from to number (suc limit) payload = omega arith

custody-length : (from to : StationId) (last : ℕ) → length (spelling (Custody from to last)) ≡ 16
unfolding spelling
custody-length from to last = refl

refused-length : (from to : StationId) (number told : ℕ) → length (spelling (Refused from to number told)) ≡ 17
unfolding spelling
refused-length from to number told = refl

short-of : (bytes : List ℕ) (from to : StationId) (r : Result (Message (List ℕ)) Refusal)
    → IsBytes bytes → length bytes < 18 → message_or_fault bytes ≡ r
    → None ≡ data_number from to (result_ok r)
short-of bytes from to (Ok (Data source target number limit payload)) fits short is =
    let spelled = (reading-spelled bytes (Data source target number limit payload) fits is).1 in
    absurd (omega (arith, ap length spelled, data-least source target number limit payload, short))
short-of bytes from to (Ok (Custody source target last)) fits short is = refl
short-of bytes from to (Ok (Refused source target number refusal)) fits short is = refl
short-of bytes from to (Ok (Heard source target last bits)) fits short is = refl
short-of bytes from to (Err fault) fits short is = refl

-- what is shorter is no Data
pub data-short : (bytes : List ℕ) (from to : StationId) → IsBytes bytes → length bytes < 18
    → None ≡ data_number from to (result_ok (message_or_fault bytes))
data-short bytes from to fits short = short-of bytes from to (message_or_fault bytes) fits short refl

-- what is of another length is no custody
other-of : (bytes : List ℕ) (from to : StationId) (r : Result (Message (List ℕ)) Refusal)
    → IsBytes bytes → (length bytes ≡ 16 → ⊥) → message_or_fault bytes ≡ r
    → None ≡ custody_number from to (result_ok r)
other-of bytes from to (Ok (Custody source target last)) fits other is =
    let spelled = (reading-spelled bytes (Custody source target last) fits is).1 in
    absurd (other (omega (arith, ap length spelled, custody-length source target last)))
other-of bytes from to (Ok (Data source target number limit payload)) fits other is = refl
other-of bytes from to (Ok (Refused source target number refusal)) fits other is = refl
other-of bytes from to (Ok (Heard source target last bits)) fits other is = refl
other-of bytes from to (Err fault) fits other is = refl

pub custody-other : (bytes : List ℕ) (from to : StationId) → IsBytes bytes → (length bytes ≡ 16 → ⊥)
    → None ≡ custody_number from to (result_ok (message_or_fault bytes))
custody-other bytes from to fits other = other-of bytes from to (message_or_fault bytes) fits other refl

-- what is of another length is no refusal
unlike-of : (bytes : List ℕ) (from to : StationId) (r : Result (Message (List ℕ)) Refusal)
    → IsBytes bytes → (length bytes ≡ 17 → ⊥) → message_or_fault bytes ≡ r
    → None ≡ refused_number from to (result_ok r)
unlike-of bytes from to (Ok (Refused source target number told)) fits other is =
    let spelled = (reading-spelled bytes (Refused source target number told) fits is).1 in
    absurd (other (omega (arith, ap length spelled, refused-length source target number told)))
unlike-of bytes from to (Ok (Data source target number limit payload)) fits other is = refl
unlike-of bytes from to (Ok (Custody source target last)) fits other is = refl
unlike-of bytes from to (Ok (Heard source target last bits)) fits other is = refl
unlike-of bytes from to (Err fault) fits other is = refl

pub refused-other : (bytes : List ℕ) (from to : StationId) → IsBytes bytes → (length bytes ≡ 17 → ⊥)
    → None ≡ refused_number from to (result_ok (message_or_fault bytes))
refused-other bytes from to fits other = unlike-of bytes from to (message_or_fault bytes) fits other refl
