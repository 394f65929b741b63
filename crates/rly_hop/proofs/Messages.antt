-- Decoding and encoding are inverse.
use Rattle.std.proofs.Common.{◌≡◌, ℕ, zero, suc, ◌+◌, ◌^◌, ◌<◌, ◌≤◌, false, not, ◌&&◌, ◌||◌, ◌==◌, nat_lt, slice_index, List, [], ◌∷◌, ◌++◌, length, drop, Option, None, Result, Ok, Err, refl, sym, ap, subst, ◌∙◌, arith, inl, inr}
use Rattle.std.specs.Prelude.{IfOk, IsOkAnd, MatchResult}
use Rattle.std.specs.Result.{result_err}
use Rattle.std.specs.Borrow.{Bor}
use Rattle.std.proofs.lemmas.Bool.{le-ltb, ltb-false, ne_eqb, or_from}
use Rattle.std.proofs.lemmas.List.{drop_all, get_or-drop, length-drop, take-append-drop, take_all}
use Rattle.byteorder.specs.Endian.{big_bytes, big_number}
use Rattle.byteorder.specs.Numbers.{big_from-lt, big_number-reads_back}
use Rattle.rly_core.specs.declared.refusal.Refusal.{Refusal}
use Rattle.rly_core.specs.declared.refusal.Refusal.TheVariants.{Short, Long, Magic, Version, Kind, Station}
use Rattle.rly_hop.specs.declared.message.StationId.{StationId}
use Rattle.rly_hop.specs.declared.message.Message.{Message}
use Rattle.rly_hop.specs.declared.message.Message.TheVariants.{Data, Custody, Refused, Heard}
use Rattle.rly_hop.specs.Payloads.{message_bytes}
use Rattle.rly_hop.specs.Spelling.{IsMessage, IsStation, header, spelling}
use Rattle.rly_hop.specs.MessageReads.{first_fault, fixed_length, found_unless, is_known_kind, kind_of, message_at, field_at, payload_length, message_or_fault, station_at, whole_length}
use Rattle.rly_hop.proofs.Fields.{IsBytes, IsBytes-drop, IsHeader, IsHeader-from, NoFault, field, field-append, field_2, field_5, field_8, front, joined_3, known_kind, no_fault, ok-is, positive, quiet, unless-is, unless-ok}

-- a station's number, if it isn't 0
station-fits : (place : ℕ) (bytes : List ℕ) → IsBytes bytes → 1 ≤ field_at 2 place bytes → IsStation (station_at place bytes)
station-fits place bytes fits low =
    let rest = IsBytes-drop place bytes fits in
    (low, omega (arith, rest 0, rest 1))

number-fits : (place : ℕ) (bytes : List ℕ) → IsBytes bytes → field_at 8 place bytes < 2 ^ 64
number-fits place bytes fits = big_from-lt 0 8 (drop place bytes) (IsBytes-drop place bytes fits)

limit-fits : (place : ℕ) (bytes : List ℕ) → IsBytes bytes → field_at 5 place bytes < 2 ^ 40
limit-fits place bytes fits = big_from-lt 0 5 (drop place bytes) (IsBytes-drop place bytes fits)

-- the bytes of a payload's length, and of the payload, if the datagram ends with it
payload-spelled : (place behind : ℕ) (bytes : List ℕ) → IsBytes bytes → behind ≡ place + 2 → length bytes ≡ behind + field_at 2 place bytes
    → drop place bytes ≡ big_bytes 2 (length (drop behind bytes)) ++ drop behind bytes
payload-spelled place behind bytes fits after long =
    let payload : length (drop behind bytes) ≡ field_at 2 place bytes = omega (arith, length-drop behind bytes) in
    sym (field-append 2 place behind bytes after) ∙ ap (λ (x : List ℕ). x ++ drop behind bytes) (sym (field_2 place bytes fits (omega arith)) ∙ ap (big_bytes 2) (sym payload))

-- the bytes of the header and of the number after it
header-spelled : (bytes rest : List ℕ) (kind : ℕ) → IsBytes bytes → IsHeader bytes → kind_of bytes ≡ kind → 16 ≤ length bytes → drop 16 bytes ≡ rest
    → bytes ≡ header kind (station_at 4 bytes) (station_at 6 bytes) ++ big_bytes 8 (field_at 8 8 bytes) ++ rest
header-spelled bytes rest kind fits head is long behind =
    let first = front bytes kind fits head.length_is head.magic head.version is in
    sym (joined_3 (0x52 ∷ 0x4c ∷ 1 ∷ kind ∷ []) (big_bytes 2 (field_at 2 4 bytes)) (big_bytes 2 (field_at 2 6 bytes)) (big_bytes 8 (field_at 8 8 bytes)) rest
    (drop 8 bytes) (drop 6 bytes) (drop 4 bytes) bytes
    (ap (λ (x : List ℕ). big_bytes 8 (field_at 8 8 bytes) ++ x) (sym behind) ∙ ap (λ (x : List ℕ). x ++ drop 16 bytes) (field_8 8 bytes fits (omega arith)) ∙ field-append 8 8 16 bytes refl)
    (ap (λ (x : List ℕ). x ++ drop 8 bytes) (field_2 6 bytes fits (omega arith)) ∙ field-append 2 6 8 bytes refl)
    (ap (λ (x : List ℕ). x ++ drop 6 bytes) (field_2 4 bytes fits (omega arith)) ∙ field-append 2 4 6 bytes refl)
    (ap (λ (x : List ℕ). x ++ drop 4 bytes) first ∙ take-append-drop 4 bytes))

-- a list of one item
one_item : (xs : List ℕ) → length xs ≡ 1 → xs ≡ slice_index xs 0 ∷ []
one_item [] e = absurd (omega arith)
one_item (x ∷ []) e = refl
one_item (x ∷ y ∷ xs) e = absurd (omega arith)

-- the message at the offsets of a kind, if the datagram has its length
abbrev Spelled : ℕ → List ℕ → Type 0
Spelled kind bytes = IsMessage (message_at kind bytes) × (bytes ≡ spelling (message_at kind bytes))

data-spelled : (bytes : List ℕ) → IsBytes bytes → IsHeader bytes → kind_of bytes ≡ 1 → field_at 2 16 bytes ≤ 8192 → length bytes ≡ 18 + field_at 2 16 bytes → Spelled 1 bytes
unfolding spelling
data-spelled bytes fits head is low long = (
  (station-fits 4 bytes fits head.from, station-fits 6 bytes fits head.to, number-fits 8 bytes fits, omega (arith, length-drop 18 bytes), omega arith),
  header-spelled bytes (big_bytes 2 (length (drop 18 bytes)) ++ drop 18 bytes) 1 fits head is (omega arith) (payload-spelled 16 18 bytes fits refl long),
)

-- the encoding of a Data that has a limit
pub spelling-limited : (from to : StationId) (number limit : ℕ) (payload : List ℕ) → 1 ≤ limit
    → spelling (Data from to number limit payload) ≡ header 4 from to ++ big_bytes 8 number ++ big_bytes 5 limit ++ big_bytes 2 (length payload) ++ payload
unfolding spelling
spelling-limited from to number zero payload low = absurd (omega arith)
spelling-limited from to number (suc limit) payload low = refl

limited-data-spelled : (bytes : List ℕ) → IsBytes bytes → IsHeader bytes → kind_of bytes ≡ 4 → 1 ≤ field_at 5 16 bytes → field_at 2 21 bytes ≤ 8192 → length bytes ≡ 23 + field_at 2 21 bytes
    → Spelled 4 bytes
limited-data-spelled bytes fits head is above low long =
    let last : drop 21 bytes ≡ big_bytes 2 (length (drop 23 bytes)) ++ drop 23 bytes = payload-spelled 21 23 bytes fits refl long in
    let behind : drop 16 bytes ≡ big_bytes 5 (field_at 5 16 bytes) ++ (big_bytes 2 (length (drop 23 bytes)) ++ drop 23 bytes) =
    sym (field-append 5 16 21 bytes refl) ∙ ap (λ (x : List ℕ). x ++ drop 21 bytes) (sym (field_5 16 bytes fits (omega arith))) ∙ ap (λ (x : List ℕ). big_bytes 5 (field_at 5 16 bytes) ++ x) last in (
      (station-fits 4 bytes fits head.from, station-fits 6 bytes fits head.to, number-fits 8 bytes fits, omega (arith, length-drop 23 bytes), limit-fits 16 bytes fits),
      header-spelled bytes (big_bytes 5 (field_at 5 16 bytes) ++ (big_bytes 2 (length (drop 23 bytes)) ++ drop 23 bytes)) 4 fits head is (omega arith) behind
          ∙ sym (spelling-limited (station_at 4 bytes) (station_at 6 bytes) (field_at 8 8 bytes) (field_at 5 16 bytes) (drop 23 bytes) above),
    )

custody-spelled : (bytes : List ℕ) → IsBytes bytes → IsHeader bytes → kind_of bytes ≡ 2 → length bytes ≡ 16 → Spelled 2 bytes
unfolding spelling
custody-spelled bytes fits head is long = (
  (station-fits 4 bytes fits head.from, station-fits 6 bytes fits head.to, number-fits 8 bytes fits),
  header-spelled bytes [] 2 fits head is (omega arith) (drop_all 16 bytes (omega arith)),
)

refused-spelled : (bytes : List ℕ) → IsBytes bytes → IsHeader bytes → kind_of bytes ≡ 3 → length bytes ≡ 17 → Spelled 3 bytes
unfolding spelling
refused-spelled bytes fits head is long =
    let last : drop 16 bytes ≡ slice_index bytes 16 ∷ [] =
    one_item (drop 16 bytes) (omega (arith, length-drop 16 bytes)) ∙ ap (λ (x : ℕ). x ∷ []) (get_or-drop 16 bytes 0 0) in (
      (station-fits 4 bytes fits head.from, station-fits 6 bytes fits head.to, number-fits 8 bytes fits, fits 16),
      header-spelled bytes (slice_index bytes 16 ∷ []) 3 fits head is (omega arith) last,
    )

heard-spelled : (bytes : List ℕ) → IsBytes bytes → IsHeader bytes → kind_of bytes ≡ 5 → length bytes ≡ 24 → Spelled 5 bytes
unfolding spelling
heard-spelled bytes fits head is long =
    let all : field 8 16 bytes ≡ drop 16 bytes = take_all 8 (drop 16 bytes) (omega (arith, length-drop 16 bytes)) in
    let last : drop 16 bytes ≡ big_bytes 8 (field_at 8 16 bytes) = sym (field_8 16 bytes fits (omega arith) ∙ all) in (
      (station-fits 4 bytes fits head.from, station-fits 6 bytes fits head.to, number-fits 8 bytes fits, number-fits 16 bytes fits),
      header-spelled bytes (big_bytes 8 (field_at 8 16 bytes)) 5 fits head is (omega arith) last,
    )

-- none of the ten tests of a datagram is met
abbrev IsQuiet : List ℕ → Type 0
IsQuiet bytes = NoFault (nat_lt (length bytes) 8) (not (field_at 2 0 bytes == 0x524c)) (not (slice_index bytes 2 == 1))
    (not (is_known_kind (kind_of bytes))) ((field_at 2 4 bytes == 0) || (field_at 2 6 bytes == 0))
    (nat_lt (length bytes) (fixed_length (kind_of bytes))) ((kind_of bytes == 4) && (field_at 5 16 bytes == 0)) (nat_lt 8192 (payload_length (kind_of bytes) bytes))
    (nat_lt (length bytes) (whole_length (kind_of bytes) bytes)) (nat_lt (whole_length (kind_of bytes) bytes) (length bytes))

quiet-from : (bytes : List ℕ) → first_fault bytes ≡ None → IsQuiet bytes
unfolding first_fault
quiet-from bytes none =
    no_fault (nat_lt (length bytes) 8) (not (field_at 2 0 bytes == 0x524c)) (not (slice_index bytes 2 == 1))
    (not (is_known_kind (kind_of bytes))) ((field_at 2 4 bytes == 0) || (field_at 2 6 bytes == 0))
    (nat_lt (length bytes) (fixed_length (kind_of bytes))) ((kind_of bytes == 4) && (field_at 5 16 bytes == 0)) (nat_lt 8192 (payload_length (kind_of bytes) bytes))
    (nat_lt (length bytes) (whole_length (kind_of bytes) bytes)) (nat_lt (whole_length (kind_of bytes) bytes) (length bytes))
    Short Magic Version Kind Station Short Kind Long Short Long none

reading-is : (bytes : List ℕ) (m : Message (List ℕ)) → IsQuiet bytes → message_at (kind_of bytes) bytes ≡ m → message_or_fault bytes ≡ Ok m
unfolding message_or_fault first_fault
reading-is bytes m none is =
    unless-is (first_fault bytes) (message_at (kind_of bytes) bytes) m (quiet (nat_lt (length bytes) 8) (not (field_at 2 0 bytes == 0x524c)) (not (slice_index bytes 2 == 1))
    (not (is_known_kind (kind_of bytes))) ((field_at 2 4 bytes == 0) || (field_at 2 6 bytes == 0))
    (nat_lt (length bytes) (fixed_length (kind_of bytes))) ((kind_of bytes == 4) && (field_at 5 16 bytes == 0)) (nat_lt 8192 (payload_length (kind_of bytes) bytes))
    (nat_lt (length bytes) (whole_length (kind_of bytes) bytes)) (nat_lt (whole_length (kind_of bytes) bytes) (length bytes))
    Short Magic Version Kind Station Short Kind Long Short Long none) is

pub reading-spelled : (bytes : List ℕ) (m : Message (List ℕ)) → IsBytes bytes → message_or_fault bytes ≡ Ok m → IsMessage m × (bytes ≡ spelling m)
unfolding message_or_fault
reading-spelled bytes m fits e =
    let parts = unless-ok (first_fault bytes) (message_at (kind_of bytes) bytes) m e in
    let none = quiet-from bytes parts.0 in
    let head = IsHeader-from bytes none.header none.magic none.version none.station in
    let low : whole_length (kind_of bytes) bytes ≤ length bytes = ltb-false _ _ none.short in
    let high : length bytes ≤ whole_length (kind_of bytes) bytes = ltb-false _ _ none.long in
    let whole : length bytes ≡ whole_length (kind_of bytes) bytes = omega arith in
    subst (λ (x : Message (List ℕ)). IsMessage x × (bytes ≡ spelling x)) parts.1 (elim (known_kind (kind_of bytes) none.kind) [
      | inl first ↦
          let payload : nat_lt 8192 (field_at 2 16 bytes) ≡ false = subst (λ (k : ℕ). nat_lt 8192 (payload_length k bytes) ≡ false) first none.payload in
          let exact : length bytes ≡ whole_length 1 bytes = subst (λ (k : ℕ). length bytes ≡ whole_length k bytes) first whole in
          subst (λ (k : ℕ). Spelled k bytes) (sym first) (data-spelled bytes fits head first (ltb-false _ _ payload) exact)
      | inr rest ↦ elim rest [
        | inl custody ↦
            subst (λ (k : ℕ). Spelled k bytes) (sym custody) (custody-spelled bytes fits head custody (subst (λ (k : ℕ). length bytes ≡ whole_length k bytes) custody whole))
        | inr others ↦ elim others [
          | inl refused ↦
              subst (λ (k : ℕ). Spelled k bytes) (sym refused) (refused-spelled bytes fits head refused (subst (λ (k : ℕ). length bytes ≡ whole_length k bytes) refused whole))
          | inr later ↦ elim later [
            | inl limited ↦
                let limit : (field_at 5 16 bytes == 0) ≡ false = subst (λ (k : ℕ). ((k == 4) && (field_at 5 16 bytes == 0)) ≡ false) limited none.limit in
                let payload : nat_lt 8192 (field_at 2 21 bytes) ≡ false = subst (λ (k : ℕ). nat_lt 8192 (payload_length k bytes) ≡ false) limited none.payload in
                let exact : length bytes ≡ whole_length 4 bytes = subst (λ (k : ℕ). length bytes ≡ whole_length k bytes) limited whole in
                subst (λ (k : ℕ). Spelled k bytes) (sym limited)
                (limited-data-spelled bytes fits head limited (positive _ limit) (ltb-false _ _ payload) exact)
            | inr heard ↦
                subst (λ (k : ℕ). Spelled k bytes) (sym heard) (heard-spelled bytes fits head heard (subst (λ (k : ℕ). length bytes ≡ whole_length k bytes) heard whole))
          ]
        ]
      ]
    ])

-- a number that was encoded, decoded again
two_again : (n : ℕ) → n ≤ 65535 → big_number 2 (big_bytes 2 n ++ []) ≡ n
two_again n fits = big_number-reads_back 2 n [] (omega arith)

five_again : (n : ℕ) → n < 2 ^ 40 → big_number 5 (big_bytes 5 n ++ []) ≡ n
five_again n fits = big_number-reads_back 5 n [] fits

eight_again : (n : ℕ) → n < 2 ^ 64 → big_number 8 (big_bytes 8 n ++ []) ≡ n
eight_again n fits = big_number-reads_back 8 n [] fits

-- neither station is 0
stations : (from to a b : ℕ) → a ≡ from → b ≡ to → 1 ≤ from → 1 ≤ to → ((a == 0) || (b == 0)) ≡ false
stations from to a b p q low high = or_from _ _ (ne_eqb a 0 (λ e. omega arith)) (ne_eqb b 0 (λ e. omega arith))

-- a number that was encoded above 0 isn't 0
above-zero : (a n : ℕ) → a ≡ suc n → (a == 0) ≡ false
above-zero a n e = ne_eqb a 0 (λ z. omega arith)

data-again : (from to : StationId) (a b c d number limit : ℕ) (payload : List ℕ) → a ≡ from.0 → b ≡ to.0 → c ≡ number → d ≡ limit
    → Data (record { 0 = a }) (record { 0 = b }) c d payload ≡ Data from to number limit payload
data-again from to a b c d number limit payload p q r s = rw (p, q, r, s) refl

custody-again : (from to : StationId) (a b c last : ℕ) → a ≡ from.0 → b ≡ to.0 → c ≡ last
    → (let found : Message (List ℕ) = Custody (record { 0 = a }) (record { 0 = b }) c in found) ≡ Custody from to last
custody-again from to a b c last p q r = rw (p, q, r) refl

refused-again : (from to : StationId) (a b c number told : ℕ) → a ≡ from.0 → b ≡ to.0 → c ≡ number
    → (let found : Message (List ℕ) = Refused (record { 0 = a }) (record { 0 = b }) c told in found) ≡ Refused from to number told
refused-again from to a b c number told p q r = rw (p, q, r) refl

heard-again : (from to : StationId) (a b c d last bits : ℕ) → a ≡ from.0 → b ≡ to.0 → c ≡ last → d ≡ bits
    → (let found : Message (List ℕ) = Heard (record { 0 = a }) (record { 0 = b }) c d in found) ≡ Heard from to last bits
heard-again from to a b c d last bits p q r s = rw (p, q, r, s) refl

pub reading-spelling : (m : Message (List ℕ)) → IsMessage m → message_or_fault (spelling m) ≡ Ok m
unfolding spelling
reading-spelling (Data from to number zero payload) h =
    let a = two_again from.0 h.0.1 in
    let b = two_again to.0 h.1.1 in
    let c = eight_again number h.2 in
    let d = two_again (length payload) (omega (arith, h.3)) in
    reading-is (spelling (Data from to number zero payload)) (Data from to number zero payload) (record {
      header = le-ltb _ _ (omega arith);
      magic = refl;
      version = refl;
      kind = refl;
      station = stations from.0 to.0 _ _ a b h.0.0 h.1.0;
      fixed = le-ltb _ _ (omega arith);
      limit = refl;
      payload = le-ltb _ _ (omega (arith, d, h.3));
      short = le-ltb _ _ (omega (arith, d));
      long = le-ltb _ _ (omega (arith, d));
    }) (data-again from to _ _ _ 0 number 0 payload a b c refl)
reading-spelling (Data from to number (suc limit) payload) h =
    let a = two_again from.0 h.0.1 in
    let b = two_again to.0 h.1.1 in
    let c = eight_again number h.2 in
    let d = two_again (length payload) (omega (arith, h.3)) in
    let l = five_again (suc limit) h.4 in
    reading-is (spelling (Data from to number (suc limit) payload)) (Data from to number (suc limit) payload) (record {
      header = le-ltb _ _ (omega arith);
      magic = refl;
      version = refl;
      kind = refl;
      station = stations from.0 to.0 _ _ a b h.0.0 h.1.0;
      fixed = le-ltb _ _ (omega arith);
      limit = above-zero _ limit l;
      payload = le-ltb _ _ (omega (arith, d, h.3));
      short = le-ltb _ _ (omega (arith, d));
      long = le-ltb _ _ (omega (arith, d));
    }) (data-again from to _ _ _ _ number (suc limit) payload a b c l)
reading-spelling (Custody from to last) h =
    let a = two_again from.0 h.0.1 in
    let b = two_again to.0 h.1.1 in
    let c = eight_again last h.2 in
    reading-is (spelling (Custody from to last)) (Custody from to last) (record {
      header = refl;
      magic = refl;
      version = refl;
      kind = refl;
      station = stations from.0 to.0 _ _ a b h.0.0 h.1.0;
      fixed = refl;
      limit = refl;
      payload = refl;
      short = refl;
      long = refl;
    }) (custody-again from to _ _ _ last a b c)
reading-spelling (Refused from to number told) h =
    let a = two_again from.0 h.0.1 in
    let b = two_again to.0 h.1.1 in
    let c = eight_again number h.2 in
    reading-is (spelling (Refused from to number told)) (Refused from to number told) (record {
      header = refl;
      magic = refl;
      version = refl;
      kind = refl;
      station = stations from.0 to.0 _ _ a b h.0.0 h.1.0;
      fixed = refl;
      limit = refl;
      payload = refl;
      short = refl;
      long = refl;
    }) (refused-again from to _ _ _ number told a b c)
reading-spelling (Heard from to last bits) h =
    let a = two_again from.0 h.0.1 in
    let b = two_again to.0 h.1.1 in
    let c = eight_again last h.2 in
    let d = eight_again bits h.3 in
    reading-is (spelling (Heard from to last bits)) (Heard from to last bits) (record {
      header = refl;
      magic = refl;
      version = refl;
      kind = refl;
      station = stations from.0 to.0 _ _ a b h.0.0 h.1.0;
      fixed = refl;
      limit = refl;
      payload = refl;
      short = refl;
      long = refl;
    }) (heard-again from to _ _ _ _ last bits a b c d)

-- a message has one encoding
pub spelling-once : (a b : Message (List ℕ)) → IsMessage a → IsMessage b → spelling a ≡ spelling b → a ≡ b
spelling-once a b fits_a fits_b same = ok-is a b (sym (reading-spelling a fits_a) ∙ ap message_or_fault same ∙ reading-spelling b fits_b)

-- a result with the first fault, or else the message at its offset, is the decoding of the bytes
pub reading-of : (bytes : List ℕ) (found : Result (Message (Bor (List ℕ))) Refusal) → result_err found ≡ first_fault bytes
    → IfOk found (λ m. message_bytes m ≡ message_at (kind_of bytes) bytes)
    → MatchResult found (λ m. message_or_fault bytes ≡ Ok (message_bytes m)) (λ e. message_or_fault bytes ≡ Err e)
unfolding message_or_fault
reading-of bytes (Ok m) none is = unless-is (first_fault bytes) (message_at (kind_of bytes) bytes) (message_bytes m) (sym none) (sym is)
reading-of bytes (Err fault) first is =
    ap (λ (x : Option Refusal). found_unless x (message_at (kind_of bytes) bytes)) (sym first)

-- the two facts of a decoder's result
pub found-spelled : (bytes : List ℕ) (found : Result (Message (Bor (List ℕ))) Refusal) → IsBytes bytes
    → MatchResult found (λ m. message_or_fault bytes ≡ Ok (message_bytes m)) (λ e. message_or_fault bytes ≡ Err e)
    → IfOk found (λ m. IsMessage (message_bytes m) × (bytes ≡ spelling (message_bytes m)))
found-spelled bytes (Ok m) fits exact = reading-spelled bytes (message_bytes m) fits exact
found-spelled bytes (Err e) fits exact = tt

pub spelled-found : (bytes : List ℕ) (found : Result (Message (Bor (List ℕ))) Refusal) (m : Message (List ℕ)) → IsMessage m → bytes ≡ spelling m
    → MatchResult found (λ m. message_or_fault bytes ≡ Ok (message_bytes m)) (λ e. message_or_fault bytes ≡ Err e)
    → IsOkAnd found (λ x. message_bytes x ≡ m)
spelled-found bytes (Ok x) m fits same exact = ok-is (message_bytes x) m (sym exact ∙ ap message_or_fault same ∙ reading-spelling m fits)
spelled-found bytes (Err e) m fits same exact =
    let read : message_or_fault bytes ≡ Ok m = ap message_or_fault same ∙ reading-spelling m fits in
    let fault : message_or_fault bytes ≡ Err e = exact in
    absurd cc

-- the bytes are a message's iff they have no fault
pub faultless-spelled : (bytes : List ℕ) → IsBytes bytes → first_fault bytes ≡ None → (m : Message (List ℕ)) × IsMessage m × (bytes ≡ spelling m)
unfolding message_or_fault
faultless-spelled bytes fits none =
    let m : Message (List ℕ) = message_at (kind_of bytes) bytes in
    let both = reading-spelled bytes m fits (unless-is (first_fault bytes) m m none refl) in
    (m, both.0, both.1)

pub spelled-faultless : (bytes : List ℕ) (m : Message (List ℕ)) → IsMessage m → bytes ≡ spelling m → first_fault bytes ≡ None
unfolding message_or_fault
spelled-faultless bytes m fits same =
    (unless-ok (first_fault bytes) (message_at (kind_of bytes) bytes) m (ap message_or_fault same ∙ reading-spelling m fits)).0

-- ---- lengths

pub length-spelling_limited : (from to : StationId) (number limit : ℕ) (payload : List ℕ) → 1 ≤ limit → length (spelling (Data from to number limit payload)) ≡ 23 + length payload
length-spelling_limited from to number limit payload above = ap length (spelling-limited from to number limit payload above) ∙ omega arith

pub spelling-most : (from to : StationId) (number limit : ℕ) (payload : List ℕ) → length (spelling (Data from to number limit payload)) ≤ 23 + length payload
unfolding spelling
spelling-most from to number zero payload = omega arith
spelling-most from to number (suc limit) payload = omega arith

pub spelling-within : (m : Message (List ℕ)) → IsMessage m → length (spelling m) ≤ 8215
unfolding spelling
spelling-within (Data from to number limit payload) fits = omega (arith, spelling-most from to number limit payload, fits.3)
spelling-within (Custody from to last) fits = omega arith
spelling-within (Refused from to number told) fits = omega arith
spelling-within (Heard from to last bits) fits = omega arith
