-- The last words of a Take: a limit is one word of at most 20 digits, so a text with a space in it is none, and the
-- space before it is among the last 21 bytes; a payload has no space, and may have bytes.
use Rattle.std.proofs.Common.{◌≡◌, ℕ, zero, suc, ◌<◌, ◌≤◌, ◌+◌, ◌-◌, ◌==◌, List, ◌∷◌, length, take, drop, slice_index, nat_lt, Bool, true, false, true≢false, Option, Some, None, Result, Ok, Err, codes, refl, sym, ◌∙◌, ap, arith}
use Rattle.std.specs.Char.{is_ascii_digit}
use Rattle.std.specs.List.{list_all, position}
use Rattle.std.specs.Result.{is_ok, result_ok}
use Rattle.std.specs.Str.{bytes_eq}
use Rattle.std.proofs.lemmas.Bool.{eqb-false, eqb-true, lt-ltb, ltb-false, ltb-true}
use Rattle.std.proofs.lemmas.Grind.{common_steps}
use Rattle.std.proofs.lemmas.List.{get_or-drop, get_or-take, length-drop, length-take}
use Rattle.std.proofs.lemmas.List.Folds.{list_all_at}
use Rattle.std.proofs.lemmas.List.Quantifiers.{position-Some}
use Rattle.std.proofs.lemmas.Slice.Eq.{bytes_eq-Decides}
use Rattle.hex.specs.Hex.{decode_of, is_hex_digit}
use Rattle.hex.specs.declared.error.FromHexError.{FromHexError}
use Rattle.rly_core.specs.declared.ids.HopId.{HopId}
use Rattle.rly_core.specs.declared.ids.PeerId.{PeerId}
use Rattle.rly_machine.specs.declared.command.Ask.{Ask}
use Rattle.rly_machine.specs.declared.command.Ask.TheVariants as ask
use Rattle.rly_machine.specs.declared.command.Command.TheVariants.{Take}
use Rattle.rly_daemon_lines.specs.Grammar.{◌>>=◌, CarriesBytes, HasBytes, hop_in, number_in, payload_in, peer_in, take_in, take_of, words_of}
use Rattle.rly_daemon_lines.proofs.Cuts.{cut_none, cut_some, fails_at, part_first}
use Rattle.rly_daemon_lines.proofs.HexDigits.{digit_at, some_byte}
use Rattle.rly_daemon_lines.proofs.Numerals.{long_number}

-- a space is no digit, so a number is one word
spaced_at : (text : List ℕ) (at : ℕ) → at < length text → slice_index text at == 32 ≡ true → number_in text ≡ None
spaced_at text at within space =
    let no_digit : is_ascii_digit (slice_index text at) ≡ false = no_digit_is_space (slice_index text at) space in
    let none : list_all is_ascii_digit text ≡ false = list_all_at is_ascii_digit text at 0 within no_digit in
    rw none refl
  where
    no_digit_is_space : (c : ℕ) → c == 32 ≡ true → is_ascii_digit c ≡ false
    no_digit_is_space c space = grind (arith, common_steps)

spaced : (text : List ℕ) (at : ℕ) → position (λ b. b == 32) text ≡ Some at → number_in text ≡ None
spaced text at e = let there = position-Some (λ b. b == 32) text at 0 e in spaced_at text at there.0 there.1

-- a Take of these parts
abbrev take_from : Option PeerId → Option ℕ → Option HopId → Option ℕ → Option (List ℕ) → Option ℕ → Option Ask
take_from peer number hop stamp payload limit = do
  p ← peer
  n ← number
  h ← hop
  s ← stamp
  l ← limit
  bytes ← payload
  Some (ask.Command (Take p n h s l bytes))

no_limit : (peer : Option PeerId) (number : Option ℕ) (hop : Option HopId) (stamp : Option ℕ) (payload : Option (List ℕ)) → take_from peer number hop stamp payload None ≡ None
no_limit None number hop stamp payload = refl
no_limit (Some p) None hop stamp payload = refl
no_limit (Some p) (Some n) None stamp payload = refl
no_limit (Some p) (Some n) (Some h) None payload = refl
no_limit (Some p) (Some n) (Some h) (Some s) payload = refl

-- nor does a payload have a space
dash_has_none : (i : ℕ) → i < 1 → slice_index (codes "-") i == 32 ≡ true → ⊥
dash_has_none zero within space = true≢false (sym space)
dash_has_none (suc i) within space = omega (arith, within)

no_payload : (text : List ℕ) (i : ℕ) → i < length text → slice_index text i == 32 ≡ true → payload_in text ≡ None
no_payload text i within space = rw (not_dash (bytes_eq text (codes "-")) refl, some) (unread (decode_of text) refl) where
  some : nat_lt 0 (length text) ≡ true
  some = lt-ltb _ _ (omega (arith, within))

  not_dash : (b : Bool) → bytes_eq text (codes "-") ≡ b → bytes_eq text (codes "-") ≡ false
  not_dash true e =
      let same : text ≡ codes "-" = (bytes_eq-Decides text (codes "-")).0 e in
      absurd (dash_has_none i (rw same at within) (rw same at space))
  not_dash false e = e

  unread : (r : Result (List ℕ) FromHexError) → decode_of text ≡ r → result_ok (decode_of text) ≡ None
  unread (Ok bytes) e =
      let digit : is_hex_digit (slice_index text i) ≡ true = digit_at text i (ap is_ok e) within in
      let blank : slice_index text i ≡ 32 = eqb-true (slice_index text i) 32 space in
      absurd (true≢false (sym (rw blank at digit)))
  unread (Err error) e = ap result_ok e

no_bytes : (peer : Option PeerId) (number : Option ℕ) (hop : Option HopId) (stamp limit : Option ℕ) → take_from peer number hop stamp None limit ≡ None
no_bytes None number hop stamp limit = refl
no_bytes (Some p) None hop stamp limit = refl
no_bytes (Some p) (Some n) None stamp limit = refl
no_bytes (Some p) (Some n) (Some h) None limit = refl
no_bytes (Some p) (Some n) (Some h) (Some s) None = refl
no_bytes (Some p) (Some n) (Some h) (Some s) (Some l) = refl

no_limit_in : (peer number hop stamp payload text : List ℕ) → number_in text ≡ None → take_of peer number hop stamp payload (number_in text) ≡ None
no_limit_in peer number hop stamp payload text none =
    ap (take_of peer number hop stamp payload) none ∙ no_limit (peer_in peer) (number_in number) (hop_in hop) (number_in stamp) (payload_in payload)

no_bytes_in : (peer number hop stamp payload : List ℕ) (limit : Option ℕ) → payload_in payload ≡ None → take_of peer number hop stamp payload limit ≡ None
no_bytes_in peer number hop stamp payload limit none =
    ap (λ (bytes : Option (List ℕ)). take_from (peer_in peer) (number_in number) (hop_in hop) (number_in stamp) bytes limit) none
    ∙ no_bytes (peer_in peer) (number_in number) (hop_in hop) (number_in stamp) limit

-- so the words after the payload need no search for a space
pub limited_words : (peer number hop stamp payload text : List ℕ)
    → take_in (peer ∷ number ∷ hop ∷ stamp ∷ payload ∷ words_of text) ≡ take_of peer number hop stamp payload (number_in text)
limited_words peer number hop stamp payload text = by (position (λ b. b == 32) text) refl where
  by : (o : Option ℕ) → position (λ b. b == 32) text ≡ o
      → take_in (peer ∷ number ∷ hop ∷ stamp ∷ payload ∷ words_of text) ≡ take_of peer number hop stamp payload (number_in text)
  by None e = rw (cut_none (λ b. b == 32) text e) refl
  by (Some at) e =
      let more = part_first (λ b. b == 32) (drop (at + 1) text) in
      let several : take_in (peer ∷ number ∷ hop ∷ stamp ∷ payload ∷ words_of text) ≡ None = rw (cut_some (λ b. b == 32) text at e, more.2) refl in
      let none : take_of peer number hop stamp payload (number_in text) ≡ None =
      ap (take_of peer number hop stamp payload) (spaced text at e)
      ∙ no_limit (peer_in peer) (number_in number) (hop_in hop) (number_in stamp) (payload_in payload) in
      several ∙ sym none

apart_again : (a b : ℕ) (is : Bool) → a == b ≡ false → b == a ≡ is → b == a ≡ false
apart_again a b true apart e = absurd (eqb-false a b apart (sym (eqb-true b a e)))
apart_again a b false apart e = e

-- a text that is cut at one of two spaces has the other after the cut, or before it
cut_at_another : (peer number hop stamp text : List ℕ) (i k : ℕ) (before : Bool) → i < length text → k < length text → slice_index text k == 32 ≡ true
    → nat_lt i k ≡ before → i == k ≡ false → take_of peer number hop stamp (take i text) (number_in (drop (i + 1) text)) ≡ None
cut_at_another peer number hop stamp text i k true in_i in_k space before apart =
    let there : i < k = ltb-true i k before in
    let place : i + 1 + (k - (i + 1)) ≡ k = omega (arith, there) in
    let at : slice_index (drop (i + 1) text) (k - (i + 1)) ≡ slice_index text k = get_or-drop (i + 1) text (k - (i + 1)) 0 ∙ ap (slice_index text) place in
    no_limit_in peer number hop stamp (take i text) (drop (i + 1) text)
    (spaced_at (drop (i + 1) text) (k - (i + 1)) (omega (arith, length-drop (i + 1) text, there, in_k)) (ap (λ (c : ℕ). c == 32) at ∙ space))
cut_at_another peer number hop stamp text i k false in_i in_k space behind apart =
    let there : k < i = omega (arith, ltb-false i k behind, eqb-false i k apart) in
    let at : slice_index (take i text) k ≡ slice_index text k = get_or-take i text k 0 there in
    no_bytes_in peer number hop stamp (take i text) (number_in (drop (i + 1) text))
    (no_payload (take i text) k (omega (arith, length-take i text, there, in_i)) (ap (λ (c : ℕ). c == 32) at ∙ space))

-- a Take whose payload and limit are a text is that of its parts before and after an index
abbrev IsCutAt : (peer number hop stamp text : List ℕ) → ℕ → Type 0
IsCutAt peer number hop stamp text at =
    take_in (peer ∷ number ∷ hop ∷ stamp ∷ words_of text) ≡ take_of peer number hop stamp (take at text) (number_in (drop (at + 1) text))

-- it is cut at its first space
first_cut : (peer number hop stamp text : List ℕ) (at : ℕ) → position (λ b. b == 32) text ≡ Some at → IsCutAt peer number hop stamp text at
first_cut peer number hop stamp text at e =
    rw (cut_some (λ b. b == 32) text at e) (limited_words peer number hop stamp (take at text) (drop (at + 1) text))

-- whichever space of a payload and its limit is found, there is no other, or it is no Take
pub any_cut : (peer number hop stamp text : List ℕ) (at : ℕ) → at < length text → slice_index text at == 32 ≡ true → IsCutAt peer number hop stamp text at
any_cut peer number hop stamp text at within space = by (position (λ b. b == 32) text) refl where
  by_place : (first : ℕ) (same : Bool) → position (λ b. b == 32) text ≡ Some first → first == at ≡ same → IsCutAt peer number hop stamp text at
  by_place first true e same = rw (← eqb-true first at same) (first_cut peer number hop stamp text first e)
  by_place first false e apart =
      let there = position-Some (λ b. b == 32) text first 0 e in
      let other : at == first ≡ false = apart_again first at (at == first) apart refl in
      first_cut peer number hop stamp text first e
      ∙ cut_at_another peer number hop stamp text first at (nat_lt first at) there.0 within space refl apart
      ∙ sym (cut_at_another peer number hop stamp text at first (nat_lt at first) within there.0 there.1 refl other)

  by : (o : Option ℕ) → position (λ b. b == 32) text ≡ o → IsCutAt peer number hop stamp text at
  by None e = absurd (true≢false (sym space ∙ fails_at (λ b. b == 32) text at e within))
  by (Some first) e = by_place first (first == at) e refl

-- if no space is among the last 21 bytes there is no limit, or it is no Take
pub no_cut : (peer number hop stamp text : List ℕ) (start : ℕ) → start ≡ length text - 21 → position (λ b. b == 32) (drop start text) ≡ None
    → take_in (peer ∷ number ∷ hop ∷ stamp ∷ words_of text) ≡ take_of peer number hop stamp text (Some 0)
no_cut peer number hop stamp text start begins none = by (position (λ b. b == 32) text) refl where
  before : (at : ℕ) (b : Bool) → at < length text → slice_index text at == 32 ≡ true → nat_lt at start ≡ b → at < start
  before at true within space e = ltb-true at start e
  before at false within space e =
      let behind : start ≤ at = ltb-false at start e in
      let place : start + (at - start) ≡ at = omega (arith, behind) in
      let is : slice_index (drop start text) (at - start) ≡ slice_index text at = get_or-drop start text (at - start) 0 ∙ ap (slice_index text) place in
      let fails = fails_at (λ b. b == 32) (drop start text) (at - start) none (omega (arith, length-drop start text, behind, within)) in
      absurd (true≢false (sym space ∙ sym (ap (λ (c : ℕ). c == 32) is) ∙ fails))

  by : (o : Option ℕ) → position (λ b. b == 32) text ≡ o → take_in (peer ∷ number ∷ hop ∷ stamp ∷ words_of text) ≡ take_of peer number hop stamp text (Some 0)
  by None e = rw (cut_none (λ b. b == 32) text e) refl
  by (Some at) e =
      let there = position-Some (λ b. b == 32) text at 0 e in
      let early : at < start = before at (nat_lt at start) there.0 there.1 refl in
      let long = long_number (drop (at + 1) text) (omega (arith, length-drop (at + 1) text, early, begins)) in
      first_cut peer number hop stamp text at e
      ∙ no_limit_in peer number hop stamp (take at text) (drop (at + 1) text) long
      ∙ sym (no_bytes_in peer number hop stamp text (Some 0) (no_payload text at there.0 there.1))

-- a word of hexadecimal digits encodes a payload with bytes
pub has_bytes : (text : List ℕ) → bytes_eq text (codes "-") ≡ false → 0 < length text → is_ok (decode_of text) ≡ true → HasBytes (payload_in text)
has_bytes text dash some ok = by (decode_of text) refl where
  is_some : nat_lt 0 (length text) ≡ true
  is_some = grind (arith, common_steps)

  by : (r : Result (List ℕ) FromHexError) → decode_of text ≡ r → HasBytes (payload_in text)
  by (Ok bytes) e = rw (dash, is_some, e) (some_byte text bytes some e)
  by (Err error) e = let no : ⊥ = cc in absurd no

-- a Take of such a word carries bytes
pub take_carries : (peer number hop stamp text : List ℕ) (limit : Option ℕ) (p : PeerId) (n : ℕ) (h : HopId) (s l : ℕ) → peer_in peer ≡ Some p → number_in number ≡ Some n
    → hop_in hop ≡ Some h → number_in stamp ≡ Some s → limit ≡ Some l → HasBytes (payload_in text) → CarriesBytes (take_of peer number hop stamp text limit)
take_carries peer number hop stamp text limit p n h s l is_p is_n is_h is_s is_l has = by (payload_in text) refl has where
  by : (o : Option (List ℕ)) → payload_in text ≡ o → HasBytes o → CarriesBytes (take_of peer number hop stamp text limit)
  by None e nothing = absurd nothing
  by (Some bytes) e some =
      let whole : take_of peer number hop stamp text limit ≡ Some (ask.Command (Take p n h s l bytes)) = rw (is_p, is_n, is_h, is_s, is_l, e) refl in
      rw whole some
