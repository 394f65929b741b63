-- The grammar of a line (docs/COMMANDS.md, "Lines").
use Rattle.std.specs.Prelude.{◌<◌, ℕ, ◌^◌, List, [], ◌∷◌, length, slice_index, ◌==◌, nat_lt, nat_le, Bool, ◌&&◌, ◌||◌}
use Rattle.std.specs.Prelude.{not, if◌then◌else◌, Option, Some, None, codes}
use Rattle.std.specs.Char.{is_ascii_digit}
use Rattle.std.specs.List.{list_all, slice_split}
use Rattle.std.specs.Result.{result_ok}
use Rattle.std.specs.Str.{bytes_eq}
use Rattle.std.specs.Str.Parse.{digits_value}
use Rattle.hex.specs.Hex.{decode_of}
use Rattle.rly_core.specs.declared.ids.HopId.{HopId}
use Rattle.rly_core.specs.declared.ids.PeerId.{PeerId}
use Rattle.rly_machine.specs.declared.command.Ask.{Ask}
use Rattle.rly_machine.specs.declared.command.Ask.TheVariants as ask
use Rattle.rly_machine.specs.declared.command.Command.TheVariants.{Take, Pick, Release}
use Rattle.rly_machine.specs.declared.command.Query.TheVariants.{Fetch, Window, Show}
use Rattle.rly_daemon_lines.specs.Lines.{longest_line}

-- the ? of the logic: the second step, if the first gave a value
infixl 10 ◌>>=◌
abbrev pub ◌>>=◌ : {A B : Type 0} → Option A → (A → Option B) → Option B
(Some x) >>= f = f x
None >>= f = None

-- the words of a line, separated by single spaces
abbrev pub words_of : List ℕ → List (List ℕ)
words_of line = slice_split (λ b. b == 32) line

-- decimal digits, the first of several not 0
abbrev pub is_numeral : List ℕ → Bool
is_numeral word = list_all is_ascii_digit word && nat_lt 0 (length word)
    && (nat_lt (length word) 2 || not (slice_index word 0 == 48))

-- a number below 2^64
abbrev pub number_in : List ℕ → Option ℕ
number_in word = if is_numeral word && nat_lt (digits_value 10 word) (2 ^ 64) then Some (digits_value 10 word) else None

-- a number of at most 65,535
abbrev pub id_in : List ℕ → Option ℕ
id_in word = do
  id ← number_in word
  if nat_le id 65535 then Some id else None

abbrev pub peer_in : List ℕ → Option PeerId
peer_in word = do
  id ← id_in word
  Some (record { 0 = id })

abbrev pub hop_in : List ℕ → Option HopId
hop_in word = do
  id ← id_in word
  Some (record { 0 = id })

-- the bytes of a payload: none after a dash, else those of pairs of hexadecimal digits, one pair at least
abbrev pub payload_in : List ℕ → Option (List ℕ)
payload_in word =
    if bytes_eq word (codes "-") then Some []
    else if nat_lt 0 (length word) then result_ok (decode_of word)
    else None

-- a payload of at least one byte
abbrev pub HasBytes : Option (List ℕ) → Type 0
HasBytes None = ⊥
HasBytes (Some bytes) = 0 < length bytes

-- a Take of its words, with its limit as it was read
abbrev pub take_of : (peer number hop stamp payload : List ℕ) → Option ℕ → Option Ask
take_of peer number hop stamp payload limit = do
  p ← peer_in peer
  n ← number_in number
  h ← hop_in hop
  s ← number_in stamp
  l ← limit
  bytes ← payload_in payload
  Some (ask.Command (Take p n h s l bytes))

-- take PEER NUMBER HOP STAMP PAYLOAD [LIMIT]; without LIMIT it is 0
abbrev pub take_in : List (List ℕ) → Option Ask
take_in (peer ∷ number ∷ hop ∷ stamp ∷ payload ∷ []) = take_of peer number hop stamp payload (Some 0)
take_in (peer ∷ number ∷ hop ∷ stamp ∷ payload ∷ limit ∷ []) =
    take_of peer number hop stamp payload (number_in limit)
take_in _ = None

-- HOP NUMBER
abbrev pub hop_and_number_in : List (List ℕ) → Option (HopId × ℕ)
hop_and_number_in (hop ∷ number ∷ []) = do
  h ← hop_in hop
  n ← number_in number
  Some (h, n)
hop_and_number_in _ = None

-- pick HOP NOW
abbrev pub pick_in : List (List ℕ) → Option Ask
pick_in words = do
  asked ← hop_and_number_in words
  Some (ask.Command (Pick asked.0 asked.1))

-- done HOP NUMBER
abbrev pub done_in : List (List ℕ) → Option Ask
done_in words = do
  asked ← hop_and_number_in words
  Some (ask.Command (Release asked.0 asked.1))

-- fetch HOP NUMBER
abbrev pub fetch_in : List (List ℕ) → Option Ask
fetch_in words = do
  asked ← hop_and_number_in words
  Some (ask.Query (Fetch asked.0 asked.1))

-- window HOP
abbrev pub window_in : List (List ℕ) → Option Ask
window_in (hop ∷ []) = do
  h ← hop_in hop
  Some (ask.Query (Window h))
window_in _ = None

-- show HOP
abbrev pub show_in : List (List ℕ) → Option Ask
show_in (hop ∷ []) = do
  h ← hop_in hop
  Some (ask.Query (Show h))
show_in _ = None

-- the ask in the words of a line, if they are a command or a query
abbrev pub ask_in_words : List (List ℕ) → Option Ask
ask_in_words [] = None
ask_in_words (verb ∷ args) =
    if bytes_eq verb (codes "take") then take_in args
    else if bytes_eq verb (codes "pick") then pick_in args
    else if bytes_eq verb (codes "done") then done_in args
    else if bytes_eq verb (codes "fetch") then fetch_in args
    else if bytes_eq verb (codes "window") then window_in args
    else if bytes_eq verb (codes "show") then show_in args
    else None

-- the ask in a line, if it is a command or a query; None for a line that is too long
abbrev pub ask_in_line : List ℕ → Option Ask
ask_in_line line = if nat_lt longest_line (length line) then None else ask_in_words (words_of line)

-- a Take with a payload that is not empty: only reading this takes memory
abbrev pub CarriesBytes : Option Ask → Type 0
CarriesBytes (Some (ask.Command (Take peer number hop stamp limit payload))) = 0 < length payload
CarriesBytes (Some (ask.Command (Pick hop now))) = ⊥
CarriesBytes (Some (ask.Command (Release hop number))) = ⊥
CarriesBytes (Some (ask.Query query)) = ⊥
CarriesBytes None = ⊥
