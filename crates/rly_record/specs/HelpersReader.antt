-- Helpers: parsers, from left to right like the private functions: the value at the front and the bytes after it, or
-- none if the front encodes no such value. No public contract cites them; `Spelling` defines the encoding.
use Rattle.std.specs.Prelude.{◌≡◌, ℕ, zero, suc, ⊤, ◌||◌, ◌==◌, nat_lt, if◌then◌else◌, List}
use Rattle.std.specs.Prelude.{[], ◌∷◌, length, take, drop, Option, Some, None, Result, Ok, Err}
use Rattle.std.specs.Borrow.{Bor}
use Rattle.byteorder.specs.Endian.{big_number}
use Rattle.rly_machine.specs.declared.command.Command.{Command}
use Rattle.rly_machine.specs.declared.command.Command.TheVariants.{Take, Pick, Release}
use Rattle.rly_machine.specs.Map.{map_command}
use Rattle.rly_record.specs.declared.decode_fault.DecodeFault.{DecodeFault}
use Rattle.rly_record.specs.declared.decode_fault.DecodeFault.TheVariants.{OutOfMemory, Malformed}

-- a step after another, run only if that one returned a value
infixl 10 ◌>>=◌
abbrev pub ◌>>=◌ : {A B : Type 0} → Option A → (A → Option B) → Option B
None >>= f = None
(Some x) >>= f = f x

-- the fault of a function with this parse: memory allocation failed, or the parse has no value
abbrev pub Fails : {Y : Type 0} → DecodeFault → Option Y → Type 0
Fails OutOfMemory read = ⊤
Fails Malformed read = read ≡ None

-- the result of a function, seen by view, is this parse, unless memory allocation failed
abbrev pub Gives : {X Y : Type 0} → (X → Y) → Result X DecodeFault → Option Y → Type 0
Gives view (Ok x) read = read ≡ Some (view x)
Gives view (Err e) read = Fails e read

-- a parser
abbrev pub Reader : Type 0 → Type 0
Reader A = List ℕ → Option (A × List ℕ)

-- the command over the bytes that it borrows
abbrev pub command_bytes : Command (Bor (List ℕ)) → Command (List ℕ)
command_bytes command = map_command (λ payload. payload.now) command

-- the value at the front, and the bytes after it
abbrev pub in_front : {A : Type 0} → Option (A × List ℕ) → Option A
in_front read = read >>= λ x. Some x.0

abbrev pub rest_after : {A : Type 0} → Option (A × List ℕ) → Option (List ℕ)
rest_after read = read >>= λ x. Some x.1

-- a number of the given width in bytes
abbrev pub field_at : ℕ → Reader ℕ
field_at width bytes = if nat_lt (length bytes) width then None else Some (big_number width bytes, drop width bytes)

-- a value and, after it, another that depends on it
abbrev pub then_at : {A B : Type 0} → Reader A → (A → Reader B) → Reader (A × B)
then_at one other bytes = do
  a ← one bytes
  b ← other a.0 a.1
  Some ((a.0, b.0), b.1)

-- a value and, after it, another
infixr 20 ◌⊗◌
abbrev pub ◌⊗◌ : {A B : Type 0} → Reader A → Reader B → Reader (A × B)
one ⊗ other = then_at one (λ _. other)

-- the image of a value under a function
abbrev pub made_at : {A B : Type 0} → (A → B) → Reader A → Reader B
made_at made one bytes = do
  a ← one bytes
  Some (made a.0, a.1)

-- a fixed number of values of a kind, one after the other
unfoldable pub many_at : {A : Type 0} → Reader A → ℕ → Reader (List A)
many_at one zero bytes = Some ([], bytes)
many_at one (suc n) bytes = do
  first ← one bytes
  others ← many_at one n first.1
  Some (first.0 ∷ others.0, others.1)

-- a payload after its length, which is at most 8,192
unfoldable pub payload_at : Reader (List ℕ)
payload_at bytes = do
  size ← field_at 2 bytes
  if nat_lt 8192 size.0 || nat_lt (length size.1) size.0 then None else Some (take size.0 size.1, drop size.0 size.1)

-- the fields of a Take without a limit
unfoldable pub take_at : Reader (Command (List ℕ))
take_at = made_at
    (λ (peer, (number, (hop, (stamp, payload)))).
    Take (record { 0 = peer }) number (record { 0 = hop }) stamp 0 payload)
    (field_at 2 ⊗ field_at 8 ⊗ field_at 2 ⊗ field_at 8 ⊗ payload_at)

-- a limit: five bytes that aren't all 0
unfoldable pub limit_at : Reader ℕ
limit_at bytes = do
  limit ← field_at 5 bytes
  if limit.0 == 0 then None else Some limit

-- the fields of a Take with a limit
unfoldable pub limited_take_at : Reader (Command (List ℕ))
limited_take_at = made_at
    (λ (peer, (number, (hop, (stamp, (limit, payload))))).
    Take (record { 0 = peer }) number (record { 0 = hop }) stamp limit payload)
    (field_at 1 ⊗ field_at 6 ⊗ field_at 1 ⊗ field_at 7 ⊗ limit_at ⊗ payload_at)

-- the fields of a Pick
unfoldable pub pick_at : Reader (Command (List ℕ))
pick_at = made_at (λ (hop, now). Pick (record { 0 = hop }) now) (field_at 2 ⊗ field_at 8)

-- the fields of a Release
unfoldable pub release_at : Reader (Command (List ℕ))
release_at = made_at (λ (hop, number). Release (record { 0 = hop }) number) (field_at 2 ⊗ field_at 8)

-- a record: its kind determines the fields
unfoldable pub command_at : Reader (Command (List ℕ))
command_at [] = None
command_at (kind ∷ bytes) =
    if kind == 1 then take_at bytes
    else if kind == 2 then pick_at bytes
    else if kind == 3 then release_at bytes
    else if kind == 5 then limited_take_at bytes
    else None

-- a body: a count of 1 to 64, and that many records
unfoldable pub body_at : Reader (List (Command (List ℕ)))
body_at bytes = do
  count ← field_at 2 bytes
  if (count.0 == 0) || nat_lt 64 count.0 then None else many_at command_at count.0 count.1

-- a body and nothing after it
unfoldable pub whole_body : List ℕ → Option (List (Command (List ℕ)))
whole_body bytes = do
  body ← body_at bytes
  if length body.1 == 0 then Some body.0 else None
