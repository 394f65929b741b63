-- Helpers: parsers of a checkpoint, from left to right like the private functions: the value at the front and the bytes
-- after it, or none if the front encodes no such value. The value need not be sound. No public contract cites them.
use Rattle.std.specs.Prelude.{ℕ, ◌*◌, ◌==◌, ◌||◌, not, nat_lt, if◌then◌else◌, Bool, true}
use Rattle.std.specs.Prelude.{false, List, [], ◌∷◌, length, take, drop, Option, Some, None}
use Rattle.rly_core.specs.declared.params.Params.{Params}
use Rattle.rly_codel.specs.declared.state.CodelState.{CodelState}
use Rattle.rly_machine.specs.declared.hop.Item.{Item}
use Rattle.rly_machine.specs.State.{State, HopState}
use Rattle.rly_record.specs.HelpersReader.{◌>>=◌, Reader, ◌⊗◌, made_at, many_at, field_at, then_at}
use Rattle.rly_segment_checkpoint.specs.Widths.{moment_width, count_width, expired_width, limit_width, entry_width}
use Rattle.rly_segment_checkpoint.specs.declared.head_form.HeadForm.{HeadForm}

-- a flag
unfoldable pub flag_at : Reader Bool
flag_at [] = None
flag_at (flag ∷ bytes) = if flag == 0 then Some (false, bytes) else if flag == 1 then Some (true, bytes) else None

-- CoDel's state
unfoldable pub codel_at : HeadForm → Reader CodelState
codel_at which = made_at
    (λ (first_above_time, (drop_next, (count, (lastcount, dropping)))). record {
      first_above_time = first_above_time;
      drop_next = drop_next;
      count = count;
      lastcount = lastcount;
      dropping = dropping;
    })
    (field_at (moment_width which) ⊗ field_at (moment_width which) ⊗ field_at (count_width which)
    ⊗ field_at (count_width which) ⊗ flag_at)

-- the form of an inline payload of the given length
unfoldable pub inline_at : ℕ → Reader (List ℕ)
inline_at size [] = None
inline_at size (form ∷ bytes) =
    if not (form == 0) || nat_lt (length bytes) size then None else Some (take size bytes, drop size bytes)

-- an entry, from the parser of a form by its content's length
unfoldable pub entry_at : {P : Type 0} → HeadForm → (ℕ → Reader P) → Reader (Item P)
entry_at which form_at = made_at
    (λ (id, (stamp, (limit, (size, payload)))). record { id = id; stamp = stamp; limit = limit; payload = payload })
    (field_at (count_width which) ⊗ field_at (moment_width which) ⊗ field_at (limit_width which)
    ⊗ then_at (field_at 2) form_at)

-- a number of entries, each at least as long as an empty inline one
unfoldable pub entries_at : {P : Type 0} → HeadForm → (ℕ → Reader P) → ℕ → Reader (List (Item P))
entries_at which form_at count bytes =
    if nat_lt (length bytes) (entry_width which * count) then None else many_at (entry_at which form_at) count bytes

-- the datagrams in flight and the waiting ones, after the counts of both
unfoldable pub lines_at : {P : Type 0} → HeadForm → (ℕ → Reader P) → Reader (List (Item P) × List (Item P))
lines_at which form_at = made_at (λ (in_flight, (waiting, lines)). lines)
    (then_at (field_at 2) (λ in_flight. then_at (field_at 4)
    (λ waiting. entries_at which form_at in_flight ⊗ entries_at which form_at waiting)))

-- a hop's counts: datagrams taken, dropped and released, and expired
unfoldable pub counts_at : HeadForm → Reader (ℕ × (ℕ × (ℕ × ℕ)))
counts_at which =
    field_at (count_width which) ⊗ field_at (count_width which) ⊗ field_at (count_width which)
    ⊗ field_at (expired_width which)

-- a hop
unfoldable pub hop_bytes_at : {P : Type 0} → HeadForm → (ℕ → Reader P) → Reader (HopState P)
hop_bytes_at which form_at = made_at
    (λ (moment, (codel, ((taken, (dropped, (released, expired))), (flight, queue)))). record {
      queue = queue;
      flight = flight;
      codel = codel;
      moment = moment;
      taken = taken;
      dropped = dropped;
      expired = expired;
      released = released;
    })
    (field_at (moment_width which) ⊗ codel_at which ⊗ counts_at which ⊗ lines_at which form_at)

-- a whole state; the parameters give its numbers of hops and peers
unfoldable pub state_at : {P : Type 0} → HeadForm → (ℕ → Reader P) → Params → Reader (State P)
state_at which form_at params = made_at
    (λ (seq, (lasts, hops)). record { params = params; hops = hops; lasts = lasts; seq = seq })
    (field_at 8 ⊗ many_at (field_at 8) params.peers ⊗ many_at (hop_bytes_at which form_at) params.hops)

-- a whole state with no bytes after it
unfoldable pub whole_state : {P : Type 0} → HeadForm → (ℕ → Reader P) → Params → List ℕ → Option (State P)
whole_state which form_at params bytes = do
  state ← state_at which form_at params bytes
  if length state.1 == 0 then Some state.0 else None
