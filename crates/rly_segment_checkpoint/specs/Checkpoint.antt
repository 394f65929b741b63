-- The encoding of a whole state (docs/FORMATS.md, "Heads"): the content of a segment's head after its generation and
-- length. It is a function of the state and of the head's form, and no two sound states with the same parameters have
-- the same encoding (`law_one_state`, `law_one_spelling`).
use Rattle.std.specs.Prelude.{◌≡◌, ℕ, ◌+◌, ◌*◌, List, [], ◌∷◌, ◌++◌, length, All, Bool, true, false}
use Rattle.std.specs.List.{flat_map}
use Rattle.byteorder.specs.Endian.{big_bytes}
use Rattle.rly_core.specs.declared.params.Params.{Params}
use Rattle.rly_codel.specs.declared.state.CodelState.{CodelState}
use Rattle.rly_machine.specs.declared.hop.Item.{Item}
use Rattle.rly_machine.specs.State.{State, HopState, live_line}
use Rattle.rly_segment_checkpoint.specs.Widths.{moment_width, count_width, expired_width, limit_width, hop_width}
use Rattle.rly_segment_checkpoint.specs.declared.head_form.HeadForm.{HeadForm}
use Rattle.rly_segment_checkpoint.specs.declared.head_form.HeadForm.TheVariants.{First, Second}

-- the encoding of an entry's content, by the form of the head: the bytes after its length
pub record Spelled (P : Type 0) : Type 0 where
  pub which : HeadForm
  pub form : P → List ℕ

abbrev pub spelled_by : {P : Type 0} → (HeadForm → P → List ℕ) → HeadForm → Spelled P
spelled_by form which = record { which = which; form = form which }

-- the byte of a flag
abbrev pub flag_byte : Bool → ℕ
flag_byte true = 1
flag_byte false = 0

-- CoDel's state
unfoldable pub codel_of : HeadForm → CodelState → List ℕ
codel_of which c =
    big_bytes (moment_width which) c.first_above_time ++ big_bytes (moment_width which) c.drop_next
    ++ big_bytes (count_width which) c.count ++ big_bytes (count_width which) c.lastcount ++ flag_byte c.dropping ∷ []

-- a live datagram, whose payload has a length and a form: its id, stamp, limit, length and form
unfoldable pub entry_spelled : {P : Type 0} → (P → ℕ) → Spelled P → Item P → List ℕ
entry_spelled len form item =
    big_bytes (count_width form.which) item.id ++ big_bytes (moment_width form.which) item.stamp
    ++ big_bytes (limit_width form.which) item.limit ++ big_bytes 2 (len item.payload) ++ form.form item.payload

-- a hop: its last time, CoDel's state, its counts, the number in flight and the number that wait, and the entries of
-- both
unfoldable pub hop_spelled : {P : Type 0} → (P → ℕ) → Spelled P → HopState P → List ℕ
hop_spelled len form h =
    big_bytes (moment_width form.which) h.moment ++ codel_of form.which h.codel
    ++ big_bytes (count_width form.which) h.taken ++ big_bytes (count_width form.which) h.dropped
    ++ big_bytes (count_width form.which) h.released ++ big_bytes (expired_width form.which) h.expired
    ++ big_bytes 2 (length h.flight) ++ big_bytes 4 (length h.queue)
    ++ flat_map (entry_spelled len form) (live_line h)

-- a whole state: the number of accepted commands, each peer's last number, and each hop
unfoldable pub state_spelled : {P : Type 0} → (P → ℕ) → Spelled P → State P → List ℕ
state_spelled len form s =
    big_bytes 8 s.seq ++ flat_map (big_bytes 8) s.lasts ++ flat_map (hop_spelled len form) s.hops

-- the form of an inline payload: the byte 0, and the payload
abbrev pub inline_form_of : HeadForm → List ℕ → List ℕ
inline_form_of which payload = 0 ∷ payload

-- the same as it is written
abbrev pub inline_form : Spelled (List ℕ)
inline_form = spelled_by inline_form_of Second

-- a whole state with every payload inline, as it is written
abbrev pub checkpoint_of : State (List ℕ) → List ℕ
checkpoint_of = state_spelled length inline_form

-- a head of the first form has no fields for limits and for expired datagrams: in its state all of them are 0
abbrev pub IsOfForm : {P : Type 0} → HeadForm → State P → Type 0
IsOfForm First s = All (λ h. (h.expired ≡ 0) × All (λ item. item.limit ≡ 0) (live_line h)) s.hops
IsOfForm Second s = Unit {0}

-- the length of the shortest checkpoint with those parameters, that of an empty spool
abbrev pub least_checkpoint_length : HeadForm → Params → ℕ
least_checkpoint_length which params = 8 + 8 * params.peers + hop_width which * params.hops
