-- The writes of a format, and their crash images.
use Rattle.rly_segment.proofs.Common.{[], ◌++◌, ◌+◌, ◌<◌, ◌↔◌, ◌∙◌, ◌∷◌, ◌≡◌, ◌≤◌, AllWrites, AreSynced, arith, Bool, cases_eq, close_calls, closing_gates}
use Rattle.rly_segment.proofs.Common.{Decides-eqb, Decides-not, device_length, DiskState, eqb, fill_calls, Formats, whole_format_calls, gate_opened, Geometry, get_or}
use Rattle.rly_segment.proofs.Common.{header_of, images_within, inl, inr, IsClosed, IsLayout, IsOpen, IsTrue, IsUnopened, LeavesOnly, length, List}
use Rattle.rly_segment.proofs.Common.{makes_leaves, makes_seen, new_head, not, open_gate, bytes_after_write, overwritten_in, overwritten_outside, part}
use Rattle.rly_segment.proofs.Common.{part-overwritten, SameOutside, seen_at_end, seen_joined, segment_place, Settled, settle_calls, settling_all, settling_last}
use Rattle.rly_segment.proofs.Common.{settling_on, settling_synced, StandsAt, suc, synced_behind, synced_then, true, zero, ℕ}
use Rattle.rly_disk.proofs.Making.{all_joined, each_all, kept as writes_kept, leaves_kept}
use Rattle.rly_segment.specs.Formatted.{IsFormatted, IsFormatting, IsSameBeside}
use Rattle.rly_segment.proofs.Gates.{zero_closes}
use Rattle.rly_segment.proofs.HeadWriting.{new_head_room}
use Rattle.rly_segment.proofs.HeaderFields.{header_read, length-header}
use Rattle.rly_segment.proofs.Replacing.{closing_closed, closing_same, closing_then, shut}
use Rattle.rly_segment.proofs.Segments.{segment_behind, segment_within}

-- ---- a new device before the header's gate is opened

-- a range after an offset, in the header's fields or in the segments
abbrev pub IsPart : Geometry → ℕ → ℕ → ℕ → Type 0
IsPart g from place n = (from ≤ place) × (place < 64 → place + n ≤ 53) × (place + n ≤ device_length g)

module _ {g : Geometry} {size : ℕ} (geometry : IsLayout g size) where
  -- the gates of the first segments, up to a number, are closed
  gates_closed : (old : List ℕ) → length old ≡ size → (n : ℕ) → n ≤ g.segments
      → ((t : ℕ) → t < n → IsClosed (seen_at_end (closing_gates g n) old) (segment_place g t)) × (length (seen_at_end (closing_gates g n) old) ≡ size)
  gates_closed old count zero le = (λ t below. absurd (omega (arith, below)), count)
  gates_closed old count (suc n) le =
      let place : ℕ = segment_place g n in
      let first : List ℕ = seen_at_end (closing_gates g n) old in
      let before = gates_closed old count n (omega arith) in
      let fits : place + 1 ≤ length first = omega (arith, segment_within g n size geometry (omega arith), geometry.fits) in
      let same = overwritten_outside place (0 ∷ []) first fits in
      rw (seen_joined (closing_gates g n) (settle_calls place (0 ∷ [])) old) (
        λ t below. grind (arith, before.0 t, same.each (segment_place g t), zero_closes place first fits, segment_behind g t n, geometry.fits),
        same.same_length ∙ before.1,
      )

  -- all except the header's gate, with the same number of bytes
  pub filled : (head old : List ℕ) → 1 + length head ≤ g.length → length old ≡ size
      → IsUnopened g head (seen_at_end (fill_calls g head) old) × (length (seen_at_end (fill_calls g head) old) ≡ size)
  filled head old room count =
      let first : List ℕ = seen_at_end (closing_gates g g.segments) old in
      let second : List ℕ = bytes_after_write 65 head first in
      let third : List ℕ = bytes_after_write 1 (header_of g) second in
      let shut = gates_closed old count g.segments (omega arith) in
      let long = segment_within g 0 size geometry (omega (arith, geometry.segments.0)) in
      let fields = length-header g in
      let two = overwritten_outside 65 head first (omega arith) in
      let three = overwritten_outside 1 (header_of g) second (omega arith) in
      let four = overwritten_outside 64 (open_gate ∷ []) third (omega arith) in
      let stands : StandsAt third 65 head = part 1 _ three 65 (length head) (inr (omega arith)) ∙ part-overwritten 65 head first (omega arith) in
      let place : segment_place g 0 ≡ 64 = omega arith in
      let opened = overwritten_in 64 (open_gate ∷ []) third (omega arith) 64 (omega arith) (omega arith) in
      rw (seen_joined (closing_gates g g.segments) _ old, settling_on, settling_on) (
        record {
          header = part 64 1 four 1 (length (header_of g)) (inl (omega arith)) ∙ part-overwritten 1 (header_of g) second (omega arith);
          head = rw place (gate_opened 64 head third _ (omega arith) stands four opened);
          others = λ t above below opened. grind (arith, two.each, three.each, four.each, shut.0 t below, segment_behind g 0 t above);
        },
        four.same_length ∙ three.same_length ∙ two.same_length ∙ shut.1,
      )

  -- it writes in the header's fields and in the segments, and not at the header's gate
  pub filling_all : (from : ℕ) → from ≤ 1 → AllWrites (IsPart g from) (fill_calls g (new_head g))
  filling_all from low =
      let room = new_head_room geometry in
      let fields = length-header g in
      let first = segment_behind g 0 g.segments (omega (arith, geometry.segments.0)) in
      all_joined (IsPart g from) (closing_gates g g.segments) _
      (each_all (IsPart g from) _ g.segments (λ t below. omega (arith, segment_behind g t g.segments below, geometry.fits)))
      (all_joined (IsPart g from) (settle_calls 65 (new_head g)) _ (settling_all (IsPart g from) 65 (new_head g) (omega arith))
      (all_joined (IsPart g from) (settle_calls 1 (header_of g)) _ (settling_all (IsPart g from) 1 (header_of g) (omega arith)) (omega arith)))

-- it leaves no write pending
pub filling_synced : (g : Geometry) (head : List ℕ) → AreSynced (fill_calls g head)
filling_synced g head = synced_behind (closing_gates g g.segments) _
    (synced_behind (settle_calls 65 head) _ (synced_behind (settle_calls 1 (header_of g)) _ (settling_synced 64 (open_gate ∷ []))))

-- ---- the crash images

-- true if a gate is closed
pub closed_read : (seen : List ℕ) (place : ℕ) → IsTrue (not (eqb (get_or seen place 0) open_gate)) ↔ IsClosed seen place
closed_read seen place = Decides-not _ (Decides-eqb (get_or seen place 0) open_gate)

module _ (g : Geometry) (closed : Bool) (old : List ℕ) (geometry : IsLayout g (length old)) (told : IsTrue closed ↔ IsClosed old 0) where
  -- the bytes after the header's gate is closed, and after the rest is written
  abbrev mid : List ℕ
  mid = shut 0 old closed

  abbrev end : List ℕ
  end = seen_at_end (fill_calls g (new_head g)) mid

  mid_same : SameOutside 0 1 old mid
  mid_same = closing_same 0 old closed (omega (arith, geometry.room))

  end_filled : IsUnopened g (new_head g) end × (length end ≡ length old)
  end_filled = filled geometry (new_head g) mid (new_head_room geometry) mid_same.same_length

  -- the header's gate is closed while the rest is written
  still_closed : (c : List ℕ) → images_within (fill_calls g (new_head g)) mid (λ d. d ≡ mid) c → IsClosed c 0 × (length c ≡ length old)
  still_closed =
      let here : IsClosed mid 0 × (length mid ≡ length old) = (closing_closed 0 old closed (omega (arith, geometry.room)) told, mid_same.same_length) in
      writes_kept (λ d. IsClosed d 0 × (length d ≡ length old)) (IsPart g 1) (λ place n c range has. omega (arith, range.2, has.1, geometry.room))
      (λ place n c d range has same. (grind (arith, same.each 0, has.0), same.same_length ∙ has.1))
      (fill_calls g (new_head g)) mid (λ d. d ≡ mid) (filling_all geometry 1 (omega arith)) here (λ d is. rw is here)

  -- once the header's gate is open
  formatted : {c : List ℕ} → SameOutside 0 1 end c → IsOpen c 0 → IsFormatted g c
  formatted {c} same opened =
      let header : StandsAt c 1 (header_of g) = part 0 1 same 1 (length (header_of g)) (inr (omega arith)) ∙ end_filled.0.header in
      let fits : IsLayout g (length c) = rw (same.same_length, end_filled.1) geometry in
      let head = part 0 1 same (segment_place g 0) (length (open_gate ∷ new_head g)) (inr (omega arith)) ∙ end_filled.0.head in
      let read = header_read g c header geometry in search (arith, opened, fits, read.0, read.1, read.2, head, same.each, end_filled.0.others)

  -- with the header's gate closed there is no device
  formatting_image : (c : List ℕ) → images_within (whole_format_calls g closed (new_head g)) old (λ d. d ≡ old) c → IsFormatting g old c
  formatting_image c image =
      let close_calls = closing_then 0 old closed (fill_calls g (new_head g) ++ settle_calls 0 (open_gate ∷ [])) c told in
      let filled = synced_then (fill_calls g (new_head g)) (settle_calls 0 (open_gate ∷ [])) (filling_synced g (new_head g)) mid (λ d. d ≡ mid) c in
      let opening = settling_last 0 (open_gate ∷ []) end c (omega (arith, end_filled.1, geometry.room)) in
      grind (arith, cases_eq (get_or c 0 0) open_gate, close_calls, filled, still_closed c, opening, formatted {c = c})

  formatting_done : IsFormatted g (seen_at_end (whole_format_calls g closed (new_head g)) old)
  formatting_done =
      let room : 1 ≤ length end = omega (arith, end_filled.1, geometry.room) in
      rw (seen_joined (close_calls 0 closed) _ old, seen_joined (fill_calls g (new_head g)) _ mid)
      (formatted (overwritten_outside 0 (open_gate ∷ []) end room) (overwritten_in 0 (open_gate ∷ []) end room 0 (omega arith) (omega arith)))

pub formatting_synced : (g : Geometry) (closed : Bool) (head : List ℕ) → AreSynced (whole_format_calls g closed head)
formatting_synced g closed head = synced_behind (close_calls 0 closed) _ (synced_behind (fill_calls g head) _ (settling_synced 0 (open_gate ∷ [])))

-- a format's calls were made
module _ {D : Type 0} {state : D → DiskState} {a b : D} {g : Geometry} {whole : Bool}
    (made : Formats state g (new_head g) whole a b) (geometry : IsLayout g (state a).size) (settled : Settled (state a)) where
  layout : IsLayout g (length (state a).seen)
  layout = rw settled.consistent.seen_size geometry

  -- a crash at any moment
  pub format_leaves : LeavesOnly (state a) (state b) (IsFormatting g (state a).seen)
  format_leaves = makes_leaves state _ made.row settled (formatting_image g made.closed (state a).seen layout (made.told settled.honest))

  -- bytes outside the device's format are unchanged
  pub format_beside : LeavesOnly (state a) (state b) (IsSameBeside g (state a).seen)
  format_beside = leaves_kept (IsSameBeside g (state a).seen) (IsPart g 0) (λ place n c within beside. omega (arith, within.2, layout.room, beside.same_length))
      (λ place n c d within beside same. search (arith, within, same, same.each, beside, beside.header, beside.behind)) state made.row settled
      (all_joined (IsPart g 0) (close_calls 0 made.closed) _ (grind arith)
      (all_joined (IsPart g 0) (fill_calls g (new_head g)) _ (filling_all geometry 0 (omega arith)) (omega arith))) assumption

  pub format_formatted : whole ≡ true → IsFormatted g (state b).seen
  format_formatted all = rw (makes_seen _ (rw all at made.row) settled.honest) (formatting_done g made.closed (state a).seen layout (made.told settled.honest))
