-- The live bytes in all segments, and the length of a head.
use Rattle.std.proofs.Common.{ℕ, zero, suc, ◌≡◌, ◌+◌, ◌*◌, ◌<◌, ◌≤◌, Bool, cond, eqb, List, [], ◌∷◌, length, sum, sum_by, slice_index, arith, refl, sym, ap, ◌∙◌, ⊎_elim}
use Rattle.std.specs.List.{range_with_len}
use Rattle.std.proofs.lemmas.Bool.{cases_eq, eq-eqb, ne_eqb}
use Rattle.std.proofs.lemmas.List.FromFn.{get_or-map-range_with_len, length-map-range_with_len}
use Rattle.std.proofs.lemmas.List.Sums.{sum-map, sum_by-cons}
use Rattle.rly_core.specs.Bounds.{IsIn}
use Rattle.rly_core.specs.declared.params.Geometry.{Geometry}
use Rattle.rly_core.specs.declared.params.Params.{Params}
use Rattle.rly_machine.specs.Sound.{IsSound}
use Rattle.rly_machine.specs.State.{State, live_bytes, live_items}
use Rattle.rly_segment_checkpoint.specs.Checkpoint.{state_spelled}
use Rattle.rly_segment_checkpoint.specs.Stored.{stored_form, stored_length}
use Rattle.rly_segment_checkpoint.specs.declared.stored.Stored.{Stored}
use Rattle.rly_segment_checkpoint.specs.declared.stored.Stored.TheVariants.{Inline, Placed}
use Rattle.rly_segment_checkpoint.proofs.Sizes.{spelled_length}
use Rattle.rly_reclaim.specs.SegmentChoice.{IsFree, IsVictim}
use Rattle.rly_reclaim.specs.Room.{Fits}
use Rattle.rly_reclaim.proofs.Rooms.{has_room}
use Rattle.rly_reclaim.specs.Places.{bytes_in, live_by_segment, live_in, segment_of}
use Rattle.rly_reclaim.specs.LiveRoom.{HasRoomFor, inline_bytes, inline_length}
use Rattle.rly_reclaim.proofs.Weights.{bytes_both, bytes_six, bytes_less, bytes_none, bytes_same}

-- over consecutive numbers from a on, the sum of n at k: zero if all are above k
abbrev count_at : ℕ → ℕ → ℕ → ℕ
count_at k n t = cond (eqb k t) n 0

counted_above : (k n a m : ℕ) → k < a → sum_by (count_at k n) (range_with_len a m) ≡ 0
counted_above k n a zero above = refl
counted_above k n a (suc m) above =
    let here : count_at k n a ≡ 0 = ap (λ (b : Bool). cond b n 0) (ne_eqb k a (λ same. omega (arith, same, above))) in
    omega (arith, here, sum_by-cons (count_at k n) a (range_with_len (a + 1) m), counted_above k n (a + 1) m (omega (arith, above)))

counted_once : (k n a m : ℕ) → sum_by (count_at k n) (range_with_len a m) ≤ n
counted_once k n a zero = omega arith
counted_once k n a (suc m) = ⊎_elim
    (λ same.
    let here : count_at k n a ≡ n = ap (λ (b : Bool). cond b n 0) (eq-eqb k a same) in
    omega (arith, here, sum_by-cons (count_at k n) a (range_with_len (a + 1) m), counted_above k n (a + 1) m (omega (arith, same))))
    (λ apart.
    let here : count_at k n a ≡ 0 = ap (λ (b : Bool). cond b n 0) (ne_eqb k a apart) in
    omega (arith, here, sum_by-cons (count_at k n) a (range_with_len (a + 1) m), counted_once k n (a + 1) m))
    (cases_eq k a)

-- a payload lies in one segment
lies_once : (g : Geometry) (p : Stored) (a m : ℕ) → sum_by (λ t. bytes_in g t p) (range_with_len a m) ≤ stored_length p
lies_once g (Inline payload) a m = none (range_with_len a m)
  where
    none : (ts : List ℕ) → sum_by (λ t. bytes_in g t (Inline payload)) ts ≤ length payload
    none [] = omega arith
    none (t ∷ ts) = omega (arith, sum_by-cons (λ (u : ℕ). bytes_in g u (Inline payload)) t ts, none ts)
lies_once g (Placed place) a m = counted_once (segment_of g place.start) place.length a m

-- the sum over segments is a sum over payloads
exchanged : (g : Geometry) (s : State Stored) (ts : List ℕ)
    → sum_by (λ t. live_in g t s) ts ≡ live_bytes (λ (p : Stored). sum_by (λ t. bytes_in g t p) ts) s
exchanged g s [] = sym (bytes_none (λ (p : Stored). 0) (λ p. refl) s)
exchanged g s (t ∷ ts) =
    sum_by-cons (λ (u : ℕ). live_in g u s) t ts
    ∙ ap (λ (n : ℕ). live_in g t s + n) (exchanged g s ts)
    ∙ sym (bytes_both (bytes_in g t) (λ (p : Stored). sum_by (λ u. bytes_in g u p) ts) s)
    ∙ bytes_more
  where
    bytes_more : live_bytes (λ (p : Stored). bytes_in g t p + sum_by (λ u. bytes_in g u p) ts) s ≡ live_bytes (λ (p : Stored). sum_by (λ u. bytes_in g u p) (t ∷ ts)) s
    bytes_more = bytes_same (λ (p : Stored). bytes_in g t p + sum_by (λ u. bytes_in g u p) ts) (λ (p : Stored). sum_by (λ u. bytes_in g u p) (t ∷ ts))
        (λ p. sym (sum_by-cons (λ (u : ℕ). bytes_in g u p) t ts)) s

pub live_sum : (g : Geometry) (s : State Stored) → sum (live_by_segment g s) ≤ live_bytes stored_length s
live_sum g s =
    let all = range_with_len 0 g.segments in
    let e : sum (live_by_segment g s) ≡ live_bytes (λ (p : Stored). sum_by (λ t. bytes_in g t p) all) s = sum-map (λ t. live_in g t s) all ∙ exchanged g s all in
    omega (arith, e, bytes_less (λ (p : Stored). sum_by (λ t. bytes_in g t p) all) stored_length (λ p. lies_once g p 0 g.segments) s)

pub live_length : (g : Geometry) (s : State Stored) → length (live_by_segment g s) ≡ g.segments
live_length g s = length-map-range_with_len (λ t. live_in g t s) 0 g.segments

pub live_at : (g : Geometry) (s : State Stored) (t : ℕ) → t < g.segments → slice_index (live_by_segment g s) t ≡ live_in g t s
live_at g s t below = get_or-map-range_with_len (λ u. live_in g u s) 0 g.segments t t 0 below (omega arith)

-- the form of a payload has at most 6 bytes besides the inline ones
form_length : (p : Stored) → length (stored_form.form p) ≤ 6 + inline_length p
form_length (Inline payload) = omega arith
form_length (Placed place) = let e : length (stored_form.form (Placed place)) ≡ 6 = refl in omega (arith, e)

-- which is less than in a head of form 1
pub spelled_bound : (t : State Stored) → IsSound stored_length t
    → length (state_spelled stored_length stored_form t) ≤ 8 + 8 * t.params.peers + 71 * t.params.hops + 27 * live_items t + inline_bytes t
spelled_bound t sound =
    omega (
      arith,
      spelled_length stored_length stored_form t sound,
      bytes_less (λ (p : Stored). length (stored_form.form p)) (λ (p : Stored). 6 + inline_length p) form_length t,
      bytes_both (λ (p : Stored). 6) inline_length t,
      bytes_six t,
    )

pub has_room_for : (g : Geometry) (s : State Stored) (current free victim : ℕ) → IsIn 2 256 g.segments → Fits g
    → IsSound stored_length s → s.params ≡ g.params
    → IsFree (live_by_segment g s) current free → IsVictim (live_by_segment g s) free victim → HasRoomFor g s victim
has_room_for g s current free victim within fits sound params free_is victim_is =
    let bytes : s.params.bytes ≡ g.params.bytes = ap (λ (p : Params). p.bytes) params in
    let room = has_room g (live_by_segment g s) current free victim within fits (live_length g s)
    (omega (arith, bytes, live_sum g s, sound.bytes)) free_is victim_is in
    let here : slice_index (live_by_segment g s) victim ≡ live_in g victim s = live_at g s victim (omega (arith, victim_is.there, live_length g s)) in
    record {
      few = omega (arith, here, room.few);
      head = λ t sound_t same few.
          let peers : t.params.peers ≡ g.params.peers = ap (λ (p : Params). p.peers) same in
          let hops : t.params.hops ≡ g.params.hops = ap (λ (p : Params). p.hops) same in
          let items : t.params.items ≡ g.params.items = ap (λ (p : Params). p.items) same in
          omega (arith, peers, hops, items, sound_t.items, spelled_bound t sound_t, few, here, room.few, fits);
    }
