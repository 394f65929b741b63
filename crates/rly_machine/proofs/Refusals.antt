-- The properties of a command that passes all checks.
use Rattle.std.proofs.Common.{ℕ, ◌≡◌, ◌+◌, ◌-◌, ◌^◌, ◌<◌, ◌≤◌, Bool, true, false, cond, not, Option, Some, None, length, refl, arith, ◌||◌}
use Rattle.std.specs.Prelude.{nat_lt, nat_le, nat_eq}
use Rattle.std.proofs.lemmas.Bool.{not-false, and_parts, or_parts, ltb-true, ltb-false, leb-true, leb-false, eqb-false}
use Rattle.rly_core.specs.declared.ids.HopId.{HopId}
use Rattle.rly_core.specs.declared.ids.PeerId.{PeerId}
use Rattle.rly_machine.specs.State.{State, is_among, has_hop, has_peer, hop_at, last_at, live_items, live_bytes, next_number}
use Rattle.rly_machine.specs.Accepted.{max_seq}
use Rattle.rly_machine.specs.Pick.{is_idle, pick_refusal}
use Rattle.rly_machine.specs.Release.{covered_count, release_refusal}
use Rattle.rly_machine.specs.Take.{take_refusal}

-- a check that passed, and the list after it
pub passed : {X : Type 0} (fails : Bool) (x : X) (rest : Option X) → cond fails (Some x) rest ≡ None → (fails ≡ false) × (rest ≡ None)
passed true x rest h = absurd (let e : Some x ≡ None = h in cc)
passed false x rest h = (refl, h)

-- a number that was found among others
pub among : (count number : ℕ) → is_among count number ≡ true → (0 < number) × (number ≤ count)
among count number h =
    let both = and_parts _ _ h in
    (ltb-true 0 number both.0, leb-true number count both.1)

-- the properties of a Take that passes all checks
pub record MayTake {P : Type 0} (len : P → ℕ) (s : State P) (peer : PeerId) (number : ℕ) (hop : HopId) (stamp age bytes : ℕ) : Type 0 where
  pub peer_from : 0 < peer.0
  pub peer_to : peer.0 ≤ length s.lasts
  pub hop_there : has_hop s hop ≡ true
  pub hop_from : 0 < hop.0
  pub hop_to : hop.0 ≤ length s.hops
  pub moment : stamp < 2 ^ 52
  pub limit : age < 2 ^ 40
  pub short : bytes ≤ s.params.payload
  pub next : number ≡ last_at s peer + 1
  pub items : live_items s < s.params.items
  pub room : live_bytes len s + bytes ≤ s.params.bytes
  pub seq : s.seq < max_seq

pub may_take : {P : Type 0} (len : P → ℕ) (s : State P) (peer : PeerId) (number : ℕ) (hop : HopId) (stamp limit bytes : ℕ)
    → take_refusal len s peer number hop stamp limit bytes ≡ None → MayTake len s peer number hop stamp limit bytes
may_take len s peer number hop stamp limit bytes h =
    let a = passed (not (has_peer s peer)) _ _ h in
    let b = passed (not (has_hop s hop)) _ _ a.1 in
    let c = passed (nat_le (2 ^ 52) stamp) _ _ b.1 in
    let l = passed (nat_le (2 ^ 40) limit) _ _ c.1 in
    let d = passed (nat_lt s.params.payload bytes) _ _ l.1 in
    let e = passed (nat_le number (last_at s peer)) _ _ d.1 in
    let f = passed (nat_lt (last_at s peer + 1) number) _ _ e.1 in
    let g = passed (nat_le s.params.items (live_items s) || nat_lt s.params.bytes (live_bytes len s + bytes)) _ _ f.1 in
    let i = passed (nat_le max_seq s.seq) _ _ g.1 in
    let the_peer = among _ _ (not-false _ a.0) in
    let the_hop = among _ _ (not-false _ b.0) in
    let above : last_at s peer < number = leb-false _ _ e.0 in
    let below : number ≤ last_at s peer + 1 = ltb-false _ _ f.0 in
    let room = or_parts _ _ g.0 in
    record {
      peer_from = the_peer.0;
      peer_to = the_peer.1;
      hop_there = not-false _ b.0;
      hop_from = the_hop.0;
      hop_to = the_hop.1;
      moment = leb-false _ _ c.0;
      limit = leb-false _ _ l.0;
      short = ltb-false _ _ d.0;
      next = omega arith;
      items = leb-false _ _ room.0;
      room = ltb-false _ _ room.1;
      seq = leb-false _ _ i.0;
    }

-- the properties of a Release that passes all checks
pub record MayRelease {P : Type 0} (s : State P) (hop : HopId) (number : ℕ) : Type 0 where
  pub hop_from : 0 < hop.0
  pub hop_to : hop.0 ≤ length s.hops
  pub given : number ≤ (hop_at s hop).released + length (hop_at s hop).flight
  pub some : (hop_at s hop).released < number
  pub seq : s.seq < max_seq

pub may_release : {P : Type 0} (s : State P) (hop : HopId) (number : ℕ) → release_refusal s hop number ≡ None → MayRelease s hop number
may_release s hop number h =
    let a = passed (not (has_hop s hop)) _ _ h in
    let b = passed (nat_le (next_number (hop_at s hop)) number) _ _ a.1 in
    let c = passed (nat_eq (covered_count (hop_at s hop) number) 0) _ _ b.1 in
    let d = passed (nat_le max_seq s.seq) _ _ c.1 in
    let the_hop = among _ _ (not-false _ a.0) in
    let below : number < (hop_at s hop).released + length (hop_at s hop).flight + 1 = leb-false _ _ b.0 in
    let some : number - (hop_at s hop).released ≡ 0 → ⊥ = eqb-false _ _ c.0 in
    record {
      hop_from = the_hop.0;
      hop_to = the_hop.1;
      given = omega arith;
      some = omega arith;
      seq = leb-false _ _ d.0;
    }

-- the properties of a Pick that passes all checks
pub record MayPick {P : Type 0} (s : State P) (hop : HopId) (now : ℕ) : Type 0 where
  pub hop_there : has_hop s hop ≡ true
  pub hop_from : 0 < hop.0
  pub hop_to : hop.0 ≤ length s.hops
  pub moment : now < 2 ^ 52
  pub window : length (hop_at s hop).flight < s.params.window
  pub seq : s.seq < max_seq

pub may_pick : {P : Type 0} (s : State P) (hop : HopId) (now : ℕ) → pick_refusal s hop now ≡ None → MayPick s hop now
may_pick s hop now h =
    let a = passed (not (has_hop s hop)) _ _ h in
    let b = passed (nat_le (2 ^ 52) now) _ _ a.1 in
    let c = passed (nat_le s.params.window (length (hop_at s hop).flight)) _ _ b.1 in
    let d = passed (is_idle (hop_at s hop)) _ _ c.1 in
    let e = passed (nat_le max_seq s.seq) _ _ d.1 in
    let the_hop = among _ _ (not-false _ a.0) in
    record {
      hop_there = not-false _ a.0;
      hop_from = the_hop.0;
      hop_to = the_hop.1;
      moment = leb-false _ _ b.0;
      window = leb-false _ _ c.0;
      seq = leb-false _ _ e.0;
    }
