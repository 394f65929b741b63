-- The outcome of one call, in a spool of device addresses and in the one with bytes.
use Rattle.rly_journal.proofs.Common.{[], ap, AreReadsOf, arith, Call, Command, Commands, counted, device_length, false, frame_room, group_body, GroupState}
use Rattle.rly_journal.proofs.Common.{HasRecord, holds_most, HoldsIndex, IndexState, is_accepted, IsAlike, IsBrought, IsGrouping, IsKnown, IsLeft, IsShort}
use Rattle.rly_journal.proofs.Common.{IsTaken, IsAnswerTo, length, List, longest_record, MayWantRoom, NeedsRoom, next_place, not_due, place_after, placed_alike}
use Rattle.rly_journal.proofs.Common.{placed_at, placed_brought, query_reply, real_query, real_step, record_length, record_length-short, record_of}
use Rattle.rly_journal.proofs.Common.{record_place, Reply, same_reply, SeatId, segment_end, segment_within, Spool, State, step, Stored, stored_length, suc}
use Rattle.rly_journal.proofs.Common.{true, unaccepted, ℕ, ◌++◌, ◌+◌, ◌<◌, ◌^◌, ◌∷◌, ◌≡◌, ◌≤◌, ◌⊎◌}
use Rattle.std.proofs.Math.Nat.{mul-le-mul_left, mul-le-mul_right}
use Rattle.rly_machine.specs.declared.command.Ask.TheVariants as ask
use Rattle.rly_machine.specs.declared.command.Query.{Query}
use Rattle.rly_journal.proofs.Redone.{IsStepped}

-- ---- commands that allocate: in the spool with bytes they may allocate

-- a command that allocates would be accepted
pub needs_accepts : (spool : Spool Stored) (placed : Command Stored) → NeedsRoom stored_length spool placed
    → is_accepted (step stored_length spool.state placed).1 ≡ true
needs_accepts spool placed needs = grind (arith, needs)

-- so one that allocates may need to
pub placed_wants : (command : Command (List ℕ)) (spool : Spool Stored) (t : State (List ℕ)) → IsAlike spool.state t → (place : ℕ)
    → NeedsRoom stored_length spool (placed_at place command) → MayWantRoom t command
placed_wants command spool t alike place needs =
    let same = same_reply spool.state t (placed_at place command) command alike (placed_alike place command) in
    grind (arith, needs, same, needs_accepts spool (placed_at place command) needs, counted length t command)

-- ---- a command that was staged

module _ {gate : ℕ} {x : IndexState} {group : GroupState} (grouping : IsGrouping gate x group)
    (holds : HoldsIndex x.geometry x.segment x.used x.spool.state) where
  -- the largest group fits into the segment, whose end fits 64 bits
  pub room_there : (gate + frame_room group.most ≤ segment_end x.geometry x.segment) × (segment_end x.geometry x.segment < 2 ^ 64)
  room_there =
      let within = segment_within x.geometry x.segment (device_length x.geometry) holds.layout holds.there in
      let wide = mul-le-mul_right x.geometry.length holds.layout.segments.1 in
      (omega (arith, not_due x.geometry x.segment gate grouping.above grouping.ready, grouping.longest), omega (arith, within, wide, holds.layout.length))

  -- so a command that can be recorded has an offset
  module _ (command : Command (List ℕ)) (short : IsShort group.most command) where
    pub staged_brought : IsBrought x.geometry x.segment x.used (record_place gate group + record_length length command)
        (placed_at (record_place gate group) command)
    staged_brought =
        let less : suc (length grouping.commands) ≤ 64 = omega (arith, grouping.few) in
        let all = mul-le-mul_left (longest_record group.most) less in
        placed_brought x.geometry x.segment x.used (record_place gate group) command holds.there holds.from grouping.below
        (omega (arith, room_there.0, all, holds_most grouping.commands group grouping.holds, record_length-short group.most command short))

    pub place_small : gate + (5 + length (group_body group)) + record_length length command < 2 ^ 64
    place_small = omega (arith, room_there.1, staged_brought.to, place_after gate group)

-- ---- a reply of the machine

-- to a query
pub query_known : {seat : SeatId} {number position : ℕ} {query : Query} {reply : Reply} {t : State (List ℕ)} → reply ≡ query_reply t query → position ≡ t.seq
    → AreReadsOf t (ask.Query query) reply []
    → IsKnown (record { seat = seat; number = number; ask = ask.Query query }) (record { seat = seat; number = number; reply = reply; position = position }) t
query_known {query = query} {t = t} told counts unread = grind (arith, told, counts, unread, real_query t query)

-- ---- the reply to a command

-- in the index, and in the replies
pub command_outcome : {gate : ℕ} {command : Command (List ℕ)} {told : Reply} {x y : IndexState} {old new : GroupState} {before after : Commands} (call : Call)
    {position : ℕ} → call.ask ≡ ask.Command command → ((is_accepted told ≡ true) × IsTaken gate command x y old new before after)
    ⊎ ((is_accepted told ≡ false) × IsLeft x y old new before after) → position ≡ y.spool.state.seq → (t : State (List ℕ)) → IsAlike x.spool.state t
    → IsAnswerTo command told t → IsKnown call (record { seat = call.seat; number = call.number; reply = told; position = position }) t
command_outcome {gate} {command} {told} {x} {old = old} call {position} asks done counts t alike tells =
    let same = ap (λ (m : State ℕ). m.seq) alike in
    let one = counted stored_length x.spool.state (placed_at (record_place gate old) command) in
    grind (arith, asks, counts, same, done, one, tells, real_step length t command, counted length t command, unaccepted length t command)

-- ---- the calls for a command's reply

-- the step of a staged command
module _ (gate : ℕ) (command : Command (List ℕ)) {x y : IndexState} {old mid new : GroupState} {told : Reply} {log now : Commands}
    (one : IsStepped x y (placed_at (record_place gate old) command) told (record_place gate old + record_length length command))
    (staged : mid ≡ record old { staged = record_of command }) where
  pub staged_taken : is_accepted told ≡ true → HasRecord command → IsShort old.most command
      → new ≡ record mid { records = mid.records ++ mid.staged; count = mid.count + 1; staged = [] } → now ≡ log ++ command ∷ []
      → (is_accepted told ≡ true) × IsTaken gate command x y old new log now
  staged_taken accepts has short kept said =
      grind (arith, one.state, one.reply, one.at, staged, accepts, has, short, kept, said, next_place gate command old)

  pub staged_left : is_accepted told ≡ false → old.staged ≡ [] → new ≡ record mid { staged = [] } → now ≡ log
      → (is_accepted told ≡ false) × IsLeft x y old new log now
  staged_left leaves nothing left said =
      let stays = unaccepted stored_length x.spool.state (placed_at (record_place gate old) command) in
      grind (arith, one.state, one.reply, one.at, staged, leaves, nothing, left, said, stays)
