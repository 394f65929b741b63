-- The invariant of a journal while payloads are read.
use Rattle.rly_journal.proofs.Common.{[], all_reads, ap, are_reads, AreReads, arith, Bool, Consistent, DiskState, false, IndexState, IsAlike, IsAtEnd}
use Rattle.rly_journal.proofs.Common.{IsDurable, StandsForBytes, IsShaped, IsSoundJournal, IsTaggedIn, JournalState, LeavesOnly, List, OnlyRead, Option, DeviceAddress, Reply}
use Rattle.rly_journal.proofs.Common.{row_for, Stands, started_settled, State, Tail, tried_new, tried_settled, Tries, tries_later, true, Wanted, ℕ, ◌∙◌, ◌∷◌}
use Rattle.rly_journal.proofs.Common.{◌≡◌}

-- the device call for one payload is a read, like that for a round's Fetches
pub row_read : (at : Option DeviceAddress) (told : Reply) → are_reads (row_for at told).calls ≡ true
row_read at told = (all_reads (Wanted (record { 0 = 0 }) 0 0 0 at ∷ []) (record { seat = record { 0 = 0 }; number = 0; reply = told; position = 0 } ∷ [])).0

-- it changes only counters
pub payload_read : {D : Type 0} (state : D → DiskState) (facts : (disk : D) → (state disk).honest → Consistent (state disk)) {a b : D}
    (at : Option DeviceAddress) (told : Reply) → Tries state (row_for at told ∷ []) a b → OnlyRead (state a) (state b)
payload_read state facts {a} {b} at told tries =
    let reads : AreReads (row_for at told ∷ []) = (row_read at told, tt) in
    search (facts, tried_new state _ tries reads, tried_settled state _ tries reads, tries_later state _ tries)

-- a journal on a disk that was only read
pub sound_read : {old new : DiskState} {tail : Tail} {x : IndexState} {s : State (List ℕ)} {position : ℕ} {broken : Bool} → OnlyRead old new
    → IsSoundJournal old tail x s position broken → IsSoundJournal new tail x s position broken
sound_read {old} {new} {tail} {x} {s} {broken = broken} only sound =
    let was : new.honest → old.honest = only.later.honest.0 in
    let same : new.honest → new.seen ≡ old.seen = λ honest. (only.crash (was honest)).seen in
    let bytes = λ (whole : broken ≡ false) (honest : new.honest). rw (← same honest) at ((sound.kept whole).bytes (was honest)) in
    let durable : broken ≡ false → new.honest → IsDurable new tail s = λ whole honest.
    let durable = sound.durable whole (was honest) in record { settled = only.settled durable.settled; logged = rw (same honest) durable.logged } in
    let tagged = λ (whole : broken ≡ false) (honest : new.honest). rw (← same honest) at (sound.tagged whole (was honest)) in
    search (rw (← only.later.size) at sound.shaped, sound.alike, sound.ends, bytes, durable, tagged, sound.counted)

-- a journal that isn't broken, in terms of its ghost index
pub record IsGoing {D : Type 0} (state : D → DiskState) (j : JournalState D) (x : IndexState) : Type 0 where
  pub whole : j.broken ≡ false
  pub sound : IsSoundJournal (state j.disk) j.tail x j.state j.position j.broken
  pub ends : IsAtEnd j.tail x
  pub kept : StandsForBytes (state j.disk) x.spool.state j.state
  pub durable : (state j.disk).honest → IsDurable (state j.disk) j.tail j.state
  pub tagged : (state j.disk).honest → IsTaggedIn (state j.disk).seen x.spool.state
  pub counted : j.position ≡ j.state.seq
  pub here : IsSoundJournal (state j.disk) j.tail x j.state j.position false

-- so it is, in terms of its callers
pub going : {D : Type 0} (state : D → DiskState) {j there : JournalState D} {x : IndexState} → j ≡ there → there.broken ≡ false
    → IsSoundJournal (state j.disk) j.tail x j.state j.position j.broken → IsGoing state j x
going {D} state {j} is whole sound =
    let here : j.broken ≡ false = ap (λ (k : JournalState D). k.broken) is ∙ whole in
    search (here, sound, rw here at sound, sound.ends, sound.kept, sound.durable, sound.tagged, sound.counted)

-- after a failed write or sync only its shape is known
pub broken_sound : {disk : DiskState} {tail : Tail} {x : IndexState} {s : State (List ℕ)} {position : ℕ} → IsShaped disk.size tail x → IsAlike x.spool.state s
    → IsSoundJournal disk tail x s position true
broken_sound shaped alike = search (arith, shaped, alike)

-- ---- crashes

-- if no call was made, the bytes that the device reads
pub leaves_durable : {disk : DiskState} {tail : Tail} {s : State (List ℕ)} → IsDurable disk tail s → LeavesOnly disk disk (λ image. Stands image s)
leaves_durable {disk} durable = started_settled disk _ durable.settled (durable.logged.x, durable.logged.stands, durable.logged.state)

-- a crash while payloads are read leaves no new image
pub leaves_read : {a b d : DiskState} {P : List ℕ → Type 0} → LeavesOnly a b P → OnlyRead b d → b.honest → LeavesOnly a d P
leaves_read leaves only honest = let none = only.crash honest in search (arith, leaves.each, leaves.before, none.since)
