-- The state that a journal shows after its device was opened.
use Rattle.rly_journal.proofs.Common.{[], ap, arith, Commands, Consistent, device_length, DiskState, false, get_or, HoldsIndex, IndexState, IsAlike, IsAtEnd}
use Rattle.rly_journal.proofs.Common.{IsDurable, IsLoggedFor, IsShaped, IsSoundJournal, length, length-append, length-replicate, length-take, List, map_state}
use Rattle.rly_journal.proofs.Common.{maps_held, OnlyRead, payload_in, payloads_of, refl, replicate, Settled, shown_in, shown_state, Stands, State, state_in}
use Rattle.rly_journal.proofs.Common.{state_twice, Stored, stored_length, sym, Tail, take_at, whole, ℕ, ◌∙◌, ◌≡◌, ◌≤◌}

-- a payload that is shown has its length over any image
pub shown_length : (image : List ℕ) (p : Stored) → length (shown_in image p) ≡ stored_length p
shown_length image p = omega (arith, length-take {A = ℕ}, length-append {A = ℕ}, length-replicate {A = ℕ})

-- if the image contains it, it is shown unchanged
pub shown_whole : (image : List ℕ) (p : Stored) → length (payload_in image p) ≡ stored_length p → shown_in image p ≡ payload_in image p
shown_whole image p all = grind (arith, all, take_at (payload_in image p) (replicate (stored_length p) 0) (length (payload_in image p)) refl)

pub shown_alike : (image : List ℕ) (s : State Stored) → IsAlike s (map_state (shown_in image) s)
shown_alike image s =
    maps_held stored_length (λ p. length (shown_in image p)) s (λ k d lt. sym (shown_length image (get_or (payloads_of s) k d)))
    ∙ sym (state_twice length (shown_in image) s)

-- the index of an end
pub index_there : (tail : Tail) (x : IndexState) → IsAtEnd tail x → HoldsIndex x.geometry x.segment x.used x.spool.state
    → HoldsIndex tail.geometry tail.segment tail.gate x.spool.state
index_there tail x ends holds = rw (ends.geometry, ends.segment, ends.used) at holds

module _ {tail : Tail} {x : IndexState} {disk : DiskState} (facts : disk.honest → Consistent disk)
    (shaped : IsShaped disk.size tail x) (ends : IsAtEnd tail x) (holds : HoldsIndex x.geometry x.segment x.used x.spool.state) where
  pub shown_there : disk.honest → state_in disk.seen x.spool.state ≡ map_state (shown_in disk.seen) x.spool.state
  shown_there honest =
      let long : device_length tail.geometry ≤ length disk.seen = omega (arith, shaped.geometry.room, (facts honest).seen_size) in
      let lies = (index_there tail x ends holds).index.there in maps_held (payload_in disk.seen) (shown_in disk.seen) x.spool.state (λ k d lt.
      let p = get_or (payloads_of x.spool.state) k d in sym (shown_whole disk.seen p (whole disk.seen tail.geometry long p (lies k d lt))))

  -- a journal without accepted commands: its state in terms of its ghost fields
  module _ {image : List ℕ} {s : State Stored} {commands : Commands} (is : image ≡ disk.seen) (same : s ≡ x.spool.state) (none : commands ≡ []) where
    pub opened_sound : {position : ℕ} → (disk.honest → Settled disk) → (disk.honest → IsLoggedFor disk.seen tail x) → position ≡ x.spool.state.seq
        → IsSoundJournal disk tail x (shown_state image s commands) position false
    opened_sound settled logged counted =
        let alike = shown_alike disk.seen x.spool.state in
        let durable : disk.honest → IsDurable disk tail (map_state (shown_in disk.seen) x.spool.state) =
        λ honest. record { settled = settled honest; logged = rw (← shown_there honest) (logged honest).read } in
        let tagged = λ (honest : disk.honest). (logged honest).tagged in rw (is, same, none) (search shown_there)

    -- and so the device that was opened recovers to it
    pub opened_stands : {old : DiskState} → OnlyRead old disk → old.honest → IsLoggedFor old.seen tail x → Stands old.seen (shown_state image s commands)
    opened_stands only honest logged =
        let again = only.crash honest in let read = logged.read in
        rw (is, same, none) (read.x, read.stands, sym (shown_there again.honest) ∙ ap (λ (i : List ℕ). state_in i x.spool.state) again.seen ∙ read.state)
