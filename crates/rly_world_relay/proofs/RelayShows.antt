-- The model state that a relay shows, after one event.
use Rattle.std.proofs.Common.{ℕ, ◌≡◌, ◌<◌, ◌++◌, ◌+◌, ◌∙◌, true, false, List, [], ◌∷◌, Option, None, length, take, map, replicate, arith, ap, refl, sym, subst, inl, inr}
use Rattle.std.specs.Prelude.{slice_index_or, slice_set}
use Rattle.rly_core.specs.Bounds.{IsIn}
use Rattle.rly_core.specs.declared.params.Geometry.{Geometry}
use Rattle.rly_disk.specs.DiskModel.{Settled}
use Rattle.rly_disk.specs.FaultDisk.{fault_state, inner_of}
use Rattle.rly_disk.specs.MemDisk.{IsLeft, mem_state}
use Rattle.rly_disk.specs.declared.fault_disk.FaultDisk.{FaultDisk}
use Rattle.rly_disk.specs.declared.mem.MemDisk.{MemDisk}
use Rattle.rly_disk.specs.declared.mem.Torn.{Torn}
use Rattle.rly_disk.specs.Trace.{FailedSync}
use Rattle.rly_machine.specs.declared.command.Ask.{Ask}
use Rattle.rly_machine.specs.State.{State}
use Rattle.rly_gate.specs.GroupReads.{OnlyRead}
use Rattle.rly_segment.specs.Formatted.{IsFormatted}
use Rattle.rly_journal.specs.Journal.{JournalState}
use Rattle.rly_journal.specs.Recovery.{Stands}
use Rattle.rly_journal.proofs.Once.{stands_for_one}
use Rattle.rly_world_relay.specs.Relay.{Happened, IsCrash, IsOnly, IsOpening, IsReached, IsSpoolOf, RelayState, Shows, disk_in}
use Rattle.rly_world.specs.RelaySteps.{Crash, Event, FailedOpening, Happens, HasPlace, Hears, Opening, Put, Run, world_after, calls_from, world_after_hearing, world_after_put, seat_at}
use Rattle.rly_world.specs.RelayWorld.{Batch, SeatView, World, new_seat, new_world, seen_of, state_from}
use Rattle.rly_world_relay.specs.declared.spool.Spool.{Spool}
use Rattle.rly_world_relay.specs.declared.spool.Spool.TheVariants.{Opened, Shut}
use Rattle.rly_world.proofs.RelayDevice.{asked_seen, image_asked}
use Rattle.rly_world.proofs.RelayHolds.{IsHeld}
use Rattle.rly_world.proofs.RelayStart.{holds, prefix_counted}

-- one list of events after the other
pub run_joined : (old mid new : World) (first second : List Event) → Run old first mid → Run mid second new → Run old (first ++ second) new
run_joined old mid new [] second run then = subst (λ w. Run w second new) run then
run_joined old mid new (event ∷ first) second run then = (run.0, run.1, run_joined run.0 mid new first second run.2 then)

pub reached_more : (w next : World) (events : List Event) → IsReached w → Run w events next → IsReached next
reached_more w next events was run = record {
  geometry = was.geometry;
  seats = was.seats;
  bytes = was.bytes;
  events = was.events ++ events;
  formatted = was.formatted;
  run = run_joined (new_world was.geometry.params was.seats was.bytes) w next was.events events was.run run;
}

-- properties of a reachable model state
pub reached_held : (w : World) → IsReached w → IsHeld w
reached_held w was = holds was.geometry was.seats was.bytes was.events w was.formatted was.run

pub run_one : (old new : World) (event : Event) → Happens old event new → Run old (event ∷ []) new
run_one old new event happens = (new, happens, refl)

-- a journal has no seats and queues
spool_still : (spool : Spool) (w : World) (seats : List SeatView) (line : List Batch) (kept : Option Batch) → IsSpoolOf spool w
    → IsSpoolOf spool (record w { seats = seats; line = line; kept = kept })
spool_still (Shut disk) w seats line kept is = is
spool_still (Opened journal) w seats line kept is = is

-- ---- a seat submits

module _ (old : RelayState) (seat : ℕ) (asks : List Ask) where
  abbrev pub seat_in : SeatView
  seat_in = slice_index_or old.seats seat new_seat

  abbrev pub put_seat : RelayState
  put_seat = record old {
    seats = slice_set old.seats seat (record seat_in { asked = seat_in.asked + length asks; waits = true });
    line = old.line ++ calls_from seat seat_in.asked asks ∷ [];
  }

  pub put_happened : seat < length old.seats → seat_in.waits ≡ false → IsIn 1 64 (length asks) → Happened (IsOnly (Put seat asks)) old put_seat
  put_happened there free count w shows =
      let same : (s : List SeatView) → w.seats ≡ s → slice_index_or w.seats seat new_seat ≡ slice_index_or s seat new_seat = λ s is. ap (λ l. slice_index_or l seat new_seat) is in
      let place : HasPlace w (Put seat asks) = (omega (arith, there, ap length shows.seats), ap (λ (v : SeatView). v.waits) (same old.seats shows.seats) ∙ free, count) in
      let run = run_one w (world_after_put w seat asks) (Put seat asks) (inl (place, refl)) in
      record {
        events = Put seat asks ∷ [];
        are = refl;
        next = world_after_put w seat asks;
        run = run;
        shows = record {
          reached = reached_more w (world_after_put w seat asks) (Put seat asks ∷ []) shows.reached run;
          seats = ap (λ l. slice_set l seat (record (slice_index_or l seat new_seat) { asked = (slice_index_or l seat new_seat).asked + length asks; waits = true })) shows.seats;
          line = ap (λ l. l ++ calls_from seat (seat_at w seat).asked asks ∷ []) shows.line
              ∙ ap (λ l. old.line ++ calls_from seat (slice_index_or l seat new_seat).asked asks ∷ []) shows.seats;
          kept = shows.kept;
          round = shows.round;
          device = record { seen = shows.device.seen; images = shows.device.images };
          spool = spool_still old.spool w (world_after_put w seat asks).seats (world_after_put w seat asks).line w.kept shows.spool;
        };
      }

-- ---- a seat receives

module _ (old : RelayState) (seat : ℕ) where
  abbrev pub hearing : SeatView
  hearing = slice_index_or old.seats seat new_seat

  abbrev pub heard_seat : RelayState
  heard_seat = record old {
    seats = slice_set old.seats seat (record hearing { waits = false; replies = []; known = hearing.known ++ hearing.replies });
  }

  pub hear_happened : seat < length old.seats → (hearing.replies ≡ [] → ⊥) → Happened (IsOnly (Hears seat)) old heard_seat
  hear_happened there some w shows =
      let same : slice_index_or w.seats seat new_seat ≡ hearing = ap (λ l. slice_index_or l seat new_seat) shows.seats in
      let place : HasPlace w (Hears seat) = (omega (arith, there, ap length shows.seats), λ none. some (sym (ap (λ (v : SeatView). v.replies) same) ∙ none)) in
      let run = run_one w (world_after_hearing w seat) (Hears seat) (inl (place, refl)) in
      record {
        events = Hears seat ∷ [];
        are = refl;
        next = world_after_hearing w seat;
        run = run;
        shows = record {
          reached = reached_more w (world_after_hearing w seat) (Hears seat ∷ []) shows.reached run;
          seats = ap (λ l. slice_set l seat (record (slice_index_or l seat new_seat) {
            waits = false;
            replies = [];
            known = (slice_index_or l seat new_seat).known ++ (slice_index_or l seat new_seat).replies;
          })) shows.seats;
          line = shows.line;
          kept = shows.kept;
          round = shows.round;
          device = record { seen = shows.device.seen; images = shows.device.images };
          spool = spool_still old.spool w (world_after_hearing w seat).seats w.line w.kept shows.spool;
        };
      }

-- the same, from the contracts of a seat's methods
pub put_done : (old mid : RelayState) (seat index : ℕ) (asks : List Ask) (view : SeatView) (batch : Batch) (line : List Batch) → mid ≡ old → index ≡ seat
    → index < length mid.seats → (slice_index_or mid.seats index new_seat).waits ≡ false → IsIn 1 64 (length asks)
    → view ≡ record (slice_index_or mid.seats index new_seat) { asked = (slice_index_or mid.seats index new_seat).asked + length asks; waits = true }
    → batch ≡ calls_from seat (slice_index_or mid.seats index new_seat).asked asks → line ≡ mid.line ++ batch ∷ []
    → Happened (IsOnly (Put seat asks)) old (record mid { seats = slice_set mid.seats index view; line = line })
put_done old mid seat index asks view batch line same at there free count is_view is_batch is_line =
    subst (λ o. Happened (IsOnly (Put seat asks)) o (record mid { seats = slice_set mid.seats index view; line = line })) same
    (subst (λ n. Happened (IsOnly (Put n asks)) mid (record mid { seats = slice_set mid.seats index view; line = line })) at
    (subst (Happened (IsOnly (Put index asks)) mid)
    (ap (λ v. record mid { seats = slice_set mid.seats index v; line = mid.line ++ calls_from index (slice_index_or mid.seats index new_seat).asked asks ∷ [] }) (sym is_view)
    ∙ ap (λ l. record mid { seats = slice_set mid.seats index view; line = l }) (ap (λ b. mid.line ++ b ∷ [])
    (ap (λ n. calls_from n (slice_index_or mid.seats index new_seat).asked asks) at ∙ sym is_batch) ∙ sym is_line))
    (put_happened mid index asks there free count)))

pub hear_done : (old mid : RelayState) (seat index : ℕ) (view : SeatView) → mid ≡ old → index ≡ seat → index < length mid.seats
    → ((slice_index_or mid.seats index new_seat).replies ≡ [] → ⊥)
    → view ≡ record (slice_index_or mid.seats index new_seat) {
      waits = false;
      replies = [];
      known = (slice_index_or mid.seats index new_seat).known ++ (slice_index_or mid.seats index new_seat).replies;
    }
    → Happened (IsOnly (Hears seat)) old (record mid { seats = slice_set mid.seats index view })
hear_done old mid seat index view same at there some is_view =
    subst (λ o. Happened (IsOnly (Hears seat)) o (record mid { seats = slice_set mid.seats index view })) same
    (subst (λ n. Happened (IsOnly (Hears n)) mid (record mid { seats = slice_set mid.seats index view })) at
    (subst (Happened (IsOnly (Hears index)) mid) (ap (λ v. record mid { seats = slice_set mid.seats index v }) (sym is_view)) (hear_happened mid index there some)))

-- ---- crashes and openings

-- all state except the disk is lost
abbrev pub forgotten : RelayState → Spool → RelayState
forgotten old spool = record { seats = map (λ seat. new_seat) old.seats; line = []; kept = None; spool = spool }

pub forgets : (old mid now : RelayState) (spool : Spool) → mid.seats ≡ map (λ seat. new_seat) old.seats → mid.line ≡ [] → mid.kept ≡ None
    → now ≡ mid → forgotten old spool ≡ record now { spool = spool }
forgets old mid now spool seats line kept same = forgets_all ∙ ap (λ (r : RelayState). record r { spool = spool }) (sym same)
  where
    forgets_all : forgotten old spool ≡ record mid { spool = spool }
    forgets_all =
        ap (λ s. record (forgotten old spool) { seats = s }) (sym seats)
        ∙ ap (λ l. record (forgotten old spool) { seats = mid.seats; line = l }) (sym line)
        ∙ ap (λ k. record mid { kept = k; spool = spool }) (sym kept)

same_seats : (seats others : List SeatView) → seats ≡ others → map (λ seat. new_seat) seats ≡ map (λ seat. new_seat) others
same_seats seats others same = ap (λ l. map (λ seat. new_seat) l) same

pub crash_happened : (old : RelayState) (torn : Torn) (disk : MemDisk) → IsLeft torn (disk_in old.spool) (mem_state disk).seen
    → (mem_state (disk_in old.spool)).images (mem_state disk).seen → Settled (mem_state disk) → Happened (IsCrash torn (disk_in old.spool)) old (forgotten old (Shut disk))
crash_happened old torn disk left image settled w shows =
    let bytes : List ℕ = (mem_state disk).seen in
    let run = run_one w (world_after w (Crash (mem_state disk).seen)) (Crash (mem_state disk).seen) (inl (shows.device.images (mem_state disk).seen image, refl)) in
    record {
      events = Crash (mem_state disk).seen ∷ [];
      are = ((mem_state disk).seen, left, refl);
      next = world_after w (Crash (mem_state disk).seen);
      run = run;
      shows = record {
        reached = reached_more w (world_after w (Crash (mem_state disk).seen)) (Crash (mem_state disk).seen ∷ []) shows.reached run;
        seats = same_seats w.seats old.seats shows.seats;
        line = refl;
        kept = refl;
        round = refl;
        device = record { seen = refl; images = λ c now. settled.only c now };
        spool = (refl, refl);
      };
    }

-- the state that a device of the model recovers to is that after the accepted commands that it counts
found_state : (w : World) → IsHeld w → (s : State (List ℕ)) → Stands (seen_of w.device) s → s ≡ state_from w.params (take s.seq w.accepted)
found_state w held s found =
    let kept = held.kept (seen_of w.device) held.seen in
    let same : s ≡ state_from w.params (take kept.n w.accepted) = stands_for_one (seen_of w.device) s (state_from w.params (take kept.n w.accepted)) found kept.stands in
    let count : s.seq ≡ kept.n = ap (λ t. t.seq) same ∙ prefix_counted w held kept.n kept.most in
    same ∙ ap (λ n. state_from w.params (take n w.accepted)) (sym count)

pub opened_happened : (old : RelayState) (journal : JournalState (FaultDisk MemDisk)) → journal.broken ≡ false → journal.position ≡ journal.state.seq
    → Stands (mem_state (disk_in old.spool)).seen journal.state → (mem_state (inner_of journal.disk)).seen ≡ (mem_state (disk_in old.spool)).seen
    → ((c : List ℕ) → (mem_state (inner_of journal.disk)).images c → c ≡ (mem_state (inner_of journal.disk)).seen) → Happened (IsOpening (Opened journal)) old (forgotten old (Opened journal))
opened_happened old journal whole counted stands read settled w shows =
    let found : Stands (seen_of w.device) journal.state = subst (λ i. Stands i journal.state) shows.device.seen stands in
    let held = reached_held w shows.reached in
    let run = run_one w (world_after w (Opening journal.state)) (Opening journal.state) (inl ((shows.round, found), refl)) in
    record {
      events = Opening journal.state ∷ [];
      are = refl;
      next = world_after w (Opening journal.state);
      run = run;
      shows = record {
        reached = reached_more w (world_after w (Opening journal.state)) (Opening journal.state ∷ []) shows.reached run;
        seats = same_seats w.seats old.seats shows.seats;
        line = refl;
        kept = refl;
        round = refl;
        device = record { seen = read ∙ shows.device.seen; images = λ c now. settled c now ∙ read ∙ shows.device.seen };
        spool = (refl, sym whole, sym counted, λ _. found_state w held journal.state found);
      };
    }

-- nothing was made durable, as far as is known
pub unsynced_happened : (old : RelayState) (disk : MemDisk) → (mem_state disk).seen ≡ (mem_state (disk_in old.spool)).seen
    → ((c : List ℕ) → (mem_state disk).images c → (mem_state (disk_in old.spool)).images c) → Happened (IsOpening (Shut disk)) old (forgotten old (Shut disk))
unsynced_happened old disk read fewer w shows =
    let run = run_one w (world_after w (FailedOpening false)) (FailedOpening false) (inl (shows.round, refl)) in
    record {
      events = FailedOpening false ∷ [];
      are = inr refl;
      next = world_after w (FailedOpening false);
      run = run;
      shows = record {
        reached = reached_more w (world_after w (FailedOpening false)) (FailedOpening false ∷ []) shows.reached run;
        seats = same_seats w.seats old.seats shows.seats;
        line = refl;
        kept = refl;
        round = refl;
        device = record {
          seen = read ∙ shows.device.seen ∙ sym (asked_seen w.device FailedSync);
          images = λ c now. image_asked w.device FailedSync c (shows.device.images c (fewer c now));
        };
        spool = (refl, refl);
      };
    }

-- the same, from the contract of opening a journal on the disk
pub opened_done : (old : RelayState) (start : MemDisk) (first : FaultDisk MemDisk) (journal : JournalState (FaultDisk MemDisk)) → start ≡ disk_in old.spool → inner_of first ≡ start
    → Stands (fault_state mem_state first).seen journal.state → (journal.broken ≡ false) × (journal.position ≡ journal.state.seq)
    → OnlyRead (fault_state mem_state first) (fault_state mem_state journal.disk) → Settled (fault_state mem_state journal.disk)
    → Happened (IsOpening (Opened journal)) old (forgotten old (Opened journal))
opened_done old start first journal from inside stands whole read settled =
    let same : inner_of first ≡ disk_in old.spool = inside ∙ from in
    opened_happened old journal whole.0 whole.1 (subst (λ d. Stands (mem_state d).seen journal.state) same stands)
    ((read.crash tt).seen ∙ ap (λ d. (mem_state d).seen) same) (λ c now. settled.only c now)

pub unsynced_done : (old : RelayState) (start : MemDisk) (first last : FaultDisk MemDisk) (end : MemDisk) → start ≡ disk_in old.spool → inner_of first ≡ start
    → OnlyRead (fault_state mem_state first) (fault_state mem_state last) → end ≡ inner_of last → Happened (IsOpening (Shut end)) old (forgotten old (Shut end))
unsynced_done old start first last end from inside read is =
    let same : inner_of first ≡ disk_in old.spool = inside ∙ from in
    let new = read.crash tt in
    unsynced_happened old end (ap (λ d. (mem_state d).seen) is ∙ new.seen ∙ ap (λ d. (mem_state d).seen) same)
    (λ c now. subst (λ d. (mem_state d).images c) same (new.images c (subst (λ d. (mem_state d).images c) is now)))

-- ---- a new relay

pub new_shows : (g : Geometry) (count : ℕ) (disk : MemDisk) → IsFormatted g (mem_state disk).seen → Settled (mem_state disk)
    → Shows (record { seats = replicate count new_seat; line = []; kept = None; spool = Shut disk }) (new_world g.params count (mem_state disk).seen)
new_shows g count disk formatted settled = record {
  reached = record { geometry = g; seats = count; bytes = (mem_state disk).seen; events = []; formatted = formatted; run = refl };
  seats = refl;
  line = refl;
  kept = refl;
  round = refl;
  device = record { seen = refl; images = λ c now. settled.only c now };
  spool = (refl, refl);
}
