-- The calls of a round, from the journal's contract, in the model of a relay.
use Rattle.std.proofs.Common.{ℕ, ◌≡◌, ◌++◌, ◌∙◌, Bool, true, false, List, [], ◌∷◌, Some, ap, refl, sym, subst}
use Rattle.std.specs.List.{AllByRecursion}
use Rattle.std.proofs.lemmas.List.{append-nil}
use Rattle.rly_disk.specs.DiskModel.{DiskState}
use Rattle.rly_disk.specs.Trace.{DeviceEvent, FailedRead, FailedSync, FailedWrite, IsCut, IsMade, Read, Sync, Write, are_reads, seen_at_end}
use Rattle.rly_disk.proofs.Traces.{seen_joined}
use Rattle.rly_machine.specs.declared.call.Answer.{Answer}
use Rattle.rly_machine.specs.Map.{payloads_of}
use Rattle.rly_machine.specs.State.{State}
use Rattle.rly_journal_relocate.proofs.Rows.{all_are_reads}
use Rattle.rly_disk.specs.Trials.{AreTried, row_of}
use Rattle.rly_journal.specs.declared.tail.Tail.{Tail}
use Rattle.rly_journal.specs.Log.{IsLogged}
use Rattle.rly_journal.specs.Recovery.{Commands}
use Rattle.rly_journal.specs.RoundCalls.{MayRenew, Renewal, victim_reads_for, head_calls, tail_after_renewal}
use Rattle.rly_world.specs.RelayWorld.{Answering, Batch, Round, World}
use Rattle.rly_world_relay.specs.HelpersRounds.{round_of_batches}
use Rattle.rly_world_relay.specs.Relay.{IsDeviceOf, IsReached}
use Rattle.rly_world_relay.proofs.RelayDisks.{Came, came_after, came_cut, came_then, came_to, came_whole}
use Rattle.rly_world_relay.proofs.RelayLogs.{IsOver}
use Rattle.rly_world_relay.proofs.RelayReads.{AreReading, all_reading, came_reads, fails_by, none_fails, reads_before, reads_device, reads_led, with_reads}
use Rattle.rly_world_relay.proofs.RelayServes.{IsPart}
use Rattle.rly_world_relay.proofs.RelayShows.{reached_more}
use Rattle.rly_world_relay.proofs.RelayTurns.{answered, begun}
use Rattle.rly_world_relay.proofs.RelayWalks.{AreWriting, Broke, Led, Walks, asked_all, asked_joined}

-- ---- lists of calls

-- one list, and another after it
pub one_row : (whole spent : Bool) (calls events : List DeviceEvent) → AreTried spent (row_of calls whole ∷ []) events → IsMade whole spent calls events
one_row whole spent calls events tried =
    subst (IsMade whole spent calls) (sym (tried.2 ∙ ap (λ (l : List DeviceEvent). tried.0 ++ l) tried.4 ∙ append-nil tried.0)) tried.3

pub record IsBehind (whole spent : Bool) (first second events : List DeviceEvent) : Type 0 where
  pub rest : List DeviceEvent
  pub events_are : events ≡ first ++ rest
  pub made : IsMade whole spent second rest

pub two_rows : (whole spent : Bool) (first second events : List DeviceEvent) → AreTried spent (row_of first true ∷ row_of second whole ∷ []) events
    → IsBehind whole spent first second events
two_rows whole spent first second events tried = record {
  rest = tried.1;
  events_are = tried.2 ∙ ap (λ (l : List DeviceEvent). l ++ tried.1) tried.3;
  made = one_row whole spent second tried.1 tried.4;
}

-- ---- the victim is read

pub drawing_reads : (tail : Tail) (r : Renewal) → are_reads (victim_reads_for tail r) ≡ true
drawing_reads tail r = all_are_reads tail.geometry r.victim (payloads_of r.places)

seen_still : (calls : List DeviceEvent) → are_reads calls ≡ true → (seen : List ℕ) → seen_at_end calls seen ≡ seen
seen_still calls reads seen = by_calls calls (all_reading calls reads)
  where
    by_calls : (calls : List DeviceEvent) → AreReading calls → seen_at_end calls seen ≡ seen
    by_calls [] reading = refl
    by_calls (Read place count ∷ calls) reading = by_calls calls reading.1
    by_calls (FailedRead place count ∷ calls) reading = by_calls calls reading.1
    by_calls (Write place bytes ∷ calls) reading = absurd reading.0
    by_calls (FailedWrite place bytes left ∷ calls) reading = absurd reading.0
    by_calls (Sync ∷ calls) reading = absurd reading.0
    by_calls (FailedSync ∷ calls) reading = absurd reading.0

-- which doesn't affect the images of the head
pub headed : {image : List ℕ} (tail : Tail) (s : State (List ℕ)) (r : Renewal) → MayRenew image tail s r
    → IsLogged (seen_at_end (head_calls tail r) image) (tail_after_renewal tail r) s
headed {image} tail s r renews =
    subst (λ i. IsLogged i (tail_after_renewal tail r) s)
    (seen_joined (victim_reads_for tail r) (head_calls tail r) image ∙ ap (seen_at_end (head_calls tail r)) (seen_still (victim_reads_for tail r) (drawing_reads tail r) image))
    renews.logged

-- the model state after reads that all succeeded
abbrev pub drawn : World → List DeviceEvent → World
drawn w reads = record w { device = asked_all w.device reads }

module _ (w : World) (batches : List Batch) (reads : List DeviceEvent) (are : are_reads reads ≡ true) where
  pub drawn_led : Led (begun w batches) reads (λ v. v ≡ begun (drawn w reads) batches)
  drawn_led =
      let led = reads_led (begun w batches) (round_of_batches batches) reads (all_reading reads are) refl in
      record {
        events = led.events;
        serving = led.serving;
        next = led.next;
        run = led.run;
        device = led.device;
        ends = led.ends ∙ ap (λ b. record (begun w batches) {
          round = Some (record (round_of_batches batches) { read_failed = b });
          device = asked_all w.device reads;
        }) (none_fails false reads are);
      }

  pub drawn_reached : IsReached (begun w batches) → IsReached (begun (drawn w reads) batches)
  drawn_reached reached =
      subst IsReached drawn_led.ends (reached_more (begun w batches) drawn_led.next drawn_led.events reached drawn_led.run)

-- ---- the calls that were made on the disk

module _ (new : DiskState) (w : World) (batches : List Batch) (given : List Answer) (accepted : Commands) where
  -- a list was made completely, and then reads
  pub came_over : (row reads others : List DeviceEvent) → AreReading reads → AreReading others → IsDeviceOf new (asked_all w.device (row ++ reads))
      → Walks (IsPart w batches) (begun w batches) row (IsOver w (answered batches given) accepted)
      → Came (begun w batches) new (IsOver w (record (answered batches given) { read_failed = fails_by false others }) accepted)
  came_over row reads others reading other there walk =
      let round : Round = record (answered batches given) { stage = Answering } in
      came_then (begun w batches) new (IsOver w (answered batches given) accepted)
      (IsOver w (record (answered batches given) { read_failed = fails_by false others }) accepted)
      (came_whole (IsPart w batches) (begun w batches) new row row (IsOver w (answered batches given) accepted)
      (reads_before new (asked_all w.device row) reads reading (subst (IsDeviceOf new) (asked_joined w.device row reads) there)) walk refl)
      (λ m over here.
      came_to m new (λ v. v ≡ with_reads m round others) (IsOver w (record (answered batches given) { read_failed = fails_by false others }) accepted)
      (λ v is. record { device = asked_all over.device others; is = is ∙ ap (λ u. with_reads u round others) over.is })
      (came_reads m new round others other (ap (λ (u : World). u.round) over.is) here))

-- a write or a sync of it failed
pub came_broken : (new : DiskState) (w : World) (batches : List Batch) (spent : Bool) (row events : List DeviceEvent) (Ends : World → Type 0) → AllByRecursion AreWriting row
    → IsCut spent row events → IsDeviceOf new (asked_all w.device events) → Walks (IsPart w batches) (begun w batches) row Ends
    → Came (begun w batches) new (Broke (IsPart w batches))
came_broken new w batches spent row events Ends writing cut there walk =
    came_cut (IsPart w batches) (begun w batches) new row events Ends there walk spent writing cut

-- the same after the victim was read
module _ (new : DiskState) (w : World) (batches : List Batch) (reads : List DeviceEvent) (are : are_reads reads ≡ true) where
  pub drawn_device : (events : List DeviceEvent) → IsDeviceOf new (asked_all w.device (reads ++ events)) → IsDeviceOf new (asked_all (drawn w reads).device events)
  drawn_device events there = subst (IsDeviceOf new) (asked_joined w.device reads events) there

  pub drawn_over : (round : Round) (accepted : Commands) → Came (begun (drawn w reads) batches) new (IsOver (drawn w reads) round accepted)
      → Came (begun w batches) new (IsOver w round accepted)
  drawn_over round accepted came =
      came_after (begun w batches) (begun (drawn w reads) batches) new reads (IsOver w round accepted) (drawn_led w batches reads are)
      (came_to (begun (drawn w reads) batches) new (IsOver (drawn w reads) round accepted) (IsOver w round accepted)
      (λ v over. record { device = over.device; is = over.is }) came)

  pub drawn_broken : Came (begun (drawn w reads) batches) new (Broke (IsPart (drawn w reads) batches)) → Came (begun w batches) new (Broke (IsPart w batches))
  drawn_broken came =
      came_after (begun w batches) (begun (drawn w reads) batches) new reads (Broke (IsPart w batches)) (drawn_led w batches reads are)
      (came_to (begun (drawn w reads) batches) new (Broke (IsPart (drawn w reads) batches)) (Broke (IsPart w batches))
      (λ v broke. record {
        v = broke.v;
        is = record { stage = broke.is.stage; round = broke.is.round; device = broke.is.device; accepted = broke.is.accepted; is = broke.is.is };
        last = broke.last;
        new_is = broke.new_is;
      }) came)

-- the journal's disk is the device of that model state too
pub drawn_world : (old : DiskState) (w : World) (reads : List DeviceEvent) → are_reads reads ≡ true → IsDeviceOf old w.device → IsDeviceOf old (drawn w reads).device
drawn_world old w reads are is = reads_device old w.device reads (all_reading reads are) is
