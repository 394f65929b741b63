-- Reads of a device, done or failed, in the model of a relay.
use Rattle.std.proofs.Common.{◌≡◌, ◌++◌, ◌∙◌, Bool, true, false, List, [], ◌∷◌, Some, ap, refl, sym, subst, ⊎_elim}
use Rattle.std.specs.List.{AllByRecursion}
use Rattle.std.proofs.lemmas.Bool.{false≢true}
use Rattle.rly_disk.specs.DiskModel.{DiskState}
use Rattle.rly_disk.specs.Trace.{DeviceEvent, EndsAtFailure, EndsUncounted, FailedRead, FailedSync, FailedWrite, IsCut, IsFailed, Read, Sync, Write}
use Rattle.rly_disk.specs.Trace.{are_reads}
use Rattle.rly_world_relay.specs.Relay.{IsDeviceOf}
use Rattle.rly_world.specs.RelaySteps.{world_after_call, round_after_failed_read}
use Rattle.rly_world.specs.RelayWorld.{Device, Round, World, asked_of}
use Rattle.rly_world.proofs.RelayDevice.{asked_image, asked_seen, image_asked}
use Rattle.rly_world_relay.proofs.RelayDisks.{Came}
use Rattle.rly_world_relay.proofs.RelayWalks.{Led, asked_all, between_none, led_more}

-- a read, done or failed
abbrev pub IsReading : DeviceEvent → Type 0
IsReading (Read place count) = Unit {0}
IsReading (FailedRead place count) = Unit {0}
IsReading (Write place bytes) = ⊥
IsReading (FailedWrite place bytes left) = ⊥
IsReading Sync = ⊥
IsReading FailedSync = ⊥

abbrev pub AreReading : List DeviceEvent → Type 0
AreReading calls = AllByRecursion IsReading calls

-- true if a read failed before them, or one of them did
abbrev pub fails_by : Bool → List DeviceEvent → Bool
fails_by failed [] = failed
fails_by failed (Read place count ∷ calls) = fails_by failed calls
fails_by failed (FailedRead place count ∷ calls) = fails_by true calls
fails_by failed (Write place bytes ∷ calls) = fails_by failed calls
fails_by failed (FailedWrite place bytes left ∷ calls) = fails_by failed calls
fails_by failed (Sync ∷ calls) = fails_by failed calls
fails_by failed (FailedSync ∷ calls) = fails_by failed calls

fails_stays : (calls : List DeviceEvent) → fails_by true calls ≡ true
fails_stays [] = refl
fails_stays (Read place count ∷ calls) = fails_stays calls
fails_stays (FailedRead place count ∷ calls) = fails_stays calls
fails_stays (Write place bytes ∷ calls) = fails_stays calls
fails_stays (FailedWrite place bytes left ∷ calls) = fails_stays calls
fails_stays (Sync ∷ calls) = fails_stays calls
fails_stays (FailedSync ∷ calls) = fails_stays calls

fails_more : (failed : Bool) (calls : List DeviceEvent) → fails_by false calls ≡ true → fails_by failed calls ≡ true
fails_more true calls fails = fails_stays calls
fails_more false calls fails = fails

fails_joined : (failed : Bool) (first second : List DeviceEvent) → fails_by failed (first ++ second) ≡ fails_by (fails_by failed first) second
fails_joined failed [] second = refl
fails_joined failed (Read place count ∷ first) second = fails_joined failed first second
fails_joined failed (FailedRead place count ∷ first) second = fails_joined true first second
fails_joined failed (Write place bytes ∷ first) second = fails_joined failed first second
fails_joined failed (FailedWrite place bytes left ∷ first) second = fails_joined failed first second
fails_joined failed (Sync ∷ first) second = fails_joined failed first second
fails_joined failed (FailedSync ∷ first) second = fails_joined failed first second

-- one of the first, or one of the others
pub fails_first : (first second : List DeviceEvent) → fails_by false first ≡ true → fails_by false (first ++ second) ≡ true
fails_first first second fails = fails_joined false first second ∙ ap (λ b. fails_by b second) fails ∙ fails_stays second

pub fails_later : (first second : List DeviceEvent) → fails_by false second ≡ true → fails_by false (first ++ second) ≡ true
fails_later first second fails = fails_joined false first second ∙ fails_more (fails_by false first) second fails

pub reading_both : (first second : List DeviceEvent) → AreReading first → AreReading second → AreReading (first ++ second)
reading_both [] second one two = two
reading_both (call ∷ first) second one two = (one.0, reading_both first second one.1 two)

-- ---- reads that were to be made

pub reads_front : (first second : List DeviceEvent) → are_reads (first ++ second) ≡ true → (are_reads first ≡ true) × (are_reads second ≡ true)
reads_front [] second reads = (refl, reads)
reads_front (Read place count ∷ first) second reads = reads_front first second reads
reads_front (call ∷ first) second reads = absurd (false≢true reads)

pub all_reading : (calls : List DeviceEvent) → are_reads calls ≡ true → AreReading calls
all_reading [] reads = tt
all_reading (Read place count ∷ calls) reads = (tt, all_reading calls reads)
all_reading (call ∷ calls) reads = absurd (false≢true reads)

-- all were made without failure
pub none_fails : (failed : Bool) (calls : List DeviceEvent) → are_reads calls ≡ true → fails_by failed calls ≡ failed
none_fails failed [] reads = refl
none_fails failed (Read place count ∷ calls) reads = none_fails failed calls reads
none_fails failed (call ∷ calls) reads = absurd (false≢true reads)

-- a read, failed
abbrev pub failed_read : DeviceEvent → DeviceEvent
failed_read (Read place count) = FailedRead place count
failed_read (FailedRead place count) = FailedRead place count
failed_read (Write place bytes) = Write place bytes
failed_read (FailedWrite place bytes left) = FailedWrite place bytes left
failed_read Sync = Sync
failed_read FailedSync = FailedSync

-- some were made up to a failed one; with that one, if it wasn't counted
pub record FailsAt (events : List DeviceEvent) : Type 0 where
  pub calls : List DeviceEvent
  pub reading : AreReading calls
  pub fails : fails_by false calls ≡ true

last_fails : (call last : DeviceEvent) (rest : List DeviceEvent) → IsFailed call last → are_reads (call ∷ rest) ≡ true → IsReading last × (fails_by false (last ∷ []) ≡ true)
last_fails (Read place count) last rest failed reads = subst (λ e. IsReading e × (fails_by false (e ∷ []) ≡ true)) (sym failed) (tt, refl)
last_fails (FailedRead place count) last rest failed reads = absurd (false≢true reads)
last_fails (Write place bytes) last rest failed reads = absurd (false≢true reads)
last_fails (FailedWrite place bytes left) last rest failed reads = absurd (false≢true reads)
last_fails Sync last rest failed reads = absurd (false≢true reads)
last_fails FailedSync last rest failed reads = absurd (false≢true reads)

next_fails : (call : DeviceEvent) (rest : List DeviceEvent) → are_reads (call ∷ rest) ≡ true → IsReading (failed_read call) × (fails_by false (failed_read call ∷ []) ≡ true)
next_fails (Read place count) rest reads = (tt, refl)
next_fails (FailedRead place count) rest reads = absurd (false≢true reads)
next_fails (Write place bytes) rest reads = absurd (false≢true reads)
next_fails (FailedWrite place bytes left) rest reads = absurd (false≢true reads)
next_fails Sync rest reads = absurd (false≢true reads)
next_fails FailedSync rest reads = absurd (false≢true reads)

pub fails_at : (spent : Bool) (calls events : List DeviceEvent) → are_reads calls ≡ true → IsCut spent calls events → AreReading events × FailsAt events
fails_at spent calls events reads cut = ⊎_elim
    (λ (f : EndsAtFailure calls events).
    let parts = reads_front f.done (f.call ∷ f.rest) (ap are_reads (sym f.calls_are) ∙ reads) in
    let last = last_fails f.call f.last f.rest f.failed parts.1 in
    let reading : AreReading events = subst AreReading (sym f.events_are) (reading_both f.done (f.last ∷ []) (all_reading f.done parts.0) (last.0, tt)) in (
      reading,
      record { calls = events; reading = reading; fails = ap (fails_by false) f.events_are ∙ fails_later f.done (f.last ∷ []) last.1 },
    ))
    (λ (s : (spent ≡ true) × EndsUncounted calls events).
    let parts = reads_front events (s.1.call ∷ s.1.rest) (ap are_reads (sym s.1.calls_are) ∙ reads) in
    let next = next_fails s.1.call s.1.rest parts.1 in
    let reading : AreReading events = all_reading events parts.0 in (
      reading,
      record {
        calls = events ++ failed_read s.1.call ∷ [];
        reading = reading_both events (failed_read s.1.call ∷ []) reading (next.0, tt);
        fails = fails_later events (failed_read s.1.call ∷ []) next.1;
      },
    ))
    cut

-- ---- their effect

-- a device reads as before, and has no new crash image
module _ (disk : DiskState) where
  pub reads_device : (device : Device) (calls : List DeviceEvent) → AreReading calls → IsDeviceOf disk device → IsDeviceOf disk (asked_all device calls)
  reads_device device [] reading is = is
  reads_device device (Read place count ∷ calls) reading is = reads_device (asked_of device (Read place count)) calls reading.1 (record {
    seen = is.seen ∙ sym (asked_seen device (Read place count));
    images = λ c now. image_asked device (Read place count) c (is.images c now);
  })
  reads_device device (FailedRead place count ∷ calls) reading is = reads_device (asked_of device (FailedRead place count)) calls reading.1 (record {
    seen = is.seen ∙ sym (asked_seen device (FailedRead place count));
    images = λ c now. image_asked device (FailedRead place count) c (is.images c now);
  })
  reads_device device (Write place bytes ∷ calls) reading is = absurd reading.0
  reads_device device (FailedWrite place bytes left ∷ calls) reading is = absurd reading.0
  reads_device device (Sync ∷ calls) reading is = absurd reading.0
  reads_device device (FailedSync ∷ calls) reading is = absurd reading.0

  pub reads_before : (device : Device) (calls : List DeviceEvent) → AreReading calls → IsDeviceOf disk (asked_all device calls) → IsDeviceOf disk device
  reads_before device [] reading is = is
  reads_before device (Read place count ∷ calls) reading is =
      let then = reads_before (asked_of device (Read place count)) calls reading.1 is in
      record {
        seen = then.seen ∙ asked_seen device (Read place count);
        images = λ c now. asked_image device (Read place count) c (then.images c now);
      }
  reads_before device (FailedRead place count ∷ calls) reading is =
      let then = reads_before (asked_of device (FailedRead place count)) calls reading.1 is in
      record {
        seen = then.seen ∙ asked_seen device (FailedRead place count);
        images = λ c now. asked_image device (FailedRead place count) c (then.images c now);
      }
  reads_before device (Write place bytes ∷ calls) reading is = absurd reading.0
  reads_before device (FailedWrite place bytes left ∷ calls) reading is = absurd reading.0
  reads_before device (Sync ∷ calls) reading is = absurd reading.0
  reads_before device (FailedSync ∷ calls) reading is = absurd reading.0

-- the bytes at its last sync are unchanged
pub reads_synced : (device : Device) (calls : List DeviceEvent) → AreReading calls → (asked_all device calls).synced ≡ device.synced
reads_synced device [] reading = refl
reads_synced device (Read place count ∷ calls) reading = reads_synced (asked_of device (Read place count)) calls reading.1
reads_synced device (FailedRead place count ∷ calls) reading = reads_synced (asked_of device (FailedRead place count)) calls reading.1
reads_synced device (Write place bytes ∷ calls) reading = absurd reading.0
reads_synced device (FailedWrite place bytes left ∷ calls) reading = absurd reading.0
reads_synced device (Sync ∷ calls) reading = absurd reading.0
reads_synced device (FailedSync ∷ calls) reading = absurd reading.0

-- ---- reads for a round

-- a model state whose round made them
abbrev pub with_reads : World → Round → List DeviceEvent → World
with_reads w round calls = record w {
  round = Some (record round { read_failed = fails_by round.read_failed calls });
  device = asked_all w.device calls;
}

pub reads_led : (w : World) (round : Round) (calls : List DeviceEvent) → AreReading calls → w.round ≡ Some round
    → Led w calls (λ v. v ≡ with_reads w round calls)
reads_led w round [] reading is = record {
  events = [];
  serving = tt;
  next = w;
  run = refl;
  device = refl;
  ends = ap (λ r. record w { round = r }) is;
}
reads_led w round (Read place count ∷ calls) reading is =
    led_more w w (Read place count) calls (λ v. v ≡ with_reads w round (Read place count ∷ calls)) (between_none w) (round, is, tt)
    (reads_led (world_after_call w (Read place count)) round calls reading.1 is)
reads_led w round (FailedRead place count ∷ calls) reading is =
    led_more w w (FailedRead place count) calls (λ v. v ≡ with_reads w round (FailedRead place count ∷ calls)) (between_none w) (round, is, tt)
    (reads_led (world_after_call w (FailedRead place count)) (record round { read_failed = true }) calls reading.1 (ap round_after_failed_read is))
reads_led w round (Write place bytes ∷ calls) reading is = absurd reading.0
reads_led w round (FailedWrite place bytes left ∷ calls) reading is = absurd reading.0
reads_led w round (Sync ∷ calls) reading is = absurd reading.0
reads_led w round (FailedSync ∷ calls) reading is = absurd reading.0

pub came_reads : (w : World) (new : DiskState) (round : Round) (calls : List DeviceEvent) → AreReading calls → w.round ≡ Some round → IsDeviceOf new w.device
    → Came w new (λ v. v ≡ with_reads w round calls)
came_reads w new round calls reading is there =
    let led = reads_led w round calls reading is in
    record { calls = calls; led = led; device = subst (IsDeviceOf new) (sym led.device) (reads_device new w.device calls reading there) }
