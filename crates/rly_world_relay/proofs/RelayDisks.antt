-- The device of the model after a list of calls.
use Rattle.std.proofs.Common.{ℕ, zero, suc, ◌≡◌, ◌+◌, ◌++◌, ◌∙◌, Bool, List, [], ◌∷◌, length, take, drop, arith, ap, refl, sym, subst, ⊎_elim}
use Rattle.std.specs.List.{AllByRecursion}
use Rattle.std.proofs.lemmas.List.{append-nil, take-append-drop}
use Rattle.rly_disk.specs.DiskModel.{DiskState, bytes_after_write}
use Rattle.rly_disk.specs.Trace.{DeviceEvent, FailedRead, FailedSync, FailedWrite, IsCut, IsFailed, Read, Sync, Write}
use Rattle.rly_disk.specs.Trace.{images_after, images_at_end, seen_after, seen_at_end}
use Rattle.rly_disk.specs.Trace as trace
use Rattle.rly_disk.proofs.Traces.{end_grows}
use Rattle.rly_world_relay.specs.Relay.{IsDeviceOf}
use Rattle.rly_world.specs.RelaySteps.{Run}
use Rattle.rly_world.specs.RelayWorld.{Device, IsImageOf, World, asked_of, seen_of}
use Rattle.rly_world.proofs.RelayDevice.{asked_seen, image_asked}
use Rattle.rly_world_relay.proofs.RelayWalks.{AreWriting, Broke, Led, Walks, asked_all, asked_joined, cut_walk, led_joined, walked}

pub all_seen : (device : Device) (calls : List DeviceEvent) → seen_of (asked_all device calls) ≡ seen_at_end calls (seen_of device)
all_seen device [] = refl
all_seen device (call ∷ calls) = all_seen (asked_of device call) calls ∙ ap (seen_at_end calls) (asked_seen device call)

pub all_images : (device : Device) (calls : List DeviceEvent) (c : List ℕ) → images_at_end calls (seen_of device) (IsImageOf device) c → IsImageOf (asked_all device calls) c
all_images device [] c image = image
all_images device (call ∷ calls) c image =
    all_images (asked_of device call) calls c
    (subst (λ s. images_at_end calls s (IsImageOf (asked_of device call)) c) (sym (asked_seen device call))
    (end_grows calls (seen_after call (seen_of device)) (images_after call (seen_of device) (IsImageOf device)) (IsImageOf (asked_of device call))
    (image_asked device call) c image))

-- a disk behaves like the device of its model
pub device_goes_on : (old new : DiskState) (device : Device) (calls : List DeviceEvent) → old.honest → trace.Leads calls old new → IsDeviceOf old device
    → IsDeviceOf new (asked_all device calls)
device_goes_on old new device calls honest leads is =
    let follows = leads.follows honest in
    record {
      seen = follows.seen ∙ ap (seen_at_end calls) is.seen ∙ sym (all_seen device calls);
      images = λ c now. all_images device calls c
          (subst (λ s. images_at_end calls s (IsImageOf device) c) is.seen
          (end_grows calls old.seen old.images (IsImageOf device) is.images c (follows.images c now)));
    }

-- ---- a call that failed, and wasn't counted

-- the same call, failed, with nothing written
abbrev quiet : DeviceEvent → DeviceEvent
quiet (Read place count) = FailedRead place count
quiet (FailedRead place count) = FailedRead place count
quiet (Write place bytes) = FailedWrite place bytes []
quiet (FailedWrite place bytes left) = FailedWrite place bytes []
quiet Sync = FailedSync
quiet FailedSync = FailedSync

quiet_fails : (call : DeviceEvent) → AreWriting call → IsFailed call (quiet call)
quiet_fails (Write place bytes) writes = ([], refl)
quiet_fails Sync writes = refl
quiet_fails (Read place count) writes = absurd writes
quiet_fails (FailedRead place count) writes = absurd writes
quiet_fails (FailedWrite place bytes left) writes = absurd writes
quiet_fails FailedSync writes = absurd writes

nothing_put : (place : ℕ) (seen : List ℕ) → bytes_after_write place [] seen ≡ seen
nothing_put place seen =
    ap (λ l. l ++ drop (place + 0) seen) (append-nil (take place seen))
    ∙ ap (λ n. take place seen ++ drop n seen) (let e : place + 0 ≡ place = omega arith in e) ∙ take-append-drop place seen

quiet_seen : (call : DeviceEvent) (seen : List ℕ) → AreWriting call → seen_after (quiet call) seen ≡ seen
quiet_seen (Write place bytes) seen writes = ap (λ l. bytes_after_write place l seen) (let e : take (length bytes) [] ≡ [] = take_none (length bytes) in e) ∙ nothing_put place seen
  where
    take_none : (n : ℕ) → take n (let l : List ℕ = [] in l) ≡ []
    take_none zero = refl
    take_none (suc n) = refl
quiet_seen Sync seen writes = refl
quiet_seen (Read place count) seen writes = absurd writes
quiet_seen (FailedRead place count) seen writes = absurd writes
quiet_seen (FailedWrite place bytes left) seen writes = absurd writes
quiet_seen FailedSync seen writes = absurd writes

quiet_images : (call : DeviceEvent) (seen : List ℕ) (I : List ℕ → Type 0) (c : List ℕ) → AreWriting call → I c → images_after (quiet call) seen I c
quiet_images (Write place bytes) seen I c writes image = (c, image, record { same_length = refl; each = λ i out. refl })
quiet_images Sync seen I c writes image = image
quiet_images (Read place count) seen I c writes image = absurd writes
quiet_images (FailedRead place count) seen I c writes image = absurd writes
quiet_images (FailedWrite place bytes left) seen I c writes image = absurd writes
quiet_images FailedSync seen I c writes image = absurd writes

quiet_device : (disk : DiskState) (device : Device) (call : DeviceEvent) → AreWriting call → IsDeviceOf disk device → IsDeviceOf disk (asked_of device (quiet call))
quiet_device disk device call writes is = record {
  seen = is.seen ∙ sym (asked_seen device (quiet call) ∙ quiet_seen call (seen_of device) writes);
  images = λ c now. image_asked device (quiet call) c (quiet_images call (seen_of device) (IsImageOf device) c writes (is.images c now));
}

-- ---- a list of calls that was made on a disk, and walked in its model

-- the result of the committer's events, in the model of a disk
pub record Came (w : World) (new : DiskState) (Ends : World → Type 0) : Type 0 where
  pub calls : List DeviceEvent
  pub led : Led w calls Ends
  pub device : IsDeviceOf new led.next.device

-- and then more of them
pub came_then : (w : World) (new : DiskState) (Mid Ends : World → Type 0) (one : Came w new Mid)
    → ((m : World) → Mid m → IsDeviceOf new m.device → Came m new Ends) → Came w new Ends
came_then w new Mid Ends one next =
    let two = next one.led.next one.led.ends one.device in
    let all = led_joined w one.led.next one.calls two.calls one.led.events one.led.serving one.led.run one.led.device Ends two.led in
    record {
      calls = one.calls ++ two.calls;
      led = all.0;
      device = subst (λ (u : World). IsDeviceOf new u.device) all.1 two.device;
    }

-- after events that led to a model state
pub came_after : (w m : World) (new : DiskState) (first : List DeviceEvent) (Ends : World → Type 0) → Led w first (λ v. v ≡ m) → Came m new Ends → Came w new Ends
came_after w m new first Ends led came =
    let all = led_joined w m first came.calls led.events led.serving (subst (Run w led.events) led.ends led.run)
    (ap (λ (u : World). u.device) (sym led.ends) ∙ led.device) Ends came.led in
    record { calls = first ++ came.calls; led = all.0; device = subst (λ (u : World). IsDeviceOf new u.device) all.1 came.device }

-- the same to another end
pub came_to : (w : World) (new : DiskState) (Ends Others : World → Type 0) → ((v : World) → Ends v → Others v) → Came w new Ends → Came w new Others
came_to w new Ends Others to came = record {
  calls = came.calls;
  led = record {
    events = came.led.events;
    serving = came.led.serving;
    next = came.led.next;
    run = came.led.run;
    device = came.led.device;
    ends = to came.led.next came.led.ends;
  };
  device = came.device;
}

module _ (Is : World → Type 0) (w : World) (new : DiskState) (calls events : List DeviceEvent) (Ends : World → Type 0)
    (there : IsDeviceOf new (asked_all w.device events)) (walk : Walks Is w calls Ends) where
  pub came_whole : events ≡ calls → Came w new Ends
  came_whole all =
      let led = walked Is w calls Ends walk in
      record {
        calls = calls;
        led = led;
        device = subst (IsDeviceOf new) (ap (asked_all w.device) all ∙ sym led.device) there;
      }

  pub came_cut : (spent : Bool) → AllByRecursion AreWriting calls → IsCut spent calls events → Came w new (Broke Is)
  came_cut spent writing cut = ⊎_elim
      (λ failed.
      let led = cut_walk Is w failed.done failed.rest failed.call failed.last Ends (writing_at failed.done failed.call failed.rest (subst (AllByRecursion AreWriting) failed.calls_are writing))
      failed.failed (subst (λ l. Walks Is w l Ends) failed.calls_are walk) in
      record {
        calls = failed.done ++ failed.last ∷ [];
        led = led;
        device = subst (IsDeviceOf new) (ap (asked_all w.device) failed.events_are ∙ sym led.device) there;
      })
      (λ uncounted.
      let last = uncounted.1 in
      let writes = writing_at events last.call last.rest (subst (AllByRecursion AreWriting) last.calls_are writing) in
      let led = cut_walk Is w events last.rest last.call (quiet last.call) Ends writes (quiet_fails last.call writes) (subst (λ l. Walks Is w l Ends) last.calls_are walk) in
      record {
        calls = events ++ quiet last.call ∷ [];
        led = led;
        device = subst (IsDeviceOf new) (sym (asked_joined w.device events (quiet last.call ∷ [])) ∙ sym led.device)
            (quiet_device new (asked_all w.device events) last.call writes there);
      })
      cut
    where
      writing_at : (done : List DeviceEvent) (call : DeviceEvent) (rest : List DeviceEvent) → AllByRecursion AreWriting (done ++ call ∷ rest) → AreWriting call
      writing_at [] call rest all = all.0
      writing_at (first ∷ done) call rest all = writing_at done call rest all.1
