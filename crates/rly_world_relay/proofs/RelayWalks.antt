-- Calls of a device that are events of a model in order, each of which may fail.
use Rattle.std.proofs.Common.{◌≡◌, ◌++◌, ◌∙◌, List, [], ◌∷◌, Option, Some, None, ap, refl, sym, subst, inl}
use Rattle.std.specs.List.{AllByRecursion}
use Rattle.rly_disk.specs.Trace.{DeviceEvent, FailedRead, FailedSync, FailedWrite, IsFailed, Read, Sync, Write}
use Rattle.rly_world_relay.specs.RelayRounds.{IsServing}
use Rattle.rly_world.specs.RelaySteps.{Event, MayCall, Run, world_after_failure, world_after_call, on_device, synced_at, synced_in}
use Rattle.rly_world.specs.RelaySteps as event
use Rattle.rly_world.specs.RelayWorld.{Answering, Device, Ready, Round, Stage, Taking, World, Writing, asked_of}
use Rattle.rly_world_relay.proofs.RelayShows.{run_joined}

-- a device after calls
abbrev pub asked_all : Device → List DeviceEvent → Device
asked_all device [] = device
asked_all device (call ∷ calls) = asked_all (asked_of device call) calls

pub asked_joined : (device : Device) (first second : List DeviceEvent) → asked_all device (first ++ second) ≡ asked_all (asked_all device first) second
asked_joined device [] second = refl
asked_joined device (call ∷ first) second = asked_joined (asked_of device call) first second

-- events of the committer without device calls lead from one model state to another
pub record Between (old new : World) : Type 0 where
  pub events : List Event
  pub serving : AllByRecursion IsServing events
  pub run : Run old events new
  pub device : new.device ≡ old.device

-- each call is possible, after events of the committer, in a model state with a property; and at the end another
-- property holds
abbrev pub Walks : (World → Type 0) → World → List DeviceEvent → (World → Type 0) → Type 0
Walks Is w [] Ends = (v : World) × Between w v × Ends v
Walks Is w (call ∷ calls) Ends = (v : World) × Between w v × Is v × MayCall v call × Walks Is (world_after_call v call) calls Ends

-- the result of events, and the device calls among them
pub record Led (w : World) (calls : List DeviceEvent) (Ends : World → Type 0) : Type 0 where
  pub events : List Event
  pub serving : AllByRecursion IsServing events
  pub next : World
  pub run : Run w events next
  pub device : next.device ≡ asked_all w.device calls
  pub ends : Ends next

device_synced : (w : World) (stage : Stage) → (synced_at w stage).device ≡ w.device
device_synced w Taking = refl
device_synced w Ready = refl
device_synced w Answering = refl
device_synced w (Writing phase) = refl

device_in : (w : World) (round : Option Round) → (synced_in w round).device ≡ w.device
device_in w None = refl
device_in w (Some round) = device_synced w round.stage

-- a call has the same effect on the device of a model
device_called : (w : World) (call : DeviceEvent) → (world_after_call w call).device ≡ asked_of w.device call
device_called w (Read place count) = refl
device_called w (FailedRead place count) = refl
device_called w (Write place bytes) = refl
device_called w (FailedWrite place bytes left) = refl
device_called w Sync = device_in (on_device w Sync) w.round
device_called w FailedSync = refl

all_joined : {A : Type 0} (P : A → Type 0) (first second : List A) → AllByRecursion P first → AllByRecursion P second → AllByRecursion P (first ++ second)
all_joined P [] second one two = two
all_joined P (x ∷ first) second one two = (one.0, all_joined P first second one.1 two)

run_called : (w : World) (call : DeviceEvent) (events : List Event) (new : World) → event.HasPlace w (event.Calls call) → Run (world_after_call w call) events new
    → Run w (event.Calls call ∷ events) new
run_called w call events new may rest = (world_after_call w call, inl (may, refl), rest)

-- one more call
pub led_more : (w v : World) (call : DeviceEvent) (calls : List DeviceEvent) (Ends : World → Type 0) → Between w v → event.HasPlace v (event.Calls call)
    → Led (world_after_call v call) calls Ends → Led w (call ∷ calls) Ends
led_more w v call calls Ends between may led = record {
  events = between.events ++ (event.Calls call ∷ led.events);
  serving = all_joined IsServing between.events (event.Calls call ∷ led.events) between.serving (tt, led.serving);
  next = led.next;
  run = run_joined w v led.next between.events (event.Calls call ∷ led.events) between.run (run_called v call led.events led.next may led.run);
  device = led.device ∙ ap (λ d. asked_all d calls) (device_called v call ∙ ap (λ d. asked_of d call) between.device);
  ends = led.ends;
}

-- events after events, which lead to the same model state
pub led_joined : (w m : World) (first second : List DeviceEvent) (events : List Event) → AllByRecursion IsServing events → Run w events m
    → m.device ≡ asked_all w.device first → (Ends : World → Type 0) (led : Led m second Ends) → (all : Led w (first ++ second) Ends) × (led.next ≡ all.next)
led_joined w m first second events serving run device Ends led = (
  record {
    events = events ++ led.events;
    serving = all_joined IsServing events led.events serving led.serving;
    next = led.next;
    run = run_joined w m led.next events led.events run led.run;
    device = led.device ∙ ap (λ d. asked_all d second) device ∙ sym (asked_joined w.device first second);
    ends = led.ends;
  },
  refl,
)

-- all calls are made
pub walked : (Is : World → Type 0) (w : World) (calls : List DeviceEvent) (Ends : World → Type 0) → Walks Is w calls Ends → Led w calls Ends
walked Is w [] Ends walk = record {
  events = walk.1.events;
  serving = walk.1.serving;
  next = walk.0;
  run = walk.1.run;
  device = walk.1.device;
  ends = walk.2;
}
walked Is w (call ∷ calls) Ends walk =
    led_more w walk.0 call calls Ends walk.1 walk.3 (walked Is (world_after_call walk.0 call) calls Ends walk.4)

-- at the end of a walk, with the events that led there
abbrev pub Known : World → List DeviceEvent → (World → Type 0) → World → Type 0
Known w calls Ends v = (led : Led w calls Ends) × (led.next ≡ v)

pub known_more : (Is : World → Type 0) (w : World) (calls : List DeviceEvent) (Ends : World → Type 0) → Walks Is w calls Ends
    → Walks Is w calls (Known w calls Ends)
unfolding led_more
known_more Is w [] Ends walk = (
  walk.0,
  walk.1,
  (
    record {
      events = walk.1.events;
      serving = walk.1.serving;
      next = walk.0;
      run = walk.1.run;
      device = walk.1.device;
      ends = walk.2;
    },
    refl,
  ),
)
known_more Is w (call ∷ calls) Ends walk = (
  walk.0,
  walk.1,
  walk.2,
  walk.3,
  to_known Is (event.world_after_call walk.0 call) calls (Known (event.world_after_call walk.0 call) calls Ends) (Known w (call ∷ calls) Ends)
      (λ v known. (led_more w walk.0 call calls Ends walk.1 walk.3 known.0, known.1))
      (known_more Is (event.world_after_call walk.0 call) calls Ends walk.4),
)
  where
    to_known : (Is : World → Type 0) (w : World) (calls : List DeviceEvent) (Ends Others : World → Type 0) → ((v : World) → Ends v → Others v)
        → Walks Is w calls Ends → Walks Is w calls Others
    to_known Is w [] Ends Others to walk = (walk.0, walk.1, to walk.0 walk.2)
    to_known Is w (call ∷ calls) Ends Others to walk =
        (walk.0, walk.1, walk.2, walk.3, to_known Is (event.world_after_call walk.0 call) calls Ends Others to walk.4)

-- a relay that broke in a model state with a property
pub record Broke (Is : World → Type 0) (new : World) : Type 0 where
  pub v : World
  pub is : Is v
  pub last : DeviceEvent
  pub new_is : new ≡ world_after_failure (on_device v last)

-- the calls are writes and syncs
abbrev pub AreWriting : DeviceEvent → Type 0
AreWriting (Read place count) = ⊥
AreWriting (FailedRead place count) = ⊥
AreWriting (Write place bytes) = Unit {0}
AreWriting (FailedWrite place bytes left) = ⊥
AreWriting Sync = Unit {0}
AreWriting FailedSync = ⊥

-- a failed write or sync is possible if the call was
may_fail : (v : World) (call last : DeviceEvent) → AreWriting call → IsFailed call last → MayCall v call → MayCall v last
may_fail v (Write place bytes) last writes fails may = subst (MayCall v) (sym fails.1) may
may_fail v Sync last writes fails may = subst (MayCall v) (sym fails) may
may_fail v (Read place count) last writes fails may = absurd writes
may_fail v (FailedRead place count) last writes fails may = absurd writes
may_fail v (FailedWrite place bytes left) last writes fails may = absurd writes
may_fail v FailedSync last writes fails may = absurd writes

broke_by : (v : World) (call last : DeviceEvent) → AreWriting call → IsFailed call last → world_after_call v last ≡ world_after_failure (on_device v last)
broke_by v (Write place bytes) last writes fails = subst (λ l. world_after_call v l ≡ world_after_failure (on_device v l)) (sym fails.1) refl
broke_by v Sync last writes fails = subst (λ l. world_after_call v l ≡ world_after_failure (on_device v l)) (sym fails) refl
broke_by v (Read place count) last writes fails = absurd writes
broke_by v (FailedRead place count) last writes fails = absurd writes
broke_by v (FailedWrite place bytes left) last writes fails = absurd writes
broke_by v FailedSync last writes fails = absurd writes

-- the first calls are made, and the next one fails
pub cut_walk : (Is : World → Type 0) (w : World) (done rest : List DeviceEvent) (call last : DeviceEvent) (Ends : World → Type 0)
    → AreWriting call → IsFailed call last → Walks Is w (done ++ call ∷ rest) Ends → Led w (done ++ last ∷ []) (Broke Is)
cut_walk Is w [] rest call last Ends writes fails walk =
    led_more w walk.0 last [] (Broke Is) walk.1 (may_fail walk.0 call last writes fails walk.3) (record {
      events = [];
      serving = tt;
      next = world_after_call walk.0 last;
      run = refl;
      device = refl;
      ends = record { v = walk.0; is = walk.2; last = last; new_is = broke_by walk.0 call last writes fails };
    })
cut_walk Is w (first ∷ done) rest call last Ends writes fails walk =
    led_more w walk.0 first (done ++ last ∷ []) (Broke Is) walk.1 walk.3
    (cut_walk Is (world_after_call walk.0 first) done rest call last Ends writes fails walk.4)

-- ---- one walk after the other

pub between_none : (w : World) → Between w w
between_none w = record { events = []; serving = tt; run = refl; device = refl }

pub between_one : (w : World) (e : Event) → IsServing e → event.HasPlace w e → (event.world_after w e).device ≡ w.device → Between w (event.world_after w e)
between_one w e serves may same = record {
  events = e ∷ [];
  serving = (serves, tt);
  run = (event.world_after w e, inl (may, refl), refl);
  device = same;
}

between_joined : (old mid new : World) → Between old mid → Between mid new → Between old new
between_joined old mid new one two = record {
  events = one.events ++ two.events;
  serving = all_joined IsServing one.events two.events one.serving two.serving;
  run = run_joined old mid new one.events two.events one.run two.run;
  device = two.device ∙ one.device;
}

pub walks_from : (Is : World → Type 0) (w v : World) (calls : List DeviceEvent) (Ends : World → Type 0) → Between w v → Walks Is v calls Ends → Walks Is w calls Ends
walks_from Is w v [] Ends between walk = (walk.0, between_joined w v walk.0 between walk.1, walk.2)
walks_from Is w v (call ∷ calls) Ends between walk = (walk.0, between_joined w v walk.0 between walk.1, walk.2, walk.3, walk.4)

pub walks_joined : (Is : World → Type 0) (w : World) (first second : List DeviceEvent) (Mid Ends : World → Type 0) → Walks Is w first Mid
    → ((m : World) → Mid m → Walks Is m second Ends) → Walks Is w (first ++ second) Ends
walks_joined Is w [] second Mid Ends walk next = walks_from Is w walk.0 second Ends walk.1 (next walk.0 walk.2)
walks_joined Is w (call ∷ first) second Mid Ends walk next =
    (walk.0, walk.1, walk.2, walk.3, walks_joined Is (world_after_call walk.0 call) first second Mid Ends walk.4 next)
