-- A round of a relay, as the events of its model.
use Rattle.std.proofs.Common.{ℕ, ◌≡◌, ◌≢◌, ◌++◌, ◌∙◌, Bool, true, false, List, [], ◌∷◌, Option, None, length, arith, ap, refl, sym, subst}
use Rattle.std.specs.Prelude.{◌||◌, not}
use Rattle.std.specs.List.{AllByRecursion}
use Rattle.rly_disk.specs.MemDisk.{mem_state}
use Rattle.rly_disk.specs.declared.mem.MemDisk.{MemDisk}
use Rattle.rly_machine.specs.declared.call.Answer.{Answer}
use Rattle.rly_machine.specs.declared.call.Call.{Call}
use Rattle.rly_journal.specs.Journal.{JournalState}
use Rattle.rly_world.specs.RelaySteps.{Event, Run, all_replied}
use Rattle.rly_world.specs.RelayWorld.{Batch, SeatView, World, calls_of}
use Rattle.rly_world_relay.specs.HelpersRounds.{Gathered, IsWorldOf, Serves, round_of, taken_world}
use Rattle.rly_world_relay.specs.Relay.{IsDeviceOf, IsReached, IsSpoolOf, RelayState, Shows, disk_in}
use Rattle.rly_world_relay.specs.RelayRounds.{Gathers, IsServing, may_take}
use Rattle.rly_world_relay.specs.Steps.{HappenedRound, LeadsRound}
use Rattle.rly_world_relay.specs.declared.spool.Spool.TheVariants.{Opened, Shut}
use Rattle.rly_world_relay.proofs.RelayReplies.{answering, puts}
use Rattle.rly_world_relay.proofs.RelayShows.{reached_more, run_joined}
use Rattle.rly_world_relay.proofs.RelayTakes.{some_calls}
use Rattle.rly_world_relay.proofs.RelayTurns.{TheDisk}

-- taking is a run
gathered_run : (most : ℕ) (w : World) (takes : List Event) (new : World) → Gathers most w takes new → Run w takes new
gathered_run most w [] new gathers = gathers.1
gathered_run most w (event ∷ takes) new gathers =
    subst (λ e. Run w (e ∷ takes) new) (sym gathers.1)
    (gathers.2.0, gathers.2.1, gathered_run most gathers.2.0 takes new gathers.2.2)

shut_enough : (x y z : Bool) → y ≡ false → (x || not y || not z) ≡ true
shut_enough x y z shut = ap (λ n. x || not n || not z) shut ∙ by_first x
  where
    by_first : (b : Bool) → (b || not false || not z) ≡ true
    by_first true = refl
    by_first false = refl

pub none_of : (calls : List Call) → length calls ≡ 0 → calls ≡ []
none_of [] none = refl
none_of (call ∷ calls) none = absurd (omega (arith, none))

-- a relay that isn't open
pub round_shut : (most : ℕ) (old : RelayState) (disk : MemDisk) → old.spool ≡ Shut disk → HappenedRound most old old
round_shut most old disk shut w shows = record {
  next = w;
  rounds = record {
    takes = [];
    taken = w;
    gathers = (shut_enough _ w.is_open (may_take w.kept w.line w.round) (subst (λ s. IsSpoolOf s w) shut shows.spool).0, refl);
    events = [];
    serving = tt;
    run = refl;
    over = shows.round;
  };
  shows = shows;
}

-- the batches that are taken in the model of a relay
abbrev pub GathersIn : ℕ → RelayState → Option Batch → List Batch → List Call → Type 0
GathersIn most old kept line calls = (w : World) → w.kept ≡ old.kept → w.line ≡ old.line → w.round ≡ None → w.is_open ≡ true
    → Gathered most w kept line calls

module _ (most : ℕ) (old : RelayState) (journal : JournalState TheDisk) (opened : old.spool ≡ Opened journal)
    (kept : Option Batch) (line : List Batch) (calls : List Call) (gathers : GathersIn most old kept line calls) where
  spool_in : (w : World) → Shows old w → IsSpoolOf (Opened journal) w
  spool_in w shows = subst (λ s. IsSpoolOf s w) opened shows.spool

  gathered_in : (w : World) → Shows old w → Gathered most w kept line calls
  gathered_in w shows = gathers w shows.kept shows.line shows.round (spool_in w shows).0

  reached_in : (w : World) (shows : Shows old w) → IsReached (taken_world w kept line (gathered_in w shows).batches)
  reached_in w shows = reached_more w (taken_world w kept line (gathered_in w shows).batches) (gathered_in w shows).takes shows.reached
      (gathered_run most w (gathered_in w shows).takes (taken_world w kept line (gathered_in w shows).batches) (gathered_in w shows).gathers)

  -- nothing was taken
  pub round_empty : calls ≡ [] → HappenedRound most old (record old { kept = kept; line = line })
  round_empty none w shows =
      let took = gathered_in w shows in
      let no_batch : took.batches ≡ [] = some_calls took.batches took.some (took.calls_are ∙ none) in
      let v : World = taken_world w kept line took.batches in
      let over : v.round ≡ None = ap round_of no_batch in
      record {
        next = v;
        rounds = record { takes = took.takes; taken = v; gathers = took.gathers; events = []; serving = tt; run = refl; over = over };
        shows = record {
          reached = reached_in w shows;
          seats = shows.seats;
          line = refl;
          kept = refl;
          round = over;
          device = record { seen = shows.device.seen; images = shows.device.images };
          spool = subst (λ s. IsSpoolOf s v) (sym opened) (spool_in w shows);
        };
      }

  -- the calls were served
  pub round_served : (new : JournalState TheDisk) (seats : List SeatView) (answers : List Answer) → calls ≢ []
      → Serves journal new calls answers → length answers ≡ length calls → seats ≡ all_replied old.seats answers
      → HappenedRound most old (record { seats = seats; line = line; kept = kept; spool = Opened new })
  round_served new seats answers some serves count replied w shows =
      by_batches (gathered_in w shows).batches (gathered_in w shows).takes (gathered_in w shows).gathers
      (gathered_in w shows).calls_are (reached_in w shows)
    where
      new_relay : RelayState
      new_relay = record { seats = seats; line = line; kept = kept; spool = Opened new }

      by_batches : (batches : List Batch) (takes : List Event) → Gathers most w takes (taken_world w kept line batches)
          → calls_of batches ≡ calls → IsReached (taken_world w kept line batches)
          → LeadsRound most w (record { seats = seats; line = line; kept = kept; spool = Opened new })
      by_batches [] takes gathers are reached = absurd (some (sym are))
      by_batches (batch ∷ batches) takes gathers are reached =
          let v : World = taken_world w kept line (batch ∷ batches) in
          let world : IsWorldOf journal v = record {
            device = subst (λ s. IsDeviceOf (mem_state (disk_in s)) w.device) opened (record { seen = shows.device.seen; images = shows.device.images });
            spool = spool_in w shows;
          } in
          let served = serves v (batch ∷ batches) reached world refl are in
          let ended : World = record v {
            device = served.device;
            accepted = served.accepted;
            position = served.position;
            is_broken = served.broken;
          } in
          let put = puts ended batch batches answers served.failed (count ∙ ap length (sym are)) served.read in
          let next : World = record ended { seats = all_replied w.seats answers; round = None; told = put.told } in
          let run : Run v (served.events ++ put.events) next = run_joined v served.next next served.events put.events served.run
          (subst (λ u. Run u put.events next) (sym served.next_is) put.run) in
          let world_then : IsWorldOf new (answering ended (batch ∷ batches) answers served.failed) = subst (IsWorldOf new) served.next_is served.world in
          record {
            next = next;
            rounds = record {
              takes = takes;
              taken = v;
              gathers = gathers;
              events = served.events ++ put.events;
              serving = all_served served.events put.events served.serving put.serving;
              run = run;
              over = refl;
            };
            shows = record {
              reached = reached_more v next (served.events ++ put.events) reached run;
              seats = ap (λ l. all_replied l answers) shows.seats ∙ sym replied;
              line = refl;
              kept = refl;
              round = refl;
              device = record { seen = world_then.device.seen; images = world_then.device.images };
              spool = world_then.spool;
            };
          }
        where
          all_served : (first second : List Event) → AllByRecursion IsServing first → AllByRecursion IsServing second
              → AllByRecursion IsServing (first ++ second)
          all_served [] second one two = two
          all_served (event ∷ first) second one two = (one.0, all_served first second one.1 two)
