-- The reads of a round's Fetches, as events of its model: one failed for each reply that reports it.
use Rattle.std.proofs.Common.{ℕ, ◌≡◌, ◌<◌, ◌++◌, ◌∙◌, Bool, true, false, List, [], ◌∷◌, Option, Some, None, length, map, arith, ap, refl, sym, subst, append_assoc}
use Rattle.std.specs.List.{AllByRecursion, zip}
use Rattle.std.specs.Prelude.{if◌then◌else◌}
use Rattle.std.proofs.lemmas.Bool.{false≢true}
use Rattle.rly_core.specs.declared.refusal.Refusal.{Refusal}
use Rattle.rly_core.specs.declared.refusal.Refusal.TheVariants.{DeviceRead, OutOfMemory}
use Rattle.rly_core.specs.declared.ids.HopId.{HopId}
use Rattle.rly_disk.specs.Trace.{DeviceEvent, IsMade, Read, are_reads}
use Rattle.rly_machine.specs.declared.call.Answer.{Answer}
use Rattle.rly_machine.specs.declared.call.Call.{Call}
use Rattle.rly_machine.specs.declared.command.Ask.{Ask}
use Rattle.rly_machine.specs.declared.command.Ask.TheVariants as ask
use Rattle.rly_machine.specs.declared.command.Query.TheVariants.{Fetch, Show, Window}
use Rattle.rly_machine.specs.declared.reply.Reply.{Reply}
use Rattle.rly_machine.specs.declared.reply.Reply.TheVariants.{Bytes, Refused}
use Rattle.rly_machine.specs.History.{next_state}
use Rattle.rly_machine.specs.Query.{HasBytes, fetch_reply, item_of, show_reply, window_reply}
use Rattle.rly_machine.specs.State.{State, has_hop}
use Rattle.rly_segment_checkpoint.specs.Stored.{stored_length}
use Rattle.rly_segment_checkpoint.specs.declared.stored.DeviceAddress.{DeviceAddress}
use Rattle.rly_journal_fetch.specs.FetchReads.{stored_at_address, payload_reads, row_for}
use Rattle.rly_disk.specs.Trials.{AreTried, Try}
use Rattle.rly_journal.specs.Rounds.{AreFetches, AreLostWhereWanted, AreReadsOf, MayWantBytes, refusals}
use Rattle.rly_journal.specs.Fetches.{AreFetching}
use Rattle.rly_world_relay.proofs.RelayReads.{AreReading, all_reading, failed_read, fails_at, fails_by, fails_first, fails_later, reading_both}

-- the reads of tries: all of a list, or each failed
abbrev reads_of : Bool → List DeviceEvent → List DeviceEvent
reads_of true calls = calls
reads_of false calls = map failed_read calls

abbrev pub events_of : List Try → List DeviceEvent
events_of [] = []
events_of (row ∷ rows) = reads_of row.whole row.calls ++ events_of rows

abbrev Reads : List Try → Type 0
Reads rows = AllByRecursion (λ row. are_reads row.calls ≡ true) rows

failed_reading : (calls : List DeviceEvent) → are_reads calls ≡ true → AreReading (map failed_read calls)
failed_reading [] reads = tt
failed_reading (Read place count ∷ calls) reads = (tt, failed_reading calls reads)
failed_reading (call ∷ calls) reads = absurd (false≢true reads)

row_reading : (whole : Bool) (calls : List DeviceEvent) → are_reads calls ≡ true → AreReading (reads_of whole calls)
row_reading true calls reads = all_reading calls reads
row_reading false calls reads = failed_reading calls reads

pub events_reading : (rows : List Try) → Reads rows → AreReading (events_of rows)
events_reading [] reads = tt
events_reading (row ∷ rows) reads =
    reading_both (reads_of row.whole row.calls) (events_of rows) (row_reading row.whole row.calls reads.0) (events_reading rows reads.1)

-- the calls that were tried on the device
made_reading : (whole spent : Bool) (calls events : List DeviceEvent) → are_reads calls ≡ true → IsMade whole spent calls events → AreReading events
made_reading true spent calls events reads made = all_reading events (ap are_reads made ∙ reads)
made_reading false spent calls events reads made = (fails_at spent calls events reads made).0

pub tried_reading : (spent : Bool) (rows : List Try) (events : List DeviceEvent) → Reads rows → AreTried spent rows events → AreReading events
tried_reading spent [] events reads tried = subst AreReading (sym tried) tt
tried_reading spent (row ∷ rows) events reads tried =
    subst AreReading (sym tried.2)
    (reading_both tried.0 tried.1 (made_reading row.whole spent row.calls tried.0 reads.0 tried.3) (tried_reading spent rows tried.1 reads.1 tried.4))

-- tries after others
pub tried_parts : (spent : Bool) (first second : List Try) (events : List DeviceEvent) → AreTried spent (first ++ second) events
    → (one : List DeviceEvent) × (two : List DeviceEvent) × (events ≡ one ++ two) × AreTried spent first one × AreTried spent second two
tried_parts spent [] second events tried = ([], events, refl, refl, tried)
tried_parts spent (row ∷ first) second events tried =
    let rest = tried_parts spent first second tried.1 tried.4 in (
      tried.0 ++ rest.0,
      rest.1,
      tried.2 ∙ ap (λ (l : List DeviceEvent). tried.0 ++ l) rest.2 ∙ sym (append_assoc tried.0 rest.0 rest.1),
      (tried.0, rest.0, refl, tried.3, rest.3),
      rest.4,
    )

events_joined : (first second : List Try) → events_of (first ++ second) ≡ events_of first ++ events_of second
events_joined [] second = refl
events_joined (row ∷ first) second =
    ap (λ l. reads_of row.whole row.calls ++ l) (events_joined first second) ∙ sym (append_assoc (reads_of row.whole row.calls) (events_of first) (events_of second))

reads_joined : (first second : List Try) → Reads first → Reads second → Reads (first ++ second)
reads_joined [] second one two = two
reads_joined (row ∷ first) second one two = (one.0, reads_joined first second one.1 two)

-- ---- of one call

-- its calls are reads only, and if the reply reports that one failed, one did
record IsRead (told : Reply) (has : Type 0) (rows : List Try) : Type 0 where
  reads : Reads rows
  fails : told ≡ Refused DeviceRead → has → fails_by false (events_of rows) ≡ true

one_reads : (at : Option DeviceAddress) → are_reads (payload_reads at) ≡ true
one_reads None = refl
one_reads (Some place) = refl

row_reads : (at : Option DeviceAddress) (told : Reply) → are_reads (row_for at told).calls ≡ true
row_reads at (Refused DeviceRead) = one_reads at
row_reads at (Refused OutOfMemory) = refl
row_reads at told = one_reads at

row_fails : (at : Option DeviceAddress) (payload : List ℕ) → stored_length (stored_at_address at) ≡ length payload → 0 < length payload
    → fails_by false (events_of (row_for at (Refused DeviceRead) ∷ [])) ≡ true
row_fails None payload same some = absurd (omega (arith, same, some))
row_fails (Some place) payload same some = refl

no_row : (told : Reply) (has : Type 0) (rows : List Try) → (has → ⊥) → rows ≡ [] → IsRead told has rows
no_row told has rows never none = record {
  reads = subst Reads (sym none) tt;
  fails = λ is wants. absurd (never wants);
}

fetch_read : (reply told : Reply) (rows : List Try) → AreFetching reply told rows → IsRead told (HasBytes reply) rows
fetch_read (Bytes payload limit) told rows fetching = record {
  reads = subst Reads (sym fetching.2) (row_reads fetching.0 told, tt);
  fails = λ is some.
      ap (λ l. fails_by false (events_of l)) (fetching.2 ∙ ap (λ t. row_for fetching.0 t ∷ []) is)
      ∙ row_fails fetching.0 payload fetching.1 some;
}
fetch_read reply told rows fetching = no_row told (HasBytes reply) rows (λ has. has) fetching

-- no other query has a reply with bytes
none_by : (b : Bool) (x y : Reply) → (HasBytes x → ⊥) → (HasBytes y → ⊥) → HasBytes (if b then x else y) → ⊥
none_by true x y first second has = first has
none_by false x y first second has = second has

window_none : (s : State (List ℕ)) (hop : HopId) → HasBytes (window_reply s hop) → ⊥
window_none s hop has = none_by (has_hop s hop) _ _ (λ h. h) (λ h. h) has

show_none : (s : State (List ℕ)) (hop : HopId) → HasBytes (show_reply s hop) → ⊥
show_none s hop has = none_by (has_hop s hop) _ _ (λ h. h) (λ h. h) has

call_read : (s : State (List ℕ)) (an : Ask) (told : Reply) (rows : List Try) → AreReadsOf s an told rows → IsRead told (MayWantBytes s an) rows
call_read s (ask.Command command) told rows none = no_row told (MayWantBytes s (ask.Command command)) rows (λ has. has) none
call_read s (ask.Query (Fetch hop number)) told rows fetching = fetch_read (fetch_reply (item_of s hop number)) told rows fetching
call_read s (ask.Query (Window hop)) told rows none = no_row told (MayWantBytes s (ask.Query (Window hop))) rows (window_none s hop) none
call_read s (ask.Query (Show hop)) told rows none = no_row told (MayWantBytes s (ask.Query (Show hop))) rows (show_none s hop) none

-- ---- of all calls

-- a reply reports a failed read only if one of these failed
abbrev pub AreTold : List DeviceEvent → List Answer → Type 0
AreTold events answers = AllByRecursion (λ answer. answer.reply ≡ Refused DeviceRead → fails_by false events ≡ true) answers

told_later : (first second : List DeviceEvent) (answers : List Answer) → AreTold second answers → AreTold (first ++ second) answers
told_later first second [] told = tt
told_later first second (answer ∷ answers) told = (λ is. fails_later first second (told.0 is), told_later first second answers told.1)

pub record AreReadFor (rows : List Try) (given : List Answer) : Type 0 where
  pub reads : Reads rows
  pub told : AreTold (events_of rows) given

pub fetches_read : (s : State (List ℕ)) (calls : List Call) (given : List Answer) (rows : List Try) → length given ≡ length calls
    → AreFetches s (zip calls given) rows → AreLostWhereWanted s (zip calls given) → AreReadFor rows given
fetches_read s [] [] rows same fetches wanted = record { reads = subst Reads (sym fetches) tt; told = tt }
fetches_read s [] (answer ∷ given) rows same fetches wanted = absurd (omega (arith, same))
fetches_read s (call ∷ calls) [] rows same fetches wanted = absurd (omega (arith, same))
fetches_read s (call ∷ calls) (answer ∷ given) rows same fetches wanted =
    let one = call_read s call.ask answer.reply fetches.0 fetches.3 in
    let others = fetches_read (next_state s (call, answer)) calls given fetches.1 (omega (arith, same)) fetches.4 wanted.2 in
    let events : events_of rows ≡ events_of fetches.0 ++ events_of fetches.1 = ap events_of fetches.2 ∙ events_joined fetches.0 fetches.1 in
    record {
      reads = subst Reads (sym fetches.2) (reads_joined fetches.0 fetches.1 one.reads others.reads);
      told = subst (λ l. AreTold l (answer ∷ given)) (sym events) (
        λ is. fails_first (events_of fetches.0) (events_of fetches.1) (one.fails is (wanted.1 is)),
        told_later (events_of fetches.0) (events_of fetches.1) given others.told,
      );
    }

-- ---- all calls are refused

pub refused_told : (refusal : Refusal) (position : ℕ) (calls : List Call) (failed : Bool) → (Refused refusal ≡ Refused DeviceRead → failed ≡ true)
    → AllByRecursion (λ (answer : Answer). answer.reply ≡ Refused DeviceRead → failed ≡ true) (refusals refusal position calls)
refused_told refusal position [] failed fails = tt
refused_told refusal position (call ∷ calls) failed fails = (fails, refused_told refusal position calls failed fails)
