-- An end after a call.
use Rattle.std.proofs.Common.{ℕ, zero, suc, ◌≡◌, ◌⊎◌, inl, inr, ◌<◌, ◌≤◌, List, [], ◌∷◌, ◌++◌, length, take, drop, Bool, true, false, nat_lt, nat_le, max, refl, arith, sym, ◌∙◌, ap, subst, Option, Some, None}
use Rattle.std.specs.Prelude.{◌||◌, ◌&&◌, ◌==◌, slice_index_or, if◌then◌else◌}
use Rattle.std.specs.List.{AllByRecursion}
use Rattle.std.proofs.lemmas.Bool.{and_from, and_parts, cond-true, cond_both, eqb-true, le-leb, lt-ltb, true≢false}
use Rattle.std.proofs.Math.Seq.{take-length}
use Rattle.std.proofs.lemmas.List.{append-nil, length-append, take_at}
use Rattle.rly_core.specs.declared.params.Params.{Params}
use Rattle.rly_core.specs.declared.refusal.Refusal.TheVariants as refusal
use Rattle.rly_disk.specs.FaultDisk.{fault_state}
use Rattle.rly_disk.specs.MemDisk.{mem_state}
use Rattle.rly_disk.specs.declared.fault_disk.FaultDisk.{FaultDisk}
use Rattle.rly_disk.specs.declared.mem.MemDisk.{MemDisk}
use Rattle.rly_journal.specs.Journal.{JournalState}
use Rattle.rly_journal.specs.Recovery.{Stands}
use Rattle.rly_machine.specs.declared.command.Ask.{Ask}
use Rattle.rly_machine.specs.declared.command.Ask.TheVariants as ask
use Rattle.rly_machine.specs.declared.reply.Reply.{Reply}
use Rattle.rly_machine.specs.declared.reply.Reply.TheVariants.{Refused}
use Rattle.rly_machine.specs.Accepted.{is_accepted}
use Rattle.rly_machine.specs.Ask.{ask_step}
use Rattle.rly_machine.specs.Fold.{AllAccepted, fold}
use Rattle.rly_machine.specs.History.{accepted_by, harm, is_failure}
use Rattle.rly_machine.specs.State.{State, new_state}
use Rattle.rly_machine.proofs.RealReplies.{harmless}
use Rattle.rly_world_pair.specs.declared.spool.Spool.{Spool}
use Rattle.rly_world_pair.specs.declared.spool.Spool.TheVariants.{Open, Shut}
use Rattle.rly_world_pair.specs.HelpersStation.{Commands, Gives, IsCalled, IsHarmed, IsLost, IsSafe, IsSoundStation, IsSpool, IsSpoolCalled, Leaves, Stopped, Works, accepted_in, command_of, commands_kept, state_at, reported_count, reported_after}
use Rattle.rly_world.specs.PairEnd.{Asked, accepted_after, after_call, may_go, may_want, reply_by, with_made, end_after_answer, Broken, DeviceRead, Done, End, OutOfMemory, CallFate, Replied, Unsure, harm_by, reply_at, state_of, reported_by}
use Rattle.rly_world_pair.specs.PairSteps.{Calls, Makes, can_go, can_make}
use Rattle.rly_world_pair.specs.PairSteps.{Serves as Serving}
use Rattle.rly_world.proofs.PairLists.{all_append}
use Rattle.rly_world_pair.proofs.StationAccepted.{all_made, standing_all, standing_made, state_made}

-- an end with these accepted commands and this device state
abbrev pub shown : Params → ℕ → List Asked → List Replied → Commands → ℕ → End
shown params told asked replied accepted harmed =
    record { params = params; accepted = accepted; told = told; harm = harmed; asked = asked; replied = replied }

same_shown : (params : Params) (told : ℕ) (asked : List Asked) (replied : List Replied) (a b : Commands) (h k : ℕ) → a ≡ b → h ≡ k
    → shown params told asked replied a h ≡ shown params told asked replied b k
same_shown params told asked replied a b h k first second =
    ap (λ (l : Commands). shown params told asked replied l h) first ∙ ap (λ (n : ℕ). shown params told asked replied b n) second

-- for a reply that reports no damage only an accepted command is recorded
kept_real : (an : Ask) (reply : Reply) → harm reply ≡ 0 → commands_kept an reply ≡ accepted_by an reply
kept_real (ask.Query query) reply none = elim (is_accepted reply || (harm reply == 1)) as (λ b. (let none : Commands = [] in (if b then none else [])) ≡ []) [
  | true ↦ refl
  | false ↦ refl
]
kept_real (ask.Command c) reply none = elim (is_accepted reply) as (λ b. (if b || (harm reply == 1) then c ∷ [] else []) ≡ (if b then c ∷ [] else [])) [
  | true ↦ refl
  | false ↦ ap (λ (n : ℕ). if n == 1 then c ∷ [] else []) none
]

module _ (params : Params) (commands : Commands) (told due harmed : ℕ) (asked : List Asked) (replied : List Replied) where
  -- the end before, and the required end after the call
  abbrev before : End
  before = shown params told asked replied (accepted_in params commands) harmed

  abbrev pub Left : Ask → Reply → Option Spool → Type 0
  Left an reply spool =
      Calls before (shown params told asked replied (accepted_in params (commands ++ commands_kept an reply)) (harm reply)) an reply
      (reported_count (commands ++ commands_kept an reply) reply)
      × IsSafe params (commands ++ commands_kept an reply) due (harm reply) spool

  -- nothing is recorded for a call that isn't made
  none_kept : accepted_in params (commands ++ []) ≡ accepted_in params commands ++ []
  none_kept = ap (accepted_in params) (append-nil commands) ∙ sym (append-nil (accepted_in params commands))

  within_still : due ≤ length (accepted_in params commands) → due ≤ length (accepted_in params (commands ++ []))
  within_still within = subst (λ (l : Commands). due ≤ length (accepted_in params l)) (sym (append-nil commands)) within

  module _ {old : JournalState (FaultDisk MemDisk)} (works : Works params commands harmed old) (within : due ≤ length (accepted_in params commands)) (an : Ask) where
    -- the command that the machine accepts
    abbrev more : Commands
    more = accepted_by an (ask_step (fold length (new_state params) commands) an).1

    all_stand : accepted_in params commands ≡ commands
    all_stand = standing_all (new_state params) commands works.accepted

    state_is : old.state ≡ state_of before
    state_is = works.state ∙ ap (fold length (new_state params)) (sym all_stand)

    -- the commands after the call
    grown : accepted_in params commands ++ accepted_by an (reply_at before an) ≡ commands ++ more
    grown = ap (λ (l : Commands). l ++ accepted_by an (ask_step (fold length (new_state params) l) an).1) all_stand

    further : (after : Commands) → after ≡ commands ++ more → due ≤ length after
    further after is = omega (arith, within, ap length all_stand, ap length is, length-append commands more)

    done_left : (new : JournalState (FaultDisk MemDisk)) (reply : Reply) → new.broken ≡ false → is_failure reply ≡ false → reply ≡ (ask_step old.state an).1
        → new.state ≡ (ask_step old.state an).0 → Left an reply (Some (Open new))
    done_left new reply goes real is state =
        let kept : commands_kept an reply ≡ more =
        kept_real an reply (harmless reply real) ∙ ap (accepted_by an) (is ∙ ap (λ (s : State (List ℕ)). (ask_step s an).1) works.state) in
        let longer : commands ++ commands_kept an reply ≡ commands ++ more = ap (λ (l : Commands). commands ++ l) kept in
        let accepted : AllAccepted length (new_state params) (commands ++ more) = all_made (new_state params) commands an works.accepted in
        let standing_is : accepted_in params (commands ++ commands_kept an reply) ≡ commands ++ more =
        ap (accepted_in params) longer ∙ standing_all (new_state params) (commands ++ more) accepted in (
          record {
            outcome = Done;
            can = ap (λ (n : ℕ). n == 0) works.unharmed;
            reply_is = is ∙ ap (λ (s : State (List ℕ)). (ask_step s an).1) state_is;
            after = same_shown params told asked replied _ _ _ _ (standing_is ∙ sym grown) (harmless reply real);
            tells = ap (λ (b : Bool). if b then 0 else length (commands ++ commands_kept an reply)) real ∙ ap length (longer ∙ sym standing_is);
          },
          record {
            within = further (accepted_in params (commands ++ commands_kept an reply)) standing_is;
            held = inl (record {
              working = goes;
              unharmed = harmless reply real;
              accepted = subst (AllAccepted length (new_state params)) (sym longer) accepted;
              state = state ∙ ap (λ (s : State (List ℕ)). (ask_step s an).0) works.state ∙ sym (state_made (new_state params) commands an)
                  ∙ ap (fold length (new_state params)) (sym longer);
            });
          },
        )

    -- a call that isn't made because an allocation or a read failed
    unmade_safe : (new : JournalState (FaultDisk MemDisk)) → new.broken ≡ false → new.state ≡ old.state → IsSafe params (commands ++ []) due 0 (Some (Open new))
    unmade_safe new goes state = record {
      within = within_still within;
      held = inl (record {
        working = goes;
        unharmed = refl;
        accepted = subst (AllAccepted length (new_state params)) (sym (append-nil commands)) works.accepted;
        state = state ∙ works.state ∙ ap (fold length (new_state params)) (sym (append-nil commands));
      });
    }

    may_lose : may_want old.state an ≡ true → ((harmed == 0) && may_want (state_of before) an) ≡ true
    may_lose wants =
        and_from (harmed == 0) (may_want (state_of before) an) (ap (λ (n : ℕ). n == 0) works.unharmed) (ap (λ (s : State (List ℕ)). may_want s an) (sym state_is) ∙ wants)

    starved_left : (new : JournalState (FaultDisk MemDisk)) → new.broken ≡ false → new.state ≡ old.state → may_want old.state an ≡ true → Left an (Refused refusal.OutOfMemory) (Some (Open new))
    starved_left new goes state wants = (
      record {
        outcome = OutOfMemory;
        can = may_lose wants;
        reply_is = refl;
        after = same_shown params told asked replied _ _ _ _ none_kept refl;
        tells = refl;
      },
      unmade_safe new goes state,
    )

    unread_left : (new : JournalState (FaultDisk MemDisk)) → new.broken ≡ false → new.state ≡ old.state → may_want old.state an ≡ true → Left an (Refused refusal.DeviceRead) (Some (Open new))
    unread_left new goes state wants = (
      record {
        outcome = DeviceRead;
        can = may_lose wants;
        reply_is = refl;
        after = same_shown params told asked replied _ _ _ _ none_kept refl;
        tells = refl;
      },
      unmade_safe new goes state,
    )

    lost_left : (new : JournalState (FaultDisk MemDisk)) (reply : Reply) → IsLost reply → new.broken ≡ false → new.state ≡ old.state → may_want old.state an ≡ true → Left an reply (Some (Open new))
    lost_left new reply (inl starved) goes state wants = subst (λ (r : Reply). Left an r (Some (Open new))) (sym starved) (starved_left new goes state wants)
    lost_left new reply (inr unread) goes state wants = subst (λ (r : Reply). Left an r (Some (Open new))) (sym unread) (unread_left new goes state wants)

    unsure_left : (new : JournalState (FaultDisk MemDisk)) → Gives (fault_state mem_state) old new an (Refused refusal.Unsure) → Left an (Refused refusal.Unsure) (Some (Open new))
    unsure_left new gives =
        let standing_is : accepted_in params (commands ++ command_of an) ≡ commands ++ more = standing_made (new_state params) commands an works.accepted in
        let state_of_take : (kept : ℕ) → state_at params (commands ++ command_of an) kept ≡ fold length (new_state params) (take kept (commands ++ more)) =
        (λ kept. ap (λ (l : Commands). fold length (new_state params) (take kept l)) standing_is) in (
          record {
            outcome = Unsure true;
            can = ap (λ (n : ℕ). (n == 0) && true) works.unharmed;
            reply_is = refl;
            after = same_shown params told asked replied _ _ _ _ (standing_is ∙ sym grown) refl;
            tells = refl;
          },
          record {
            within = further (accepted_in params (commands ++ command_of an)) standing_is;
            held = inr (
              gives.broken,
              record {
                harmed_so = (omega arith, omega arith);
                leaves = λ image left.
                    elim (gives.leaves image left) [
                      | inl stayed ↦ record {
                        kept = length commands;
                        has_due = omega (arith, within, ap length all_stand);
                        is_prefix = omega (arith, ap length standing_is, length-append commands more);
                        stands = subst (Stands image)
                            (works.state ∙ ap (fold length (new_state params)) (sym (take_at commands more (length commands) refl)) ∙ sym (state_of_take (length commands))) stayed;
                      }
                      | inr made ↦ record {
                        kept = length (commands ++ more);
                        has_due = further (commands ++ more) refl;
                        is_prefix = omega (arith, ap length standing_is);
                        stands = subst (Stands image)
                            (ap (λ (s : State (List ℕ)). (ask_step s an).0) works.state ∙ sym (state_made (new_state params) commands an)
                            ∙ ap (fold length (new_state params)) (sym (take-length (commands ++ more))) ∙ sym (state_of_take (length (commands ++ more)))) made;
                      }
                    ];
              },
            );
          },
        )

    works_left : (new : JournalState (FaultDisk MemDisk)) (reply : Reply) → IsCalled (fault_state mem_state) old new an reply → Left an reply (Some (Open new))
    works_left new reply (inl serves) =
        elim serves.goes [
          | inl goes ↦ done_left new reply serves.works goes.0 goes.1 goes.2
          | inr lost ↦ lost_left new reply lost.0 serves.works lost.1 lost.2
        ]
    works_left new reply (inr (inl gives)) =
        subst (λ (r : Reply). Left an r (Some (Open new))) (sym gives.reply_is)
        (unsure_left new (subst (λ (r : Reply). Gives (fault_state mem_state) old new an r) gives.reply_is gives))
    works_left new reply (inr (inr rests)) = absurd (true≢false (sym rests.broken ∙ works.working))

  -- an end that is broken makes no call
  broken_left : (spool : Option Spool) → due ≤ length (accepted_in params commands) → IsHarmed harmed → IsSpool params (commands ++ []) due 2 spool → (an : Ask)
      → Left an (Refused refusal.Broken) spool
  broken_left spool within harmed_so held an = (
    record {
      outcome = Broken;
      can = and_from (nat_lt 0 harmed) (nat_le harmed 2) (lt-ltb 0 harmed harmed_so.0) (le-leb harmed 2 harmed_so.1);
      reply_is = refl;
      after = same_shown params told asked replied _ _ _ _ none_kept refl;
      tells = refl;
    },
    record { within = within_still within; held = held },
  )

  stopped_still : (disk : FaultDisk MemDisk) → Stopped params commands due harmed (fault_state mem_state disk) → Stopped params (commands ++ []) due 2 (fault_state mem_state disk)
  stopped_still disk stopped = record {
    harmed_so = (omega arith, omega arith);
    leaves = λ image left. subst (λ (l : Commands). Leaves params l due image) (sym (append-nil commands)) (stopped.leaves image left);
  }

  rests_left : (old new : JournalState (FaultDisk MemDisk)) (an : Ask) (reply : Reply) → due ≤ length (accepted_in params commands) → old.broken ≡ true
      → Stopped params commands due harmed (fault_state mem_state old.disk) → IsCalled (fault_state mem_state) old new an reply → Left an reply (Some (Open new))
  rests_left old new an reply within broken stopped (inl serves) = absurd (true≢false (sym broken ∙ serves.working))
  rests_left old new an reply within broken stopped (inr (inl gives)) = absurd (true≢false (sym broken ∙ gives.working))
  rests_left old new an reply within broken stopped (inr (inr rests)) =
      subst (λ (r : Reply). Left an r (Some (Open new))) (sym rests.reply_is)
      (subst (λ (j : JournalState (FaultDisk MemDisk)). Left an (Refused refusal.Broken) (Some (Open j))) (sym rests.same)
      (broken_left (Some (Open old)) within stopped.harmed_so (inr (broken, stopped_still old.disk stopped)) an))

  -- a call of an end, with any outcome
  pub spool_left : (old new : Option Spool) (an : Ask) (reply : Reply) → IsSafe params commands due harmed old → IsSpoolCalled old new an reply → Left an reply new
  spool_left None new an reply sound called =
      subst (λ (r : Reply). Left an r new) (sym called.1)
      (subst (λ (o : Option Spool). Left an (Refused refusal.Broken) o) (sym called.0) (broken_left None sound.within sound.held (omega arith, omega arith) an))
  spool_left (Some (Shut disk)) new an reply sound called =
      subst (λ (r : Reply). Left an r new) (sym called.1)
      (subst (λ (o : Option Spool). Left an (Refused refusal.Broken) o) (sym called.0)
      (broken_left (Some (Shut disk)) sound.within sound.held.harmed_so (stopped_still disk sound.held) an))
  spool_left (Some (Open old)) new an reply sound called =
      subst (λ (o : Option Spool). Left an reply o) (sym called.1)
      (elim sound.held [
        | inl works ↦ works_left works sound.within an called.0 reply called.2
        | inr stopped ↦ rests_left old called.0 an reply sound.within stopped.0 stopped.1 called.2
      ])

-- this many commands are there
raised : (params : Params) (commands : Commands) (due more : ℕ) (harmed : ℕ) (spool : Option Spool) → harmed ≡ 0 → more ≤ length (accepted_in params commands)
    → IsSafe params commands due harmed spool → IsSafe params commands more harmed spool
raised params commands due more harmed None none within safe = record { within = within; held = absurd (omega (arith, safe.held.0, none)) }
raised params commands due more harmed (Some (Shut disk)) none within safe = record { within = within; held = absurd (omega (arith, safe.held.harmed_so.0, none)) }
raised params commands due more harmed (Some (Open j)) none within safe = record {
  within = within;
  held = elim safe.held [
    | inl works ↦ inl works
    | inr stopped ↦ absurd (omega (arith, stopped.1.harmed_so.0, none))
  ];
}

weaker_all : (due more : ℕ) (replied : List Replied) → due ≤ more → AllByRecursion (λ made. made.position ≤ due) replied → AllByRecursion (λ made. made.position ≤ more) replied
weaker_all due more [] below all = tt
weaker_all due more (made ∷ rest) below all = (omega (arith, all.0, below), weaker_all due more rest below all.1)

-- after a call an end also keeps the commands that its reply acknowledges
pub record IsKept (params : Params) (commands : Commands) (told harmed position : ℕ) (replied : List Replied) (spool : Option Spool) : Type 0 where
  pub due : ℕ
  pub has_told : told ≤ due
  pub has_replied : AllByRecursion (λ made. made.position ≤ due) replied
  pub has_position : position ≤ due
  pub safe : IsSafe params commands due harmed spool

kept_due : (params : Params) (commands : Commands) (told harmed position : ℕ) (replied : List Replied) (spool : Option Spool) (due : ℕ) → told ≤ due
    → AllByRecursion (λ made. made.position ≤ due) replied → IsSafe params commands due harmed spool
    → (position ≤ due) ⊎ ((harmed ≡ 0) × (position ≤ length (accepted_in params commands))) → IsKept params commands told harmed position replied spool
kept_due params commands told harmed position replied spool due under all safe (inl below) =
    record { due = due; has_told = under; has_replied = all; has_position = below; safe = safe }
kept_due params commands told harmed position replied spool due under all safe (inr (none, within)) =
    record {
      due = length (accepted_in params commands);
      has_told = omega (arith, under, safe.within);
      has_replied = weaker_all due (length (accepted_in params commands)) replied safe.within all;
      has_position = within;
      safe = raised params commands due (length (accepted_in params commands)) harmed spool none (omega arith) safe;
    }

-- a reply acknowledges nothing, or the device works
tells_of : (outcome : CallFate) (position count due harmed : ℕ) → position ≡ reported_by outcome count → harmed ≡ harm_by outcome
    → (position ≤ due) ⊎ ((harmed ≡ 0) × (position ≤ count))
tells_of Done position count due harmed tells harm = inr (harm, omega (arith, tells))
tells_of (Unsure stands) position count due harmed tells harm = inl (omega (arith, tells))
tells_of Broken position count due harmed tells harm = inl (omega (arith, tells))
tells_of DeviceRead position count due harmed tells harm = inl (omega (arith, tells))
tells_of OutOfMemory position count due harmed tells harm = inl (omega (arith, tells))

-- a call of an end: its outcome, and that the invariant holds
abbrev pub IsMade : Params → Commands → ℕ → ℕ → List Asked → List Replied → Ask → Reply → Commands → ℕ → ℕ → Option Spool → Type 0
IsMade params commands told harmed asked replied an reply after left position spool =
    Calls (shown params told asked replied (accepted_in params commands) harmed) (shown params told asked replied (accepted_in params after) left) an reply position
    × IsKept params after told left position replied spool

pub made_left : (params : Params) (commands : Commands) (told harmed : ℕ) (asked : List Asked) (replied : List Replied) (an : Ask) (reply : Reply) (after : Commands) (left position : ℕ)
    (old new : Option Spool) → IsSoundStation params commands told harmed replied old → IsSpoolCalled old new an reply
    → after ≡ commands ++ commands_kept an reply → left ≡ harm reply → position ≡ reported_count after reply
    → IsMade params commands told harmed asked replied an reply after left position new
made_left params commands told harmed asked replied an reply after left position old new sound called grown harmed_so tells =
    let done = spool_left params commands told sound.due harmed asked replied old new an reply sound.safe called in
    subst (λ (l : Commands). position ≡ reported_count l reply → IsMade params commands told harmed asked replied an reply l left position new) (sym grown)
    (λ tells. subst (λ (h : ℕ). IsMade params commands told harmed asked replied an reply (commands ++ commands_kept an reply) h position new) (sym harmed_so)
    (subst (λ (p : ℕ). IsMade params commands told harmed asked replied an reply (commands ++ commands_kept an reply) (harm reply) p new) (sym tells) (
      done.0,
      kept_due params (commands ++ commands_kept an reply) told (harm reply) (reported_count (commands ++ commands_kept an reply) reply) replied new sound.due sound.has_told sound.has_replied done.1
          (tells_of done.0.outcome (reported_count (commands ++ commands_kept an reply) reply) (length (accepted_in params (commands ++ commands_kept an reply))) sound.due (harm reply)
          done.0.tells (ap (λ (e : End). e.harm) done.0.after)),
    ))) tells

-- ---- the first call that waits

pub nonempty : (n : ℕ) → (n == 0) ≡ false → 0 < n
nonempty zero none = absurd (true≢false none)
nonempty (suc n) none = omega arith

pub front_removed : {X : Type 0} (xs : List X) (x : X) → 0 < length xs → x ≡ slice_index_or xs 0 x → xs ≡ x ∷ drop 1 xs
front_removed [] x some is = absurd (omega (arith, some))
front_removed {X} (y ∷ ys) x some is = ap (λ (z : X). z ∷ ys) (sym is)

can_may : (e : End) (an : Ask) (outcome : CallFate) → can_go e an outcome ≡ true → may_go e an outcome ≡ true
can_may e an Done can = and_from (nat_le e.harm 0) true (ap (λ (n : ℕ). nat_le n 0) (eqb-true e.harm 0 can)) refl
can_may e an (Unsure stands) can =
    and_from (nat_le e.harm 1) true (ap (λ (n : ℕ). nat_le n 1) (eqb-true e.harm 0 (and_parts (e.harm == 0) stands can).0)) refl
can_may e an Broken can = and_from (nat_le e.harm 2) true (and_parts (nat_lt 0 e.harm) (nat_le e.harm 2) can).1 refl
can_may e an DeviceRead can =
    let parts = and_parts (e.harm == 0) (may_want (state_of e) an) can in
    and_from (nat_le e.harm 0) true (ap (λ (n : ℕ). nat_le n 0) (eqb-true e.harm 0 parts.0)) refl
can_may e an OutOfMemory can =
    let parts = and_parts (e.harm == 0) (may_want (state_of e) an) can in
    and_from (nat_le e.harm 0) (may_want (state_of e) an) (ap (λ (n : ℕ). nat_le n 0) (eqb-true e.harm 0 parts.0)) parts.1

-- the end after a call, whose reply waits
abbrev pub waits : Asked → List Asked → End → Reply → ℕ → End
waits call rest e reply position = record e { asked = rest; replied = e.replied ++ (record { call = call; reply = reply; position = position }) ∷ [] }

pub makes_left : (e e' : End) (call : Asked) (rest : List Asked) (reply : Reply) (position : ℕ) → Calls e e' call.ask reply position → e.asked ≡ call ∷ rest → Makes e (waits call rest e' reply position)
makes_left e e' call rest reply position calls is = record {
  outcome = calls.outcome;
  can = subst (λ (l : List Asked). can_make e l calls.outcome ≡ true) (sym is) calls.can;
  after = ap (λ (x : End). waits call rest x reply position) calls.after
      ∙ ap (λ (r : Reply). waits call rest (after_call e call.ask calls.outcome) r position) calls.reply_is
      ∙ ap (λ (p : ℕ). waits call rest (after_call e call.ask calls.outcome) (reply_by calls.outcome (reply_at e call.ask)) p)
      (calls.tells ∙ ap (λ (x : End). reported_by calls.outcome (length x.accepted)) calls.after)
      ∙ sym (cond-true (may_go e call.ask calls.outcome) _ e (can_may e call.ask calls.outcome calls.can))
      ∙ ap (with_made e calls.outcome) (sym is);
}

pub sound_push : (params : Params) (commands : Commands) (told harmed position : ℕ) (replied before after : List Replied) (made : Replied) (spool : Option Spool)
    → IsKept params commands told harmed position replied spool → before ≡ replied → after ≡ before ++ made ∷ [] → made.position ≡ position
    → IsSoundStation params commands told harmed after spool
sound_push params commands told harmed position replied before after made spool kept same grown at = record {
  due = kept.due;
  has_told = kept.has_told;
  has_replied = subst (AllByRecursion (λ (m : Replied). m.position ≤ kept.due)) (sym (grown ∙ ap (λ (l : List Replied). l ++ made ∷ []) same))
      (all_append (λ (m : Replied). m.position ≤ kept.due) replied (made ∷ []) kept.has_replied (omega (arith, at, kept.has_position), tt));
  safe = kept.safe;
}

-- ---- a call of another client

abbrev pub answered : End → Reply → ℕ → Bool → End
answered e reply position is_answered = record e { told = reported_after e.told is_answered reply position }

serves_so : (e : End) (an : Ask) (outcome : CallFate) (is_answered : Bool)
    → answered (after_call e an outcome) (reply_by outcome (reply_at e an)) (reported_by outcome (length (accepted_after e an outcome))) is_answered
    ≡ (if is_answered then end_after_answer (after_call e an outcome) (reply_by outcome (reply_at e an)) (length (accepted_after e an outcome)) else after_call e an outcome)
serves_so e an Done true = refl
serves_so e an Done false = refl
serves_so e an (Unsure stands) true = refl
serves_so e an (Unsure stands) false = refl
serves_so e an Broken true = refl
serves_so e an Broken false = refl
serves_so e an DeviceRead true = refl
serves_so e an DeviceRead false = refl
serves_so e an OutOfMemory true = refl
serves_so e an OutOfMemory false = refl

pub serves_left : (e e' : End) (an : Ask) (reply : Reply) (position : ℕ) (is_answered : Bool) → Calls e e' an reply position → Serving e (answered e' reply position is_answered) an is_answered
serves_left e e' an reply position is_answered calls = record {
  outcome = calls.outcome;
  can = calls.can;
  after = ap (λ (x : End). answered x reply position is_answered) calls.after
      ∙ ap (λ (r : Reply). answered (after_call e an calls.outcome) r position is_answered) calls.reply_is
      ∙ ap (λ (p : ℕ). answered (after_call e an calls.outcome) (reply_by calls.outcome (reply_at e an)) p is_answered)
      (calls.tells ∙ ap (λ (x : End). reported_by calls.outcome (length x.accepted)) calls.after)
      ∙ serves_so e an calls.outcome is_answered
      ∙ sym (cond-true (may_go e an calls.outcome) _ e (can_may e an calls.outcome calls.can));
}

pub sound_told : (params : Params) (commands : Commands) (told harmed position : ℕ) (replied : List Replied) (spool : Option Spool) (is_answered : Bool) (reply : Reply) (after : ℕ)
    → IsKept params commands told harmed position replied spool → after ≡ reported_after told is_answered reply position → IsSoundStation params commands after harmed replied spool
sound_told params commands told harmed position replied spool is_answered reply after kept is = record {
  due = kept.due;
  has_told = subst (λ (n : ℕ). n ≤ kept.due) (sym is) (cond_both is_answered (if is_failure reply then told else max told position) told (λ (n : ℕ). n ≤ kept.due)
      (λ _. cond_both (is_failure reply) told (max told position) (λ (n : ℕ). n ≤ kept.due) (λ _. kept.has_told) (λ _. omega (arith, kept.has_told, kept.has_position)))
      (λ _. kept.has_told));
  has_replied = kept.has_replied;
  safe = kept.safe;
}
