-- The end of a round in the model of a relay: it succeeded, the journal broke, or no segment was opened although one is
-- due.
use Rattle.std.proofs.Common.{ℕ, ◌≡◌, ◌⊎◌, ◌++◌, ◌∙◌, Bool, true, false, List, [], ◌∷◌, Some, length, arith, ap, refl, sym, subst, inl, inr, ⊎_elim}
use Rattle.std.specs.List.{AllByRecursion, zip}
use Rattle.std.proofs.lemmas.Bool.{true≢false}
use Rattle.std.proofs.lemmas.List.{append-nil}
use Rattle.rly_core.specs.declared.refusal.Refusal.{Refusal}
use Rattle.rly_core.specs.declared.refusal.Refusal.TheVariants.{Broken, DeviceRead, OutOfMemory, Unsure}
use Rattle.rly_disk.specs.FaultDisk.{fault_state}
use Rattle.rly_disk.specs.MemDisk.{mem_state}
use Rattle.rly_disk.specs.Trace.{DeviceEvent}
use Rattle.rly_machine.specs.declared.call.Answer.{Answer}
use Rattle.rly_machine.specs.declared.reply.Reply.TheVariants.{Refused}
use Rattle.rly_machine.specs.Fold.{AllAccepted, fold}
use Rattle.rly_machine.specs.History.{accepted_of}
use Rattle.rly_machine.specs.State.{State, new_state}
use Rattle.rly_machine.proofs.Folding.{fold_append, seq_fold}
use Rattle.rly_journal.specs.Journal.{IsDueFor, JournalState}
use Rattle.rly_journal.specs.Log.{IsDurable}
use Rattle.rly_journal.specs.Rounds.{refusals}
use Rattle.rly_journal.specs.Recovery.{Commands}
use Rattle.rly_world.specs.RelaySteps as event
use Rattle.rly_world.specs.RelaySteps.{AreRead, HasPlace, IsEvaluated, Run, world_after, after_evaluation, world_after_failure, on_device}
use Rattle.rly_world.specs.RelayPhases.{IsDueIn}
use Rattle.rly_world.specs.RelayWorld.{Batch, Device, Round, Taking, World, asked_of, calls_of, state_from}
use Rattle.rly_world.proofs.RelayAnswers.{refused_none}
use Rattle.rly_world.proofs.RelayEvents.{run_held}
use Rattle.rly_world_relay.specs.HelpersRounds.{IsWorldOf, Served, round_of_batches, to_answer}
use Rattle.rly_world_relay.specs.RelayRounds.{IsServing}
use Rattle.rly_world_relay.specs.Relay.{IsDeviceOf, IsReached}
use Rattle.rly_world_relay.proofs.RelayDisks.{Came}
use Rattle.rly_world_relay.proofs.RelayFetches.{refused_told}
use Rattle.rly_world_relay.proofs.RelayLogs.{IsOver, evaluates_shut}
use Rattle.rly_world_relay.proofs.RelayReads.{AreReading, fails_by, reads_synced, with_reads}
use Rattle.rly_world_relay.proofs.RelayServes.{IsPart, in_hand}
use Rattle.rly_world_relay.proofs.RelayShows.{run_joined}
use Rattle.rly_world_relay.proofs.RelayTurns.{TheDisk, answered, begun, due_here, held, state_here}
use Rattle.rly_world_relay.proofs.RelayWalks.{Broke, asked_all}

module _ (old new : JournalState TheDisk) (w : World) (batches : List Batch) (answers : List Answer) where
  -- no reply reports a failed read
  refused_read : (refusal : Refusal) (position : ℕ) (failed : Bool) → answers ≡ refusals refusal position (calls_of batches)
      → (Refused refusal ≡ Refused DeviceRead → failed ≡ true) → AreRead (to_answer batches answers failed)
  refused_read refusal position failed told fails =
      subst (λ l. AreRead (to_answer batches l failed)) (sym told) (refused_told refusal position (calls_of batches) failed fails)

  -- the journal was broken
  pub refused_served : IsReached (begun w batches) → IsWorldOf old (begun w batches) → old.broken ≡ true
      → answers ≡ refusals Broken old.position (calls_of batches) → new ≡ old → Served new batches answers (begun w batches)
  refused_served reached world broken told same =
      let v : World = begun w batches in
      let given : List Answer = refusals Broken w.position (calls_of batches) in
      let right : IsEvaluated w.is_broken v (calls_of batches) given =
      subst (λ b. IsEvaluated b v (calls_of batches) given) (sym (world.spool.1 ∙ broken)) refl in
      let may : HasPlace v (event.Evaluates given) = (round_of_batches batches, refl, (inl refl, right)) in
      let is : answers ≡ given = told ∙ ap (λ n. refusals Broken n (calls_of batches)) (sym world.spool.2) in
      record {
        events = event.Evaluates given ∷ [];
        serving = (tt, tt);
        next = world_after v (event.Evaluates given);
        run = (world_after v (event.Evaluates given), inl (may, refl), refl);
        device = w.device;
        accepted = w.accepted ++ [];
        position = w.position;
        broken = w.is_broken;
        failed = false;
        read = refused_read Broken old.position false told (λ same. absurd cc);
        next_is = ap (λ (c : Commands). record w {
          round = Some (record { stage = after_evaluation c; batches = batches; answers = given; read_failed = false });
          accepted = w.accepted ++ c;
        }) (refused_none Broken w.position (calls_of batches))
            ∙ ap (λ (a : List Answer). record w {
              round = Some (to_answer batches a false);
              accepted = w.accepted ++ [];
            }) (sym is);
        world = subst (λ j. IsWorldOf j (world_after v (event.Evaluates given))) (sym same) (record {
          device = record { seen = world.device.seen; images = world.device.images };
          spool = (world.spool.0, world.spool.1, world.spool.2, λ whole. absurd (true≢false (sym broken ∙ whole)));
        });
      }

  module _ (whole : old.broken ≡ false) (reached : IsReached (begun w batches)) (world : IsWorldOf old (begun w batches))
      (tail : IsDurable (fault_state mem_state old.disk) old.tail old.state) where
    -- it succeeded
    pub whole_served : (given : List Answer) (failed : Bool) → new.broken ≡ false → new.position ≡ new.state.seq → answers ≡ given
        → new.state ≡ fold length old.state (accepted_of (zip (calls_of batches) given)) → AreRead (to_answer batches given failed)
        → Came (begun w batches) (fault_state mem_state new.disk)
        (IsOver w (record (answered batches given) { read_failed = failed }) (w.accepted ++ accepted_of (zip (calls_of batches) given)))
        → Served new batches answers (begun w batches)
    whole_served given failed fine counted told stepped read came =
        let commands : Commands = accepted_of (zip (calls_of batches) given) in
        let led = came.led in
        let over = led.ends in
        let next_held = run_held (begun w batches) led.next led.events led.run (held old w batches whole tail reached world) in
        let state_is : new.state ≡ state_from w.params (w.accepted ++ commands) =
        stepped ∙ ap (λ s. fold length s commands) (state_here old w batches whole tail reached world)
        ∙ sym (fold_append length (new_state w.params) w.accepted commands) in
        record {
          events = led.events;
          serving = led.serving;
          next = led.next;
          run = led.run;
          device = over.device;
          accepted = w.accepted ++ commands;
          position = length (w.accepted ++ commands);
          broken = w.is_broken;
          failed = failed;
          read = subst (λ l. AreRead (to_answer batches l failed)) (sym told) read;
          next_is = over.is ∙ ap (λ (a : List Answer). record w {
            round = Some (to_answer batches a failed);
            device = over.device;
            accepted = w.accepted ++ commands;
            position = length (w.accepted ++ commands);
          }) (sym told);
          world = record {
            device = record { seen = came.device.seen; images = came.device.images };
            spool = (
              ap (λ (u : World). u.is_open) over.is ∙ world.spool.0,
              ap (λ (u : World). u.is_broken) over.is ∙ world.spool.1 ∙ whole ∙ sym fine,
              ap (λ (u : World). u.position) over.is
                  ∙ omega (
                    arith,
                    counted,
                    ap (λ (s : State (List ℕ)). s.seq) state_is,
                    seq_fold length (new_state w.params) (w.accepted ++ commands)
                        (subst (λ (u : World). AllAccepted length (new_state u.params) u.accepted) over.is next_held.accepted),
                  ),
              λ _. state_is ∙ ap (λ (u : World). state_from u.params u.accepted) (sym over.is),
            );
          };
        }

    -- it broke
    pub broken_served : new.broken ≡ true → new.position ≡ old.position → answers ≡ refusals Unsure old.position (calls_of batches)
        → Came (begun w batches) (fault_state mem_state new.disk) (Broke (IsPart w batches))
        → Served new batches answers (begun w batches)
    broken_served broken still told came =
        let led = came.led in
        let ends = led.ends in
        let part = ends.is in
        let failed : Bool = part.round.read_failed in
        let next_is : led.next ≡ world_after_failure (on_device (in_hand w part.stage (record part.round { batches = batches }) part.device part.accepted) ends.last) =
        ends.new_is ∙ ap (λ v. world_after_failure (on_device v ends.last)) part.is in
        let is : answers ≡ refusals Unsure w.position (calls_of batches) =
        told ∙ ap (λ n. refusals Unsure n (calls_of batches)) (sym world.spool.2) in
        record {
          events = led.events;
          serving = led.serving;
          next = led.next;
          run = led.run;
          device = asked_of part.device ends.last;
          accepted = part.accepted;
          position = w.position;
          broken = true;
          failed = part.round.read_failed;
          read = refused_read Unsure old.position part.round.read_failed told (λ same. absurd cc);
          next_is = next_is ∙ ap (λ (a : List Answer). record w {
            round = Some (to_answer batches a part.round.read_failed);
            device = asked_of part.device ends.last;
            accepted = part.accepted;
            is_broken = true;
          }) (sym is);
          world = record {
            device = record { seen = came.device.seen; images = came.device.images };
            spool = (
              ap (λ (u : World). u.is_open) next_is ∙ world.spool.0,
              ap (λ (u : World). u.is_broken) next_is ∙ sym broken,
              ap (λ (u : World). u.position) next_is ∙ world.spool.2 ∙ sym still,
              λ fine. absurd (true≢false (sym broken ∙ fine)),
            );
          };
        }

    -- a segment is due but wasn't opened, and only reads were made
    pub shut_served : (refusal : Refusal) → (refusal ≡ OutOfMemory) ⊎ (refusal ≡ DeviceRead) → IsDueFor old (calls_of batches) → new.broken ≡ false
        → new.state ≡ old.state → new.position ≡ old.position → answers ≡ refusals refusal old.position (calls_of batches)
        → (reads : List DeviceEvent) → AreReading reads → (refusal ≡ DeviceRead → fails_by false reads ≡ true)
        → Came (begun w batches) (fault_state mem_state new.disk) (λ v. v ≡ with_reads (begun w batches) (round_of_batches batches) reads)
        → Served new batches answers (begun w batches)
    shut_served refusal either due fine same still told reads reading fails came =
        let led = came.led in
        let failed : Bool = fails_by false reads in
        let round : Round = record (round_of_batches batches) { read_failed = failed } in
        let device : Device = asked_all w.device reads in
        let m : World = in_hand w Taking round device w.accepted in
        let given : List Answer = refusals refusal w.position (calls_of batches) in
        let next : World = world_after m (event.Evaluates given) in
        let is : answers ≡ given = told ∙ ap (λ n. refusals refusal n (calls_of batches)) (sym world.spool.2) in
        let due_in : IsDueIn device.synced =
        subst IsDueIn (sym (reads_synced w.device reads reading)) ((due_here old w batches whole tail reached world).1 due.1) in
        let may : HasPlace m (event.Evaluates given) =
        evaluates_shut w Taking round device w.accepted old.tail old.state given (world.spool.1 ∙ whole) (inl refl) (
          (due.0, due_in),
          ⊎_elim (λ memory. inl (ap (λ r. refusals r w.position (calls_of batches)) memory)) (λ read. inr (ap (λ r. refusals r w.position (calls_of batches)) read)) either,
        ) in
        let none : accepted_of (zip (calls_of batches) given) ≡ [] = refused_none refusal w.position (calls_of batches) in
        let there : IsDeviceOf (fault_state mem_state new.disk) device = subst (λ (u : World). IsDeviceOf (fault_state mem_state new.disk) u.device) led.ends came.device in
        record {
          events = led.events ++ event.Evaluates given ∷ [];
          serving = all_served led.events (event.Evaluates given ∷ []) led.serving (tt, tt);
          next = next;
          run = run_joined (begun w batches) m next led.events (event.Evaluates given ∷ []) (subst (Run (begun w batches) led.events) led.ends led.run)
              (next, inl (may, refl), refl);
          device = device;
          accepted = w.accepted ++ [];
          position = w.position;
          broken = w.is_broken;
          failed = failed;
          read = refused_read refusal old.position failed told (λ is_read. fails (by_reply is_read));
          next_is = ap (λ (c : Commands). record w {
            round = Some (record { stage = after_evaluation c; batches = batches; answers = given; read_failed = failed });
            device = device;
            accepted = w.accepted ++ c;
          }) none
              ∙ ap (λ (a : List Answer). record w {
                round = Some (to_answer batches a failed);
                device = device;
                accepted = w.accepted ++ [];
              }) (sym is);
          world = record {
            device = record { seen = there.seen; images = there.images };
            spool = (
              world.spool.0,
              world.spool.1 ∙ whole ∙ sym fine,
              world.spool.2 ∙ sym still,
              λ _. same ∙ state_here old w batches whole tail reached world
                  ∙ ap (state_from w.params) (sym (append-nil w.accepted) ∙ ap (λ (c : Commands). w.accepted ++ c) (sym none)),
            );
          };
        }
      where
        by_reply : Refused refusal ≡ Refused DeviceRead → refusal ≡ DeviceRead
        by_reply same = cc

        all_served : (first second : List event.Event) → AllByRecursion IsServing first → AllByRecursion IsServing second → AllByRecursion IsServing (first ++ second)
        all_served [] second one two = two
        all_served (e ∷ first) second one two = (one.0, all_served first second one.1 two)
