-- One call of a journal.
use Rattle.std.proofs.Common.{ℕ, ◌≡◌, ◌⊎◌, inl, inr, List, [], ◌∷◌, ◌++◌, length, Bool, true, false, refl, arith, sym, ◌∙◌, ap, subst, ⊎_elim}
use Rattle.std.specs.Prelude.{◌||◌, slice_index_or, if◌then◌else◌}
use Rattle.std.specs.List.{zip}
use Rattle.std.proofs.lemmas.Bool.{cases_Bool, lt-ltb}
use Rattle.rly_core.specs.declared.refusal.Refusal.{Refusal}
use Rattle.rly_core.specs.declared.refusal.Refusal.TheVariants as refusal
use Rattle.rly_disk.specs.DiskModel.{Consistent, DiskState, Later}
use Rattle.rly_journal.specs.Journal.{is_command, IsRound, IsSafe, IsShut, JournalState}
use Rattle.rly_journal.specs.Rounds.{AreLostWhereWanted, AreServed, MayWantBytes, MayWantMemory, refusals}
use Rattle.rly_journal.specs.Recovery.{Stands}
use Rattle.rly_machine.specs.declared.call.Answer.{Answer}
use Rattle.rly_machine.specs.declared.call.Call.{Call}
use Rattle.rly_machine.specs.declared.command.Ask.{Ask}
use Rattle.rly_machine.specs.declared.command.Ask.TheVariants as ask
use Rattle.rly_machine.specs.declared.reply.Reply.{Reply}
use Rattle.rly_machine.specs.declared.reply.Reply.TheVariants.{Already, Bytes, Nothing, Picked, Refused, Released, Shown, Taken, Unchanged, WindowIs}
use Rattle.rly_machine.specs.Ask.{ask_step}
use Rattle.rly_machine.specs.History.{is_failure}
use Rattle.rly_machine.specs.Query.{HasBytes, query_reply}
use Rattle.rly_machine.specs.State.{State}
use Rattle.rly_world.specs.PairEnd.{carries_bytes, may_want}
use Rattle.rly_world_pair.specs.HelpersStation.{IsCalled, IsLost, Serves}

-- the reply to a call is the machine's, or it is lost: an allocation or a read failed
abbrev IsServed : Call → Answer → State (List ℕ) → State (List ℕ) → Type 0
IsServed call answer s t =
    ((is_failure answer.reply ≡ false) × (answer.reply ≡ (ask_step s call.ask).1) × (t ≡ (ask_step s call.ask).0))
    ⊎ (IsLost answer.reply × (t ≡ s))

-- only a request that may need an allocation is lost
bytes_carried : (reply : Reply) → HasBytes reply → carries_bytes reply ≡ true
bytes_carried (Bytes payload limit) has = lt-ltb 0 (length payload) has
bytes_carried (Refused _) has = absurd has
bytes_carried (Taken _) has = absurd has
bytes_carried (Already _) has = absurd has
bytes_carried (Picked _ _ _ _) has = absurd has
bytes_carried (Nothing _) has = absurd has
bytes_carried (Released _) has = absurd has
bytes_carried Unchanged has = absurd has
bytes_carried (WindowIs _ _) has = absurd has
bytes_carried (Shown _) has = absurd has

wanted_by : (s : State (List ℕ)) (an : Ask) → MayWantMemory s an → may_want s an ≡ true
wanted_by s (ask.Command command) wants = refl
wanted_by s (ask.Query query) wants = bytes_carried (query_reply s query) wants

unread_by : (s : State (List ℕ)) (an : Ask) → MayWantBytes s an → may_want s an ≡ true
unread_by s (ask.Command command) wants = absurd wants
unread_by s (ask.Query query) wants = bytes_carried (query_reply s query) wants

due_by : (s : State (List ℕ)) (an : Ask) → (is_command an || false) ≡ true → may_want s an ≡ true
due_by s (ask.Command command) holds = refl
due_by s (ask.Query query) holds = absurd (let e : false ≡ true = holds in cc)

-- a round of one call
abbrev pub IsScarce : {D : Type 0} → JournalState D → JournalState D → List Call → List Answer → Type 0
IsScarce old new calls given = AreLostWhereWanted old.state (zip calls given) ⊎ IsShut old new calls given

lost_wants : {D : Type 0} (old new : JournalState D) (call : Call) (given : List Answer) (answer : Answer) → length given ≡ 1
    → IsScarce old new (call ∷ []) given → answer ≡ slice_index_or given 0 answer → IsLost answer.reply → may_want old.state call.ask ≡ true
lost_wants old new call [] answer count scarce is lost = absurd (omega (arith, count))
lost_wants old new call (x ∷ rest) answer count (inl wanted) is (inl starved) =
    wanted_by old.state call.ask (wanted.0 (ap (λ (a : Answer). a.reply) (sym is) ∙ starved))
lost_wants old new call (x ∷ rest) answer count (inl wanted) is (inr unread) =
    unread_by old.state call.ask (wanted.1 (ap (λ (a : Answer). a.reply) (sym is) ∙ unread))
lost_wants old new call (x ∷ rest) answer count (inr shut) is lost = due_by old.state call.ask shut.0.due.0

one_served : (disk : DiskState) (call : Call) (answer : Answer) (s t : State (List ℕ)) → disk.honest → AreServed disk (call ∷ []) (answer ∷ []) s t
    → IsServed call answer s t
one_served disk call answer s t honest served =
    ⊎_elim
    (λ fails. inr (⊎_elim (λ starved. inl starved) (λ unread. inr unread.0) (served.only.0 fails), served.state ∙ ap (λ (b : Bool). if b then s else (ask_step s call.ask).0) fails))
    (λ real. inl (real, (served.exact honest).0.reply real, served.state ∙ ap (λ (b : Bool). if b then s else (ask_step s call.ask).0) real))
    (cases_Bool (is_failure answer.reply))

-- the reply is the first of those that were given
first_served : (disk : DiskState) (call : Call) (given : List Answer) (answer : Answer) (s t : State (List ℕ)) → disk.honest
    → AreServed disk (call ∷ []) given s t → answer ≡ slice_index_or given 0 answer → IsServed call answer s t
first_served disk call [] answer s t honest served is = absurd (omega (arith, served.count))
first_served disk call (x ∷ []) answer s t honest served is = subst (λ (a : Answer). IsServed call a s t) (sym is) (one_served disk call x s t honest served)
first_served disk call (x ∷ y ∷ rest) answer s t honest served is = absurd (omega (arith, served.count))

-- a failed device recovers to the state before the call or after it
target_of : (disk : DiskState) (call : Call) (given : List Answer) (s t : State (List ℕ)) → disk.honest → AreServed disk (call ∷ []) given s t
    → (t ≡ (ask_step s call.ask).0) ⊎ (t ≡ s)
target_of disk call [] s t honest served = absurd (omega (arith, served.count))
target_of disk call (x ∷ []) s t honest served = ⊎_elim (λ real. inl real.2) (λ lost. inr lost.1) (one_served disk call x s t honest served)
target_of disk call (x ∷ y ∷ rest) s t honest served = absurd (omega (arith, served.count))

left_by : (call : Call) (s t : State (List ℕ)) (image : List ℕ) → (t ≡ (ask_step s call.ask).0) ⊎ (t ≡ s) → Stands image s ⊎ Stands image t
    → Stands image s ⊎ Stands image (ask_step s call.ask).0
left_by call s t image target (inl before) = inl before
left_by call s t image (inl made) (inr after) = inr (subst (Stands image) made after)
left_by call s t image (inr stays) (inr after) = inl (subst (Stands image) stays after)

-- a segment was due but wasn't opened
refused_by : (told : Refusal) (position : ℕ) (call : Call) (given : List Answer) (answer : Answer) → given ≡ refusals told position (call ∷ [])
    → answer ≡ slice_index_or given 0 answer → answer.reply ≡ Refused told
refused_by told position call given answer all is =
    ap (λ (a : Answer). a.reply) is ∙ ap (λ (l : List Answer). (slice_index_or l 0 answer).reply) all

shut_called : {D : Type 0} (old new : JournalState D) (call : Call) (given : List Answer) (answer : Answer) → old.broken ≡ false
    → IsShut old new (call ∷ []) given → answer ≡ slice_index_or given 0 answer → Serves old new call.ask answer.reply
shut_called {D} old new call given answer working shut is = record {
  working = working;
  works = ap (λ (j : JournalState D). j.broken) shut.0.same ∙ working;
  goes = inr (
    ⊎_elim (λ starved. inl (refused_by refusal.OutOfMemory old.position call given answer starved is))
        (λ unread. inr (refused_by refusal.DeviceRead old.position call given answer unread is)) shut.1,
    ap (λ (j : JournalState D). j.state) shut.0.same,
    due_by old.state call.ask shut.0.due.0,
  );
}

pub one_called : {D : Type 0} (state : D → DiskState) (old new : JournalState D) (call : Call) (given : List Answer) (answer : Answer)
    → ((disk : D) → (state disk).honest → Consistent (state disk)) → Later (state old.disk) (state new.disk) → (state old.disk).honest
    → (old.broken ≡ false → IsSafe state old new (call ∷ [])) → IsScarce old new (call ∷ []) given
    → IsRound state old new (call ∷ []) given → answer ≡ slice_index_or given 0 answer → IsCalled state old new call.ask answer.reply
one_called state old new call given answer consistent later honest safe scarce (inl rests) is =
    inr (inr (record {
      broken = rests.0;
      reply_is = refused_by refusal.Broken old.position call given answer rests.1 is;
      same = rests.2;
    }))
one_called state old new call given answer consistent later honest safe scarce (inr (inl shut)) is =
    inl (shut_called old new call given answer shut.0 shut.1 is)
one_called state old new call given answer consistent later honest safe scarce (inr (inr (inl goes))) is =
    inl (record {
      working = goes.0;
      works = goes.1.broken;
      goes = elim (first_served (state old.disk) call given answer old.state new.state honest goes.1.served is) [
        | inl real ↦ inl real
        | inr lost ↦ inr (lost.0, lost.1, lost_wants old new call given answer (omega (arith, goes.1.served.count)) scarce is lost.0)
      ];
    })
one_called state old new call given answer consistent later honest safe scarce (inr (inr (inr breaks))) is =
    inr (inl (record {
      working = breaks.0;
      broken = breaks.1.broken;
      reply_is = refused_by refusal.Unsure old.position call given answer breaks.1.unsure is;
      leaves = λ image left.
          let crash = safe breaks.0 in
          let now = consistent new.disk (later.honest.1 honest) in
          left_by call old.state crash.target image (target_of (state old.disk) call crash.given old.state crash.target honest crash.served)
          (crash.leaves.each image (now.counts_now (state old.disk).moment image crash.leaves.later left));
    }))

pub one_round : {D : Type 0} (state : D → DiskState) (old new : JournalState D) (call : Call) (calls : List Call) (before now : List Answer) (answer : Answer)
    → calls ≡ call ∷ [] → before ≡ [] → ((disk : D) → (state disk).honest → Consistent (state disk)) → Later (state old.disk) (state new.disk)
    → (state old.disk).honest → (old.broken ≡ false → IsSafe state old new calls)
    → (given : List Answer) × (now ≡ before ++ given) × IsRound state old new calls given → (given : List Answer) × (now ≡ before ++ given) × IsScarce old new calls given
    → answer ≡ slice_index_or now 0 answer → IsCalled state old new call.ask answer.reply
one_round state old new call calls before now answer one none consistent later honest safe round lost is =
    let same : lost.0 ≡ round.0 =
    sym (lost.1 ∙ ap (λ (l : List Answer). l ++ lost.0) none) ∙ round.1 ∙ ap (λ (l : List Answer). l ++ round.0) none in
    one_called state old new call round.0 answer consistent later honest (λ working. subst (IsSafe state old new) one (safe working))
    (subst (λ (l : List Call). IsScarce old new l round.0) one (subst (IsScarce old new calls) same lost.2))
    (subst (λ (l : List Call). IsRound state old new l round.0) one round.2)
    (is ∙ ap (λ (l : List Answer). slice_index_or l 0 answer) (round.1 ∙ ap (λ (l : List Answer). l ++ round.0) none))
