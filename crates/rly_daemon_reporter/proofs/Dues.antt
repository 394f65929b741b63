-- Reports that were due, in order.
use Rattle.std.proofs.Common.{◌≡◌, ◌∙◌, ℕ, List, [], ◌∷◌, ◌++◌, Bool, true, refl, ap, sym, subst}
use Rattle.std.specs.Prelude.{Option, Some, None, Result, Ok, Err, length}
use Rattle.std.specs.Io.KnownBytes.{Appends, Keeps}
use Rattle.std.specs.List.{AllByRecursion, flat_map}
use Rattle.std.proofs.Math.Seq.{take-length}
use Rattle.std.proofs.lemmas.List.{append-nil, flat_map_more, map-append}
use Rattle.rly_line.specs.declared.call_error.BatchError.{BatchError}
use Rattle.rly_machine.specs.declared.call.Answer.{Answer}
use Rattle.rly_plan.specs.ContactPlan.{ContactPlan}
use Rattle.rly_daemon_report.specs.declared.counted_report.Counted.{Counted}
use Rattle.rly_daemon_report.specs.Hops.{show_asks}
use Rattle.rly_daemon_reporter.specs.declared.reporter.ReporterEnd.{ReporterEnd}
use Rattle.rly_daemon_reporter.specs.declared.reporter.ReporterEnd.TheVariants.{NoneDue, Closed, Output}
use Rattle.rly_daemon_reporter.specs.HelpersReporterRun.{HasMade, HasWrittenText}
use Rattle.rly_daemon_reporter.specs.ReporterRun.{Due, HasReported, ReporterView, asked_for, asked_in, is_open, moments_in, seen_for, seen_in, text_for, text_in}
use Rattle.rly_daemon_reply.specs.Beginnings.{AppendsBeginning}
use Rattle.rly_daemon_reply.proofs.Flows.{appends_appends, appends_none, begins_more}
use Rattle.rly_link.specs.LinkHistory.{TellsMore}
use Rattle.rly_threads_workers.proofs.Grown.{tells_more, tells_nothing}

-- memory was refused before anything was asked
pub made_none : (plan : ContactPlan) (moment : ℕ) (r : ReporterView) (w : Option (List ℕ)) → HasMade plan (record { moment = moment; made = None }) r r w w (Ok tt)
made_none plan moment r w = record {
  open_still = refl;
  paced = refl;
  asked = tells_nothing r.asked;
  seen = tells_nothing r.seen;
  written = appends_none w;
}

-- nothing was answered
pub made_closed : (plan : ContactPlan) (moment : ℕ) (old new : ReporterView) (w : Option (List ℕ)) (error : BatchError)
    → TellsMore old.asked new.asked ((show_asks plan, Err error) ∷ []) → new ≡ record old { asked = new.asked }
    → HasMade plan (record { moment = moment; made = Some (Err error) }) old new w w (Err Closed)
made_closed plan moment old new w error asked same = record {
  open_still = refl;
  paced = ap (λ r. r.paced) same;
  asked = asked;
  seen = subst (λ s. TellsMore old.seen s []) (sym (ap (λ r. r.seen) same)) (tells_nothing old.seen);
  written = appends_none w;
}

-- the text was written, or a prefix of it, unless memory was refused
pub made_told : (plan : ContactPlan) (moment : ℕ) (old mid new : ReporterView) (before after : Option (List ℕ)) (answers : List Answer) (counted : Counted) (refused : Bool) (outcome : Result (Unit {0}) ReporterEnd)
    → TellsMore old.asked mid.asked ((show_asks plan, Ok answers) ∷ []) → mid ≡ record old { asked = mid.asked }
    → HasWrittenText plan moment answers counted refused mid new before after outcome
    → HasMade plan (record { moment = moment; made = Some (Ok (record { answers = answers; counted = counted; refused = refused })) }) old new before after outcome
made_told plan moment old mid new before after answers counted refused outcome asked same told = record {
  open_still = told.open_still;
  paced = told.paced ∙ ap (λ r. r.paced) same;
  asked = subst (λ a. TellsMore old.asked a ((show_asks plan, Ok answers) ∷ [])) (sym told.asked) asked;
  seen = subst (λ s. TellsMore s new.seen (counted ∷ [])) (ap (λ r. r.seen) same) told.seen;
  written = told.written;
}

pub begins_whole : (a b c : Option (List ℕ)) (text : List ℕ) → Appends a b text → Keeps b c → AppendsBeginning a c text
begins_whole None b c text h k = tt
begins_whole (Some xs) None c text h k = absurd h
begins_whole (Some xs) (Some ys) None text h k = absurd k
begins_whole (Some xs) (Some ys) (Some zs) text h k = (length text, k ∙ h ∙ ap (λ t. xs ++ t) (sym (take-length text)))

-- these reports were due so far, and none found the queue closed
pub record Ongoing (plan : ContactPlan) (old new : ReporterView) (before after : Option (List ℕ)) : Type 0 where
  pub dues : List Due
  pub all_open : AllByRecursion (λ d. is_open d.made ≡ true) dues
  pub paced : TellsMore old.paced new.paced (moments_in dues)
  pub asked : TellsMore old.asked new.asked (asked_in plan dues)
  pub seen : TellsMore old.seen new.seen (seen_in dues)
  pub written : Appends before after (text_in plan dues)

all_one : {A : Type 0} (P : A → Type 0) (xs : List A) (x : A) → AllByRecursion P xs → P x → AllByRecursion P (xs ++ x ∷ [])
all_one P [] x all p = (p, tt)
all_one P (y ∷ xs) x all p = (all.0, all_one P xs x all.1 p)

-- the recorded history grows by that of one more report
flat_told : {A : Type 0} (f : Due → List A) (dues : List Due) (due : Due) (old mid new : Option (List A))
    → TellsMore old mid (flat_map f dues) → TellsMore mid new (f due) → TellsMore old new (flat_map f (dues ++ due ∷ []))
flat_told f dues due old mid new before more =
    subst (TellsMore old new) (flat_map_more f [] dues due) (tells_more old mid new (flat_map f dues) (f due) before more)

-- one more is due
paced_more : (plan : ContactPlan) (dues : List Due) (due : Due) (moment : ℕ) (old mid told new : ReporterView) → TellsMore old.paced mid.paced (moments_in dues)
    → TellsMore mid.paced told.paced (Some moment ∷ []) → due.moment ≡ moment → new.paced ≡ told.paced → TellsMore old.paced new.paced (moments_in (dues ++ due ∷ []))
paced_more plan dues due moment old mid told new before more is same =
    let whole : moments_in dues ++ Some moment ∷ [] ≡ moments_in (dues ++ due ∷ []) = (λ i. moments_in dues ++ Some (sym is i) ∷ []) ∙ sym (map-append (λ (d : Due). Some d.moment) dues (due ∷ [])) in
    subst (λ p. TellsMore old.paced p (moments_in (dues ++ due ∷ []))) (sym same)
    (subst (TellsMore old.paced told.paced) whole (tells_more old.paced mid.paced told.paced (moments_in dues) (Some moment ∷ []) before more))

asked_more : (plan : ContactPlan) (dues : List Due) (due : Due) (old mid told new : ReporterView) → TellsMore old.asked mid.asked (asked_in plan dues)
    → told ≡ record mid { paced = told.paced } → TellsMore told.asked new.asked (asked_for plan due.made) → TellsMore old.asked new.asked (asked_in plan (dues ++ due ∷ []))
asked_more plan dues due old mid told new before quiet more =
    flat_told (λ d. asked_for plan d.made) dues due old.asked mid.asked new.asked before (subst (λ a. TellsMore a new.asked (asked_for plan due.made)) (ap (λ r. r.asked) quiet) more)

seen_more : (dues : List Due) (due : Due) (old mid told new : ReporterView) → TellsMore old.seen mid.seen (seen_in dues)
    → told ≡ record mid { paced = told.paced } → TellsMore told.seen new.seen (seen_for due.made) → TellsMore old.seen new.seen (seen_in (dues ++ due ∷ []))
seen_more dues due old mid told new before quiet more =
    flat_told (λ d. seen_for d.made) dues due old.seen mid.seen new.seen before (subst (λ s. TellsMore s new.seen (seen_for due.made)) (ap (λ r. r.seen) quiet) more)

text_more : (plan : ContactPlan) (dues : List Due) (due : Due) → text_in plan dues ++ text_for plan due.moment due.made ≡ text_in plan (dues ++ due ∷ [])
text_more plan dues due = flat_map_more (λ (d : Due). text_for plan d.moment d.made) [] dues due

-- one more report, after which it goes on
pub gone_on : (plan : ContactPlan) (moment : ℕ) (due : Due) (old mid told new : ReporterView) (before held after : Option (List ℕ)) (none : Unit {0}) → Ongoing plan old mid before held
    → TellsMore mid.paced told.paced (Some moment ∷ []) → told ≡ record mid { paced = told.paced } → due.moment ≡ moment → HasMade plan due told new held after (Ok none) → Ongoing plan old new before after
gone_on plan moment due old mid told new before held after none so_far more quiet is made = record {
  dues = so_far.dues ++ due ∷ [];
  all_open = all_one (λ (d : Due). is_open d.made ≡ true) so_far.dues due so_far.all_open made.open_still;
  paced = paced_more plan so_far.dues due moment old mid told new so_far.paced more is made.paced;
  asked = asked_more plan so_far.dues due old mid told new so_far.asked quiet made.asked;
  seen = seen_more so_far.dues due old mid told new so_far.seen quiet made.seen;
  written = subst (Appends before after) (text_more plan so_far.dues due)
      (appends_appends before held after (text_in plan so_far.dues) (text_for plan due.moment due.made) so_far.written made.written);
}

-- the last report found the queue closed, or the writer failed
pub ended : (plan : ContactPlan) (moment : ℕ) (due : Due) (old mid told new : ReporterView) (before held after : Option (List ℕ)) (end : ReporterEnd) → Ongoing plan old mid before held
    → TellsMore mid.paced told.paced (Some moment ∷ []) → told ≡ record mid { paced = told.paced } → due.moment ≡ moment → HasMade plan due told new held after (Err end) → HasReported plan old new before after end
ended plan moment due old mid told new before held after NoneDue so_far more quiet is made = absurd made.open_still
ended plan moment due old mid told new before held after Closed so_far more quiet is made = record {
  dues = so_far.dues ++ due ∷ [];
  ends = (so_far.dues, due, refl, so_far.all_open, made.open_still);
  paced = subst (TellsMore old.paced new.paced) (sym (append-nil (moments_in (so_far.dues ++ due ∷ [])))) (paced_more plan so_far.dues due moment old mid told new so_far.paced more is made.paced);
  asked = asked_more plan so_far.dues due old mid told new so_far.asked quiet made.asked;
  seen = seen_more so_far.dues due old mid told new so_far.seen quiet made.seen;
  written = subst (Appends before after) (text_more plan so_far.dues due)
      (appends_appends before held after (text_in plan so_far.dues) (text_for plan due.moment due.made) so_far.written made.written);
}
ended plan moment due old mid told new before held after Output so_far more quiet is made = record {
  dues = so_far.dues ++ due ∷ [];
  ends = all_one (λ (d : Due). is_open d.made ≡ true) so_far.dues due so_far.all_open made.open_still;
  paced = subst (TellsMore old.paced new.paced) (sym (append-nil (moments_in (so_far.dues ++ due ∷ [])))) (paced_more plan so_far.dues due moment old mid told new so_far.paced more is made.paced);
  asked = asked_more plan so_far.dues due old mid told new so_far.asked quiet made.asked;
  seen = seen_more so_far.dues due old mid told new so_far.seen quiet made.seen;
  written = subst (AppendsBeginning before after) (text_more plan so_far.dues due)
      (begins_more before held after (text_in plan so_far.dues) (text_for plan due.moment due.made) so_far.written made.written);
}
