-- The recorded histories grow, turn by turn.
use Rattle.std.proofs.Common.{◌≡◌, ◌∙◌, ◌<◌, ℕ, zero, suc, List, [], ◌∷◌, ◌++◌, not, Bool, true, false, arith, refl, ap, sym, subst}
use Rattle.std.specs.Prelude.{◌↔◌, IsTrue, Option, Some, None, Err}
use Rattle.std.proofs.lemmas.List.{append-nil, append_assoc}
use Rattle.rly_line.specs.declared.call_error.BatchError.TheVariants.{Lost}
use Rattle.rly_link.specs.declared.turn.Go.{Go}
use Rattle.rly_link.specs.declared.turn.Point.TheVariants.{Heard, Start}
use Rattle.rly_link.specs.declared.turn.Worker.{Worker}
use Rattle.rly_threads_workers.specs.DeskExchanges.{Asked}
use Rattle.rly_link.specs.LinkHistory.{Handed, TellsMore}
use Rattle.rly_threads_workers.specs.HelpersTurns.{Did}
use Rattle.rly_threads_workers.specs.Runs.{EndsView, Ran}
use Rattle.rly_link.specs.declared.link.Sleep.{Sleep}
use Rattle.rly_threads_workers.specs.Turns.{Done, Made, done_in, done_both, hearings_from, nothing_done, receives_of, with_hearings, with_start}

pub tells_nothing : {A : Type 0} (told : Option (List A)) → TellsMore told told []
tells_nothing None = tt
tells_nothing (Some told) = ap Some (sym (append-nil told))

pub tells_more : {A : Type 0} (old mid new : Option (List A)) (a b : List A) → TellsMore old mid a → TellsMore mid new b → TellsMore old new (a ++ b)
tells_more None mid new a b x y = tt
tells_more (Some told) mid new a b x y = (subst (λ m. TellsMore m new b) x y) ∙ ap Some (append_assoc told a b)

-- the ticks if there are none
abbrev pub nowhere : Go
nowhere = record { now = 0; since = 0; on = false }

-- a worker made no calls
abbrev pub no_call : Made
no_call = record { outcome = Err Lost; before = nowhere; after = nowhere }

pub did_nothing : {C : Type 0} (told : EndsView) (c : C) → Did told told c (nothing_done c)
did_nothing told c = record {
  left = refl;
  heard = tells_nothing told.heard;
  sent = tells_nothing told.sent;
  asked = tells_nothing told.asked;
  handed = tells_nothing told.handed;
  woken = tells_nothing told.woken;
}

is_off : (on : Bool) → not on ≡ true → on ≡ false
is_off true e = sym e
is_off false e = refl

-- calls were submitted together, and the messages then requested were sent
pub did_ask : {C : Type 0} (old mid new : EndsView) (c d : C) (calls : Asked) (packets : List (List ℕ)) (handed : List Handed)
    → c ≡ d → TellsMore old.asked mid.asked (calls ∷ []) → TellsMore old.handed mid.handed handed
    → mid ≡ record old { asked = mid.asked; handed = mid.handed } → TellsMore mid.sent new.sent packets → new ≡ record mid { sent = new.sent }
    → Did old new c (record { core = d; heard = []; asked = calls ∷ []; sent = packets; handed = handed; woken = [] })
did_ask old mid new c d calls packets handed left asked around quiet sent quiet_end = record {
  left = left;
  heard = subst (λ h. TellsMore old.heard h []) (sym (ap (λ t. t.heard) quiet_end ∙ ap (λ t. t.heard) quiet)) (tells_nothing old.heard);
  sent = subst (λ s. TellsMore s new.sent packets) (ap (λ t. t.sent) quiet) sent;
  asked = subst (λ a. TellsMore old.asked a (calls ∷ [])) (sym (ap (λ t. t.asked) quiet_end)) asked;
  handed = subst (λ h. TellsMore old.handed h handed) (sym (ap (λ t. t.handed) quiet_end)) around;
  woken = subst (λ h. TellsMore old.woken h []) (sym (ap (λ t. t.woken) quiet_end ∙ ap (λ t. t.woken) quiet)) (tells_nothing old.woken);
}

-- before it packets were received, and the turn's tick was handed out
pub did_hear : {C : Type 0} (old mid new : EndsView) (c : C) (d : Done C) (worker : Worker) (sleep : Sleep) (packets : List (List ℕ)) (at : Go)
    → TellsMore old.heard mid.heard (hearings_from sleep (receives_of packets)) → TellsMore old.handed mid.handed ((worker, Heard, at) ∷ [])
    → mid ≡ record old { heard = mid.heard; handed = mid.handed } → Did mid new c d → Did old new c (with_hearings worker sleep packets at d)
did_hear old mid new c d worker sleep packets at heard moment quiet did = record {
  left = did.left;
  heard = tells_more old.heard mid.heard new.heard (hearings_from sleep (receives_of packets)) d.heard heard did.heard;
  sent = subst (λ s. TellsMore s new.sent d.sent) (ap (λ t. t.sent) quiet) did.sent;
  asked = subst (λ a. TellsMore a new.asked d.asked) (ap (λ t. t.asked) quiet) did.asked;
  handed = tells_more old.handed mid.handed new.handed ((worker, Heard, at) ∷ []) d.handed moment did.handed;
  woken = subst (λ h. TellsMore h new.woken d.woken) (ap (λ t. t.woken) quiet) did.woken;
}

-- before it a worker got the tick at the start of a turn
pub did_start : {C : Type 0} (old mid new : EndsView) (c : C) (d : Done C) (worker : Worker) (start : Go)
    → TellsMore old.handed mid.handed ((worker, Start, record start { on = true }) ∷ []) → mid ≡ record old { handed = mid.handed }
    → Did mid new c d → Did old new c (with_start worker start d)
did_start old mid new c d worker start began quiet did = record {
  left = did.left;
  heard = subst (λ h. TellsMore h new.heard d.heard) (ap (λ t. t.heard) quiet) did.heard;
  sent = subst (λ s. TellsMore s new.sent d.sent) (ap (λ t. t.sent) quiet) did.sent;
  asked = subst (λ a. TellsMore a new.asked d.asked) (ap (λ t. t.asked) quiet) did.asked;
  handed = tells_more old.handed mid.handed new.handed ((worker, Start, record start { on = true }) ∷ []) d.handed began did.handed;
  woken = subst (λ h. TellsMore h new.woken d.woken) (ap (λ t. t.woken) quiet) did.woken;
}

-- it did one thing, and then another
pub did_both : {C : Type 0} (old mid new : EndsView) (b c : C) (d e : Done C) → Did old mid b d → Did mid new c e → Did old new c (done_both d e)
did_both old mid new b c d e first then = record {
  left = then.left;
  heard = tells_more old.heard mid.heard new.heard d.heard e.heard first.heard then.heard;
  sent = tells_more old.sent mid.sent new.sent d.sent e.sent first.sent then.sent;
  asked = tells_more old.asked mid.asked new.asked d.asked e.asked first.asked then.asked;
  handed = tells_more old.handed mid.handed new.handed d.handed e.handed first.handed then.handed;
  woken = tells_more old.woken mid.woken new.woken d.woken e.woken first.woken then.woken;
}

-- after it a worker got its stop
pub did_end : {C : Type 0} (old mid new : EndsView) (c : C) (d : Done C) (worker : Worker) (last : Go)
    → Did old mid c d → TellsMore mid.handed new.handed ((worker, Start, last) ∷ []) → new ≡ record mid { handed = new.handed } → not last.on ≡ true
    → Ran old new worker d
did_end old mid new c d worker last did told quiet off = record {
  last = last;
  off = is_off last.on off;
  heard = subst (λ h. TellsMore old.heard h d.heard) (sym (ap (λ t. t.heard) quiet)) did.heard;
  sent = subst (λ s. TellsMore old.sent s d.sent) (sym (ap (λ t. t.sent) quiet)) did.sent;
  asked = subst (λ a. TellsMore old.asked a d.asked) (sym (ap (λ t. t.asked) quiet)) did.asked;
  handed = tells_more old.handed mid.handed new.handed d.handed ((worker, Start, last) ∷ []) did.handed told;
  woken = subst (λ h. TellsMore old.woken h d.woken) (sym (ap (λ t. t.woken) quiet)) did.woken;
}

-- the last of several turns comes after those before it
pub done_more : {C G : Type 0} (act : C → G → Done C) (c : C) (turns : List G) (given : G)
    → done_in act c (turns ++ given ∷ []) ≡ done_both (done_in act c turns) (act (done_in act c turns).core given)
done_more act c [] given = λ i. record {
  core = (act c given).core;
  heard = append-nil (act c given).heard i;
  asked = append-nil (act c given).asked i;
  sent = append-nil (act c given).sent i;
  handed = append-nil (act c given).handed i;
  woken = append-nil (act c given).woken i;
}
done_more act c (g ∷ turns) given =
    let d = act c g in
    let rest = done_in act d.core turns in
    let last = act rest.core given in
    ap (done_both d) (done_more act d.core turns given) ∙ (λ i. record {
      core = last.core;
      heard = sym (append_assoc d.heard rest.heard last.heard) i;
      asked = sym (append_assoc d.asked rest.asked last.asked) i;
      sent = sym (append_assoc d.sent rest.sent last.sent) i;
      handed = sym (append_assoc d.handed rest.handed last.handed) i;
      woken = sym (append_assoc d.woken rest.woken last.woken) i;
    })

-- so far: these turns were taken, and the worker is in this state
pub record Ongoing {C G : Type 0} (act : C → G → Done C) (first now : C) (old new : EndsView) : Type 0 where
  pub turns : List G
  pub did : Did old new now (done_in act first turns)

pub begun : {C G : Type 0} (act : C → G → Done C) (first : C) (told : EndsView) → Ongoing act first first told told
begun act first told = record { turns = []; did = did_nothing told first }

-- one more turn
pub gone_on : {C G : Type 0} (act : C → G → Done C) (first now next : C) (old mid new : EndsView) (given : G)
    → Ongoing act first now old mid → Did mid new next (act now given) → Ongoing act first next old new
gone_on {C} {G} act first now next old mid new given before did =
    let done = done_in act first before.turns in
    let last : Did mid new next (act done.core given) = subst (λ c. Did mid new next (act c given)) before.did.left did in
    let whole : done_in act first (before.turns ++ given ∷ []) ≡ done_both done (act done.core given) = done_more act first before.turns given in
    record {
      turns = before.turns ++ given ∷ [];
      did = subst (Did old new next) (sym whole) (did_both old mid new now next done (act done.core given) before.did last);
    }

is_on : (on : Bool) → not on ≡ false → on ≡ true
is_on true e = refl
is_on false e = sym e

-- the tick at a start at which the worker continues
pub goes_on : (go : Go) → not go.on ≡ false → go ≡ record go { on = true }
goes_on go e = λ i. record go { on = is_on go.on e i }

-- whether the first half of a turn left something to submit
pub none_if : (found : Bool) (count : ℕ) → IsTrue found ↔ (0 < count) → found ≡ false → count ≡ 0
none_if true count iff e = absurd (cc)
none_if false zero iff e = refl
none_if false (suc count) iff e = let found : false ≡ true = iff.1 (omega arith) in absurd (cc)

pub some_if : (found : Bool) (count : ℕ) → IsTrue found ↔ (0 < count) → found ≡ true → 0 < count
some_if found count iff e = iff.0 e
