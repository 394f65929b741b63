-- Lists of calls: one after another, and cut off at one that failed.
use Rattle.std.proofs.Common.{[], arith, Bool, false, true, inl, inr, List, refl, subst, sym, ⊎_elim, ◌++◌, ◌∷◌, ◌≡◌, ◌∙◌}
use Rattle.std.proofs.lemmas.Bool.{and_from}
use Rattle.std.specs.Prelude.{Err, is_err, is_ok, Ok, OnErr, Result}
use Rattle.rly_folder.specs.FolderCalls.{Did, Faulted, FolderCall, FolderEvent, Follows, images_within, is_call, is_failed_call, is_sync_call}
use Rattle.rly_folder.specs.FolderCalls.{is_faulted, Leads, Makes, Outcome, outcome_if}
use Rattle.rly_folder.specs.FolderModel.{Files, FolderState, IsSpent}
use Rattle.rly_folder.proofs.Events.{contents-append, count-append, end_grows, end_joined, leads_nothing, possible-append, within_grows, within_joined}
use Rattle.rly_link_folder.specs.OutboxCalls.{if_linked}
use Rattle.rly_link_folder.specs.Script.{AreMade, MakesEach, Step}

-- `law_joined` of the folder, as a lemma
module _ (a b e : FolderState) (first second : List FolderEvent) where
  follows_joined : Follows first a b → Follows second b e → Follows (first ++ second) a e
  follows_joined one two =
      let later : (c : Files) → images_within second b.seen b.images c → images_within (first ++ second) a.seen a.images c = λ c within.
      (within_joined first second a.seen a.images c).1 (inr (within_grows second _ _ _ one.images c (rw one.seen at within))) in
      record {
        possible = rw possible-append (and_from _ _ one.possible (rw one.seen at two.possible));
        seen = two.seen ∙ (rw (one.seen, contents-append) refl);
        images = λ c image. (end_joined first second a.seen a.images c).1 (end_grows second _ _ _ one.images c (rw one.seen at (two.images c image)));
        later = omega (arith, one.later, two.later);
        since = λ t c le was. ⊎_elim
            (λ earlier. ⊎_elim (λ before. inl before) (λ within. inr ((within_joined first second a.seen a.images c).1 (inl within))) (one.since t c le earlier))
            (λ within. inr (later c within)) (two.since t c (omega (arith, le, one.later)) was);
        keeps = λ t c le was. two.keeps t c (omega (arith, le, one.later)) (one.keeps t c le was);
      }

  leads_joined : Leads first a b → Leads second b e → Leads (first ++ second) a e
  leads_joined one two = record {
    calls = omega (arith, one.calls, two.calls, count-append is_call first second);
    failures = omega (arith, one.failures, two.failures, count-append is_failed_call first second);
    syncs = omega (arith, one.syncs, two.syncs, count-append is_sync_call first second);
    honest = (λ h. one.honest.0 (two.honest.0 h), λ h. two.honest.1 (one.honest.1 h));
    follows = λ h. follows_joined (one.follows h) (two.follows (one.honest.1 h));
  }

append_assoc : (xs ys zs : List FolderEvent) → (xs ++ ys) ++ zs ≡ xs ++ (ys ++ zs)
append_assoc [] ys zs = refl
append_assoc (x ∷ xs) ys zs = rw (append_assoc xs ys zs) refl

append_none : (xs : List FolderEvent) → xs ≡ xs ++ []
append_none [] = refl
append_none (x ∷ xs) = rw (← append_none xs) refl

module _ {D : Type 0} (state : D → FolderState) where
  pub more : {a m b : D} {steps : List Step} {whole : Bool} (call : FolderCall) (outcome : Outcome) → is_faulted outcome ≡ false
      → Makes state call outcome a m → MakesEach state steps whole m b → MakesEach state ((call, outcome) ∷ steps) whole a b
  more {a} {m} {b} call outcome sound one rest = record {
    events = one.events ++ rest.events;
    leads = leads_joined (state a) (state m) (state b) one.events rest.events one.leads rest.leads;
    made = ⊎_elim (λ made. inl (one.events, rest.events, refl, made, rest.made)) (λ spent. absurd (cc (spent.1, sound))) one.made;
  }

  pub last : {a b : D} (call : FolderCall) (outcome : Outcome) → is_faulted outcome ≡ false
      → Makes state call outcome a b → MakesEach state ((call, outcome) ∷ []) true a b
  last call outcome sound one = record {
    events = one.events;
    leads = one.leads;
    made = ⊎_elim (λ made. inl (one.events, [], append_none one.events, made, (refl, refl))) (λ spent. absurd (cc (spent.1, sound))) one.made;
  }

  pub nothing : {a : D} → MakesEach state [] true a a
  nothing {a} = record { events = []; leads = leads_nothing (state a); made = (refl, refl) }

  pub fault : {a b : D} (call : FolderCall) (outcome : Outcome) (steps : List Step)
      → Makes state call Faulted a b → MakesEach state ((call, outcome) ∷ steps) false a b
  fault {a} {b} call outcome steps one = record {
    events = one.events;
    leads = one.leads;
    made = ⊎_elim (λ made. inr (refl, inl made)) (λ spent. inr (refl, inr (spent.0, subst (λ d. IsSpent (state d)) (sym spent.3) spent.2))) one.made;
  }

  -- a call that can't be declined
  pub ends : {a b : D} (call : FolderCall) (ok : Bool) → Makes state call (outcome_if ok) a b → MakesEach state ((call, Did) ∷ []) ok a b
  ends call true one = last call Did refl one
  ends call false one = fault call Did [] one

pub not_ok : {X E : Type 0} (result : Result X E) → is_err result ≡ true → is_ok result ≡ false
not_ok (Ok x) err = absurd (cc err)
not_ok (Err e) err = refl

pub on_err : {X E P : Type 0} (result : Result X E) → P → OnErr result P
on_err (Ok x) p = tt
on_err (Err e) p = p

pub sound_link : (linked : Bool) → is_faulted (if_linked linked) ≡ false
sound_link true = refl
sound_link false = refl

made_joined : (P S : Type 0) (whole : Bool) (xs ys : List Step) (first second : List FolderEvent) → AreMade P xs true first
    → AreMade S ys whole second → AreMade S (xs ++ ys) whole (first ++ second)
made_joined P S whole [] ys first second one two = rw one.1 two
made_joined P S whole (step ∷ xs) ys first second one two = ⊎_elim
    (λ made. inl (made.0, made.1 ++ second, (rw made.2 (append_assoc made.0 made.1 second)), made.3, made_joined P S whole xs ys made.1 second made.4 two))
    (λ cut. absurd (cc cut.0)) one

made_cut : (S : Type 0) (xs ys : List Step) (events : List FolderEvent) → AreMade S xs false events → AreMade S (xs ++ ys) false events
made_cut S [] ys events made = absurd (cc made.0)
made_cut S (step ∷ xs) ys events made = ⊎_elim (λ one. inl (one.0, one.1, one.2, one.3, made_cut S xs ys one.1 one.4)) (λ cut. inr cut) made

module _ {D : Type 0} (state : D → FolderState) where
  pub joined : {a m b : D} {xs ys : List Step} {whole : Bool} → MakesEach state xs true a m → MakesEach state ys whole m b
      → MakesEach state (xs ++ ys) whole a b
  joined {a} {m} {b} {xs} {ys} {whole} one two = record {
    events = one.events ++ two.events;
    leads = leads_joined (state a) (state m) (state b) one.events two.events one.leads two.leads;
    made = made_joined _ _ whole xs ys one.events two.events one.made two.made;
  }

  pub cut : {a b : D} {xs : List Step} (ys : List Step) → MakesEach state xs false a b → MakesEach state (xs ++ ys) false a b
  cut {a} {b} {xs} ys one = record { events = one.events; leads = one.leads; made = made_cut _ xs ys one.events one.made }
