-- Tries: one list of calls, and one list of tries after another.
use Rattle.std.proofs.Common.{◌≡◌, ◌≤◌, ◌++◌, ◌∷◌, [], ◌∙◌, Bool, true, false, List, length, suc, arith, sym, ap, subst, inl, inr, ⊎_elim, refl, append_assoc}
use Rattle.std.proofs.lemmas.List.{append-nil}
use Rattle.std.proofs.lemmas.Bool.Decides.{nat_tests}
use Rattle.rly_disk.specs.DiskModel.{DiskState, Later}
use Rattle.rly_disk.specs.Trace.{DeviceEvent, EndsAtFailure, EndsUncounted, IsMade, Makes, is_spent}
use Rattle.rly_disk.proofs.Traces.{leads_joined, leads_nothing}
use Rattle.rly_disk.specs.Trials.{AreTried, Tries, Try, row_of}

-- counters that have their maximum value keep it
spent_stays : (a b : DiskState) → a.calls ≤ b.calls → is_spent a ≡ true → is_spent b ≡ true
spent_stays a b more spent = grind (arith, nat_tests)

module _ (spent later : Bool) (stays : spent ≡ true → later ≡ true) where
  made_later : (whole : Bool) (calls events : List DeviceEvent) → IsMade whole spent calls events → IsMade whole later calls events
  made_later true calls events made = made
  made_later false calls events made = ⊎_elim
      (λ (failed : EndsAtFailure calls events). inl failed)
      (λ (short : (spent ≡ true) × EndsUncounted calls events). inr (stays short.0, short.1))
      made

  tried_later : (rows : List Try) (events : List DeviceEvent) → AreTried spent rows events → AreTried later rows events
  tried_later [] events tried = tried
  tried_later (row ∷ rows) events tried =
      (tried.0, tried.1, tried.2, made_later row.whole row.calls tried.0 tried.3, tried_later rows tried.1 tried.4)

tried_joined : (spent : Bool) (rows more : List Try) (events others : List DeviceEvent) → AreTried spent rows events → AreTried spent more others
    → AreTried spent (rows ++ more) (events ++ others)
tried_joined spent [] more events others one two = subst (λ (l : List DeviceEvent). AreTried spent more (l ++ others)) (sym one) two
tried_joined spent (row ∷ rows) more events others one two = (
  one.0,
  one.1 ++ others,
  ap (λ (l : List DeviceEvent). l ++ others) one.2 ∙ append_assoc one.0 one.1 others,
  one.3,
  tried_joined spent rows more one.1 others one.4 two,
)

-- the parts of an empty list are empty
parts_empty : (first second : List DeviceEvent) → first ++ second ≡ [] → (first ≡ []) × (second ≡ [])
parts_empty [] second none = (refl, none)
parts_empty (event ∷ first) second none = let long : suc (length (first ++ second)) ≡ 0 = ap length none in absurd (omega (arith, long))

module _ {D : Type 0} (state : D → DiskState) where
  pub row_tried : {a b : D} (calls : List DeviceEvent) (whole : Bool) → Makes state calls whole a b → Tries state (row_of calls whole ∷ []) a b
  row_tried calls whole made = record {
    events = made.events;
    leads = made.leads;
    tried = (made.events, [], sym (append-nil made.events), made.made, refl);
    untouched = made.untouched;
  }

  pub row_made : {a b : D} (calls : List DeviceEvent) (whole : Bool) → Tries state (row_of calls whole ∷ []) a b → Makes state calls whole a b
  row_made {a} {b} calls whole tries =
      let t = tries.tried in
      let all : tries.events ≡ t.0 = t.2 ∙ ap (λ (l : List DeviceEvent). t.0 ++ l) t.4 ∙ append-nil t.0 in
      record {
        events = tries.events;
        leads = tries.leads;
        made = subst (λ (l : List DeviceEvent). IsMade whole (is_spent (state b)) calls l) (sym all) t.3;
        untouched = tries.untouched;
      }

  pub nothing_tried : (a : D) → Tries state [] a a
  nothing_tried a = record { events = []; leads = leads_nothing (state a); tried = refl; untouched = λ none. refl }

  pub none_tried : {a b : D} → Tries state [] a b → b ≡ a
  none_tried tries = tries.untouched tries.tried

  pub tries_joined : {a b e : D} (rows more : List Try) → Tries state rows a b → Tries state more b e → Tries state (rows ++ more) a e
  tries_joined {a} {b} {e} rows more one two = record {
    events = one.events ++ two.events;
    leads = leads_joined one.events two.events one.leads two.leads;
    tried = tried_joined (is_spent (state e)) rows more one.events two.events
        (tried_later (is_spent (state b)) (is_spent (state e)) (spent_stays (state b) (state e) (omega (arith, two.leads.calls))) rows one.events one.tried)
        two.tried;
    untouched = λ none. let parts = parts_empty one.events two.events none in two.untouched parts.1 ∙ one.untouched parts.0;
  }

  pub tries_later : {a b : D} (rows : List Try) → Tries state rows a b → Later (state a) (state b)
  tries_later rows tries = record {
    size = tries.leads.size;
    honest = tries.leads.honest;
    calls = omega (arith, tries.leads.calls);
    failures = omega (arith, tries.leads.failures);
    syncs = omega (arith, tries.leads.syncs);
    failed_reads = omega (arith, tries.leads.failed_reads);
  }
