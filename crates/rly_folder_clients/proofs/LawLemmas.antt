-- A put: its file is there once, and durable.
use Rattle.std.proofs.Common.{[], arith, Bool, false, true, if◌then◌else◌, inl, inr, List, refl, subst, sym, ⊎_elim, ℕ, Some, Option, zero, suc, ◌+◌, ◌∷◌, ◌≡◌, ◌⊎◌, ◌∙◌}
use Rattle.std.proofs.lemmas.Bool.{and_parts}
use Rattle.std.specs.List.{list_all}
use Rattle.std.specs.Prelude.{not}
use Rattle.rly_folder.specs.FolderCalls.{contents_after, contents_at_end, Declined, Did, Done, Failed, Faulted, files_after, FolderCall, FolderEvent, is_other, Link, ListNames, Makes, Other, Outcome, outcome_if, Refrained, Sync, WriteHidden}
use Rattle.rly_folder.specs.FolderModel.{Consistent, Contents, File, Files, FolderState, Settled, with_file}
use Rattle.rly_folder.specs.Names.{is_same_name, name_of}
use Rattle.rly_folder.specs.declared.name.Area.TheVariants.{New}
use Rattle.rly_folder.specs.declared.name.Name.{Name}
use Rattle.rly_folder_clients.specs.Holding.{HasOnly, HasOnlyOr, Holds, Stays}
use Rattle.rly_folder_clients.specs.Putting.{AtLink, AtList, AtSync, AtWrite, Names, first_number, Puts, StopsPut, taken, tries}
use Rattle.rly_folder_clients.specs.Runs.{gives_only, OthersGive, OthersGiveIn, Runs, Step}
use Rattle.rly_folder_clients.specs.Writers.{leaves, OthersInNames, OthersInPut, OthersInStop}
use Rattle.rly_folder_clients.proofs.FolderLemmas.{settles}
use Rattle.rly_folder.proofs.Names.{same_name, same_self}
use Rattle.rly_folder_clients.proofs.Calls.{call_stays, did, Keeps, others_left, refrained, stays_joined, stays_more}

-- a name's file after a change of another name, or of its own
pub pick : (Q : Name → Option File → Type 0) (other name : Name) (new old : Option File) → Q name new → Q other old
    → Q other (if is_same_name other name then new else old)
pick Q other name new old fresh rest = by_test (is_same_name other name) (same_name other name)
  where
    by_test : (b : Bool) → (b ≡ true → other ≡ name) → Q other (if b then new else old)
    by_test true is = subst (λ m. Q m new) (sym (is refl)) fresh
    by_test false is = rest

pub own : (name : Name) (new old : Option File) → (if is_same_name name name then new else old) ≡ new
own name new old = rw (same_self name) refl

pub same_stays : (P : Files → Type 0) (a : FolderState) → Consistent a → Holds P a → Stays P a a
same_stays P a consistent holds = record {
  crashes = record {
    later = omega arith;
    each = λ c was. holds.each c (consistent.only_now c was);
    before = λ t c le was. inl was;
  };
  holds = holds;
}

module _ {D : Type 0} (state : D → FolderState) where
  pub runs_honest : (steps : List Step) (whole : Bool) (a b : D) → Runs state steps whole a b → (state a).honest → (state b).honest
  runs_honest [] whole a b runs h = subst (λ d. (state d).honest) (sym runs.1) h
  runs_honest (step ∷ steps) whole a b runs h = ⊎_elim
      (λ go. runs_honest steps whole go.0 b go.2 (go.1.leads.honest.1 h)) (λ stop. stop.1.leads.honest.1 h) runs

  taken_hidden : (more first : ℕ) (a b : D) → Runs state (taken first more) true a b → (state a).honest → (state b).seen.hidden ≡ (state a).seen.hidden
  taken_hidden zero first a b runs h = rw runs.1 refl
  taken_hidden (suc more) first a b runs h = ⊎_elim
      (λ go. let r = refrained state h (Link (name_of New first)) go.1 in
      let here : (state go.0).seen.hidden ≡ (state a).seen.hidden = rw r.seen r.hidden in
      taken_hidden more (first + 1) go.0 b go.2 (go.1.leads.honest.1 h) ∙ here)
      (λ stop. absurd (cc stop.0)) runs

  tries_hidden : (file : File) (first more : ℕ) (a b : D) → Runs state (tries file first more) true a b → (state a).honest → (state b).seen.hidden ≡ Some file
  tries_hidden file first more a b runs h = ⊎_elim
      (λ go. let w = did state h (WriteHidden file) go.1 in
      let here : (state go.0).seen.hidden ≡ Some file = rw w.seen refl in
      taken_hidden more first go.0 b go.2 (go.1.leads.honest.1 h) ∙ here)
      (λ stop. absurd (cc stop.0)) runs

-- ---- once

module _ (given : Name → Option File → Bool) where
  only_gives : (name : Name) (file : Option File) → given name file ≡ true → Keeps (HasOnly given) (with_file name file)
  only_gives name file is c p other = pick (λ n f. given n f ≡ true) other name file (c other) is (p other)

  module _ (to : Name) (file : File) where
    abbrev Or : Name → Option File → Type 0
    Or name held = (given name held ≡ true) ⊎ ((name ≡ to) × (held ≡ Some file))

    or_gives : (name : Name) (held : Option File) → given name held ≡ true → Keeps (HasOnlyOr given to file) (with_file name held)
    or_gives name held is c p other = pick Or other name held (c other) (inl is) (p other)

    link_keeps : (hidden : Option File) → hidden ≡ Some file → Keeps (HasOnlyOr given to file) (with_file to hidden)
    link_keeps hidden is c p other = pick Or other to hidden (c other) (inr (refl, is)) (p other)

    or_more : (c : Files) → HasOnly given c → HasOnlyOr given to file c
    or_more c p other = inl (p other)

  module _ {D : Type 0} (state : D → FolderState) (consistent : (folder : D) → (state folder).honest → Consistent (state folder)) where
    -- a call that changes no name
    quiet : (call : FolderCall) (outcome : Outcome) → ((now : Contents) (c : Files) → files_after call now c ≡ c) → {a b : D} (makes : Makes state call outcome a b)
        → OthersGive given makes.events → Holds (HasOnly given) (state a) → Stays (HasOnly given) (state a) (state b)
    quiet call outcome same makes kept holds =
        call_stays (HasOnly given) given only_gives state consistent call outcome makes kept (λ now h p may able c pc. subst (HasOnly given) (sym (same now c)) pc) holds

    quiet_or : (to : Name) (file : File) (call : FolderCall) (outcome : Outcome) → ((now : Contents) (c : Files) → files_after call now c ≡ c) → {a b : D}
        (makes : Makes state call outcome a b) → OthersGive given makes.events → Holds (HasOnlyOr given to file) (state a) → Stays (HasOnlyOr given to file) (state a) (state b)
    quiet_or to file call outcome same makes kept holds =
        call_stays (HasOnlyOr given to file) given (or_gives to file) state consistent call outcome makes kept (λ now h p may able c pc. subst (HasOnlyOr given to file) (sym (same now c)) pc) holds

    taken_stays : (more first : ℕ) (a b : D) (runs : Runs state (taken first more) true a b) → OthersGiveIn state given (taken first more) true a b runs
        → Holds (HasOnly given) (state a) → Stays (HasOnly given) (state a) (state b)
    taken_stays zero first a b runs kept holds = subst (λ d. Stays (HasOnly given) (state a) (state d)) (sym runs.1) (same_stays (HasOnly given) (state a) (consistent a holds.honest) holds)
    taken_stays (suc more) first a b (inl go) kept holds =
        let one = call_stays (HasOnly given) given only_gives state consistent (Link (name_of New first)) Refrained go.1 kept.0 (λ now h p may. absurd (cc may)) holds in
        stays_joined (HasOnly given) _ _ _ one (taken_stays more (first + 1) go.0 b go.2 kept.1 one.holds)
    taken_stays (suc more) first a b (inr stop) kept holds = absurd (cc stop.0)

    pub tries_stays : (file : File) (first more : ℕ) (a b : D) (runs : Runs state (tries file first more) true a b) → OthersGiveIn state given (tries file first more) true a b runs
        → Holds (HasOnly given) (state a) → Stays (HasOnly given) (state a) (state b)
    tries_stays file first more a b (inl go) kept holds =
        let one = quiet (WriteHidden file) Did (λ now c. refl) go.1 kept.0 holds in
        stays_joined (HasOnly given) _ _ _ one (taken_stays more first go.0 b go.2 kept.1 one.holds)
    tries_stays file first more a b (inr stop) kept holds = absurd (cc stop.0)

    names_once : (file : File) (first more : ℕ) (outcome : Outcome) {a b : D} (names : Names state file first more outcome a b) → OthersInNames given names
        → Holds (HasOnly given) (state a) → Stays (HasOnlyOr given (name_of New (first + more)) file) (state a) (state b)
    names_once file first more outcome {a} {b} names kept holds =
        let to = name_of New (first + more) in
        let tried = tries_stays file first more a names.tried names.refused kept.0 holds in
        let hidden = tries_hidden state file first more a names.tried names.refused holds.honest in
        let up = stays_more (HasOnly given) (HasOnlyOr given to file) (state a) (state names.tried) (or_more to file) tried in
        stays_joined (HasOnlyOr given to file) _ _ _ up
        (call_stays (HasOnlyOr given to file) given (or_gives to file) state consistent (Link to) outcome names.links kept.1
        (λ now same p may able. link_keeps to file now.hidden (same ∙ hidden)) up.holds)

    pub put_once : (file : File) (now number : ℕ) (durable : Bool) {a b : D} (puts : Puts state file now number durable a b) → OthersInPut given puts
        → Holds (HasOnly given) (state a) → Stays (HasOnlyOr given (name_of New number) file) (state a) (state b)
    put_once file now number durable {a} {b} puts kept holds =
        let to = name_of New number in
        let listed = quiet (ListNames New) Did (λ now c. refl) puts.lists.makes kept.0 holds in
        let named = names_once file _ puts.more Did puts.names kept.1 listed.holds in
        let named_so : Stays (HasOnlyOr given to file) (state puts.listed) (state puts.linked) = rw (← puts.number_is) at named in
        let up = stays_more (HasOnly given) (HasOnlyOr given to file) (state a) (state puts.listed) (or_more to file) listed in
        stays_joined (HasOnlyOr given to file) _ _ _ up
        (stays_joined (HasOnlyOr given to file) _ _ _ named_so (quiet_or to file Sync (outcome_if durable) (λ now c. refl) puts.syncs kept.2 named_so.holds))

    pub stop_once : (file : File) (now : ℕ) {a b : D} (stops : StopsPut state file now a b) → OthersInStop given stops → Holds (HasOnly given) (state a)
        → (number : ℕ) × Stays (HasOnlyOr given (name_of New number) file) (state a) (state b)
    stop_once file now {a} {b} (AtList lists) kept holds =
        (0, stays_more (HasOnly given) (HasOnlyOr given (name_of New 0) file) _ _ (or_more (name_of New 0) file) (quiet (ListNames New) Faulted (λ now c. refl) lists kept holds))
    stop_once file now {a} {b} (AtWrite numbers listed lists writes) kept holds =
        let one = quiet (ListNames New) Did (λ now c. refl) lists.makes kept.0 holds in
        let two = quiet (WriteHidden file) Faulted (λ now c. refl) writes kept.1 one.holds in
        (0, stays_more (HasOnly given) (HasOnlyOr given (name_of New 0) file) _ _ (or_more (name_of New 0) file) (stays_joined (HasOnly given) _ _ _ one two))
    stop_once file now {a} {b} (AtLink numbers more listed lists names) kept holds =
        let one = quiet (ListNames New) Did (λ now c. refl) lists.makes kept.0 holds in
        let named = names_once file _ more Faulted names kept.1 one.holds in
        (_, stays_joined _ _ _ _ (stays_more (HasOnly given) _ _ _ (or_more _ file) one) named)
    stop_once file now {a} {b} (AtSync number puts) kept holds = (number, put_once file now number false puts kept holds)

-- ---- durable

file_left : (to : Name) (events : List FolderEvent) (contents : Contents) → OthersGive (leaves to) events → list_all is_other events ≡ true
    → (contents_at_end events contents).files to ≡ contents.files to
file_left to [] contents kept are = refl
file_left to (Other name file ∷ events) contents kept are =
    let parts = and_parts (leaves to name file) (list_all (gives_only (leaves to)) events) kept in
    file_left to events (contents_after (Other name file) contents) parts.1 (and_parts (is_other (Other name file)) (list_all is_other events) are).1
    ∙ by_test (is_same_name to name) parts.0
  where
    by_test : (b : Bool) → not b ≡ true → (if b then file else contents.files to) ≡ contents.files to
    by_test false is = refl
    by_test true is = absurd (cc is)
file_left to (Done call ∷ events) contents kept are = absurd (cc are)
file_left to (Declined call ∷ events) contents kept are = absurd (cc are)
file_left to (Failed call done hidden ∷ events) contents kept are = absurd (cc are)

pub put_durable : {D : Type 0} (state : D → FolderState) → ((folder : D) → (state folder).honest → Consistent (state folder))
    → (file : File) (now number : ℕ) {a b : D} (puts : Puts state file now number true a b) → OthersGive (leaves (name_of New number)) puts.syncs.events
    → (state a).honest → Settled (state b) × ((state b).seen.files (name_of New number) ≡ Some file)
put_durable state consistent file now number {a} {b} puts kept h =
    let to = name_of New number in
    let h1 = puts.lists.makes.leads.honest.1 h in
    let h2 = runs_honest state (tries file (first_number now puts.numbers) puts.more) true puts.listed puts.names.tried puts.names.refused h1 in
    let h3 = puts.names.links.leads.honest.1 h2 in
    let hidden = tries_hidden state file (first_number now puts.numbers) puts.more puts.listed puts.names.tried puts.names.refused h1 in
    let place : ℕ = first_number now puts.numbers + puts.more in
    let link = did state h2 (Link (name_of New place)) puts.names.links in
    let now = contents_at_end link.others (state puts.names.tried).seen in
    let named : (state puts.linked).seen.files (name_of New place) ≡ Some file = rw link.seen (own (name_of New place) now.hidden (now.files (name_of New place)) ∙ link.hidden ∙ hidden) in
    let named_so : (state puts.linked).seen.files to ≡ Some file = rw (← puts.number_is) at named in
    let sync = did state h3 Sync puts.syncs in
    let stays = file_left to sync.others (state puts.linked).seen (others_left (leaves to) sync.others (Done Sync ∷ []) (rw sync.events_are at kept)) sync.are_others in
    (settles state consistent puts.syncs h3, rw sync.seen (stays ∙ named_so))
