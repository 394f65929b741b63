-- The calls of a reader for one file, one after another: what a crash leaves.
use Rattle.std.proofs.Common.{[], arith, Bool, false, true, inl, inr, List, None, refl, Some, subst, sym, ⊎_elim, ℕ, Option, ◌++◌, ◌∷◌, ◌<◌, ◌≡◌, ◌⊎◌, ◌∙◌}
use Rattle.rly_folder.specs.FolderCalls.{contents_after, contents_at_end, Declined, Did, Done, Faulted, files_after, FolderCall, is_declined, Link, Makes, Outcome, ReadFile, Refrained, Remove, Rename, Sync, WriteHidden}
use Rattle.rly_folder.specs.FolderModel.{Consistent, Contents, File, file_with, Files, FolderState, with_file}
use Rattle.rly_folder.specs.Names.{name_of}
use Rattle.rly_folder.specs.declared.name.Area.TheVariants.{Out, Printed}
use Rattle.rly_folder.specs.declared.name.Name.{Name}
use Rattle.rly_folder_clients.specs.Getting.{if_done, IsKeeping, making, moving, Prints}
use Rattle.rly_folder_clients.specs.Holding.{Holds, Stays}
use Rattle.rly_folder_clients.specs.Reading.{OthersInPrint, Spares, Unread, UnreadFrom}
use Rattle.rly_folder_clients.specs.Runs.{OthersGive, OthersGiveIn, Runs, Step}
use Rattle.rly_folder_clients.proofs.Calls.{call_stays, did, holds_more, Keeps, may_change, others, others_left, refrained, stays_joined, stays_more}
use Rattle.rly_folder_clients.proofs.FolderLemmas.{settles}
use Rattle.rly_folder_clients.proofs.UnreadFiles.{link_makes, link_was_made, removal_keeps, rename_makes, unread_left}

module _ {D : Type 0} (state : D → FolderState) (consistent : (folder : D) → (state folder).honest → Consistent (state folder))
    (waits : ℕ → Option File) (given : Name → Option File → Bool) (spares : Spares waits given) where
  pub gives : (last : ℕ) (name : Name) (file : Option File) → given name file ≡ true → Keeps (Unread waits last) (with_file name file)
  gives last name file is = unread_left waits given spares name file is last

  pub gives_from : (low high : ℕ) (name : Name) (file : Option File) → given name file ≡ true → Keeps (UnreadFrom waits low high) (with_file name file)
  gives_from low high name file is c = ⊎_elim (λ p. inl (gives low name file is c p)) (λ p. inr (gives high name file is c p))

  -- what is seen after a call
  module _ (P Q : Files → Type 0) (keeps : (name : Name) (file : Option File) → given name file ≡ true → Keeps P (with_file name file)) (call : FolderCall) {a b : D}
      (honest : (state a).honest) (here : P (state a).seen.files) where
    pub seen_did : (makes : Makes state call Did a b) → OthersGive given makes.events
        → ((now : Contents) → now.hidden ≡ (state a).seen.hidden → P now.files → is_declined call now ≡ false → Q (files_after call now now.files)) → Q (state b).seen.files
    seen_did makes kept then =
        let d = did state honest call makes in
        let now = contents_at_end d.others (state a).seen in
        let still : P now.files = (others P given keeps d.others (state a).seen (λ c. ⊥) (others_left given d.others (Done call ∷ []) (rw d.events_are at kept)) d.are_others (here, λ c no. absurd no)).0.0 in
        rw d.seen (then now d.hidden still d.declines)

    pub seen_refrained : (makes : Makes state call Refrained a b) → OthersGive given makes.events
        → ((now : Contents) → now.hidden ≡ (state a).seen.hidden → P now.files → is_declined call now ≡ true → Q now.files) → Q (state b).seen.files
    seen_refrained makes kept then =
        let d = refrained state honest call makes in
        let now = contents_at_end d.others (state a).seen in
        let still : P now.files = (others P given keeps d.others (state a).seen (λ c. ⊥) (others_left given d.others (Declined call ∷ []) (rw d.events_are at kept)) d.are_others (here, λ c no. absurd no)).0.0 in
        rw d.seen (then now d.hidden still d.declines)

  -- a call that changes no name
  pub quiet : (last : ℕ) (call : FolderCall) (outcome : Outcome) → ((now : Contents) (c : Files) → files_after call now c ≡ c) → {a b : D} (makes : Makes state call outcome a b)
      → OthersGive given makes.events → Holds (Unread waits last) (state a) → Stays (Unread waits last) (state a) (state b)
  quiet last call outcome same makes kept holds = call_stays (Unread waits last) given (gives last) state consistent call outcome makes kept
      (λ now h p may able c pc. subst (Unread waits last) (sym (same now c)) pc) holds

  pub removes : (last number : ℕ) → (number < last) ⊎ (number ≡ last) → (outcome : Outcome) {a b : D} (makes : Makes state (Remove (name_of Out number)) outcome a b)
      → OthersGive given makes.events → Holds (Unread waits last) (state a) → Stays (Unread waits last) (state a) (state b)
  removes last number below outcome makes kept holds = call_stays (Unread waits last) given (gives last) state consistent (Remove (name_of Out number)) outcome makes kept
      (λ now h p may able. removal_keeps waits last number (omega (arith, below))) holds

  module _ (last number : ℕ) (above : last < number) where
    abbrev Own : Files → Type 0
    Own = Unread waits number

    abbrev From : Files → Type 0
    From = UnreadFrom waits last number

    -- a crash leaves the last number or this one, and once all calls were made this one
    pub record Goes (whole : Bool) (a b : D) : Type 0 where
      pub stays : Stays From (state a) (state b)
      pub holds : whole ≡ true → Holds Own (state b)

    then : {a m b : D} {whole : Bool} → Stays From (state a) (state m) → Goes whole m b → Goes whole a b
    then one two = record { stays = stays_joined From _ _ _ one two.stays; holds = two.holds }

    stopped : {a b : D} {whole : Bool} → whole ≡ false → Stays From (state a) (state b) → Goes whole a b
    stopped cut stays = record { stays = stays; holds = λ is. absurd (cc (is, cut)) }

    step : (call : FolderCall) (outcome : Outcome) {a b : D} (makes : Makes state call outcome a b) → OthersGive given makes.events
        → ((now : Contents) → is_declined call now ≡ false → may_change outcome ≡ true → Keeps From (files_after call now)) → Holds From (state a) → Stays From (state a) (state b)
    step call outcome makes kept keeps holds = call_stays From given (gives_from last number) state consistent call outcome makes kept
        (λ now h p may able. keeps now able may) holds

    abbrev removal : Bool → List Step
    removal there = (Remove (name_of Out number), if_done there) ∷ []

    removing : (there whole : Bool) {a b : D} (runs : Runs state (removal there) whole a b) → OthersGiveIn state given (removal there) whole a b runs → Holds Own (state a) → Goes whole a b
    removing there whole {a} {b} (inl go) kept holds = let one = removes number number (inr refl) (if_done there) go.1 kept.0 holds in
        let stays = stays_more Own From _ _ (λ c p. inr p) one in
        record { stays = subst (λ d. Stays From (state a) (state d)) (sym go.2.1) stays; holds = λ is. subst (λ d. Holds Own (state d)) (sym go.2.1) one.holds }
    removing there whole (inr stop) kept holds = stopped stop.0 (stays_more Own From _ _ (λ c p. inr p) (removes number number (inr refl) Faulted stop.1 kept holds))

    abbrev synced : Bool → List Step
    synced there = (Sync, Did) ∷ removal there

    syncing : (there whole : Bool) {a b : D} (runs : Runs state (synced there) whole a b) → OthersGiveIn state given (synced there) whole a b runs → Holds From (state a) → Own (state a).seen.files → Goes whole a b
    syncing there whole (inl go) kept holds here =
        let settled = settles state consistent go.1 holds.honest in
        let seen = seen_did Own Own (gives number) Sync holds.honest here go.1 kept.0 (λ now h p able. p) in
        then (step Sync Did go.1 kept.0 (λ now able may c pc. pc) holds)
        (removing there whole go.2 kept.1 (record { honest = settled.honest; seen = seen; each = λ c image. subst Own (sym (settled.only c image)) seen }))
    syncing there whole (inr stop) kept holds here = stopped stop.0 (step Sync Faulted stop.1 kept (λ now able may c pc. pc) holds)

    abbrev linked : Bool → Bool → List Step
    linked is there = (Link (name_of Printed number), if_done is) ∷ synced there

    seen_linked : (is : Bool) {a b : D} (makes : Makes state (Link (name_of Printed number)) (if_done is) a b) → OthersGive given makes.events → Holds From (state a)
        → (state a).seen.hidden ≡ Some (file_with [] 0) → Own (state b).seen.files
    seen_linked true makes kept holds hidden = seen_did From Own (gives_from last number) (Link (name_of Printed number)) holds.honest holds.seen makes kept
        (λ now h p able. link_makes waits last number above now now.files able p)
    seen_linked false makes kept holds hidden = seen_refrained From Own (gives_from last number) (Link (name_of Printed number)) holds.honest holds.seen makes kept
        (λ now h p declined. link_was_made waits last number above now declined (h ∙ hidden) p)

    linking : (is there whole : Bool) {a b : D} (runs : Runs state (linked is there) whole a b) → OthersGiveIn state given (linked is there) whole a b runs → Holds From (state a)
        → (state a).seen.hidden ≡ Some (file_with [] 0) → Goes whole a b
    linking is there whole (inl go) kept holds hidden =
        let one = step (Link (name_of Printed number)) (if_done is) go.1 kept.0 (λ now able may c pc. inr (link_makes waits last number above now c able pc)) holds in
        then one (syncing there whole go.2 kept.1 one.holds (seen_linked is go.1 kept.0 holds hidden))
    linking is there whole (inr stop) kept holds hidden =
        stopped stop.0 (step (Link (name_of Printed number)) Faulted stop.1 kept (λ now able may c pc. inr (link_makes waits last number above now c able pc)) holds)

    abbrev written : Bool → Bool → List Step
    written is there = (WriteHidden (file_with [] 0), Did) ∷ linked is there

    writing : (is there whole : Bool) {a b : D} (runs : Runs state (written is there) whole a b) → OthersGiveIn state given (written is there) whole a b runs → Holds From (state a) → Goes whole a b
    writing is there whole (inl go) kept holds =
        let one = step (WriteHidden (file_with [] 0)) Did go.1 kept.0 (λ now able may c pc. pc) holds in
        let hidden : (state go.0).seen.hidden ≡ Some (file_with [] 0) = rw (did state holds.honest (WriteHidden (file_with [] 0)) go.1).seen refl in
        then one (linking is there whole go.2 kept.1 one.holds hidden)
    writing is there whole (inr stop) kept holds = stopped stop.0 (step (WriteHidden (file_with [] 0)) Faulted stop.1 kept (λ now able may c pc. pc) holds)

    abbrev renaming : FolderCall
    renaming = Rename (name_of Printed last) (name_of Printed number)

    moves : (there whole : Bool) {a b : D} (runs : Runs state (moving last number ++ removal there) whole a b) → OthersGiveIn state given (moving last number ++ removal there) whole a b runs
        → Holds From (state a) → Goes whole a b
    moves there whole (inl go) kept holds =
        let one = step renaming Did go.1 kept.0 (λ now able may c pc. inr (rename_makes waits last number above now c able pc)) holds in
        then one (syncing there whole go.2 kept.1 one.holds (seen_did From Own (gives_from last number) renaming holds.honest holds.seen go.1 kept.0
        (λ now h p able. rename_makes waits last number above now now.files able p)))
    moves there whole (inr stop) kept holds = stopped stop.0 (step renaming Faulted stop.1 kept (λ now able may c pc. inr (rename_makes waits last number above now c able pc)) holds)

    makes_one : (is there whole : Bool) {a b : D} (runs : Runs state (making last number is ++ removal there) whole a b) → OthersGiveIn state given (making last number is ++ removal there) whole a b runs
        → Holds From (state a) → Goes whole a b
    makes_one is there whole (inl go) kept holds =
        let one = step renaming Refrained go.1 kept.0 (λ now able may. absurd (cc may)) holds in then one (writing is there whole go.2 kept.1 one.holds)
    makes_one is there whole (inr stop) kept holds = stopped stop.0 (step renaming Faulted stop.1 kept (λ now able may c pc. inr (rename_makes waits last number above now c able pc)) holds)

    abbrev Finishing : List Step → Bool → Bool → D → D → Type 0
    Finishing steps there whole a b = (runs : Runs state (steps ++ removal there) whole a b) → OthersGiveIn state given (steps ++ removal there) whole a b runs → Goes whole a b

    finishing : (steps : List Step) → IsKeeping last number steps → (there whole : Bool) {a b : D} → Holds From (state a) → Finishing steps there whole a b
    finishing steps is there whole {a} {b} holds = ⊎_elim
        (λ moved. subst (λ s. Finishing s there whole a b) (sym moved) (λ runs kept. moves there whole runs kept holds))
        (λ made. subst (λ s. Finishing s there whole a b) (sym made.1) (λ runs kept. makes_one made.0 there whole runs kept holds)) is

    pub printing : (payload : File) (whole : Bool) {a b : D} (prints : Prints state last number payload whole a b) → OthersInPrint given prints → Holds (Unread waits last) (state a) → Goes whole a b
    printing payload whole {a} {b} prints kept holds =
        let read = quiet last (ReadFile (name_of Out number)) Did (λ now c. refl) prints.reads.makes kept.0 holds in
        let f = prints.finishes in
        then (stays_more (Unread waits last) From _ _ (λ c p. inl p) read)
        (finishing f.steps f.keeping f.there whole (holds_more (Unread waits last) From _ (λ c p. inl p) read.holds) f.runs kept.1)
