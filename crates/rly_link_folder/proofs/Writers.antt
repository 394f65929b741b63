-- The files of a folder over the events of its calls, while other programs put files.
use Rattle.std.proofs.Common.{[], Bool, false, true, List, ⊎_elim, ℕ, Some, ◌++◌, ◌∷◌, ◌≡◌}
use Rattle.std.proofs.lemmas.Bool.{and_parts}
use Rattle.std.specs.List.{list_all}
use Rattle.std.specs.Prelude.{⊤}
use Rattle.rly_folder.specs.FolderCalls.{are_possible, contents_after, contents_at_end, Declined, Done, Failed, Faulted, files_after, FolderCall, FolderEvent}
use Rattle.rly_folder.specs.FolderCalls.{images_after, images_at_end, is_declined, is_other, is_possible, IsOneCall, Other, Outcome}
use Rattle.rly_folder.specs.FolderModel.{Contents, Files, with_file}
use Rattle.rly_folder.specs.Names.{name_of}
use Rattle.rly_folder.specs.declared.name.Area.TheVariants.{New}
use Rattle.rly_folder.proofs.Events.{possible-append}
use Rattle.rly_link_folder.specs.Incoming.{Ledger, OnlyWriters}
use Rattle.rly_link_folder.specs.Script.{AreMade, Step}
use Rattle.rly_link_folder.proofs.Handed.{Both, Keeps, may, Over, over_append, over_nil, own_event}

module _ (ledger : Ledger) (puts : ℕ → Bool) where
  pub writers_left : (xs ys : List FolderEvent) → OnlyWriters ledger puts (xs ++ ys) → OnlyWriters ledger puts xs
  writers_left [] ys writers = tt
  writers_left (event ∷ xs) ys writers = (writers.0, writers_left xs ys writers.1)

  pub writers_right : (xs ys : List FolderEvent) → OnlyWriters ledger puts (xs ++ ys) → OnlyWriters ledger puts ys
  writers_right [] ys writers = writers
  writers_right (event ∷ xs) ys writers = writers_right xs ys writers.1

  -- a put keeps a property of files
  abbrev pub PutKeeps : (Files → Type 0) → Type 0
  PutKeeps P = (i n : ℕ) → ledger.place i ≡ Some (name_of New n) → puts i ≡ true → Keeps P (with_file (name_of New n) (Some (ledger.file i)))

  module _ (P : Files → Type 0) (keeps : PutKeeps P) where
    pub others : (events : List FolderEvent) (contents : Contents) (I : Files → Type 0) → OnlyWriters ledger puts events → list_all is_other events ≡ true
        → Both P contents I → Over P events contents I
    others [] contents I writers are both = over_nil P contents I both
    others (Other name file ∷ events) contents I writers are both =
        let w = writers.0 in
        let kept : Keeps P (with_file name file) = rw (w.2, w.4) (keeps w.0 w.1 (rw w.2 at w.3) w.5) in
        let rest = others events (contents_after (Other name file) contents) (images_after (Other name file) contents I) writers.1 (and_parts (is_other (Other name file)) (list_all is_other events) are).1
        (kept contents.files both.0, may P _ I kept both.1) in
        (rest.0, λ c image. ⊎_elim (both.1 c) (rest.1 c) image)
    others (Done call ∷ events) contents I writers are both = absurd (cc are)
    others (Declined call ∷ events) contents I writers are both = absurd (cc are)
    others (Failed call done hidden ∷ events) contents I writers are both = absurd (cc are)

    -- of the files that are seen alone
    pub seen_before : (events : List FolderEvent) (contents : Contents) → OnlyWriters ledger puts events → list_all is_other events ≡ true
        → P contents.files → P (contents_at_end events contents).files
    seen_before events contents writers are p = (others events contents (λ c. ⊥) writers are (p, λ c none. absurd none)).0.0

-- one call, after the puts: from a property to a weaker one, which its change keeps
module _ (ledger : Ledger) (puts : ℕ → Bool) (P Q : Files → Type 0) (weaker : (c : Files) → P c → Q c) (keeps : PutKeeps ledger puts P)
    (call : FolderCall) (outcome : Outcome) (events : List FolderEvent) (contents : Contents) (I : Files → Type 0)
    (made : IsOneCall call outcome events) (writers : OnlyWriters ledger puts events) (possible : are_possible events contents ≡ true) where
  abbrev pub at_call : Contents
  at_call = contents_at_end made.others contents

  pub before_call : OnlyWriters ledger puts made.others
  before_call = writers_left ledger puts made.others (made.own ∷ []) (rw made.events_are at writers)

  pub can_be : is_possible made.own at_call ≡ true
  can_be = (and_parts _ _ (and_parts _ _ (rw (made.events_are, possible-append made.others (made.own ∷ []) contents) at possible)).1).0

  pub one_call : ((now : Contents) → P now.files → is_declined call now ≡ false → Keeps Q (files_after call now)) → Both P contents I → Over Q events contents I
  one_call changes both =
      let before = others ledger puts P keeps made.others contents I before_call made.are_others both in
      let over : Over Q made.others contents I = ((weaker _ before.0.0, λ c image. weaker c (before.0.1 c image)), λ c image. weaker c (before.1 c image)) in
      let own = own_event Q call outcome made.own at_call (images_at_end made.others contents I) made.is_own (changes at_call before.0.0) can_be over.0 in
      rw made.events_are (over_append Q made.others (made.own ∷ []) contents I over (own, λ c image. ⊎_elim (over.0.1 c) (own.1 c) image))

-- calls each of which keeps a property
module _ (ledger : Ledger) (puts : ℕ → Bool) (P : Files → Type 0) (keeps : PutKeeps ledger puts P) (S : Type 0) where
  abbrev pub EachKeeps : List Step → Type 0
  EachKeeps [] = ⊤
  EachKeeps (step ∷ steps) = ((now : Contents) → P now.files → is_declined step.0 now ≡ false → Keeps P (files_after step.0 now)) × EachKeeps steps

  pub each_call : (steps : List Step) (whole : Bool) (events : List FolderEvent) (contents : Contents) (I : Files → Type 0) → EachKeeps steps
      → AreMade S steps whole events → OnlyWriters ledger puts events → are_possible events contents ≡ true → Both P contents I → Over P events contents I
  each_call [] whole events contents I changes made writers possible both = rw made.1 (over_nil P contents I both)
  each_call (step ∷ steps) whole events contents I changes made writers possible both = ⊎_elim
      (λ go. let first = go.0 in let rest = go.1 in
      let w : OnlyWriters ledger puts (first ++ rest) = rw go.2 at writers in
      let p = and_parts _ _ (rw (go.2, possible-append first rest contents) at possible) in
      let one = one_call ledger puts P P (λ c pc. pc) keeps step.0 step.1 first contents I go.3 (writers_left ledger puts first rest w) p.0 changes.0 both in
      rw go.2 (over_append P first rest contents I one (each_call steps whole rest _ _ changes.1 go.4 (writers_right ledger puts first rest w) p.1 one.0)))
      (λ stop. ⊎_elim (λ fault. one_call ledger puts P P (λ c pc. pc) keeps step.0 Faulted events contents I fault writers possible changes.0 both)
      (λ spent. rw spent.0 (over_nil P contents I both)) stop.1)
      made
