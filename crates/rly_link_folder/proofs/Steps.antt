-- The calls of an outbox, one after another, over a property of files that each of their changes keeps.
use Rattle.std.proofs.Common.{[], Bool, false, true, inl, inr, List, refl, subst, sym, ℕ, None, Some, Option, IsSome, is_some, is_none, ◌++◌, ◌∷◌, ◌≡◌, ◌∙◌}
use Rattle.std.proofs.lemmas.Bool.{and_parts}
use Rattle.std.specs.List.{list_all}
use Rattle.std.specs.Prelude.{◌||◌, not}
use Rattle.rly_folder.specs.FolderCalls.{are_possible, contents_after, contents_at_end, Did, files_after, FolderCall, FolderEvent}
use Rattle.rly_folder.specs.FolderCalls.{images_after, images_at_end, is_declined, is_other, is_possible, IsOneCall, Link, Outcome, Refrained, Rename, Sync, WriteHidden}
use Rattle.rly_folder.specs.FolderModel.{Contents, File, file_with, Files, with_file}
use Rattle.rly_folder.specs.Names.{name_of}
use Rattle.rly_folder.specs.declared.name.Area.TheVariants.{Kept, Out}
use Rattle.rly_folder.specs.declared.name.Name.{Name}
use Rattle.rly_folder.proofs.Events.{contents-append, end_joined, possible-append}
use Rattle.rly_link_folder.specs.Handing.{OnlyReaders}
use Rattle.rly_link_folder.specs.OutboxCalls.{if_linked, IsKeeping, putting}
use Rattle.rly_link_folder.specs.Script.{AreMade, Step}
use Rattle.rly_link_folder.proofs.Handed.{Both, first_call, hidden_others, Keeps, over_nil, others, Reaches, readers_left}

wrote : (held : File) (first : List FolderEvent) (contents : Contents) → IsOneCall (WriteHidden held) Did first → (contents_at_end first contents).hidden ≡ Some held
wrote held first contents made = rw (made.events_are, contents-append made.others (made.own ∷ []) contents, made.is_own) refl

not_none : (o : Option File) (held : File) → o ≡ Some held → is_none o ≡ false
not_none o held is = rw is refl

second : (one other : Bool) → one ≡ false → (one || other) ≡ true → other ≡ true
second one other is either = rw is at either

-- no call is left
ended : (P Q : Files → Type 0) (whole : Bool) (events : List FolderEvent) (contents : Contents) (I : Files → Type 0) → events ≡ [] → Both P contents I → Both Q contents I
    → Reaches P Q whole events contents I
ended P Q whole events contents I is p q = rw is (over_nil P contents I p, λ all. q)

module _ (read : ℕ → Bool) where
  -- readers leave the property of what is seen
  seen_before : (Q : Files → Type 0) → ((k : ℕ) → read k ≡ true → Keeps Q (with_file (name_of Out k) None)) → (events : List FolderEvent) (contents : Contents)
      → OnlyReaders read events → list_all is_other events ≡ true → Q contents.files → Q (contents_at_end events contents).files
  seen_before Q removes events contents readers are q = (others Q read removes events contents (λ c. ⊥) readers are (q, λ c none. absurd none)).0.0

  module _ (call : FolderCall) (outcome : Outcome) (first : List FolderEvent) (contents : Contents) (made : IsOneCall call outcome first) where
    abbrev now : Contents
    now = contents_at_end made.others contents

    at_end : contents_at_end first contents ≡ contents_after made.own now
    at_end = rw (made.events_are, contents-append made.others (made.own ∷ []) contents) refl

    can : are_possible first contents ≡ true → is_possible made.own now ≡ true
    can possible = (and_parts _ _ (and_parts _ _ (rw (made.events_are, possible-append made.others (made.own ∷ []) contents) at possible)).1).0

    before : OnlyReaders read first → OnlyReaders read made.others
    before readers = readers_left read made.others (made.own ∷ []) (rw made.events_are at readers)

  -- a sync makes what is seen the only image
  synced : (Q : Files → Type 0) → ((k : ℕ) → read k ≡ true → Keeps Q (with_file (name_of Out k) None)) → (first : List FolderEvent) (contents : Contents) (I : Files → Type 0)
      → IsOneCall Sync Did first → OnlyReaders read first → Q contents.files → Both Q (contents_at_end first contents) (images_at_end first contents I)
  synced Q removes first contents I made readers q =
      let n = now Sync Did first contents made in
      let here : Q n.files = seen_before Q removes made.others contents (before Sync Did first contents made readers) made.are_others q in
      let last : (c : Files) → images_at_end first contents I c → c ≡ n.files = λ c image.
      (let there : images_after made.own n (images_at_end made.others contents I) c = (end_joined made.others (made.own ∷ []) contents I c).0 (rw made.events_are at image) in rw made.is_own at there) in
      (rw (at_end Sync Did first contents made, made.is_own) here, λ c image. subst Q (sym (last c image)) here)

  -- after a link the name has the file, or had one
  linked_file : (P Q : Files → Type 0) → ((k : ℕ) → read k ≡ true → Keeps P (with_file (name_of Out k) None)) → (held : File) (to : Name) (linked : Bool)
      → ((files : Files) → P files → Q (with_file to (Some held) files)) → ((files : Files) → P files → IsSome (files to) → Q files)
      → (first : List FolderEvent) (contents : Contents) → IsOneCall (Link to) (if_linked linked) first → OnlyReaders read first → are_possible first contents ≡ true
      → contents.hidden ≡ Some held → P contents.files → Q (contents_at_end first contents).files
  linked_file P Q removes held to true gives had first contents made readers possible hidden p =
      let n = now (Link to) Did first contents made in
      let here : P n.files = seen_before P removes made.others contents (before (Link to) Did first contents made readers) made.are_others p in
      rw (at_end (Link to) Did first contents made, made.is_own)
      (subst (λ h. Q (with_file to h n.files)) (sym (hidden_others made.others contents made.are_others ∙ hidden)) (gives n.files here))
  linked_file P Q removes held to false gives had first contents made readers possible hidden p =
      let n = now (Link to) Refrained first contents made in
      let here : P n.files = seen_before P removes made.others contents (before (Link to) Refrained first contents made readers) made.are_others p in
      let taken : (is_none n.hidden || is_some (n.files to)) ≡ true = rw made.is_own at (can (Link to) Refrained first contents made possible) in
      let some = second (is_none n.hidden) (is_some (n.files to)) (not_none n.hidden held (hidden_others made.others contents made.are_others ∙ hidden)) taken in
      rw (at_end (Link to) Refrained first contents made, made.is_own) (had n.files here some)

  -- after a rename the new name has the file
  renamed_file : (P Q : Files → Type 0) → ((k : ℕ) → read k ≡ true → Keeps P (with_file (name_of Out k) None)) → (from to : Name)
      → ((files : Files) (file : File) → P files → Q (with_file to (Some file) (with_file from None files)))
      → (first : List FolderEvent) (contents : Contents) → IsOneCall (Rename from to) Did first → OnlyReaders read first → are_possible first contents ≡ true
      → P contents.files → Q (contents_at_end first contents).files
  renamed_file P Q removes from to gives first contents made readers possible p =
      let n = now (Rename from to) Did first contents made in
      let here : P n.files = seen_before P removes made.others contents (before (Rename from to) Did first contents made readers) made.are_others p in
      let able : not (is_none (n.files from)) ≡ true = rw made.is_own at (can (Rename from to) Did first contents made possible) in
      let file = a_file (n.files from) able in
      rw (at_end (Rename from to) Did first contents made, made.is_own, file.1) (gives n.files file.0 here)
    where
      a_file : (o : Option File) → not (is_none o) ≡ true → (file : File) × (o ≡ Some file)
      a_file (Some file) able = (file, refl)
      a_file None able = absurd (cc able)

moved_change : (P : Files → Type 0) (from to : Name) → ((files : Files) (file : File) → P files → P (with_file to (Some file) (with_file from None files)))
    → (now : Contents) → is_declined (Rename from to) now ≡ false → Keeps P (files_after (Rename from to) now)
moved_change P from to keeps now able c p = by_file (now.files from) able
  where
    by_file : (o : Option File) → is_none o ≡ false → P (with_file to o (with_file from None c))
    by_file (Some file) able = keeps c file p
    by_file None able = absurd (cc able)

module _ (P Q Z : Files → Type 0) (read : ℕ → Bool) (removes : (k : ℕ) → read k ≡ true → Keeps P (with_file (name_of Out k) None))
    (removes_too : (k : ℕ) → read k ≡ true → Keeps Q (with_file (name_of Out k) None)) (S : Type 0) (steps : List Step) (whole : Bool) where
  -- a file is given its name, and then the rest of the calls is made
  pub puts : (held : File) (to : Name) (linked : Bool) → Keeps P (with_file to (Some held))
      → ((files : Files) → P files → Q (with_file to (Some held) files)) → ((files : Files) → P files → IsSome (files to) → Q files)
      → ((rest : List FolderEvent) (final : Contents) (J : Files → Type 0) → Both P final J → Both Q final J → AreMade S steps whole rest → OnlyReaders read rest
      → are_possible rest final ≡ true → Reaches P Z whole rest final J)
      → (events : List FolderEvent) (contents : Contents) (I : Files → Type 0) → AreMade S (putting held to linked ++ steps) whole events → OnlyReaders read events
      → are_possible events contents ≡ true → Both P contents I → Reaches P Z whole events contents I
  puts held to linked keeps gives had next events contents I made readers possible both =
      first_call P Z read removes S ((Link to, if_linked linked) ∷ (Sync, Did) ∷ steps) whole (WriteHidden held) Did events contents I made readers possible (λ now same p able c pc. pc) both
      (λ f1 r1 one1 readers1 possible1 both1 made1 left1 can1.
      let hidden = wrote held f1 contents one1 in
      first_call P Z read removes S ((Sync, Did) ∷ steps) whole (Link to) (if_linked linked) r1 _ _ made1 left1 can1
      (λ now same p able c pc. rw (same, hidden) (keeps c pc)) both1
      (λ f2 r2 one2 readers2 possible2 both2 made2 left2 can2.
      let q = linked_file read P Q removes held to linked gives had f2 _ one2 readers2 possible2 hidden both1.0 in
      first_call P Z read removes S steps whole Sync Did r2 _ _ made2 left2 can2 (λ now same p able c pc. pc) both2
      (λ f3 r3 one3 readers3 possible3 both3 made3 left3 can3. next r3 _ _ both3 (synced read Q removes_too f3 _ _ one3 readers3 q) made3 left3 can3)))

-- the hidden name is moved, or made
module _ (P Q : Files → Type 0) (read : ℕ → Bool) (removes : (k : ℕ) → read k ≡ true → Keeps P (with_file (name_of Out k) None))
    (removes_too : (k : ℕ) → read k ≡ true → Keeps Q (with_file (name_of Out k) None)) (S : Type 0) (whole : Bool) where
  pub keeps_number : (from to : ℕ) (steps : List Step) → IsKeeping from to steps
      → Keeps P (with_file (name_of Kept to) (Some (file_with [] 0)))
      → ((files : Files) (file : File) → P files → P (with_file (name_of Kept to) (Some file) (with_file (name_of Kept from) None files)))
      → ((files : Files) → P files → Q (with_file (name_of Kept to) (Some (file_with [] 0)) files)) → ((files : Files) → P files → IsSome (files (name_of Kept to)) → Q files)
      → ((files : Files) (file : File) → P files → Q (with_file (name_of Kept to) (Some file) (with_file (name_of Kept from) None files)))
      → (events : List FolderEvent) (contents : Contents) (I : Files → Type 0) → AreMade S steps whole events → OnlyReaders read events
      → are_possible events contents ≡ true → Both P contents I → Reaches P Q whole events contents I
  keeps_number from to steps (inl moved) keeps moves gives had renamed events contents I made readers possible both =
      first_call P Q read removes S ((Sync, Did) ∷ []) whole (Rename (name_of Kept from) (name_of Kept to)) Did events contents I (rw moved at made) readers possible
      (λ now same p able. moved_change P (name_of Kept from) (name_of Kept to) moves now able) both
      (λ f1 r1 one1 readers1 possible1 both1 made1 left1 can1.
      let q = renamed_file read P Q removes (name_of Kept from) (name_of Kept to) renamed f1 contents one1 readers1 possible1 both.0 in
      first_call P Q read removes S [] whole Sync Did r1 _ _ made1 left1 can1 (λ now same p able c pc. pc) both1
      (λ f2 r2 one2 readers2 possible2 both2 made2 left2 can2.
      let then1 = contents_at_end f1 contents in let images1 = images_at_end f1 contents I in
      ended P Q whole r2 (contents_at_end f2 then1) (images_at_end f2 then1 images1) made2.1 both2 (synced read Q removes_too f2 then1 images1 one2 readers2 q)))
  keeps_number from to steps (inr made_new) keeps moves gives had renamed events contents I made readers possible both =
      first_call P Q read removes S (putting (file_with [] 0) (name_of Kept to) made_new.0) whole (Rename (name_of Kept from) (name_of Kept to)) Refrained events contents I (rw made_new.1 at made) readers possible
      (λ now same p able. moved_change P (name_of Kept from) (name_of Kept to) moves now able) both
      (λ f1 r1 one1 readers1 possible1 both1 made1 left1 can1.
      puts P Q Q read removes removes_too S [] whole (file_with [] 0) (name_of Kept to) made_new.0 keeps gives had
      (λ rest final J p q last left can. ended P Q whole rest final J last.1 p q) r1 _ _ made1 left1 can1 both1)
