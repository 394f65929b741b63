-- The files of a folder over the events of its calls: a property that each change keeps.
use Rattle.std.proofs.Common.{[], Bool, false, true, if◌then◌else◌, List, refl, subst, sym, ⊎_elim, ℕ, None, ◌++◌, ◌∷◌, ◌≡◌}
use Rattle.std.proofs.lemmas.Bool.{and_parts}
use Rattle.std.specs.List.{list_all}
use Rattle.std.specs.Prelude.{◌&&◌, not}
use Rattle.rly_folder.specs.FolderCalls.{are_possible, contents_after, contents_at_end, Declined, Did, Done, Failed, Faulted, files_after, FolderCall, FolderEvent}
use Rattle.rly_folder.specs.FolderCalls.{images_after, images_after_call, images_at_end, images_within, is_declined, is_other, is_possible, IsOneCall, IsOwn, Link, ListNames, MayBeMade, Other, Outcome}
use Rattle.rly_folder.specs.FolderCalls.{ReadFile, Refrained, Remove, Rename, Sync, WriteHidden}
use Rattle.rly_folder.specs.FolderModel.{Contents, Files, with_file}
use Rattle.rly_folder.specs.Names.{name_of}
use Rattle.rly_folder.specs.declared.name.Area.TheVariants.{Out}
use Rattle.rly_folder.proofs.Events.{contents-append, end_joined, possible-append, within_joined}
use Rattle.rly_link_folder.specs.Handing.{OnlyReaders}
use Rattle.rly_link_folder.specs.Script.{AreMade, Step}

-- ---- readers

pub readers_left : (read : ℕ → Bool) (xs ys : List FolderEvent) → OnlyReaders read (xs ++ ys) → OnlyReaders read xs
readers_left read [] ys readers = tt
readers_left read (event ∷ xs) ys readers = (readers.0, readers_left read xs ys readers.1)

pub readers_right : (read : ℕ → Bool) (xs ys : List FolderEvent) → OnlyReaders read (xs ++ ys) → OnlyReaders read ys
readers_right read [] ys readers = readers
readers_right read (event ∷ xs) ys readers = readers_right read xs ys readers.1

pub hidden_others : (events : List FolderEvent) (contents : Contents) → list_all is_other events ≡ true
    → (contents_at_end events contents).hidden ≡ contents.hidden
hidden_others [] contents are = refl
hidden_others (Other name file ∷ events) contents are = hidden_others events (contents_after (Other name file) contents) (and_parts (is_other (Other name file)) (list_all is_other events) are).1
hidden_others (Done call ∷ events) contents are = absurd (cc are)
hidden_others (Declined call ∷ events) contents are = absurd (cc are)
hidden_others (Failed call done hidden ∷ events) contents are = absurd (cc are)

-- ---- one event

module _ (P : Files → Type 0) where
  -- the property holds of what is seen and of each image
  abbrev pub Both : Contents → (Files → Type 0) → Type 0
  Both contents I = P contents.files × ((c : Files) → I c → P c)

  -- a change keeps the property
  abbrev pub Keeps : (Files → Files) → Type 0
  Keeps change = (c : Files) → P c → P (change c)

  pub may : (change : Files → Files) (I : Files → Type 0) → Keeps change → ((c : Files) → I c → P c) → (c : Files) → MayBeMade change I c → P c
  may change I keeps all c image = ⊎_elim (λ before. all c before) (λ made. subst P (sym made.2) (keeps made.0 (all made.0 made.1))) image

  after_call : (call : FolderCall) (contents : Contents) (I : Files → Type 0) → Keeps (files_after call contents) → Both contents I
      → (c : Files) → images_after_call call contents I c → P c
  after_call (ListNames area) contents I keeps both c image = both.1 c image
  after_call (ReadFile name) contents I keeps both c image = both.1 c image
  after_call (WriteHidden file) contents I keeps both c image = both.1 c image
  after_call (Link to) contents I keeps both c image = may _ I keeps both.1 c image
  after_call (Rename from to) contents I keeps both c image = may _ I keeps both.1 c image
  after_call (Remove name) contents I keeps both c image = may _ I keeps both.1 c image
  after_call Sync contents I keeps both c image = subst P (sym image) both.0

  if_done : (made declined : Bool) (files old : Files) → (declined ≡ false → P files) → P old → not (made && declined) ≡ true → P (if made then files else old)
  if_done true false files old change stays possible = change refl
  if_done true true files old change stays possible = absurd (cc possible)
  if_done false declined files old change stays possible = stays

  able : (declined : Bool) → not declined ≡ true → declined ≡ false
  able false is = refl
  able true is = absurd (cc is)

  -- the station's own event, as far as it isn't declined
  pub own_event : (call : FolderCall) (outcome : Outcome) (own : FolderEvent) (contents : Contents) (I : Files → Type 0) → IsOwn call outcome own
      → (is_declined call contents ≡ false → Keeps (files_after call contents)) → is_possible own contents ≡ true → Both contents I
      → Both (contents_after own contents) (images_after own contents I)
  own_event call Did own contents I is keeps possible both = let k = keeps (able _ (rw is at possible)) in
      rw is (k contents.files both.0, after_call call contents I k both)
  own_event call Refrained own contents I is keeps possible both = rw is both
  own_event call Faulted own contents I is keeps possible both = let p : is_possible (Failed call is.0 is.1) contents ≡ true = rw is.2 at possible in
      rw is.2 (
        if_done is.0 (is_declined call contents) (files_after call contents contents.files) contents.files (λ can. keeps can contents.files both.0) both.0 p,
        λ c image. ⊎_elim (λ before. both.1 c before) (λ after. may _ I (keeps after.0) both.1 c after.1) image,
      )

  -- ---- lists of events

  -- the property holds at the end, and of each image of any moment
  abbrev pub Over : List FolderEvent → Contents → (Files → Type 0) → Type 0
  Over events contents I = Both (contents_at_end events contents) (images_at_end events contents I)
      × ((c : Files) → images_within events contents I c → P c)

  pub over_nil : (contents : Contents) (I : Files → Type 0) → Both contents I → Over [] contents I
  over_nil contents I both = (both, both.1)

  pub over_append : (xs ys : List FolderEvent) (contents : Contents) (I : Files → Type 0) → Over xs contents I
      → Over ys (contents_at_end xs contents) (images_at_end xs contents I) → Over (xs ++ ys) contents I
  over_append xs ys contents I one two = (
    (rw (contents-append xs ys contents) two.0.0, λ c image. two.0.1 c ((end_joined xs ys contents I c).0 image)),
    λ c image. ⊎_elim (one.1 c) (two.1 c) ((within_joined xs ys contents I c).0 image),
  )

  module _ (read : ℕ → Bool) (removes : (k : ℕ) → read k ≡ true → Keeps (with_file (name_of Out k) None)) where
    pub others : (events : List FolderEvent) (contents : Contents) (I : Files → Type 0) → OnlyReaders read events → list_all is_other events ≡ true
        → Both contents I → Over events contents I
    others [] contents I readers are both = over_nil contents I both
    others (Other name file ∷ events) contents I readers are both =
        let keeps : Keeps (with_file name file) = rw (readers.0.1, readers.0.2) (removes readers.0.0 readers.0.3) in
        let rest = others events (contents_after (Other name file) contents) (images_after (Other name file) contents I) readers.1 (and_parts (is_other (Other name file)) (list_all is_other events) are).1
        (keeps contents.files both.0, may _ I keeps both.1) in
        (rest.0, λ c image. ⊎_elim (both.1 c) (rest.1 c) image)
    others (Done call ∷ events) contents I readers are both = absurd (cc are)
    others (Declined call ∷ events) contents I readers are both = absurd (cc are)
    others (Failed call done hidden ∷ events) contents I readers are both = absurd (cc are)

    -- one call, after what readers did
    pub one_call : (call : FolderCall) (outcome : Outcome) (events : List FolderEvent) (contents : Contents) (I : Files → Type 0)
        → IsOneCall call outcome events → OnlyReaders read events → are_possible events contents ≡ true
        → ((now : Contents) → now.hidden ≡ contents.hidden → P now.files → is_declined call now ≡ false → Keeps (files_after call now))
        → Both contents I → Over events contents I
    one_call call outcome events contents I made readers possible keeps both =
        let before = others made.others contents I (readers_left read made.others (made.own ∷ []) (rw made.events_are at readers)) made.are_others both in
        let now = contents_at_end made.others contents in
        let can : is_possible made.own now ≡ true = (and_parts _ _ (and_parts _ _ (rw (made.events_are, possible-append made.others (made.own ∷ []) contents) at possible)).1).0 in
        let own = own_event call outcome made.own now (images_at_end made.others contents I) made.is_own
        (keeps now (hidden_others made.others contents made.are_others) before.0.0) can before.0 in
        rw made.events_are (over_append made.others (made.own ∷ []) contents I before (own, λ c image. ⊎_elim (before.0.1 c) (own.1 c) image))

-- ---- a list of calls

-- a property holds over these events, and another at their end if no call failed
abbrev pub Reaches : (P Z : Files → Type 0) (whole : Bool) → List FolderEvent → Contents → (Files → Type 0) → Type 0
Reaches P Z whole events contents I = Over P events contents I × (whole ≡ true → Both Z (contents_at_end events contents) (images_at_end events contents I))

module _ (P Z : Files → Type 0) (read : ℕ → Bool) (removes : (k : ℕ) → read k ≡ true → Keeps P (with_file (name_of Out k) None)) (S : Type 0) (steps : List Step) (whole : Bool) where
  -- from the rest of the calls
  pub first_call : (call : FolderCall) (outcome : Outcome) (events : List FolderEvent) (contents : Contents) (I : Files → Type 0)
      → AreMade S ((call, outcome) ∷ steps) whole events → OnlyReaders read events → are_possible events contents ≡ true
      → ((now : Contents) → now.hidden ≡ contents.hidden → P now.files → is_declined call now ≡ false → Keeps P (files_after call now))
      → Both P contents I
      → ((first rest : List FolderEvent) → IsOneCall call outcome first → OnlyReaders read first → are_possible first contents ≡ true
      → Both P (contents_at_end first contents) (images_at_end first contents I)
      → AreMade S steps whole rest → OnlyReaders read rest → are_possible rest (contents_at_end first contents) ≡ true
      → Reaches P Z whole rest (contents_at_end first contents) (images_at_end first contents I))
      → Reaches P Z whole events contents I
  first_call call outcome events contents I made readers possible keeps both next = ⊎_elim
      (λ go. let first = go.0 in let rest = go.1 in
      let r : OnlyReaders read (first ++ rest) = rw go.2 at readers in
      let p = and_parts _ _ (rw (go.2, possible-append first rest contents) at possible) in
      let one = one_call P read removes call outcome first contents I go.3 (readers_left read first rest r) p.0 keeps both in
      let more = next first rest go.3 (readers_left read first rest r) p.0 one.0 go.4 (readers_right read first rest r) p.1 in
      rw go.2 (
        over_append P first rest contents I one more.0,
        λ all. let z = more.1 all in (rw (contents-append first rest contents) z.0, λ c image. z.1 c ((end_joined first rest contents I c).0 image)),
      ))
      (λ stop. (
        ⊎_elim (λ fault. one_call P read removes call Faulted events contents I fault readers possible keeps both)
            (λ spent. rw spent.0 (over_nil P contents I both)) stop.1,
        λ all. absurd (cc (all, stop.0)),
      ))
      made
