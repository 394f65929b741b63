-- One call of a folder, after what other programs did: a property of its files that each change keeps.
use Rattle.std.proofs.Common.{[], arith, Bool, false, true, if◌then◌else◌, inl, inr, List, refl, subst, sym, ⊎_elim, ℕ, Option, ◌++◌, ◌∷◌, ◌≡◌, ◌∙◌}
use Rattle.std.proofs.lemmas.Bool.{and_parts}
use Rattle.std.specs.List.{list_all}
use Rattle.std.specs.Prelude.{◌&&◌, not}
use Rattle.rly_folder.specs.FolderCalls.{are_possible, contents_after, contents_at_end, Declined, Did, Done, Failed, Faulted, files_after, FolderCall, FolderEvent}
use Rattle.rly_folder.specs.FolderCalls.{images_after, images_after_call, images_at_end, images_within, is_declined, is_other, is_possible, IsOneCall, IsOwn, Link, ListNames, Makes, MayBeMade, Other, Outcome}
use Rattle.rly_folder.specs.FolderCalls.{ReadFile, Refrained, Remove, Rename, Sync, WriteHidden}
use Rattle.rly_folder.specs.FolderModel.{Consistent, Contents, File, Files, FolderState, with_file}
use Rattle.rly_folder.specs.declared.name.Name.{Name}
use Rattle.rly_folder.proofs.Events.{contents-append, end_joined, possible-append, within_joined}
use Rattle.rly_folder_clients.specs.Holding.{Holds, Stays}
use Rattle.rly_folder_clients.specs.Runs.{gives_only, OthersGive}

-- ---- lists of events

pub others_left : (given : Name → Option File → Bool) (xs ys : List FolderEvent) → OthersGive given (xs ++ ys) → OthersGive given xs
others_left given [] ys all = refl
others_left given (event ∷ xs) ys all = let parts = and_parts (gives_only given event) (list_all (gives_only given) (xs ++ ys)) all in
    let rest : list_all (gives_only given) xs ≡ true = others_left given xs ys parts.1 in rw (parts.0, rest) refl

pub hidden_others : (events : List FolderEvent) (contents : Contents) → list_all is_other events ≡ true
    → (contents_at_end events contents).hidden ≡ contents.hidden
hidden_others [] contents are = refl
hidden_others (Other name file ∷ events) contents are = hidden_others events (contents_after (Other name file) contents) (and_parts (is_other (Other name file)) (list_all is_other events) are).1
hidden_others (Done call ∷ events) contents are = absurd (cc are)
hidden_others (Declined call ∷ events) contents are = absurd (cc are)
hidden_others (Failed call done hidden ∷ events) contents are = absurd (cc are)

-- a change keeps the property
abbrev pub Keeps : (Files → Type 0) → (Files → Files) → Type 0
Keeps P change = (c : Files) → P c → P (change c)

-- the property holds of what is seen and of each image
abbrev pub Both : (Files → Type 0) → Contents → (Files → Type 0) → Type 0
Both P contents I = P contents.files × ((c : Files) → I c → P c)

-- it holds at the end of the events, and of each image of any moment
abbrev pub Over : (Files → Type 0) → List FolderEvent → Contents → (Files → Type 0) → Type 0
Over P events contents I = Both P (contents_at_end events contents) (images_at_end events contents I)
    × ((c : Files) → images_within events contents I c → P c)

-- a call that returned so may have changed something
abbrev pub may_change : Outcome → Bool
may_change Did = true
may_change Refrained = false
may_change Faulted = true

module _ (P : Files → Type 0) where
  may : (change : Files → Files) (I : Files → Type 0) → Keeps P change → ((c : Files) → I c → P c) → (c : Files) → MayBeMade change I c → P c
  may change I keeps all c image = ⊎_elim (λ before. all c before) (λ made. subst P (sym made.2) (keeps made.0 (all made.0 made.1))) image

  after_call : (call : FolderCall) (contents : Contents) (I : Files → Type 0) → Keeps P (files_after call contents) → Both P contents I
      → (c : Files) → images_after_call call contents I c → P c
  after_call (ListNames area) contents I keeps both c image = both.1 c image
  after_call (ReadFile name) contents I keeps both c image = both.1 c image
  after_call (WriteHidden file) contents I keeps both c image = both.1 c image
  after_call (Link to) contents I keeps both c image = may _ I keeps both.1 c image
  after_call (Rename from to) contents I keeps both c image = may _ I keeps both.1 c image
  after_call (Remove name) contents I keeps both c image = may _ I keeps both.1 c image
  after_call Sync contents I keeps both c image = subst P (sym image) both.0

  if_made : (made declined : Bool) (files old : Files) → (declined ≡ false → P files) → P old → not (made && declined) ≡ true → P (if made then files else old)
  if_made true false files old change stays possible = change refl
  if_made true true files old change stays possible = absurd (cc possible)
  if_made false declined files old change stays possible = stays

  able : (declined : Bool) → not declined ≡ true → declined ≡ false
  able false is = refl
  able true is = absurd (cc is)

  own_event : (call : FolderCall) (outcome : Outcome) (own : FolderEvent) (contents : Contents) (I : Files → Type 0) → IsOwn call outcome own
      → (may_change outcome ≡ true → is_declined call contents ≡ false → Keeps P (files_after call contents)) → is_possible own contents ≡ true → Both P contents I
      → Both P (contents_after own contents) (images_after own contents I)
  own_event call Did own contents I is keeps possible both = let k = keeps refl (able _ (rw is at possible)) in
      rw is (k contents.files both.0, after_call call contents I k both)
  own_event call Refrained own contents I is keeps possible both = rw is both
  own_event call Faulted own contents I is keeps possible both = let p : is_possible (Failed call is.0 is.1) contents ≡ true = rw is.2 at possible in
      rw is.2 (
        if_made is.0 (is_declined call contents) (files_after call contents contents.files) contents.files (λ can. keeps refl can contents.files both.0) both.0 p,
        λ c image. ⊎_elim (λ before. both.1 c before) (λ after. may _ I (keeps refl after.0) both.1 c after.1) image,
      )

  over_nil : (contents : Contents) (I : Files → Type 0) → Both P contents I → Over P [] contents I
  over_nil contents I both = (both, both.1)

  over_append : (xs ys : List FolderEvent) (contents : Contents) (I : Files → Type 0) → Over P xs contents I
      → Over P ys (contents_at_end xs contents) (images_at_end xs contents I) → Over P (xs ++ ys) contents I
  over_append xs ys contents I one two = (
    (rw (contents-append xs ys contents) two.0.0, λ c image. two.0.1 c ((end_joined xs ys contents I c).0 image)),
    λ c image. ⊎_elim (one.1 c) (two.1 c) ((within_joined xs ys contents I c).0 image),
  )

  -- the changes of other programs, and then one call
  module _ (given : Name → Option File → Bool) (gives : (name : Name) (file : Option File) → given name file ≡ true → Keeps P (with_file name file)) where
    pub others : (events : List FolderEvent) (contents : Contents) (I : Files → Type 0) → OthersGive given events → list_all is_other events ≡ true
        → Both P contents I → Over P events contents I
    others [] contents I kept are both = over_nil contents I both
    others (Other name file ∷ events) contents I kept are both =
        let parts = and_parts (given name file) (list_all (gives_only given) events) kept in
        let keeps : Keeps P (with_file name file) = gives name file parts.0 in
        let rest = others events (contents_after (Other name file) contents) (images_after (Other name file) contents I) parts.1 (and_parts (is_other (Other name file)) (list_all is_other events) are).1
        (keeps contents.files both.0, may _ I keeps both.1) in
        (rest.0, λ c image. ⊎_elim (both.1 c) (rest.1 c) image)
    others (Done call ∷ events) contents I kept are both = absurd (cc are)
    others (Declined call ∷ events) contents I kept are both = absurd (cc are)
    others (Failed call done hidden ∷ events) contents I kept are both = absurd (cc are)

    one_call : (call : FolderCall) (outcome : Outcome) (events : List FolderEvent) (contents : Contents) (I : Files → Type 0)
        → IsOneCall call outcome events → OthersGive given events → are_possible events contents ≡ true
        → ((now : Contents) → now.hidden ≡ contents.hidden → P now.files → may_change outcome ≡ true → is_declined call now ≡ false → Keeps P (files_after call now))
        → Both P contents I → Over P events contents I
    one_call call outcome events contents I made kept possible keeps both =
        let before = others made.others contents I (others_left given made.others (made.own ∷ []) (rw made.events_are at kept)) made.are_others both in
        let now = contents_at_end made.others contents in
        let can : is_possible made.own now ≡ true = (and_parts _ _ (and_parts _ _ (rw (made.events_are, possible-append made.others (made.own ∷ []) contents) at possible)).1).0 in
        let own = own_event call outcome made.own now (images_at_end made.others contents I) made.is_own
        (keeps now (hidden_others made.others contents made.are_others) before.0.0) can before.0 in
        rw made.events_are (over_append made.others (made.own ∷ []) contents I before (own, λ c image. ⊎_elim (before.0.1 c) (own.1 c) image))

    -- ---- a call of a folder

    module _ {D : Type 0} (state : D → FolderState) (consistent : (folder : D) → (state folder).honest → Consistent (state folder)) where
      pub call_stays : {a b : D} (call : FolderCall) (outcome : Outcome) (makes : Makes state call outcome a b) → OthersGive given makes.events
          → ((now : Contents) → now.hidden ≡ (state a).seen.hidden → P now.files → may_change outcome ≡ true → is_declined call now ≡ false → Keeps P (files_after call now))
          → Holds P (state a) → Stays P (state a) (state b)
      call_stays {a} {b} call outcome makes kept keeps holds =
          let f = makes.leads.follows holds.honest in
          let over : Over P makes.events (state a).seen (state a).images = ⊎_elim
          (λ one. one_call call outcome makes.events (state a).seen (state a).images one kept f.possible keeps (holds.seen, holds.each))
          (λ spent. rw spent.0 (over_nil (state a).seen (state a).images (holds.seen, holds.each))) makes.made in
          record {
            crashes = record {
              later = f.later;
              each = λ c was. ⊎_elim (λ earlier. holds.each c ((consistent a holds.honest).only_now c earlier)) (λ within. over.1 c within) (f.since (state a).moment c (omega arith) was);
              before = λ t c le was. ⊎_elim (λ earlier. inl earlier) (λ within. inr (over.1 c within)) (f.since t c le was);
            };
            holds = record {
              honest = makes.leads.honest.1 holds.honest;
              seen = rw f.seen over.0.0;
              each = λ c image. over.0.1 c (f.images c image);
            };
          }

-- ---- one after another

pub stays_joined : (P : Files → Type 0) (a b e : FolderState) → Stays P a b → Stays P b e → Stays P a e
stays_joined P a b e one two = record {
  crashes = record {
    later = omega (arith, one.crashes.later, two.crashes.later);
    each = λ c was. ⊎_elim (λ earlier. one.crashes.each c earlier) (λ p. p) (two.crashes.before a.moment c one.crashes.later was);
    before = λ t c le was. ⊎_elim (λ earlier. one.crashes.before t c le earlier) (λ p. inr p) (two.crashes.before t c (omega (arith, le, one.crashes.later)) was);
  };
  holds = two.holds;
}

pub holds_more : (P Q : Files → Type 0) (a : FolderState) → ((c : Files) → P c → Q c) → Holds P a → Holds Q a
holds_more P Q a more holds = record { honest = holds.honest; seen = more _ holds.seen; each = λ c image. more c (holds.each c image) }

pub stays_more : (P Q : Files → Type 0) (a b : FolderState) → ((c : Files) → P c → Q c) → Stays P a b → Stays Q a b
stays_more P Q a b more stays = record {
  crashes = record {
    later = stays.crashes.later;
    each = λ c was. more c (stays.crashes.each c was);
    before = λ t c le was. ⊎_elim (λ earlier. inl earlier) (λ p. inr (more c p)) (stays.crashes.before t c le was);
  };
  holds = holds_more P Q b more stays.holds;
}

-- ---- what is seen after a call that was done or declined

done_able : (declined : Bool) → not declined ≡ true → declined ≡ false
done_able false is = refl
done_able true is = absurd (cc is)

-- other programs changed what they changed, and this is what the call then found
pub record After (old new : Contents) (call : FolderCall) (event : FolderEvent) (declined : Bool) (events : List FolderEvent) : Type 0 where
  pub others : List FolderEvent
  pub are_others : list_all is_other others ≡ true
  pub events_are : events ≡ others ++ event ∷ []
  pub seen : new ≡ contents_after event (contents_at_end others old)
  pub hidden : (contents_at_end others old).hidden ≡ old.hidden
  pub declines : is_declined call (contents_at_end others old) ≡ declined

last_possible : (found : List FolderEvent) (event : FolderEvent) (contents : Contents) → are_possible (found ++ event ∷ []) contents ≡ true
    → is_possible event (contents_at_end found contents) ≡ true
last_possible found event contents possible = (and_parts _ _ (and_parts _ _ (rw (possible-append found (event ∷ []) contents) at possible)).1).0

module _ {D : Type 0} (state : D → FolderState) {a b : D} (honest : (state a).honest) where
  pub did : (call : FolderCall) (makes : Makes state call Did a b) → After (state a).seen (state b).seen call (Done call) false makes.events
  did call makes = ⊎_elim
      (λ one. let are : makes.events ≡ one.others ++ Done call ∷ [] = rw one.is_own at one.events_are in
      let f = makes.leads.follows honest in
      record {
        others = one.others;
        are_others = one.are_others;
        events_are = are;
        seen = f.seen ∙ (rw (are, contents-append one.others (Done call ∷ []) (state a).seen) refl);
        hidden = hidden_others one.others (state a).seen one.are_others;
        declines = done_able _ (last_possible one.others (Done call) (state a).seen (rw are at f.possible));
      })
      (λ spent. absurd (cc spent.1)) makes.made

  pub refrained : (call : FolderCall) (makes : Makes state call Refrained a b) → After (state a).seen (state b).seen call (Declined call) true makes.events
  refrained call makes = ⊎_elim
      (λ one. let are : makes.events ≡ one.others ++ Declined call ∷ [] = rw one.is_own at one.events_are in
      let f = makes.leads.follows honest in
      record {
        others = one.others;
        are_others = one.are_others;
        events_are = are;
        seen = f.seen ∙ (rw (are, contents-append one.others (Declined call ∷ []) (state a).seen) refl);
        hidden = hidden_others one.others (state a).seen one.are_others;
        declines = last_possible one.others (Declined call) (state a).seen (rw are at f.possible);
      })
      (λ spent. absurd (cc spent.1)) makes.made
