-- The laws over lists of events.
use Rattle.std.proofs.Common.{[], arith, Bool, false, if◌then◌else◌, inl, inr, List, None, Option, refl, subst, sym, true, ℕ, ⊎_elim, ◌++◌, ◌+◌, ◌∙◌, ◌∷◌, ◌≡◌, ◌⊎◌}
use Rattle.std.proofs.lemmas.Bool.{and_from}
use Rattle.rly_folder.specs.FolderCalls.{contents_after, contents_at_end, count_of, Declined, Did, Done, Failed, FolderCall, FolderEvent, Follows}
use Rattle.rly_folder.specs.FolderCalls.{images_after, images_after_call, images_within, is_call, is_failed_call, is_sync_call, Leads, Link, ListNames, Makes, MayBeMade}
use Rattle.rly_folder.specs.FolderCalls.{Other, ReadFile, Remove, Rename, Sync, WriteHidden}
use Rattle.rly_folder.specs.FolderLaws.{Had, HasHad}
use Rattle.rly_folder.specs.FolderModel.{Consistent, Contents, File, Files, FolderState, LeavesOnly, Settled, with_file}
use Rattle.rly_folder.specs.Names.{is_same_name}
use Rattle.rly_folder.specs.declared.name.Name.{Name}
use Rattle.rly_folder.proofs.Events.{contents-append, count-append, end_grows, end_joined, possible-append, within_grows, within_joined, within_start}

module _ (a b e : FolderState) (first second : List FolderEvent) where
  follows_joined : Follows first a b → Follows second b e → Follows (first ++ second) a e
  follows_joined one two =
      let later : (c : Files) → images_within second b.seen b.images c → images_within (first ++ second) a.seen a.images c = λ c within.
      (within_joined first second a.seen a.images c).1 (inr (within_grows second _ _ _ one.images c (rw one.seen at within))) in
      record {
        possible = rw possible-append (and_from _ _ one.possible (rw one.seen at two.possible));
        seen = two.seen ∙ (rw (one.seen, contents-append) refl);
        images = λ c image. (end_joined first second a.seen a.images c).1 (end_grows second _ _ _ one.images c (rw one.seen at (two.images c image)));
        later = omega (arith, one.later, two.later);
        since = λ t c le was. ⊎_elim
            (λ earlier. ⊎_elim (λ before. inl before) (λ within. inr ((within_joined first second a.seen a.images c).1 (inl within))) (one.since t c le earlier))
            (λ within. inr (later c within)) (two.since t c (omega (arith, le, one.later)) was);
        keeps = λ t c le was. two.keeps t c (omega (arith, le, one.later)) (one.keeps t c le was);
      }

  pub leads_joined : Leads first a b → Leads second b e → Leads (first ++ second) a e
  leads_joined one two = record {
    calls = omega (arith, one.calls, two.calls, count-append is_call first second);
    failures = omega (arith, one.failures, two.failures, count-append is_failed_call first second);
    syncs = omega (arith, one.syncs, two.syncs, count-append is_sync_call first second);
    honest = (λ h. one.honest.0 (two.honest.0 h), λ h. two.honest.1 (one.honest.1 h));
    follows = λ h. follows_joined (one.follows h) (two.follows (one.honest.1 h));
  }

-- a sync that was done
pub settles : {D : Type 0} (state : D → FolderState) {a b : D} → ((folder : D) → (state folder).honest → Consistent (state folder))
    → Makes state Sync Did a b → (state a).honest → Settled (state b)
settles state {a} {b} consistent made h = ⊎_elim
    (λ one. let f = made.leads.follows h in let honest = made.leads.honest.1 h in
    record {
      honest = honest;
      consistent = consistent b honest;
      only = λ c image. let last = (end_joined one.others (one.own ∷ []) (state a).seen (state a).images c).0 (rw one.events_are at (f.images c image)) in
          (rw one.is_own at last) ∙ sym (synced (state a).seen (state b).seen one.others (rw (one.events_are, one.is_own) at f.seen));
    })
    (λ spent. absurd (cc spent.1)) made.made
  where
    synced : (from to : Contents) (others : List FolderEvent) → to ≡ contents_at_end (others ++ Done Sync ∷ []) from → to.files ≡ (contents_at_end others from).files
    synced from to others is = rw (is, contents-append others (Done Sync ∷ []) from) refl

-- from a folder with no change pending
pub any_moment : (a b : FolderState) (events : List FolderEvent) → Leads events a b → Settled a
    → LeavesOnly a b (images_within events a.seen (λ image. image ≡ a.seen.files))
any_moment a b events leads settled =
    let f = leads.follows settled.honest in
    let grown = λ (c : Files) (within : images_within events a.seen a.images c). within_grows events a.seen a.images _ settled.only c within in
    record {
      later = f.later;
      each = λ c was. ⊎_elim (λ before. within_start events a.seen _ c (settled.only c (settled.consistent.only_now c before))) (λ within. grown c within) (f.since a.moment c (omega arith) was);
      before = λ t c le was. ⊎_elim (λ earlier. inl earlier) (λ within. inr (grown c within)) (f.since t c le was);
    }

-- ---- each name has what it had

-- the values that an image may have under a name
module _ (contents : Contents) (P : Name → Option File → Type 0) where
  -- those of before, or what is seen after an event
  abbrev Now : Contents → Name → Option File → Type 0
  Now after name file = P name file ⊎ (after.files name ≡ file)

  pick : (same : Bool) (file seen old : Option File) (Q : Option File → Type 0) → Q old
      → Q (if same then file else old) ⊎ ((if same then file else seen) ≡ (if same then file else old))
  pick true file seen old Q here = inr refl
  pick false file seen old Q here = inl here

  one_file : (name : Name) (file : Option File) (d : Files) (other : Name) → P other (d other)
      → P other (with_file name file d other) ⊎ (with_file name file contents.files other ≡ with_file name file d other)
  one_file name file d other here = pick (is_same_name other name) file (contents.files other) (d other) (P other) here

  two_files : (to from : Name) (file : Option File) (d : Files) (other : Name) → P other (d other)
      → P other (with_file to file (with_file from None d) other)
      ⊎ (with_file to file (with_file from None contents.files) other ≡ with_file to file (with_file from None d) other)
  two_files to from file d other here = both (is_same_name other to) (is_same_name other from)
    where
      both : (first second : Bool) → P other (if first then file else if second then None else d other)
          ⊎ ((if first then file else if second then None else contents.files other) ≡ (if first then file else if second then None else d other))
      both true second = inr refl
      both false true = inr refl
      both false false = inl here

  made_or_not : (change : Files → Files) (I : Files → Type 0) (after : Contents) (c : Files) → ((d : Files) → I d → (name : Name) → P name (d name))
      → ((d : Files) (name : Name) → P name (d name) → P name (change d name) ⊎ (after.files name ≡ change d name))
      → MayBeMade change I c → (name : Name) → Now after name (c name)
  made_or_not change I after c known step image name = ⊎_elim (λ before. inl (known c before name))
      (λ made. subst (λ x. Now after name (x name)) (sym made.2) (step made.0 name (known made.0 made.1 name))) image

  after_call : (call : FolderCall) (I : Files → Type 0) (c : Files) → ((d : Files) → I d → (name : Name) → P name (d name))
      → images_after_call call contents I c → (name : Name) → Now (contents_after (Done call) contents) name (c name)
  after_call (ListNames area) I c known image name = inl (known c image name)
  after_call (ReadFile file) I c known image name = inl (known c image name)
  after_call (WriteHidden file) I c known image name = inl (known c image name)
  after_call (Link to) I c known image name = made_or_not _ I (contents_after (Done (Link to)) contents) c known (λ d other here. one_file to contents.hidden d other here) image name
  after_call (Rename from to) I c known image name = made_or_not _ I (contents_after (Done (Rename from to)) contents) c known (λ d other here. two_files to from (contents.files from) d other here) image name
  after_call (Remove file) I c known image name = made_or_not _ I (contents_after (Done (Remove file)) contents) c known (λ d other here. one_file file None d other here) image name
  after_call Sync I c known image name = inr (rw image refl)

  after_event : (event : FolderEvent) → is_failed_call event ≡ false → (I : Files → Type 0) (c : Files) → ((d : Files) → I d → (name : Name) → P name (d name))
      → images_after event contents I c → (name : Name) → Now (contents_after event contents) name (c name)
  after_event (Done call) sound I c known image name = after_call call I c known image name
  after_event (Declined call) sound I c known image name = inl (known c image name)
  after_event (Failed call done hidden) sound I c known image name = cc
  after_event (Other file bytes) sound I c known image name = made_or_not _ I (contents_after (Other file bytes) contents) c known (λ d other here. one_file file bytes d other here) image name

had_first : (events : List FolderEvent) (contents : Contents) (name : Name) (file : Option File) → contents.files name ≡ file → Had events contents name file
had_first [] contents name file is = is
had_first (event ∷ events) contents name file is = inl is

none_failed : (event : FolderEvent) (events : List FolderEvent) → count_of is_failed_call (event ∷ events) ≡ 0
    → (is_failed_call event ≡ false) × (count_of is_failed_call events ≡ 0)
none_failed event events none = split (is_failed_call event) (count_of is_failed_call events) none
  where
    split : (failed : Bool) (n : ℕ) → (if failed then 1 else 0) + n ≡ 0 → (failed ≡ false) × (n ≡ 0)
    split true n none = absurd (omega (arith, none))
    split false n none = (refl, omega (arith, none))

had_within : (events : List FolderEvent) (contents : Contents) (I : Files → Type 0) (P : Name → Option File → Type 0) (c : Files) → count_of is_failed_call events ≡ 0
    → ((d : Files) → I d → (name : Name) → P name (d name)) → images_within events contents I c → (name : Name) → P name (c name) ⊎ Had events contents name (c name)
had_within [] contents I P c none known image name = inl (known c image name)
had_within (event ∷ events) contents I P c none known image name = let parts = none_failed event events none in
    ⊎_elim (λ now. inl (known c now name))
    (λ later. ⊎_elim (λ of. ⊎_elim (λ before. inl before) (λ seen. inr (inr (had_first events (contents_after event contents) name (c name) seen))) of) (λ had. inr (inr had))
    (had_within events (contents_after event contents) (images_after event contents I) (Now contents P (contents_after event contents)) c parts.1
    (λ d image. after_event contents P event parts.0 I d known image) later name)) image

pub whole_files : (a b : FolderState) (events : List FolderEvent) → Leads events a b → Settled a → count_of is_failed_call events ≡ 0
    → LeavesOnly a b (HasHad events a.seen)
whole_files a b events leads settled none =
    let moments = any_moment a b events leads settled in
    let had : (c : Files) → images_within events a.seen (λ image. image ≡ a.seen.files) c → HasHad events a.seen c = λ c within name.
    ⊎_elim (λ first. had_first events a.seen name (c name) first) (λ had. had)
    (had_within events a.seen (λ image. image ≡ a.seen.files) (λ n file. a.seen.files n ≡ file) c none (λ d is n. rw is refl) within name) in
    record {
      later = moments.later;
      each = λ c was. had c (moments.each c was);
      before = λ t c le was. ⊎_elim (λ earlier. inl earlier) (λ within. inr (had c within)) (moments.before t c le was);
    }
