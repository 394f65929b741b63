-- The calls of a folder that fails at a chosen call, from those of the folder inside.
use Rattle.std.proofs.Common.{[], arith, Bool, Err, is_ok, Ok, Result, false, if◌then◌else◌, inl, inr, List, Option, refl, true, ℕ, ⊎_elim, ◌++◌, ◌+◌, ◌↔◌, ◌∷◌, ◌≡◌}
use Rattle.std.proofs.lemmas.Bool.{and_from, and_parts}
use Rattle.std.specs.List.{list_all}
use Rattle.std.specs.Prelude.{is_err, not}
use Rattle.rly_folder.specs.FaultFolder.{fault_state}
use Rattle.rly_folder.specs.FolderCalls.{is_declined, contents_after, contents_at_end, count_of, Declined, Did, Done, Failed, Faulted, FolderCall, FolderEvent}
use Rattle.rly_folder.specs.FolderCalls.{Follows, hidden_after, images_after, images_after_call, images_at_end, images_within, is_call, is_failed_call, is_faulted, is_other, is_possible, is_sync}
use Rattle.rly_folder.specs.FolderCalls.{is_sync_call, IsOwn, Link, ListNames, Makes, Other, Outcome, outcome_if, outcome_of, ReadFile, Refrained, Remove, Rename, Sync, WriteHidden}
use Rattle.rly_folder.specs.FolderModel.{Contents, File, Files, FolderState}
use Rattle.rly_folder.specs.declared.fault_folder.FaultFolder.{FaultFolder}
use Rattle.rly_folder.proofs.Events.{contents-append, count-append, end_joined, possible-append, within_joined}

-- other programs' changes aren't counted
count_others : (kind : FolderEvent → Bool) (others : List FolderEvent) → ((event : FolderEvent) → is_other event ≡ true → kind event ≡ false)
    → list_all is_other others ≡ true → count_of kind others ≡ 0
count_others kind [] none all = refl
count_others kind (event ∷ others) none all = let parts = and_parts _ _ all in rw (none event parts.0) (omega (arith, count_others kind others none parts.1))

not_failed : (event : FolderEvent) → is_other event ≡ true → is_failed_call event ≡ false
not_failed (Other name file) other = refl
not_failed (Done call) other = refl
not_failed (Declined call) other = refl
not_failed (Failed call done hidden) other = cc

not_call : (event : FolderEvent) → is_other event ≡ true → is_call event ≡ false
not_call (Other name file) other = refl
not_call (Done call) other = cc
not_call (Declined call) other = cc
not_call (Failed call done hidden) other = cc

not_sync : (event : FolderEvent) → is_other event ≡ true → is_sync_call event ≡ false
not_sync (Other name file) other = refl
not_sync (Done call) other = cc
not_sync (Declined call) other = cc
not_sync (Failed call done hidden) other = cc

own_counts : (call : FolderCall) (outcome : Outcome) (own : FolderEvent) → IsOwn call outcome own
    → (is_call own ≡ true) × (is_failed_call own ≡ is_faulted outcome) × (is_sync_call own ≡ is_sync call)
own_counts call Did own is = rw is (refl, refl, refl)
own_counts call Refrained own is = rw is (refl, refl, refl)
own_counts call Faulted own is = rw is.2 (refl, refl, refl)

count_one : (kind : FolderEvent → Bool) (others : List FolderEvent) (own : FolderEvent) → count_of kind others ≡ 0
    → count_of kind (others ++ own ∷ []) ≡ (if kind own then 1 else 0)
count_one kind others own none = omega (arith, count-append kind others (own ∷ []), none)

-- the last event, for another with the same effect
module _ (a b : FolderState) (others : List FolderEvent) (own instead : FolderEvent) where
  pub follows_last : (is_possible own (contents_at_end others a.seen) ≡ true → is_possible instead (contents_at_end others a.seen) ≡ true)
      → contents_after own (contents_at_end others a.seen) ≡ contents_after instead (contents_at_end others a.seen)
      → (is_possible own (contents_at_end others a.seen) ≡ true → (I : Files → Type 0) (c : Files) → images_after own (contents_at_end others a.seen) I c
      → images_after instead (contents_at_end others a.seen) I c)
      → Follows (others ++ own ∷ []) a b → Follows (others ++ instead ∷ []) a b
  follows_last possible contents images f =
      let I : Files → Type 0 = images_at_end others a.seen a.images in
      let parts = and_parts _ _ (rw (possible-append others (own ∷ []) a.seen) at f.possible) in
      let mine : is_possible own (contents_at_end others a.seen) ≡ true = (and_parts _ _ parts.1).0 in
      let last : (c : Files) → images_within (own ∷ []) (contents_at_end others a.seen) I c → images_within (instead ∷ []) (contents_at_end others a.seen) I c =
      λ c. ⊎_elim (λ now. inl now) (λ later. inr (images mine I c later)) in
      record {
        possible = rw (possible-append others (instead ∷ []) a.seen) (and_from _ _ parts.0 (and_from _ _ (possible mine) refl));
        seen = rw (contents-append others (instead ∷ []) a.seen, ← contents, ← contents-append others (own ∷ []) a.seen) f.seen;
        images = λ c image. (end_joined others (instead ∷ []) a.seen a.images c).1 (images mine I c ((end_joined others (own ∷ []) a.seen a.images c).0 (f.images c image)));
        later = f.later;
        since = λ t c le was. ⊎_elim (λ before. inl before)
            (λ within. inr ((within_joined others (instead ∷ []) a.seen a.images c).1
            (⊎_elim (λ during. inl during) (λ end. inr (last c end)) ((within_joined others (own ∷ []) a.seen a.images c).0 within)))) (f.since t c le was);
        keeps = f.keeps;
      }

not_declined : (declined : Bool) → not declined ≡ true → declined ≡ false
not_declined true is = cc
not_declined false is = refl

-- the images after a call are among those after the same call, failed
failed_grows : (call : FolderCall) (contents : Contents) (done : Bool) (hidden : Option File) → is_sync call ≡ false
    → is_possible (Done call) contents ≡ true → (I : Files → Type 0) (c : Files)
    → images_after_call call contents I c → images_after (Failed call done hidden) contents I c
failed_grows (ListNames area) contents done hidden quiet free I c image = inl image
failed_grows (ReadFile name) contents done hidden quiet free I c image = inl image
failed_grows (WriteHidden file) contents done hidden quiet free I c image = inl image
failed_grows (Link to) contents done hidden quiet free I c image = inr (not_declined (is_declined (Link to) contents) free, image)
failed_grows (Rename from to) contents done hidden quiet free I c image = inr (not_declined (is_declined (Rename from to) contents) free, image)
failed_grows (Remove name) contents done hidden quiet free I c image = inr (not_declined (is_declined (Remove name) contents) free, image)
failed_grows Sync contents done hidden quiet free I c image = cc

module _ {F : Type 0} (state : F → FolderState) (old new : FaultFolder F) where
  -- the counters after a call
  pub record Tallied (sync failed : Bool) : Type 0 where
    pub calls : new.counts.calls ≡ old.counts.calls + 1
    pub failures : new.counts.failures ≡ old.counts.failures + (if failed then 1 else 0)
    pub syncs : new.counts.syncs ≡ old.counts.syncs + (if sync then 1 else 0)

  -- a call, from its own event and those before it
  one_event : (call : FolderCall) (outcome : Outcome) (others : List FolderEvent) (own : FolderEvent) → list_all is_other others ≡ true → IsOwn call outcome own
      → Tallied (is_sync call) (is_faulted outcome) → (state new.inner).honest ↔ (state old.inner).honest
      → ((state old.inner).honest → Follows (others ++ own ∷ []) (state old.inner) (state new.inner)) → Makes (fault_state state) call outcome old new
  one_event call outcome others own all is tallied honest follows =
      let counts = own_counts call outcome own is in
      let calls = count_one is_call others own (count_others is_call others not_call all) in
      let failures = count_one is_failed_call others own (count_others is_failed_call others not_failed all) in
      let syncs = count_one is_sync_call others own (count_others is_sync_call others not_sync all) in
      record {
        events = others ++ own ∷ [];
        leads = record {
          calls = rw (calls, counts.0) tallied.calls;
          failures = rw (failures, counts.1) tallied.failures;
          syncs = rw (syncs, counts.2) tallied.syncs;
          honest = honest;
          follows = λ h. let f = follows h in record { possible = f.possible; seen = f.seen; images = f.images; later = f.later; since = f.since; keeps = f.keeps };
        };
        made = inl (record { others = others; own = own; events_are = refl; are_others = all; is_own = is });
      }

  -- the folder inside is as before
  pub fault_chosen : (call : FolderCall) → new.inner ≡ old.inner → Tallied (is_sync call) true → Makes (fault_state state) call Faulted old new
  fault_chosen call same tallied =
      let hidden = (state old.inner).seen.hidden in
      one_event call Faulted [] (Failed call false hidden) refl (false, hidden, refl) tallied (rw same (λ h. h, λ h. h))
      (λ h. rw same (record { possible = refl; seen = refl; images = λ c image. inl image; later = omega arith; since = λ t c le was. inl was; keeps = λ t c le was. was }))

  -- the call was made on the folder inside, with the same result
  pub fault_passed : (call : FolderCall) (outcome : Outcome) → Makes state call outcome old.inner new.inner → Tallied (is_sync call) (is_faulted outcome)
      → Makes (fault_state state) call outcome old new
  fault_passed call outcome made tallied = ⊎_elim
      (λ one. one_event call outcome one.others one.own one.are_others one.is_own tallied made.leads.honest (λ h. rw one.events_are at (made.leads.follows h)))
      (λ spent. rw spent.1 (fault_chosen call spent.3 (rw spent.1 at tallied))) made.made

  -- it was made, and is told as failed
  pub fault_made : (call : FolderCall) (outcome : Outcome) → is_sync call ≡ false → Makes state call outcome old.inner new.inner → Tallied (is_sync call) true
      → Makes (fault_state state) call Faulted old new
  fault_made call Did quiet made tallied = ⊎_elim
      (λ one. let seen : Contents = contents_at_end one.others (state old.inner).seen in
      let hidden : Option File = hidden_after call seen.hidden in
      one_event call Faulted one.others (Failed call true hidden) one.are_others (true, hidden, refl) tallied made.leads.honest
      (λ h. follows_last (state old.inner) (state new.inner) one.others (Done call) (Failed call true hidden) (λ free. free) refl (failed_grows call seen true hidden quiet)
      (rw one.is_own at (rw one.events_are at (made.leads.follows h)))))
      (λ spent. fault_chosen call spent.3 tallied) made.made
  fault_made call Refrained quiet made tallied = ⊎_elim
      (λ one. let seen : Contents = contents_at_end one.others (state old.inner).seen in
      one_event call Faulted one.others (Failed call false seen.hidden) one.are_others (false, seen.hidden, refl) tallied made.leads.honest
      (λ h. follows_last (state old.inner) (state new.inner) one.others (Declined call) (Failed call false seen.hidden) (λ declined. refl) refl (λ declined I c image. inl image)
      (rw one.is_own at (rw one.events_are at (made.leads.follows h)))))
      (λ spent. fault_chosen call spent.3 tallied) made.made
  fault_made call Faulted quiet made tallied = fault_passed call Faulted made tallied

  -- from what the call of the folder inside returned
  pub passed_if : {T E : Type 0} (call : FolderCall) (result : Result T E) (failed : Bool) → failed ≡ is_err result
      → Makes state call (outcome_if (is_ok result)) old.inner new.inner → Tallied (is_sync call) failed → Makes (fault_state state) call (outcome_if (is_ok result)) old new
  passed_if call (Ok x) failed is made tallied = fault_passed call Did made (rw is at tallied)
  passed_if call (Err e) failed is made tallied = fault_passed call Faulted made (rw is at tallied)

  pub passed_of : {E : Type 0} (call : FolderCall) (result : Result Bool E) (failed : Bool) → failed ≡ is_err result
      → Makes state call (outcome_of result) old.inner new.inner → Tallied (is_sync call) failed → Makes (fault_state state) call (outcome_of result) old new
  passed_of call (Ok true) failed is made tallied = fault_passed call Did made (rw is at tallied)
  passed_of call (Ok false) failed is made tallied = fault_passed call Refrained made (rw is at tallied)
  passed_of call (Err e) failed is made tallied = fault_passed call Faulted made (rw is at tallied)
