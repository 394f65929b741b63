-- Lists of events of a folder: one after another, and one call.
use Rattle.std.proofs.Common.{[], arith, Bool, inl, inr, List, refl, ⊎_elim, ◌++◌, ◌+◌, ◌↔◌, ◌∷◌, ◌≡◌, ◌⊎◌}
use Rattle.std.specs.Prelude.{◌&&◌}
use Rattle.rly_folder.specs.FolderCalls.{are_possible, contents_after, contents_at_end, count_of, Done, Declined, Failed, FolderCall, FolderEvent}
use Rattle.rly_folder.specs.FolderCalls.{Faulted, images_after, images_after_call, images_at_end, images_within, IsOneCall, Link, ListNames, ReadFile, Remove, Rename, Sync, WriteHidden}
use Rattle.rly_folder.specs.FolderCalls.{IsOwn, Leads, Makes, MayBeMade, Other, Outcome, files_after}
use Rattle.rly_folder.specs.FolderModel.{Contents, Files, FolderState, IsSpent}

-- ---- one list after another

pub contents-append : (xs ys : List FolderEvent) (contents : Contents) → contents_at_end (xs ++ ys) contents ≡ contents_at_end ys (contents_at_end xs contents)
contents-append [] ys contents = refl
contents-append (event ∷ xs) ys contents = contents-append xs ys (contents_after event contents)

pub possible-append : (xs ys : List FolderEvent) (contents : Contents)
    → are_possible (xs ++ ys) contents ≡ (are_possible xs contents && are_possible ys (contents_at_end xs contents))
possible-append [] ys contents = refl
possible-append (event ∷ xs) ys contents = let more = possible-append xs ys (contents_after event contents) in grind arith

-- more images before a list give more after it
may_grow : (change : Files → Files) (I K : Files → Type 0) → ((c : Files) → I c → K c) → (c : Files) → MayBeMade change I c → MayBeMade change K c
may_grow change I K more c = ⊎_elim (λ image. inl (more c image)) (λ made. inr (made.0, more made.0 made.1, made.2))

grow_call : (call : FolderCall) (contents : Contents) (I K : Files → Type 0) → ((c : Files) → I c → K c) → (c : Files)
    → images_after_call call contents I c → images_after_call call contents K c
grow_call (Link to) contents I K more c image = may_grow (files_after (Link to) contents) I K more c image
grow_call (Rename from to) contents I K more c image = may_grow (files_after (Rename from to) contents) I K more c image
grow_call (Remove name) contents I K more c image = may_grow (files_after (Remove name) contents) I K more c image
grow_call Sync contents I K more c image = image
grow_call (ListNames area) contents I K more c image = more c image
grow_call (ReadFile name) contents I K more c image = more c image
grow_call (WriteHidden file) contents I K more c image = more c image

images_grow : (event : FolderEvent) (contents : Contents) (I K : Files → Type 0) → ((c : Files) → I c → K c) → (c : Files)
    → images_after event contents I c → images_after event contents K c
images_grow (Done call) contents I K more c image = grow_call call contents I K more c image
images_grow (Declined call) contents I K more c image = more c image
images_grow (Failed call done hidden) contents I K more c image = ⊎_elim (λ before. inl (more c before))
    (λ made. inr (made.0, may_grow (files_after call contents) I K more c made.1)) image
images_grow (Other name file) contents I K more c image = may_grow _ I K more c image

pub end_grows : (events : List FolderEvent) (contents : Contents) (I K : Files → Type 0) → ((c : Files) → I c → K c) → (c : Files)
    → images_at_end events contents I c → images_at_end events contents K c
end_grows [] contents I K more c image = more c image
end_grows (event ∷ events) contents I K more c image =
    end_grows events (contents_after event contents) _ _ (images_grow event contents I K more) c image

pub within_grows : (events : List FolderEvent) (contents : Contents) (I K : Files → Type 0) → ((c : Files) → I c → K c) → (c : Files)
    → images_within events contents I c → images_within events contents K c
within_grows [] contents I K more c image = more c image
within_grows (event ∷ events) contents I K more c image =
    ⊎_elim (λ now. inl (more c now)) (λ later. inr (within_grows events (contents_after event contents) _ _ (images_grow event contents I K more) c later)) image

pub end_joined : (xs ys : List FolderEvent) (contents : Contents) (I : Files → Type 0) (c : Files)
    → images_at_end (xs ++ ys) contents I c ↔ images_at_end ys (contents_at_end xs contents) (images_at_end xs contents I) c
end_joined [] ys contents I c = (λ h. h, λ h. h)
end_joined (event ∷ xs) ys contents I c = end_joined xs ys (contents_after event contents) (images_after event contents I) c

pub within_start : (events : List FolderEvent) (contents : Contents) (I : Files → Type 0) (c : Files) → I c → images_within events contents I c
within_start [] contents I c image = image
within_start (event ∷ events) contents I c image = inl image

-- the images of the moments of two lists are those of the first and those of the second
pub within_joined : (xs ys : List FolderEvent) (contents : Contents) (I : Files → Type 0) (c : Files) → images_within (xs ++ ys) contents I c
    ↔ (images_within xs contents I c ⊎ images_within ys (contents_at_end xs contents) (images_at_end xs contents I) c)
within_joined [] ys contents I c = (λ later. inr later, ⊎_elim (within_start ys contents I c) (λ later. later))
within_joined (event ∷ xs) ys contents I c =
    let more = within_joined xs ys (contents_after event contents) (images_after event contents I) c in grind (arith, more.0, more.1)

-- the images at the end are among those within
pub within_end : (events : List FolderEvent) (contents : Contents) (I : Files → Type 0) (c : Files) → images_at_end events contents I c
    → images_within events contents I c
within_end [] contents I c image = image
within_end (event ∷ events) contents I c image = inr (within_end events (contents_after event contents) (images_after event contents I) c image)

pub count-append : (kind : FolderEvent → Bool) (xs ys : List FolderEvent) → count_of kind (xs ++ ys) ≡ count_of kind xs + count_of kind ys
count-append kind [] ys = omega arith
count-append kind (event ∷ xs) ys = omega (arith, count-append kind xs ys)

-- one call, with nothing before it
one_call : (call : FolderCall) (outcome : Outcome) (event : FolderEvent) → IsOwn call outcome event → IsOneCall call outcome (event ∷ [])
one_call call outcome event own = record { others = []; own = event; events_are = refl; are_others = refl; is_own = own }

pub leads_nothing : (a : FolderState) → Leads [] a a
leads_nothing a = record {
  calls = omega arith;
  failures = omega arith;
  syncs = omega arith;
  honest = (λ h. h, λ h. h);
  follows = λ h. record { possible = refl; seen = refl; images = λ c image. image; later = omega arith; since = λ t c le image. inl image; keeps = λ t c le image. image };
}

module _ {D : Type 0} (state : D → FolderState) where
  pub makes_one : {a b : D} (call : FolderCall) (outcome : Outcome) (event : FolderEvent) → IsOwn call outcome event
      → Leads (event ∷ []) (state a) (state b) → Makes state call outcome a b
  makes_one call outcome event own leads = record { events = event ∷ []; leads = leads; made = inl (one_call call outcome event own) }

  pub not_counted : {a : D} (call : FolderCall) → IsSpent (state a) → Makes state call Faulted a a
  not_counted {a} call spent = record { events = []; leads = leads_nothing (state a); made = inr (refl, refl, spent, refl) }
