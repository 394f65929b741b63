-- A file gets another name, durably: from one property of files to another, over either of both.
use Rattle.std.proofs.Common.{[], Bool, false, true, inl, inr, List, refl, subst, sym, ⊎_elim, ℕ, None, Some, Option, ◌++◌, ◌∷◌, ◌≡◌, ◌⊎◌}
use Rattle.std.proofs.lemmas.Bool.{and_parts}
use Rattle.std.specs.Prelude.{is_none, not}
use Rattle.rly_folder.specs.FolderCalls.{are_possible, contents_at_end, Did, Faulted, files_after, FolderEvent, images_after, images_at_end, is_declined, IsOneCall, Rename, Sync}
use Rattle.rly_folder.specs.FolderModel.{Contents, File, Files, with_file}
use Rattle.rly_folder.specs.declared.name.Name.{Name}
use Rattle.rly_folder.proofs.Events.{contents-append, end_joined, possible-append}
use Rattle.rly_link_folder.specs.InboxCalls.{renaming}
use Rattle.rly_link_folder.specs.Incoming.{Ledger, OnlyWriters}
use Rattle.rly_link_folder.specs.Script.{AreMade}
use Rattle.rly_link_folder.proofs.Handed.{Both, over_append, over_nil, Reaches}
use Rattle.rly_link_folder.proofs.Writers.{before_call, can_be, one_call, PutKeeps, seen_before, writers_left, writers_right}

a_file : (o : Option File) → is_none o ≡ false → (file : File) × (o ≡ Some file)
a_file (Some file) able = (file, refl)
a_file None able = absurd (cc able)

can_rename : (o : Option File) → not (is_none o) ≡ true → is_none o ≡ false
can_rename (Some file) able = refl
can_rename None able = absurd (cc able)

module _ (ledger : Ledger) (puts : ℕ → Bool) (P Z : Files → Type 0) (puts_keep : PutKeeps ledger puts P) (puts_keep_too : PutKeeps ledger puts Z)
    (from to : Name)
    (moves : (now : Files) (file : File) → P now → now from ≡ Some file → (c : Files) → P c ⊎ Z c → Z (with_file to (Some file) (with_file from None c))) where
  abbrev pub Either : Files → Type 0
  Either c = P c ⊎ Z c

  either_keep : PutKeeps ledger puts Either
  either_keep i n place put c = ⊎_elim (λ p. inl (puts_keep i n place put c p)) (λ z. inr (puts_keep_too i n place put c z))

  rename_gives : (now : Contents) → P now.files → is_declined (Rename from to) now ≡ false → (c : Files) → Either c → Z (files_after (Rename from to) now c)
  rename_gives now p able c either = let file = a_file (now.files from) able in
      subst (λ o. Z (with_file to o (with_file from None c))) (sym file.1) (moves now.files file.0 p file.1 c either)

  -- after the rename, if it was done, the new property holds of what is seen
  renamed : (first : List FolderEvent) (contents : Contents) (I : Files → Type 0) (made : IsOneCall (Rename from to) Did first)
      → OnlyWriters ledger puts first → are_possible first contents ≡ true → P contents.files → Z (contents_at_end first contents).files
  renamed first contents I made writers possible p =
      let now = contents_at_end made.others contents in
      let w = before_call ledger puts P Either (λ c q. inl q) puts_keep (Rename from to) Did first contents I made writers possible in
      let here : P now.files = seen_before ledger puts P puts_keep made.others contents w made.are_others p in
      let can = can_be ledger puts P Either (λ c q. inl q) puts_keep (Rename from to) Did first contents I made writers possible in
      let able = can_rename (now.files from) (rw made.is_own at can) in
      rw (made.events_are, contents-append made.others (made.own ∷ []) contents, made.is_own) (rename_gives now here able now.files (inl here))

  -- a sync makes what is seen the only image
  synced : (first : List FolderEvent) (contents : Contents) (I : Files → Type 0) (made : IsOneCall Sync Did first)
      → OnlyWriters ledger puts first → are_possible first contents ≡ true → Z contents.files → Both Z (contents_at_end first contents) (images_at_end first contents I)
  synced first contents I made writers possible z =
      let now = contents_at_end made.others contents in
      let w = before_call ledger puts Z Z (λ c q. q) puts_keep_too Sync Did first contents I made writers possible in
      let here : Z now.files = seen_before ledger puts Z puts_keep_too made.others contents w made.are_others z in
      let last : (c : Files) → images_at_end first contents I c → c ≡ now.files = λ c image.
      (let there : images_after made.own now (images_at_end made.others contents I) c = (end_joined made.others (made.own ∷ []) contents I c).0 (rw made.events_are at image) in rw made.is_own at there) in
      (rw (made.events_are, contents-append made.others (made.own ∷ []) contents, made.is_own) here, λ c image. subst Z (sym (last c image)) here)

  module _ (S : Type 0) (whole : Bool) where
    sync_over : (events : List FolderEvent) (contents : Contents) (I : Files → Type 0) → AreMade S ((Sync, Did) ∷ []) whole events → OnlyWriters ledger puts events
        → are_possible events contents ≡ true → Both Either contents I → Z contents.files → Reaches Either Z whole events contents I
    sync_over events contents I made writers possible both z = ⊎_elim
        (λ go. let first = go.0 in let rest = go.1 in
        let w : OnlyWriters ledger puts (first ++ rest) = rw go.2 at writers in
        let p = and_parts _ _ (rw (go.2, possible-append first rest contents) at possible) in
        let left = writers_left ledger puts first rest w in
        let one = one_call ledger puts Either Either (λ c q. q) either_keep Sync Did first contents I go.3 left p.0 (λ now q able c qc. qc) both in
        let end = synced first contents I go.3 left p.0 z in
        let nil : rest ≡ [] = go.4.1 in
        rw (go.2, nil) (
          over_append Either first [] contents I one (over_nil Either (contents_at_end first contents) (images_at_end first contents I) one.0),
          λ all. (rw (contents-append first [] contents) end.0, λ c image. end.1 c ((end_joined first [] contents I c).0 image)),
        ))
        (λ stop. (
          ⊎_elim (λ fault. one_call ledger puts Either Either (λ c q. q) either_keep Sync Faulted events contents I fault writers possible (λ now q able c qc. qc) both)
              (λ spent. rw spent.0 (over_nil Either contents I both)) stop.1,
          λ all. absurd (cc (all, stop.0)),
        ))
        made

    pub moves_over : (events : List FolderEvent) (contents : Contents) (I : Files → Type 0) → AreMade S (renaming from to) whole events → OnlyWriters ledger puts events
        → are_possible events contents ≡ true → Both P contents I → Reaches Either Z whole events contents I
    moves_over events contents I made writers possible both = ⊎_elim
        (λ go. let first = go.0 in let rest = go.1 in
        let w : OnlyWriters ledger puts (first ++ rest) = rw go.2 at writers in
        let p = and_parts _ _ (rw (go.2, possible-append first rest contents) at possible) in
        let left = writers_left ledger puts first rest w in
        let one = one_call ledger puts P Either (λ c q. inl q) puts_keep (Rename from to) Did first contents I go.3 left p.0 (λ now q able c either. inr (rename_gives now q able c either)) both in
        let more = sync_over rest _ _ go.4 (writers_right ledger puts first rest w) p.1 one.0 (renamed first contents I go.3 left p.0 both.0) in
        rw go.2 (
          over_append Either first rest contents I one more.0,
          λ all. let z = more.1 all in (rw (contents-append first rest contents) z.0, λ c image. z.1 c ((end_joined first rest contents I c).0 image)),
        ))
        (λ stop. (
          ⊎_elim (λ fault. one_call ledger puts P Either (λ c q. inl q) puts_keep (Rename from to) Faulted events contents I fault writers possible (λ now q able c either. inr (rename_gives now q able c either)) both)
              (λ spent. rw spent.0 (over_nil Either contents I (inl both.0, λ c image. inl (both.1 c image)))) stop.1,
          λ all. absurd (cc (all, stop.0)),
        ))
        made
