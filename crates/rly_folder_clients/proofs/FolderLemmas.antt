-- Laws of a folder and of its names, as lemmas.
use Rattle.std.proofs.Common.{[], List, refl, sym, ⊎_elim, ◌++◌, ◌∙◌, ◌∷◌, ◌≡◌}
use Rattle.rly_folder.specs.FolderCalls.{contents_at_end, Did, Done, FolderEvent, Makes, Sync}
use Rattle.rly_folder.specs.FolderModel.{Consistent, Contents, FolderState, Settled}
use Rattle.rly_folder.proofs.Events.{contents-append, end_joined}

-- a sync that was done
pub settles : {D : Type 0} (state : D → FolderState) {a b : D} → ((folder : D) → (state folder).honest → Consistent (state folder))
    → Makes state Sync Did a b → (state a).honest → Settled (state b)
settles state {a} {b} consistent made h = ⊎_elim
    (λ one. let f = made.leads.follows h in let honest = made.leads.honest.1 h in
    record {
      honest = honest;
      consistent = consistent b honest;
      only = λ c image. let last = (end_joined one.others (one.own ∷ []) (state a).seen (state a).images c).0 (rw one.events_are at (f.images c image)) in
          (rw one.is_own at last) ∙ sym (synced (state a).seen (state b).seen one.others (rw (one.events_are, one.is_own) at f.seen));
    })
    (λ spent. absurd (cc spent.1)) made.made
  where
    synced : (from to : Contents) (others : List FolderEvent) → to ≡ contents_at_end (others ++ Done Sync ∷ []) from → to.files ≡ (contents_at_end others from).files
    synced from to others is = rw (is, contents-append others (Done Sync ∷ []) from) refl
