-- The steps of a peer's neighbour, one after another.
use Rattle.std.proofs.Common.{◌≡◌, ◌⊎◌, ⊎_elim, ap, inl, inr, refl, ℕ, List, [], ◌∷◌, None, Some, IfNone, IfSome, Option}
use Rattle.rly_folder.specs.FolderModel.{FolderState}
use Rattle.rly_link_folder.specs.PeerNeighbour.{EntersNext, EntersPlace, FailsAtPlace, FailsToFind, FindsIn, HasSameNumbers, HearsCustody, Opens, Peer}
use Rattle.rly_link_folder.specs.declared.phase.Phase.{Phase}
use Rattle.rly_link_folder.specs.declared.phase.Phase.TheVariants.{Asked, Failed}

-- the listing that failed doesn't go by the state that it leaves
fails_so : {F : Type 0} (places : List ℕ) (state : F → FolderState) (old new : Peer F) (phase : Phase)
    → FailsToFind places state old new → FailsToFind places state old (record new { phase = phase })
fails_so [] state old new phase fails = fails
fails_so (place ∷ places) state old new phase fails = fails

pub no_place : {F : Type 0} (state : F → FolderState) (old new : Peer F) → FailsToFind old.places state old new
    → HasSameNumbers old.inbox new.inbox → new ≡ record old { inbox = new.inbox; places = new.places }
    → EntersNext state None old (record new { phase = Failed })
no_place {F} state old new fails numbers rest = inr (inr (
  refl,
  fails_so old.places state old new Failed fails,
  record { numbers = numbers; rest = ap (λ (p : Peer F). record p { phase = Failed }) rest },
))

pub next_place : {F : Type 0} (state : F → FolderState) (place : ℕ) (number : Option ℕ) (old found new : Peer F)
    → FindsIn old.places state (Some place) old found
    → IfSome number (λ n. EntersPlace state place (Some n) found new)
    → IfNone number (EntersPlace state place None found new ⊎ FailsAtPlace state place found new)
    → EntersNext state number old new
next_place state place None old found new finds some none =
    inl (found, place, finds, ⊎_elim (λ enters. inl enters) (λ fails. inr (refl, fails)) none)
next_place state place (Some n) old found new finds some none = inl (found, place, finds, inl some)

pub asked : {F : Type 0} (state : F → FolderState) (phase : Phase) (custody : ℕ) (old new : Peer F) → phase ≡ Asked
    → Opens state custody old new → HearsCustody phase state custody old new
asked state phase custody old new is opens = rw is opens
