-- The folders that a clock watches, with nothing known of their times.
use Rattle.std.proofs.Common.{◌≡◌, ℕ, List, [], ◌∷◌, Option, map, refl, if◌then◌else◌, ap}
use Rattle.rly_link.specs.declared.turn.Worker.{Worker}
use Rattle.rly_link_udp.specs.FolderWatch.{path_of, unseen}
use Rattle.rly_link_udp.specs.LinkDuties.{folders_watched, is_first}
use Rattle.rly_link_udp.specs.declared.folder_watch.FolderPath.{FolderPath}

all_unseen : (folders : List FolderPath) → map (λ f. unseen (path_of f)) folders ≡ map unseen (map path_of folders)
all_unseen [] = refl
all_unseen (folder ∷ folders) = λ i. unseen (path_of folder) ∷ all_unseen folders i

pub watched_unseen : (w : Worker) (folders : List FolderPath)
    → folders_watched w folders ≡ (if is_first w then map unseen (map path_of folders) else [])
watched_unseen w folders =
    ap (λ (l : List (Worker × List ℕ × Option ℕ × Option ℕ)). if is_first w then l else []) (all_unseen folders)
