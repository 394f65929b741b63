-- The bytes of a file that tell whether its datagram is refused.
use Rattle.std.proofs.Common.{◌≡◌, ◌+◌, arith, refl, ℕ, Bool, List, [], ◌∷◌, None, Some, Option, length, suc}
use Rattle.std.proofs.lemmas.Bool.Decides.{nat_tests}
use Rattle.std.proofs.lemmas.List.{length-take}
use Rattle.std.specs.Prelude.{min, nat_lt, take}
use Rattle.rly_folder.specs.FolderModel.{File, FolderState}
use Rattle.rly_folder.specs.Names.{name_of}
use Rattle.rly_folder.specs.declared.name.Area.{Area}
use Rattle.rly_folder.specs.declared.name.Area.TheVariants.{New}
use Rattle.rly_link_folder.specs.Inbox.{destination_of, Judges, longest_of, reason_in, routes_of, takes_rest}
use Rattle.rly_link_folder.specs.InboxCalls.{destination_in, payload_of, Reads, reason_of}
use Rattle.rly_link_folder.specs.declared.admission.Admission.{Admission}

-- two bytes more than the longest payload tell whether one is longer, also behind two others
is_longer : (longest size : ℕ) → nat_lt longest (min (longest + 2) size) ≡ nat_lt longest size
is_longer longest size = grind (arith, nat_tests)

is_longer_behind : (longest size : ℕ) → nat_lt longest (suc (suc (min (longest + 2) size))) ≡ nat_lt longest (suc (suc size))
is_longer_behind longest size = grind (arith, nat_tests)

-- the first two bytes of a list are those of a longer front
same_destination : (longest : ℕ) (file : List ℕ) → destination_in (take (longest + 2) file) ≡ destination_in file
same_destination longest [] = let e : longest + 2 ≡ suc (longest + 1) = omega arith in rw e refl
same_destination longest (high ∷ []) = let e : longest + 2 ≡ suc (suc longest) = omega arith in rw e refl
same_destination longest (high ∷ low ∷ rest) = let e : longest + 2 ≡ suc (suc longest) = omega arith in rw e refl

judges : (routes : List ℕ) (rest : Bool) (longest : ℕ) (destination : Option ℕ) (file : List ℕ)
    → reason_of routes rest longest (payload_of destination (take (longest + 2) file)) ≡ reason_of routes rest longest (payload_of destination file)
judges routes rest longest None file = rw (length-take (longest + 2) file, is_longer longest (length file), same_destination longest file) refl
judges routes rest longest (Some destination) file =
    rw (length-take (longest + 2) file, is_longer_behind longest (length file)) refl

pub judges_law : (rules : Admission) (file : List ℕ) → reason_in rules (take (longest_of rules + 2) file) ≡ reason_in rules file
judges_law rules file = judges (routes_of rules) (takes_rest rules) (longest_of rules) (destination_of rules) file

-- a file that was read is judged by its bytes
pub judged : {D : Type 0} (state : D → FolderState) (rules : Admission) (place : ℕ) (reason : Option Area) (file : File) (bytes : List ℕ) {old new : D}
    → Reads state (name_of New place) (longest_of rules + 2) (Some file) old new → bytes ≡ file.bytes
    → reason ≡ reason_in rules bytes → Judges state rules place reason old new
judged state rules place reason file bytes reads is judge = record { found = file; reads = reads; is_reason = rw is at judge }
