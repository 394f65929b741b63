-- Looks after looks.
use Rattle.std.proofs.Common.{◌≡◌, ℕ, true, List, [], ◌∷◌, Err, IfErr, Ok, Option, Result, inl, map, refl}
use Rattle.std.specs.List.{list_all}
use Rattle.rly_network_command.specs.NetworkCheck.{IsQuiet}
use Rattle.rly_network_command.specs.NetworkWrite.{IsOfPut, IsTold, MayHaveBegun, plan_look}
use Rattle.rly_network_command.specs.declared.network_command_fault.NetworkCommandFault.{NetworkCommandFault}
use Rattle.rly_network_command.specs.declared.network_command_fault.NetworkCommandFault.TheVariants.{File, Found, NoIds, NotText, Plan, Put, Text}
use Rattle.rly_network_file.specs.declared.station_files.StationFiles.{StationFiles}
use Rattle.rly_network_folder.specs.ShelfCalls.{AllCalls, OnlyLooked, ShelfCall, is_look}

pub plans_looked : (folder : List ℕ) (stations : List StationFiles) → list_all is_look (map (plan_look folder) stations) ≡ true
plans_looked folder [] = refl
plans_looked folder (station ∷ stations) = plans_looked folder stations

pub looked_plans : (old new : Option (List ShelfCall)) (folder : List ℕ) (stations : List StationFiles) → AllCalls old new (map (plan_look folder) stations)
    → OnlyLooked old new
looked_plans old new folder stations called = (map (plan_look folder) stations, plans_looked folder stations, called)

-- where only files were looked for, nothing was written, whatever the fault
told_of : (file folder : List ℕ) (fault : NetworkCommandFault) (old new : Option (List ShelfCall)) → OnlyLooked old new → IsTold file folder fault old new
told_of file folder (Plan index cause) old new looked = looked
told_of file folder (Text cause) old new looked = inl looked
told_of file folder (Found lines) old new looked = looked
told_of file folder (File cause) old new looked = looked
told_of file folder (NotText path) old new looked = looked
told_of file folder (Put cause) old new looked = inl looked
told_of file folder (NoIds path) old new looked = looked

pub told_at : {T : Type 0} (file folder : List ℕ) (r : Result T NetworkCommandFault) (old new : Option (List ShelfCall)) → OnlyLooked old new
    → IfErr r (λ fault. IsTold file folder fault old new)
told_at file folder (Ok it) old new looked = tt
told_at file folder (Err fault) old new looked = told_of file folder fault old new looked

-- nor is more said of a put that failed
pub told_begun : {T : Type 0} (r : Result T NetworkCommandFault) (file folder : List ℕ) (old new : Option (List ShelfCall))
    (fault : NetworkCommandFault) → IsOfPut fault → r ≡ Err fault → MayHaveBegun file folder old new
    → IfErr r (λ fault. IsTold file folder fault old new)
told_begun r file folder old new fault gives failed begun = rw failed (gives file folder old new begun)

-- and nothing printed
quiet_of : (fault : NetworkCommandFault) (old new : Option (List ℕ)) → new ≡ old → IsQuiet fault old new
quiet_of (Plan index cause) old new same = same
quiet_of (Text cause) old new same = tt
quiet_of (Found lines) old new same = same
quiet_of (File cause) old new same = same
quiet_of (NotText path) old new same = same
quiet_of (Put cause) old new same = same
quiet_of (NoIds path) old new same = same

pub quiet_at : {T : Type 0} (r : Result T NetworkCommandFault) (old : Option (List ℕ)) → IfErr r (λ fault. IsQuiet fault old old)
quiet_at (Ok it) old = tt
quiet_at (Err fault) old = quiet_of fault old old refl
