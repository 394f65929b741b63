-- Plans that are read after others.
use Rattle.std.proofs.Common.{◌≡◌, ◌∙◌, ℕ, true, Option, map, List, [], ◌∷◌, ◌++◌, Ok, ap, length, refl, suc}
use Rattle.std.proofs.lemmas.List.{map-append}
use Rattle.std.proofs.lemmas.List.Elements.{All-append, All-cons, All-nil}
use Rattle.std.specs.List.{list_all}
use Rattle.rly_core.specs.declared.params.Params.{Params}
use Rattle.rly_network.specs.declared.station_plan.StationPlan.{StationPlan}
use Rattle.rly_network_command.specs.NetworkCheck.{AreDevices, AreRead, IsDeviceOf, IsReadOf, PlanRead, look_of, station_of}
use Rattle.rly_network_folder.specs.ShelfCalls.{AllCalls, OnlyLooked, ShelfCall, is_look}
use Rattle.rly_plan.specs.Passes.{plan_of_text}

pub none_read : AreRead [] [] [] []
none_read = record { reads = []; named = refl; beside = refl; are = All-nil (λ r. plan_of_text r.text ≡ Ok r.plan); stand = refl; looked = refl }

pub one_more_read : (names : List (List ℕ)) (devices : List Params) (stations : List StationPlan) (calls : List ShelfCall) (name : List ℕ) (device : Params)
    (station : StationPlan) (read : PlanRead) → AreRead names devices stations calls → IsReadOf name device read → station ≡ station_of read
    → AreRead (names ++ name ∷ []) (devices ++ device ∷ []) (stations ++ station ∷ []) (calls ++ look_of read ∷ [])
one_more_read names devices stations calls name device station read before is stands = record {
  reads = before.reads ++ read ∷ [];
  named = rw (map-append, before.named, is.0) refl;
  beside = rw (map-append, before.beside, is.1) refl;
  are = All-append (λ (r : PlanRead). plan_of_text r.text ≡ Ok r.plan) before.reads (read ∷ []) before.are
      (All-cons (λ (r : PlanRead). plan_of_text r.text ≡ Ok r.plan) read [] is.2 (All-nil (λ (r : PlanRead). plan_of_text r.text ≡ Ok r.plan)));
  stand = rw (map-append, stands, before.stand) refl;
  looked = rw (map-append, before.looked) refl;
}

pub one_more_device : (names : List (List ℕ)) (devices : List Params) (name : List ℕ) (device : Params) → AreDevices names devices → IsDeviceOf name device
    → AreDevices (names ++ name ∷ []) (devices ++ device ∷ [])
one_more_device [] [] name device before is = (is, tt)
one_more_device [] (d ∷ devices) name device before is = absurd before
one_more_device (n ∷ names) [] name device before is = absurd before
one_more_device (n ∷ names) (d ∷ devices) name device before is = (before.0, one_more_device names devices name device before.1 is)

pub devices_beside : (names : List (List ℕ)) (devices : List Params) → AreDevices names devices → length devices ≡ length names
devices_beside [] [] are = refl
devices_beside [] (d ∷ devices) are = absurd are
devices_beside (n ∷ names) [] are = absurd are
devices_beside (n ∷ names) (d ∷ devices) are = ap suc (devices_beside names devices are.1)

looks_of : (reads : List PlanRead) → list_all is_look (map look_of reads) ≡ true
looks_of [] = refl
looks_of (read ∷ reads) = looks_of reads

pub reads_looked : (names : List (List ℕ)) (devices : List Params) (stations : List StationPlan) (calls : List ShelfCall) (old new : Option (List ShelfCall))
    → AreRead names devices stations calls → AllCalls old new calls → OnlyLooked old new
reads_looked names devices stations calls old new read called = (calls, ap (list_all is_look) read.looked ∙ looks_of read.reads, called)
