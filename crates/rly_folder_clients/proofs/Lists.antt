-- The calls of a put and of a reader as lists.
use Rattle.std.proofs.Common.{[], arith, Bool, false, true, inl, inr, List, refl, suc, ℕ, ⊎_elim, ◌+◌, ◌∷◌, ◌≡◌}
use Rattle.std.specs.Prelude.{Err, IfErr, IfOk, IsErrAnd, Ok, Result}
use Rattle.rly_folder.specs.FolderCalls.{Did, Faulted, FolderCall, Link, Makes, Outcome, outcome_if, Refrained, Sync}
use Rattle.rly_folder.specs.FolderModel.{File, FolderState}
use Rattle.rly_folder.specs.Names.{name_of}
use Rattle.rly_folder.specs.declared.name.Area.TheVariants.{New}
use Rattle.rly_folder_clients.specs.Putting.{AtLink, AtSync, AtWrite, FailsToLink, FailsToName, FailsToPut, Links, Lists, Names, first_number, StopsPut, taken}
use Rattle.rly_folder_clients.specs.declared.putting.PutFault.{PutFault}
use Rattle.rly_folder_clients.specs.declared.putting.PutFault.TheVariants as fault
use Rattle.rly_folder_clients.specs.Runs.{Runs}

module _ {D : Type 0} (state : D → FolderState) where
  -- a call that can't be declined, as the last one
  pub ends : {a b : D} (call : FolderCall) (ok : Bool) → Makes state call (outcome_if ok) a b → Runs state ((call, Did) ∷ []) ok a b
  ends {a} {b} call true one = inl (b, one, (refl, refl))
  ends call false one = inr (refl, one)

module _ {D : Type 0} (state : D → FolderState) {a m : D} (first next : ℕ) (is : next ≡ first + 1)
    (makes : Makes state (Link (name_of New first)) Refrained a m) where
  -- one more name was taken, the first
  more_taken : {b : D} (more : ℕ) → Runs state (taken next more) true m b → Runs state (taken first (suc more)) true a b
  more_taken more runs = inl (m, makes, rw is at runs)

  more_links : {b : D} (outcome : Outcome) (more : ℕ) → Links state next more outcome m b → Links state first (suc more) outcome a b
  more_links outcome more links = let e : next + more ≡ first + suc more = omega (arith, is) in
      record { tried = links.tried; refused = more_taken more links.refused; links = rw e at links.links }

  pub more_ok : (b : D) (result : Result ℕ PutFault) → IfOk result (λ found. (more : ℕ) × (found ≡ next + more) × Links state next more Did m b)
      → IfOk result (λ found. (more : ℕ) × (found ≡ first + more) × Links state first more Did a b)
  more_ok b (Ok found) links = (suc links.0, omega (arith, links.1, is), more_links Did links.0 links.2)
  more_ok b (Err e) links = tt

  pub more_err : (b : D) (result : Result ℕ PutFault) → IfErr result (λ why. FailsToLink state next why m b) → IfErr result (λ why. FailsToLink state first why a b)
  more_err b (Ok found) fails = tt
  more_err b (Err fault.Full) fails = fails
  more_err b (Err fault.Taken) fails = (suc fails.0, more_taken fails.0 fails.1)
  more_err b (Err fault.NoNumber) fails = fails
  more_err b (Err fault.Folder) fails = (suc fails.0, more_links Faulted fails.0 fails.1)

-- no name was taken
pub first_links : {D : Type 0} (state : D → FolderState) {a b : D} (first : ℕ) (outcome : Outcome) → Makes state (Link (name_of New first)) outcome a b
    → Links state first 0 outcome a b
first_links state {a} {b} first outcome makes = let e : first + 0 ≡ first = omega arith in
    record { tried = a; refused = (refl, refl); links = rw e makes }

-- ---- a put, from its parts

module _ {D : Type 0} (state : D → FolderState) (file : File) (now first : ℕ) {a listed : D} (numbers : List ℕ) (is : first ≡ first_number now numbers) (lists : Lists state numbers a listed) where
  after_list : (b : D) (most : ℕ) (why : PutFault) → FailsToName state file first why listed b → FailsToPut state file most now why a b
  after_list b most fault.Full fails = absurd fails
  after_list b most fault.Taken fails = (numbers, fails.0, listed, lists, rw is at fails.1)
  after_list b most fault.NoNumber fails = absurd fails
  after_list b most fault.Folder fails = ⊎_elim (λ writes. AtWrite numbers listed lists writes) (λ names. AtLink numbers names.0 listed lists (rw is at names.1)) fails

  pub put_fails : (b : D) (most : ℕ) (result : Result ℕ PutFault) (why : PutFault) → IsErrAnd result (λ e. e ≡ why) → FailsToName state file first why listed b
      → IfErr result (λ e. FailsToPut state file most now e a b)
  put_fails b most (Ok number) why same fails = tt
  put_fails b most (Err e) why same fails = rw same (after_list b most why fails)

  pub at_sync : {linked b : D} (number : ℕ) → ((more : ℕ) × (number ≡ first + more) × Names state file first more Did listed linked)
      → Makes state Sync Faulted linked b → StopsPut state file now a b
  at_sync {linked} number named syncs = AtSync number
      (record { numbers = numbers; more = named.0; number_is = rw is at named.1; listed = listed; linked = linked; lists = lists; names = rw is at named.2; syncs = syncs })
