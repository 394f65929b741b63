-- The properties of a relay after every list of events.
use Rattle.std.specs.Prelude.{◌≡◌, ◌==◌, ◌+◌, ◌≤◌, ℕ, max, if◌then◌else◌, IsTrue, List, [], ◌∷◌, length, take}
use Rattle.rly_core.specs.declared.ids.HopId.{HopId}
use Rattle.rly_core.specs.declared.params.Params.{Params}
use Rattle.rly_machine.specs.declared.command.Command.TheVariants.{Pick, Release, Take}
use Rattle.rly_machine.specs.Custody.{KeepsCustody, account_along}
use Rattle.rly_machine.specs.State.{has_hop, hop_at, new_state}
use Rattle.rly_journal.specs.Recovery.{Commands, Stands}
use Rattle.rly_world.specs.RelayWorld.{World, state_from}

-- the numbers up to which the Releases of a hop went, in order
abbrev pub releases_of : HopId → Commands → List ℕ
releases_of hop [] = []
releases_of hop (Release to number ∷ commands) =
    if to.0 == hop.0 then number ∷ releases_of hop commands else releases_of hop commands
releases_of hop (Take peer number to stamp limit payload ∷ commands) = releases_of hop commands
releases_of hop (Pick to now ∷ commands) = releases_of hop commands

-- the greatest of a number and others
abbrev pub greatest_of : ℕ → List ℕ → ℕ
greatest_of n [] = n
greatest_of n (m ∷ numbers) = greatest_of (max n m) numbers

-- the account of a hop after accepted commands of a new spool: each id that was taken is in the queue, in flight, among
-- the dropped or among the expired ids of one Pick, or released; a released one went into flight under a number that a
-- Release covered; and the counts add up
pub record KeepsBooks (params : Params) (commands : Commands) (hop : HopId) : Type 0 where
  pub custody : KeepsCustody (hop_at (state_from params commands) hop)
      (account_along length hop (new_state params) commands)
  pub released : (hop_at (state_from params commands) hop).released ≡ greatest_of 0 (releases_of hop commands)
  pub balance : (hop_at (state_from params commands) hop).taken
      ≡ length (hop_at (state_from params commands) hop).queue + length (hop_at (state_from params commands) hop).flight
      + (hop_at (state_from params commands) hop).dropped + (hop_at (state_from params commands) hop).expired
      + (hop_at (state_from params commands) hop).released

-- an image recovers to the state after the first n accepted commands; no reply that was given has a later position; and
-- the account of each hop holds
pub record HoldsTold (w : World) (image : List ℕ) : Type 0 where
  pub n : ℕ
  pub told : w.told ≤ n
  pub most : n ≤ length w.accepted
  pub stands : Stands image (state_from w.params (take n w.accepted))
  pub count : (state_from w.params (take n w.accepted)).seq ≡ n
  pub books : (hop : HopId) → IsTrue (has_hop (state_from w.params []) hop)
      → KeepsBooks w.params (take n w.accepted) hop
