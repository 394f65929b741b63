-- The payloads that an accepted command removes from a spool.
use Rattle.std.specs.Prelude.{ℕ, ◌+◌, List, [], map, take}
use Rattle.rly_machine.specs.declared.command.Command.{Command}
use Rattle.rly_machine.specs.declared.command.Command.TheVariants.{Take, Pick, Release}
use Rattle.rly_machine.specs.Release.{covered_count}
use Rattle.rly_machine.specs.State.{State, hop_at}
use Rattle.rly_machine.specs.Step.{drops_of, expires_of}

-- the removed payloads: of the items that expire at a Pick or that it drops, and of those in flight that a Release
-- covers
abbrev pub removed_payloads : {P : Type 0} → (P → ℕ) → State P → Command P → List P
removed_payloads len s (Take peer number hop stamp limit payload) = []
removed_payloads len s (Pick hop now) =
    map (λ item. item.payload) (take (expires_of s hop now + drops_of len s hop now) (hop_at s hop).queue)
removed_payloads len s (Release hop number) =
    map (λ item. item.payload) (take (covered_count (hop_at s hop) number) (hop_at s hop).flight)
