use Rattle.std.proofs.Common.{◌≡◌, length, option_copied}
use Rattle.std.specs.Option.{option_or}
use Rattle.rly_plan_show.specs.AddressForms.{after_last_colon}
use Rattle.rly_plan_show.proofs.address_form.after_last_colon.Given as goal

-- what follows the last colon from here on, or else the last one so far
abbrev pub invariant-loop-byte : goal.invariant-loop-byte
invariant-loop-byte l = option_or (after_last_colon l.rest) (option_copied l.found) ≡ after_last_colon l.text

abbrev pub decreases-loop-byte : goal.decreases-loop-byte
decreases-loop-byte l = length l.rest
