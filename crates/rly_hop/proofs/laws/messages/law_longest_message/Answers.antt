use Rattle.std.proofs.Common.{arith}
use Rattle.rly_hop.proofs.Messages.{length-spelling_limited, spelling-most, spelling-within}
use Rattle.rly_hop.proofs.laws.messages.law_longest_message.Goals as goal

pub returns-clause-within : goal.returns-clause-within
returns-clause-within c m fits = spelling-within m fits

pub returns-clause-shorter : goal.returns-clause-shorter
returns-clause-shorter c from to number limit most payload fits long = omega (arith, spelling-most from to number limit payload, fits.3, long)

pub returns-clause-reached : goal.returns-clause-reached
returns-clause-reached c from to number limit payload above long = omega (arith, length-spelling_limited from to number limit payload above, long)
