use Rattle.rly_world.specs.PairWorld.{pair_start}
use Rattle.rly_world.proofs.PairWaits.{all_alone, in_time, start_alone}
use Rattle.rly_world.proofs.pair_law.law_one_at_a_time.Goals as goal

pub returns-clause-case : goal.returns-clause-case
returns-clause-case c setup events = in_time (pair_start setup) events

pub returns-clause-one : goal.returns-clause-one
returns-clause-one c setup events =
    let alone = all_alone (pair_start setup) events (start_alone setup) in (alone.upper, alone.lower)
