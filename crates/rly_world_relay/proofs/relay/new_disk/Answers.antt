use Rattle.rly_world_relay.proofs.relay.new_disk.Goals as goal

pub returns-in-Ok-format-clause-settled : goal.returns-in-Ok-format-clause-settled
returns-in-Ok-format-clause-settled c = c.in-Ok-format.ensures.ok c.new-disk.ensures.settled

pub returns-in-Ok-format-clause-formatted : goal.returns-in-Ok-format-clause-formatted
returns-in-Ok-format-clause-formatted c = c.in-Ok-format.ensures.formatted c.new-disk.ensures.settled
