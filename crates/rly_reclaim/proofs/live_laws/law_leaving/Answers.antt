use Rattle.rly_segment_checkpoint.specs.Stored.{stored_length}
use Rattle.rly_reclaim.specs.Places.{bytes_in}
use Rattle.rly_reclaim.proofs.RemovedPayloads.{leaves_sum}
use Rattle.rly_reclaim.proofs.live_laws.law_leaving.Goals as goal

pub returns : goal.returns
returns c g segment s command accepted = leaves_sum stored_length (bytes_in g segment) s command accepted
