use Rattle.rly_link_auth.proofs.Tags.{only_sealed, sealed_is_heard}
use Rattle.rly_link_auth.proofs.laws.law_seal.Goals as goal

pub returns-clause-heard : goal.returns-clause-heard
returns-clause-heard c keys key packet = sealed_is_heard keys key packet

pub returns-clause-only : goal.returns-clause-only
returns-clause-only c keys bytes packet = only_sealed keys bytes packet
