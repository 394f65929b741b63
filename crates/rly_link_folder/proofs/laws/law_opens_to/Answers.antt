use Rattle.rly_link_folder.proofs.LawLemmas.{opens_to}
use Rattle.rly_link_folder.proofs.laws.law_opens_to.Goals as goal

pub returns : goal.returns
returns c payloads read greatest number files handed greatest_is = opens_to payloads read greatest number files handed greatest_is
