use Rattle.std.proofs.Common.{nat_le, rules}
use Rattle.std.proofs.lemmas.Fn.{filter_same}
use Rattle.rly_folder_file.proofs.listing.up_to.Goals as goal

pub returns : goal.returns
returns c = filter_same _ (λ number. nat_le number c.args.greatest) _ (λ number kept after called. search rules) _ _ c.retain.ensures.filtered
