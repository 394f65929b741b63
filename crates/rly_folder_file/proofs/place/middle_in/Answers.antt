use Rattle.std.proofs.Common.{◌≡◌, rules, Some}
use Rattle.std.proofs.lemmas.Bool.Decides.{Decides-eqb}
use Rattle.std.proofs.lemmas.Slice.Eq.{strip_prefix_is, strip_suffix_is}
use Rattle.rly_folder_file.specs.FileNames.{prefix_of, suffix_of}
use Rattle.rly_folder_file.proofs.FileNames.{split}
use Rattle.rly_folder_file.proofs.place.middle_in.Goals as goal

pub returns-clause-some : goal.returns-clause-some
returns-clause-some c =
    let prefix : c.as_bytes.result.now ≡ prefix_of c.args.area = search rules in
    let suffix : c.as_bytes-2.result.now ≡ suffix_of c.args.area = search rules in
    let name = strip_prefix_is Decides-eqb c.args.name.now c.as_bytes.result.now (Some c.in_ok-rest.rest) c.in_ok-rest.ensures.cases in
    let found = strip_suffix_is Decides-eqb c.in_ok-rest.rest.now c.as_bytes-2.result.now c.strip_suffix.result c.strip_suffix.ensures.cases in
    rw (prefix, suffix) at (split c.as_bytes.result.now c.as_bytes-2.result.now c.args.name.now c.in_ok-rest.rest.now c.strip_suffix.result name found)
