use Rattle.std.proofs.Common.{◌≡◌, List, ℕ, ◌++◌, ◌∷◌, [], ap, ◌∙◌, arith, rules}
use Rattle.std.proofs.lemmas.Grind.{common_steps}
use Rattle.hex.specs.Hex.{encode_lower}
use Rattle.rly_link_auth.specs.Keys.{keys_in}
use Rattle.rly_link_auth.proofs.Lines.{keys_in-key_line}
use Rattle.rly_link_auth.proofs.key.key_line.Goals as goal

pub returns-clause-read : goal.returns-clause-read
returns-clause-read c =
    let e : c.encode_to_slice-written.new.output ≡ encode_lower c.args.key.now = first_of (search rules, grind (arith, common_steps)) in
    ap (λ (t : List ℕ). keys_in (t ++ 10 ∷ [])) e
    ∙ keys_in-key_line c.args.key.now c.told-key c.fits-key
