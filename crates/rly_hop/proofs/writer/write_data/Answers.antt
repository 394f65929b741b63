use Rattle.std.proofs.Common.{List, ℕ, ◌+◌, ◌++◌, ◌∙◌, ap, arith, drop, length, refl, sym}
use Rattle.byteorder.specs.Endian.{big_bytes}
use Rattle.rly_hop.specs.Spelling.{header}
use Rattle.rly_hop.proofs.Messages.{spelling-limited}
use Rattle.rly_hop.proofs.Parts.{limited-written}
use Rattle.rly_hop.proofs.writer.write_data.Goals as goal

pub returns-clause-written : goal.returns-clause-written
returns-clause-written c =
    let payload : List ℕ = c.args.payload.now in
    limited-written (header 4 c.args.from c.args.to ++ big_bytes 8 c.args.number) (big_bytes 5 c.args.limit) (big_bytes 2 (length payload)) payload c.args.out.now
    c.write_front-2.new.out c.write_limit.new.out c.write_payload-2.new.out refl refl c.write_front-2.ensures c.write_limit.ensures c.write_payload-2.ensures
    ∙ ap (λ (x : List ℕ). x ++ drop (23 + length payload) c.args.out.now)
    (sym (spelling-limited c.args.from c.args.to c.args.number c.args.limit payload (omega (arith, c.if-limit-eq0.false))))
