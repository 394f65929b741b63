use Rattle.std.proofs.Common.{◌≡◌, ◌≢◌, ◌<◌, sym, ◌∙◌, arith, bit_xor, length, below_more, get_or-set_other, get_or-set_same, length-set}
use Rattle.std.proofs.lemmas.List.{ext_get_or, get_or-map, length-map}
use Rattle.rly_link_auth.specs.Hmac.{xor_block}
use Rattle.rly_link_auth.proofs.hmac.xor_block.Goals as goal

pub loop-i-preserved : goal.loop-i-preserved
loop-i-preserved c = record {
  long = simp length-set c.loop-i.invariant.long;
  mixed = below_more _ _
      (λ k h. let ne : k ≢ c.loop-i.i = omega arith in rw get_or-set_other (c.loop-i.invariant.mixed k h))
      (let lt : c.loop-i.i < length c.loop-i.mixed = omega (arith, c.loop-i.invariant.long) in rw get_or-set_same);
}

pub returns : goal.returns
returns c =
    let b = c.args.block.now in
    let long : length c.loop-i.mixed ≡ length (xor_block c.args.pad b) = simp length-map (omega (arith, c.loop-i.invariant.long)) in
    ext_get_or 0 c.loop-i.mixed (xor_block c.args.pad b) long (λ k lt.
    c.loop-i.invariant.mixed k (omega (arith, c.loop-i.invariant.long))
    ∙ sym (get_or-map (λ byte. bit_xor byte c.args.pad) b k 0 0 (omega (arith, c.loop-i.invariant.long))))
