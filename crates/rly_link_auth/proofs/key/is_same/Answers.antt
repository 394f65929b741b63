use Rattle.std.proofs.Common.{◌≡◌, ◌∙◌, ap, arith, below_more, bit_or, bit_xor, get_or}
use Rattle.std.proofs.lemmas.List.{ext_get_or}
use Rattle.std.proofs.lemmas.Bool.Decides.{same_from_decides, Decides-eqb}
use Rattle.std.proofs.lemmas.Slice.Eq.{bytes_eq-Decides}
use Rattle.std.specs.Int.Bits.{or_zero_l}
use Rattle.rly_link_auth.proofs.Bits.{same-xor_zero, xor-same, left-or_zero, right-or_zero}
use Rattle.rly_link_auth.proofs.key.is_same.Goals as goal

pub loop-i-preserved : goal.loop-i-preserved
loop-i-preserved c = record {
  same = λ h.
      let x = get_or c.args.tag.now c.loop-i.i 0 in
      let y = get_or c.args.right.now c.loop-i.i 0 in
      below_more (λ k. get_or c.args.tag.now k 0 ≡ get_or c.args.right.now k 0) c.loop-i.i
      (c.loop-i.invariant.same (left-or_zero c.loop-i.differing (bit_xor x y) h))
      (same-xor_zero x y (right-or_zero c.loop-i.differing (bit_xor x y) h));
  whole = λ e.
      let d = c.loop-i.invariant.whole e in
      let x : bit_xor (get_or c.args.tag.now c.loop-i.i 0) (get_or c.args.right.now c.loop-i.i 0) ≡ 0 =
      ap (λ t. bit_xor (get_or t c.loop-i.i 0) (get_or c.args.right.now c.loop-i.i 0)) e ∙ xor-same (get_or c.args.right.now c.loop-i.i 0) in
      ap (λ n. bit_or n (bit_xor (get_or c.args.tag.now c.loop-i.i 0) (get_or c.args.right.now c.loop-i.i 0))) d ∙ or_zero_l _ ∙ x;
}

pub returns : goal.returns
returns c =
    let d = Decides-eqb c.loop-i.differing 0 in
    same_from_decides _ _ (
      λ h. ext_get_or 0 c.args.tag.now c.args.right.now (omega arith) (λ k lt. c.loop-i.invariant.same (d.0 h) k (omega arith)),
      λ e. d.1 (c.loop-i.invariant.whole e),
    )
    (bytes_eq-Decides c.args.tag.now c.args.right.now)
