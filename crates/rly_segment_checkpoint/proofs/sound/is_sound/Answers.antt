use Rattle.std.proofs.Common.{List, ℕ, length, ap, arith}
use Rattle.std.proofs.lemmas.Bool.{false≢true}
use Rattle.rly_segment_checkpoint.proofs.Totals.{not_sound, state_is, sum_fits}
use Rattle.rly_segment_checkpoint.proofs.sound.is_sound.Goals as goal

pub returns-in_default : goal.returns-in_default
returns-in_default g c = (
  λ e. absurd (false≢true e),
  λ sound. absurd (not_sound g.C.Content.length_of c.args.params.now c.args.parts.now.hops.items c.as_slice.result.now c.args.parts.now.lasts.items c.args.parts.now.seq c.as_slice.ensures.value c.in_default.ensures.none sound),
)

pub sum_of-requires : goal.sum_of-requires
sum_of-requires g c =
    sum_fits c.args.parts.now.seq c.as_slice-lasts.result.now c.if-parts-gt-MAX_SEQ.false
    (omega (arith, ap (λ (l : List ℕ). length l) c.as_slice-lasts.ensures.value, c.requires.peer_count, c.requires.params.peers.1))
    (c.are_within.ensures.0 c.if-not-are_within.false)

pub returns : goal.returns
returns g c =
    state_is g.C.Content.length_of c.args.params.now c.args.parts.now.hops.items c.as_slice.result.now c.args.parts.now.lasts.items c.as_slice-lasts.result.now c.args.parts.now.seq c.in-Some.totals.taken c.in-Some.totals.items c.in-Some.totals.bytes
    c.as_slice.ensures.value c.as_slice-lasts.ensures.value c.requires.params c.requires.hop_count c.requires.peer_count c.in-Some.ensures.hops (c.are_within.ensures.0 c.if-not-are_within.false)
    (omega (arith, c.sum_of.ensures, c.if-sum_of-totals.false)) c.in-Some.ensures.taken c.in-Some.ensures.items c.if-totals-params.false c.in-Some.ensures.bytes c.if-parts-gt-MAX_SEQ.false
