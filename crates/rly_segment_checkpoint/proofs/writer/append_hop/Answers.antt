use Rattle.std.proofs.Common.{List, ℕ, length, ◌≡◌, ◌∙◌, ap, arith}
use Rattle.rly_machine.specs.Kept.{hop_state}
use Rattle.rly_segment_checkpoint.proofs.Sizes.{length-codel_of, length-hop}
use Rattle.rly_segment_checkpoint.proofs.Fitness.{live_fit}
use Rattle.rly_segment_checkpoint.specs.Checkpoint.{spelled_by}
use Rattle.rly_segment_checkpoint.specs.declared.head_form.HeadForm.TheVariants.{Second}
use Rattle.rly_segment_checkpoint.proofs.Written.{counts_length, hop_written}
use Rattle.rly_segment_checkpoint.proofs.writer.append_hop.Goals as goal

pub append_moment-requires-clause-room : goal.append_moment-requires-clause-room
append_moment-requires-clause-room g c = omega (arith, length-hop g.C.Content.length_of (spelled_by g.C.Form.form Second) (hop_state c.args.hop.now), c.requires.room)

pub append-requires : goal.append-requires
append-requires g c =
    let codel : length c.codel_bytes.result ≡ 27 = ap (λ (t : List ℕ). length t) c.codel_bytes.ensures ∙ length-codel_of Second c.args.hop.now.codel in
    omega (arith, length-hop g.C.Content.length_of (spelled_by g.C.Form.form Second) (hop_state c.args.hop.now), c.requires.room, c.append_moment.ensures.len, c.append_moment.ensures.capacity, codel)

pub append-requires-2 : goal.append-requires-2
append-requires-2 g c =
    let codel : length c.codel_bytes.result ≡ 27 = ap (λ (t : List ℕ). length t) c.codel_bytes.ensures ∙ length-codel_of Second c.args.hop.now.codel in
    let counts : length c.counts_bytes.result ≡ 30 = counts_length (hop_state c.args.hop.now) c.counts_bytes.result c.counts_bytes.ensures in
    omega (arith, length-hop g.C.Content.length_of (spelled_by g.C.Form.form Second) (hop_state c.args.hop.now), c.requires.room, c.append_moment.ensures.len, c.append_moment.ensures.capacity, c.append.ensures.len, c.append.ensures.capacity, codel, counts)

pub append_live-requires-clause-fit : goal.append_live-requires-clause-fit
append_live-requires-clause-fit g c = live_fit Second g.C.Content.length_of (g.C.Form.has_form Second) (hop_state c.args.hop.now) c.requires.fits

pub append_live-requires-clause-room : goal.append_live-requires-clause-room
append_live-requires-clause-room g c =
    let codel : length c.codel_bytes.result ≡ 27 = ap (λ (t : List ℕ). length t) c.codel_bytes.ensures ∙ length-codel_of Second c.args.hop.now.codel in
    let counts : length c.counts_bytes.result ≡ 30 = counts_length (hop_state c.args.hop.now) c.counts_bytes.result c.counts_bytes.ensures in
    omega (arith, length-hop g.C.Content.length_of (spelled_by g.C.Form.form Second) (hop_state c.args.hop.now), c.requires.room, c.append_moment.ensures.len, c.append_moment.ensures.capacity, c.append.ensures.len, c.append.ensures.capacity, c.append-2.ensures.len, c.append-2.ensures.capacity, codel, counts)

pub returns-clause-items : goal.returns-clause-items
returns-clause-items g c =
    hop_written g.C.Content.length_of g.C.Form.form (hop_state c.args.hop.now) c.codel_bytes.result c.counts_bytes.result c.args.out.now.items c.append_moment.new.out.items c.append.new.out.items c.append-2.new.out.items c.append_live.new.out.items
    c.codel_bytes.ensures c.counts_bytes.ensures c.append_moment.ensures.items c.append.ensures.items c.append-2.ensures.items c.append_live.ensures.items

pub returns-clause-len : goal.returns-clause-len
returns-clause-len g c =
    let codel : length c.codel_bytes.result ≡ 27 = ap (λ (t : List ℕ). length t) c.codel_bytes.ensures ∙ length-codel_of Second c.args.hop.now.codel in
    let counts : length c.counts_bytes.result ≡ 30 = counts_length (hop_state c.args.hop.now) c.counts_bytes.result c.counts_bytes.ensures in
    omega (arith, length-hop g.C.Content.length_of (spelled_by g.C.Form.form Second) (hop_state c.args.hop.now), c.append_moment.ensures.len, c.append.ensures.len, c.append-2.ensures.len, c.append_live.ensures.len, codel, counts)
