use Rattle.std.proofs.Common.{refl, arith}
use Rattle.std.proofs.lemmas.Bool.{iff_false}
use Rattle.std.proofs.lemmas.Result.{err_from_is_err_and}
use Rattle.rly_machine.specs.Kept.{state_of}
use Rattle.rly_record.proofs.Records.{is_refused}
use Rattle.rly_segment_checkpoint.specs.HelpersReader.{whole_state}
use Rattle.rly_segment_checkpoint.proofs.Restored.{forms_found, hops_read, only_found, peers_read, plain_found, sound_again, sound_found, spelled_found}
use Rattle.rly_segment_checkpoint.proofs.restore.read_state.Goals as goal

pub returns-in_err-parts-clause-only : goal.returns-in_err-parts-clause-only
returns-in_err-parts-clause-only g c s sound has plain given same =
    let p = err_from_is_err_and c.from_residual.result c.from_residual.ensures.1 in
    rw (p.1, p.2) (is_refused c.in_err-parts.field-0.0 (whole_state c.args.form (g.C.Form.form_at c.args.form) c.args.params c.args.bytes.now) s c.in_err-parts.ensures.gives (sound_again (c.law_forms.ensures c.args.form) c.args.params c.args.bytes.now s sound has plain given same))

pub is_sound-requires-clause-hop_count : goal.is_sound-requires-clause-hop_count
is_sound-requires-clause-hop_count g c =
    let parts = c.in_ok-parts.parts in
    hops_read (c.law_forms.ensures c.args.form) c.args.params c.args.bytes.now (state_of c.args.params parts.hops parts.lasts parts.seq) parts.hops.items (λ i. omega (arith, c.type_inv.bytes i)) c.in_ok-parts.ensures.gives refl

pub is_sound-requires-clause-peer_count : goal.is_sound-requires-clause-peer_count
is_sound-requires-clause-peer_count g c =
    let parts = c.in_ok-parts.parts in
    peers_read (c.law_forms.ensures c.args.form) c.args.params c.args.bytes.now (state_of c.args.params parts.hops parts.lasts parts.seq) (λ i. omega (arith, c.type_inv.bytes i)) c.in_ok-parts.ensures.gives

pub returns-then-not-is_sound-clause-only : goal.returns-then-not-is_sound-clause-only
returns-then-not-is_sound-clause-only g c s sound has plain given same =
    let parts = c.in_ok-parts.parts in
    absurd (iff_false c.is_sound.ensures c.if-not-is_sound.true (sound_found (c.law_forms.ensures c.args.form) c.args.params c.args.bytes.now (state_of c.args.params parts.hops parts.lasts parts.seq) s c.in_ok-parts.ensures.gives sound has plain given same))

pub returns-clause-found : goal.returns-clause-found
returns-clause-found g c =
    let parts = c.in_ok-parts.parts in
    spelled_found (c.law_forms.ensures c.args.form) c.args.params c.args.bytes.now (state_of c.args.params parts.hops parts.lasts parts.seq) _ (λ i. omega (arith, c.type_inv.bytes i)) c.in_ok-parts.ensures.gives c.in_ok-restore.ensures.state

pub returns-clause-forms : goal.returns-clause-forms
returns-clause-forms g c =
    let parts = c.in_ok-parts.parts in
    forms_found (c.law_forms.ensures c.args.form) c.args.params c.args.bytes.now (state_of c.args.params parts.hops parts.lasts parts.seq) _ (λ i. omega (arith, c.type_inv.bytes i)) c.in_ok-parts.ensures.gives c.in_ok-restore.ensures.state

pub returns-clause-plain : goal.returns-clause-plain
returns-clause-plain g c =
    let parts = c.in_ok-parts.parts in
    plain_found (c.law_forms.ensures c.args.form) c.args.params c.args.bytes.now (state_of c.args.params parts.hops parts.lasts parts.seq) _ (λ i. omega (arith, c.type_inv.bytes i)) c.in_ok-parts.ensures.gives c.in_ok-restore.ensures.state

pub returns-clause-only : goal.returns-clause-only
returns-clause-only g c s sound has plain given same =
    let parts = c.in_ok-parts.parts in
    only_found (c.law_forms.ensures c.args.form) c.args.params c.args.bytes.now (state_of c.args.params parts.hops parts.lasts parts.seq) _ s c.in_ok-parts.ensures.gives c.in_ok-restore.ensures.state sound has plain given same
