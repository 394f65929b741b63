use Rattle.rly_segment.proofs.Common.{◌+◌, ◌∙◌, ◌≡◌, ap, arith, drop, length, quiet_new, refl, rules, segment_place, Some, take, true}
use Rattle.rly_segment.proofs.Looking.{head_made}
use Rattle.rly_segment.proofs.HeadBytes.{IsStart, holds_head, read_as, start_is}
use Rattle.rly_segment.proofs.heads.read_head_of.Goals.{After-deref, In-Ok}
use Rattle.rly_segment.proofs.heads.read_head_of.Goals as goal

-- the generation, the form and the length were read
start_read : (g : _) (c : In-Ok g) → (g.D.Disk.state c.args.disk.now).honest
    → IsStart (g.D.Disk.state c.args.disk.now).seen c.args.geometry.now c.args.segment c.in-Ok.start
start_read g c honest = search (c.requires.geometry.length, c.in-Ok.ensures.fits, rw c.segment_place-place.ensures at (c.in-Ok.ensures.read honest))

-- and the body
body_read : (g : _) (c : After-deref g) → (g.D.Disk.state c.args.disk.now).honest
    → c.deref.result.now ≡ take c.in-Ok.start.length (drop (segment_place c.args.geometry.now c.args.segment + 13) (g.D.Disk.state c.args.disk.now).seen)
body_read g c honest =
    let first = quiet_new g.D.Disk.state c.in-Ok.ensures.trace refl honest (g.met.D.Disk.consistent c.args.disk.now honest) in
    rw c.deref.ensures.value (rw (c.segment_place-place.ensures, first.seen) at (c.in-Ok-read_bytes.ensures.read first.honest))

-- no head is longer than its segment
pub returns-then-geometry-end-clause-read : goal.returns-then-geometry-end-clause-read
returns-then-geometry-end-clause-read g c honest v other s has holds =
    let its = start_is g.C.Form.form (start_read g (goal.at.returns-then-geometry-end-clause-read g c).In-Ok honest) v holds in
    omega (arith, holds.head.room, its.2)

-- no head has a body that is no checkpoint
pub returns-in-Err-Malformed-clause-read : goal.returns-in-Err-Malformed-clause-read
returns-in-Err-Malformed-clause-read g c honest v other s has holds =
    let at = goal.at.returns-in-Err-Malformed-clause-read g c in
    read_as g.C.Form.form (start_read g at.In-Ok honest) (body_read g at.After-deref honest) g.C.Form.has_form (λ s. ⊥)
    (λ s sound has plain params same. let refused = c.in-Err-Malformed.ensures.only s sound has plain params same in absurd cc) v has holds

-- no head of the body's one state has another generation
pub returns-then-not-is_generation-clause-read : goal.returns-then-not-is_generation-clause-read
returns-then-not-is_generation-clause-read g c honest v other s has holds =
    let at = goal.at.returns-then-not-is_generation-clause-read g c in
    let start = start_read g at.In-Ok honest in
    let its = start_is g.C.Form.form start v holds in
    let same = read_as g.C.Form.form start (body_read g at.After-deref honest) g.C.Form.has_form _ c.in-Ok-read_state.ensures.only v has holds in
    let within : c.is_generation.result ≡ true = c.is_generation.ensures.1
    (omega (arith, its.0, holds.head.least), omega (arith, its.0, holds.head.most, ap (λ x. x.seq) same, c.seq.ensures)) in absurd cc

pub returns-clause-read : goal.returns-clause-read
returns-clause-read g c honest =
    let at = goal.at.returns-clause-read g c in
    let within = c.is_generation.ensures.0 (search rules) in
    holds_head g.C.Form.form (start_read g at.In-Ok honest) (body_read g at.After-deref honest) c.in-Ok-read_state.machine.state
    (ap length c.deref.ensures.value ∙ c.in-Ok-read_bytes.ensures.length) c.in-Ok-read_state.ensures.found c.in-Ok-read_state.ensures.params c.law_sound.ensures
    c.in-Ok-read_state.ensures.plain (within.0, omega (arith, within.1, c.seq.ensures)) (omega (arith, c.if-geometry-end.false, c.from-end.ensures))

pub returns-in-Err-Device-clause-trace : goal.returns-in-Err-Device-clause-trace
returns-in-Err-Device-clause-trace g c =
    (Some _, tt, head_made c.segment_place-place.ensures c.in-Ok.ensures.trace (rw c.in-Err-Device.field-0-is at c.in-Err-Device.ensures.trace))

pub returns-in-Err-Malformed-clause-trace : goal.returns-in-Err-Malformed-clause-trace
returns-in-Err-Malformed-clause-trace g c = (Some _, tt, head_made c.segment_place-place.ensures c.in-Ok.ensures.trace c.in-Ok-read_bytes.ensures.trace)

pub returns-in-Err-OutOfMemory-read_state-clause-trace : goal.returns-in-Err-OutOfMemory-read_state-clause-trace
returns-in-Err-OutOfMemory-read_state-clause-trace g c =
    (Some _, tt, head_made c.segment_place-place.ensures c.in-Ok.ensures.trace c.in-Ok-read_bytes.ensures.trace)

pub returns-then-not-is_generation-clause-trace : goal.returns-then-not-is_generation-clause-trace
returns-then-not-is_generation-clause-trace g c = (Some _, tt, head_made c.segment_place-place.ensures c.in-Ok.ensures.trace c.in-Ok-read_bytes.ensures.trace)

pub returns-clause-trace : goal.returns-clause-trace
returns-clause-trace g c =
    let made = head_made c.segment_place-place.ensures c.in-Ok.ensures.trace c.in-Ok-read_bytes.ensures.trace in
    (Some c.in-Ok.start.length, cc (c.in-Ok-read_bytes.ensures.length, c.deref.ensures.value, c.in-Ok-read_state.ensures.found), made)
