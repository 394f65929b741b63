use Rattle.rly_segment.proofs.Common.{◌++◌, ◌+◌, ◌∙◌, ◌≡◌, ap, arith, head_spelled, length, List, mark_of, replicate, rules, Second, spelled_by, state_spelled}
use Rattle.rly_segment.proofs.Common.{ℕ}
use Rattle.std.proofs.Math.Seq.{take-append_seam}
use Rattle.rly_segment.proofs.head_bytes.head_bytes.Goals as goal

pub returns : goal.returns
unfolding head_spelled
returns g c =
    let body : List ℕ = state_spelled g.C.Content.length_of (spelled_by g.C.Form.form Second) c.args.machine.now.state in
    let begun : c.extend_from_slice.new.self.items ≡ replicate 12 0 = search rules in
    let old : c.append_state.new.out.items ≡ replicate 12 0 ++ body = rw begun at c.append_state.ensures.items in
    let long = ap length old in
    let count : c.length_field-field.result ≡ mark_of Second + length body = omega (arith, c.length_field-field.ensures, c.len-length.ensures) in
    let head = rw (c.deref_mut.ensures.value ∙ old, count) at c.write_start.ensures in
    let whole : c.append_state.new.out.len ≡ length c.write_start.new.head = omega (arith, c.append_state.new.out.ok.0, ap length head) in
    rw (whole, take-append_seam, head) at c.in_ok-push.ensures.items
