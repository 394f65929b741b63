use Rattle.std.proofs.Common.{◌≡◌, ◌≤◌, ◌∙◌, [], List, ℕ, ap, arith, drop, length, subst}
use Rattle.std.specs.Prelude.{is_ok}
use Rattle.std.proofs.Math.Nat.{mul-le-mul_left}
use Rattle.rly_disk.specs.Trace.{Makes}
use Rattle.rly_gate.specs.Calls.{append_calls}
use Rattle.rly_gate.specs.Group.{body_in}
use Rattle.rly_gate.proofs.Frames.{length-body, length-frame}
use Rattle.rly_record.specs.Spelling.{longest_record}
use Rattle.rly_journal.specs.Groups.{GroupState, group_body}
use Rattle.rly_journal.proofs.Framed.{all_kept, body_is, length-over, records_length}
use Rattle.rly_journal.proofs.group.Group.write.Goals as goal

pub complete-requires-clause-room : goal.complete-requires-clause-room
complete-requires-clause-room g c =
    let none : drop c.self.inside.kept c.self.inside.frame.items ≡ [] = ap (λ (g : GroupState). g.staged) c.self.view_is ∙ c.requires.nothing_staged in
    omega (arith, c.self.inside.frame.ok.0, all_kept c.self.inside.kept c.self.inside.frame.items c.self.invariant.1 none, c.self.invariant.2, mul-le-mul_left (longest_record c.self.inside.most) c.self.invariant.4, c.self.invariant.5)

pub append_group-written-requires-clause-room : goal.append_group-written-requires-clause-room
append_group-written-requires-clause-room g c =
    let none : drop c.self.inside.kept c.self.inside.frame.items ≡ [] = ap (λ (g : GroupState). g.staged) c.self.view_is ∙ c.requires.nothing_staged in
    let full = all_kept c.self.inside.kept c.self.inside.frame.items c.self.invariant.1 none in
    let size = records_length c.self.inside.kept c.self.inside.count c.self.inside.most c.self.inside.frame.items c.args.self.now c.self.view_is c.self.invariant.0 c.self.invariant.1 in
    omega (arith, ap length c.deref_mut.ensures.value, c.complete.ensures.len, c.requires.room, full, size)

pub invariant_of-self : goal.invariant_of-self
invariant_of-self g c =
    let none : drop c.self.inside.kept c.self.inside.frame.items ≡ [] = ap (λ (g : GroupState). g.staged) c.self.view_is ∙ c.requires.nothing_staged in
    let full = all_kept c.self.inside.kept c.self.inside.frame.items c.self.invariant.1 none in
    let long : 5 ≤ length c.deref_mut.result.now = omega (arith, ap length c.deref_mut.ensures.value, c.complete.ensures.len, full, c.self.invariant.0) in
    let same : length c.append_group-written.new.frame ≡ length c.complete.new.frame.items =
    omega (arith, ap length c.append_group-written.ensures.frame, length-frame (body_in c.deref_mut.result.now), length-body c.deref_mut.result.now long, ap length c.deref_mut.ensures.value) in
    let size = length-over c.complete.new.frame.items c.append_group-written.new.frame c.complete.new.frame.len c.complete.new.frame.ok.0 same in (
      c.self.invariant.0,
      omega (arith, size, c.complete.ensures.len, full),
      c.self.invariant.2,
      omega (arith, size, c.complete.ensures.len, full),
      c.self.invariant.4,
      omega (arith, c.complete.ensures.capacity, c.self.invariant.5),
      c.self.invariant.6,
    )

pub returns-clause-trace : goal.returns-clause-trace
returns-clause-trace g c =
    let none : drop c.self.inside.kept c.self.inside.frame.items ≡ [] = ap (λ (g : GroupState). g.staged) c.self.view_is ∙ c.requires.nothing_staged in
    let same : body_in c.deref_mut.result.now ≡ group_body c.args.self.now =
    ap body_in c.deref_mut.ensures.value
    ∙ body_is c.self.inside.kept c.self.inside.count c.self.inside.most c.self.inside.frame.items c.complete.new.frame.items c.self.invariant.1 none c.complete.ensures.body
    ∙ ap group_body c.self.view_is in
    subst (λ (b : List ℕ). Makes g.D.Disk.state (append_calls c.args.at b) (is_ok c.append_group-written.result) c.args.disk.now c.append_group-written.new.disk)
    same c.append_group-written.ensures.trace
