use Rattle.std.proofs.Common.{ap, arith, ◌∙◌}
use Rattle.rly_machine.specs.Accepted.{max_seq}
use Rattle.rly_machine.specs.Kept.{hop_state}
use Rattle.rly_machine.specs.State.{HopState}
use Rattle.rly_machine.proofs.Expiring.{gone_bytes, left_bytes, picked_bytes}
use Rattle.rly_machine.proofs.Waiting.{items_came}
use Rattle.rly_machine.proofs.hop.Hop.pick.Goals as goal

pub expired_count-late-requires : goal.expired_count-late-requires
expired_count-late-requires g c = record { sound = items_came g.C.Content.length_of c.args.rules.now max_seq (hop_state c.args.self.now) c.requires.sound }

pub take_front-second-requires-clause-bytes : goal.take_front-second-requires-clause-bytes
take_front-second-requires-clause-bytes g c =
    let left = left_bytes g.C.Content.length_of c.args.self.now.queue.items c.take_front-first.new.self.queue.items c.expired_count-late.result
    (ap (λ (h : HopState g.row.C.Denot). h.queue) c.take_front-first.ensures.hop) in
    omega (arith, left, c.requires.bytes)

pub and-requires-clause-bytes : goal.and-requires-clause-bytes
and-requires-clause-bytes g c =
    let gone = gone_bytes g.C.Content.length_of c.args.self.now.queue.items c.take_front-first.new.self.queue.items c.expired_count-late.result c.decide-drops.result.1
    c.take_front-first.result.bytes c.take_front-second.result.bytes (ap (λ (h : HopState g.row.C.Denot). h.queue) c.take_front-first.ensures.hop)
    c.take_front-first.ensures.bytes c.take_front-second.ensures.bytes in
    omega (arith, gone.1, c.requires.bytes)

pub returns-clause-bytes : goal.returns-clause-bytes
returns-clause-bytes g c =
    c.and.ensures.1
    ∙ picked_bytes g.C.Content.length_of c.args.rules.now (hop_state c.args.self.now) c.take_front-first.new.self.queue.items c.args.now c.expired_count-late.result
    c.decide-drops.result.1 c.take_front-first.result.bytes c.take_front-second.result.bytes c.expired_count-late.ensures.count c.decide-drops.ensures.dropped
    (ap (λ (h : HopState g.row.C.Denot). h.queue) c.take_front-first.ensures.hop) c.take_front-first.ensures.bytes c.take_front-second.ensures.bytes
