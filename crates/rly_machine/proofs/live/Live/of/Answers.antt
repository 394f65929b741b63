use Rattle.std.proofs.Common.{◌<◌, arith, ℕ, length}
use Rattle.rly_machine.specs.State.{HopState, bytes_of, live_line}
use Rattle.rly_machine.proofs.Restoring.{counted_le, counted_more}
use Rattle.rly_machine.proofs.live.Live.of.Goals as goal

pub overflow_add-items : goal.overflow_add-items
overflow_add-items g c =
    let count : HopState g.row.C.Denot → ℕ = λ h. length (live_line h) in
    let place : c.loop-hop.hop-index < length c.args.hops.now = omega arith in
    let all = counted_le count c.args.hops.now c.loop-hop.hop-index c.hop-item.result place c.hop-item.is in
    omega (arith, all, c.loop-hop.invariant.counted, c.live_items-items.ensures, c.requires.items)

pub live_bytes-bytes-requires : goal.live_bytes-bytes-requires
live_bytes-bytes-requires g c =
    let weight : HopState g.row.C.Denot → ℕ = λ h. bytes_of g.C.Content.length_of (live_line h) in
    let place : c.loop-hop.hop-index < length c.args.hops.now = omega arith in
    let all = counted_le weight c.args.hops.now c.loop-hop.hop-index c.hop-item.result place c.hop-item.is in
    omega (arith, all, c.requires.bytes)

pub overflow_add-bytes : goal.overflow_add-bytes
overflow_add-bytes g c =
    let weight : HopState g.row.C.Denot → ℕ = λ h. bytes_of g.C.Content.length_of (live_line h) in
    let place : c.loop-hop.hop-index < length c.args.hops.now = omega arith in
    let all = counted_le weight c.args.hops.now c.loop-hop.hop-index c.hop-item.result place c.hop-item.is in
    omega (arith, all, c.loop-hop.invariant.weighed, c.live_bytes-bytes.ensures, c.requires.bytes)

pub loop-hop-preserved : goal.loop-hop-preserved
loop-hop-preserved g c =
    let count : HopState g.row.C.Denot → ℕ = λ h. length (live_line h) in
    let weight : HopState g.row.C.Denot → ℕ = λ h. bytes_of g.C.Content.length_of (live_line h) in
    let place : c.loop-hop.hop-index < length c.args.hops.now = omega arith in
    let counted = counted_more count c.args.hops.now c.loop-hop.hop-index c.hop-item.result place c.hop-item.is in
    let weighed = counted_more weight c.args.hops.now c.loop-hop.hop-index c.hop-item.result place c.hop-item.is in
    record {
      counted = omega (arith, counted, c.loop-hop.invariant.counted, c.live_items-items.ensures);
      weighed = omega (arith, weighed, c.loop-hop.invariant.weighed, c.live_bytes-bytes.ensures);
    }

pub live_items-items-requires : goal.live_items-items-requires
live_items-items-requires g c =
    let count : HopState g.row.C.Denot → ℕ = λ h. length (live_line h) in
    let place : c.loop-hop.hop-index < length c.args.hops.now = omega arith in
    let all = counted_le count c.args.hops.now c.loop-hop.hop-index c.hop-item.result place c.hop-item.is in
    omega (arith, all, c.requires.items)
