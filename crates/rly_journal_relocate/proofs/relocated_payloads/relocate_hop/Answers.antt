use Rattle.std.proofs.Common.{◌+◌, ◌<◌, ◌≤◌, ℕ, List, arith, length, refl, sym, ap, subst, ◌∙◌}
use Rattle.rly_machine.specs.State.{hop_at, live_line}
use Rattle.rly_machine.specs.declared.hop.Item.{Item}
use Rattle.rly_segment_checkpoint.specs.Widths.{hop_width}
use Rattle.rly_segment_checkpoint.specs.declared.stored.Stored.{Stored}
use Rattle.rly_journal_relocate.specs.HelpersRelocation.{HasBytes, collected_blank, with_hop}
use Rattle.rly_journal_relocate.proofs.MovedPayloads.{hop_below}
use Rattle.rly_journal_relocate.proofs.Relocations.{hop_moved, item_is, item_settled, line_is, lined, lined_self, moved_all, moved_length, past_all, past_next, past_within, size_of_hop, with_own}
use Rattle.rly_journal_relocate.proofs.relocated_payloads.relocate_hop.Goals as goal

pub relocate_item-next-requires-clause-live : goal.relocate_item-next-requires-clause-live
relocate_item-next-requires-clause-live c =
    let s = c.args.machine.now.state in
    let D : Stored → Stored = collected_blank c.args.geometry.now c.args.victim in
    let line = live_line (hop_at s c.args.hop) in
    let is = line_is c.args.form D s c.args.hop (hop_below s c.args.hop c.requires.there) c.loop-index.index (c.args.at + hop_width c.args.form) c.loop-index.machine.state c.loop-index.invariant.state in
    omega (arith, ap (λ (l : List (Item Stored)). length l) is, moved_length c.args.form D c.loop-index.index (c.args.at + hop_width c.args.form) line, c.loop-index-test.true, c.live_count-count.ensures)

pub relocate_item-next-requires-clause-bytes : goal.relocate_item-next-requires-clause-bytes
relocate_item-next-requires-clause-bytes c item found =
    let s = c.args.machine.now.state in
    let D : Stored → Stored = collected_blank c.args.geometry.now c.args.victim in
    let is = item_is c.args.form D s c.args.hop (hop_below s c.args.hop c.requires.there) c.loop-index.index (c.args.at + hop_width c.args.form) c.loop-index.machine.state c.loop-index.invariant.state item found in
    subst (λ (x : Item Stored). HasBytes x.payload) (sym is) (c.requires.bytes c.loop-index.index item (omega (arith, c.loop-index-test.true, c.live_count-count.ensures)))

pub relocate_item-next-requires-clause-fits : goal.relocate_item-next-requires-clause-fits
relocate_item-next-requires-clause-fits c =
    let h = hop_at c.args.machine.now.state c.args.hop in
    let D : Stored → Stored = collected_blank c.args.geometry.now c.args.victim in
    omega (arith, c.loop-index.invariant.next, past_within c.args.form D c.loop-index.index (c.args.at + hop_width c.args.form) (live_line h), size_of_hop c.args.form D h, c.requires.fits)

pub loop-index-init : goal.loop-index-init
loop-index-init c =
    let s = c.args.machine.now.state in
    record { state = sym (ap (with_hop s c.args.hop) (lined_self (hop_at s c.args.hop)) ∙ with_own s c.args.hop); next = omega (arith, c.hop_len.ensures) }

pub loop-index-preserved : goal.loop-index-preserved
loop-index-preserved c =
    let s = c.args.machine.now.state in
    let D : Stored → Stored = collected_blank c.args.geometry.now c.args.victim in
    let n = c.loop-index.index in
    let at : ℕ = c.args.at + hop_width c.args.form in
    let line = live_line (hop_at s c.args.hop) in
    let below = hop_below s c.args.hop c.requires.there in
    let item = c.relocate_item-next.ensures.0 in
    let found = item_is c.args.form D s c.args.hop below n at c.loop-index.machine.state c.loop-index.invariant.state item c.relocate_item-next.ensures.1 in
    let lt : n < length line = omega (arith, c.loop-index-test.true, c.live_count-count.ensures) in
    record {
      state = c.relocate_item-next.ensures.2 ∙ item_settled c.args.form D s c.args.hop below n at c.loop-index.machine.state c.loop-index.invariant.state c.loop-index.next c.loop-index.invariant.next item lt found;
      next = omega (arith, c.relocate_item-next.ensures.3, c.loop-index.invariant.next, past_next c.args.form D n at line item lt found);
    }

pub returns-clause-state : goal.returns-clause-state
returns-clause-state c =
    let s = c.args.machine.now.state in
    let h = hop_at s c.args.hop in
    let D : Stored → Stored = collected_blank c.args.geometry.now c.args.victim in
    let all : length (live_line h) ≤ c.loop-index.index = omega (arith, c.loop-index-test.false, c.live_count-count.ensures) in
    c.loop-index.invariant.state
    ∙ ap (with_hop s c.args.hop) (ap (lined h) (moved_all c.args.form D c.loop-index.index (c.args.at + hop_width c.args.form) (live_line h) all) ∙ hop_moved c.args.form D c.args.at h)

pub returns-clause-next : goal.returns-clause-next
returns-clause-next c =
    let h = hop_at c.args.machine.now.state c.args.hop in
    let D : Stored → Stored = collected_blank c.args.geometry.now c.args.victim in
    let all : length (live_line h) ≤ c.loop-index.index = omega (arith, c.loop-index-test.false, c.live_count-count.ensures) in
    omega (arith, c.loop-index.invariant.next, past_all c.args.form D c.loop-index.index (c.args.at + hop_width c.args.form) (live_line h) all, size_of_hop c.args.form D h)
