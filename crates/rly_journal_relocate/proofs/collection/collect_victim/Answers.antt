use Rattle.std.proofs.Common.{List, map, true, refl, sym, ap, subst, ◌∙◌}
use Rattle.std.specs.Prelude.{All}
use Rattle.rly_disk.specs.Trace.{Makes}
use Rattle.rly_machine.specs.Kept.{hop_state}
use Rattle.rly_machine.specs.Map.{map_hop}
use Rattle.rly_machine.specs.State.{HopState, State, live_line}
use Rattle.rly_machine.specs.declared.hop.Hop.{Hop}
use Rattle.rly_machine.specs.declared.hop.Item.{Item}
use Rattle.rly_segment_checkpoint.specs.declared.stored.Stored.{Stored}
use Rattle.rly_reclaim.proofs.Placing.{of_items}
use Rattle.rly_journal_relocate.specs.Relocation.{LiesThere}
use Rattle.rly_journal_relocate.specs.Collection.{blank_state}
use Rattle.rly_journal_relocate.specs.HelpersCollection.{collected_blank, collected_in, hops_reads}
use Rattle.rly_journal_relocate.proofs.Wholes.{whole_drawn, whole_lengths, whole_sound}
use Rattle.rly_journal_relocate.proofs.collection.collect_victim.Goals as goal

pub collect_hops-requires-clause-lies : goal.collect_hops-requires-clause-lies
collect_hops-requires-clause-lies g c =
    let s = c.args.machine.now.state in
    let Each : HopState Stored → Type 0 = λ h. All (λ (item : Item Stored). LiesThere c.args.geometry.now item.payload) (live_line h) in
    subst (λ (l : List (HopState Stored)). All Each l) (sym c.hops.ensures) (of_items (LiesThere c.args.geometry.now) s.hops c.requires.lies)

pub restore-requires : goal.restore-requires
restore-requires g c =
    let s = c.args.machine.now.state in
    let view : Hop Stored → HopState Stored = hop_state in
    let lengths = c.in_ok-hops.ensures.lengths ∙ ap (λ (l : List (HopState Stored)). map (map_hop (collected_blank c.args.geometry.now c.args.victim)) l) c.hops.ensures in
    whole_sound c.args.geometry.now c.args.victim s c.params.result (map view c.in_ok-hops.hops.items) c.in_ok-lasts.lasts.items c.seq.result
    c.params.ensures (c.in_ok-lasts.ensures ∙ c.lasts.ensures) c.seq.ensures lengths c.law_sound.ensures

pub returns-clause-drawn : goal.returns-clause-drawn
returns-clause-drawn g c honest =
    let s = c.args.machine.now.state in
    let view : Hop Stored → HopState Stored = hop_state in
    let seen = (g.D.Disk.state c.args.disk.now).seen in
    let same = c.in_ok-hops.ensures.drawn seen honest refl ∙ ap (λ (l : List (HopState Stored)). map (map_hop (collected_in seen c.args.geometry.now c.args.victim)) l) c.hops.ensures in
    c.in_ok-copy.ensures.state
    ∙ whole_drawn c.args.geometry.now c.args.victim s c.params.result (map view c.in_ok-hops.hops.items) c.in_ok-lasts.lasts.items c.seq.result
    c.params.ensures (c.in_ok-lasts.ensures ∙ c.lasts.ensures) c.seq.ensures seen same

pub returns-clause-lengths : goal.returns-clause-lengths
returns-clause-lengths g c =
    let s = c.args.machine.now.state in
    let view : Hop Stored → HopState Stored = hop_state in
    let lengths = c.in_ok-hops.ensures.lengths ∙ ap (λ (l : List (HopState Stored)). map (map_hop (collected_blank c.args.geometry.now c.args.victim)) l) c.hops.ensures in
    ap (λ (u : State Stored). blank_state u) c.in_ok-copy.ensures.state
    ∙ whole_lengths c.args.geometry.now c.args.victim s c.params.result (map view c.in_ok-hops.hops.items) c.in_ok-lasts.lasts.items c.seq.result
    c.params.ensures (c.in_ok-lasts.ensures ∙ c.lasts.ensures) c.seq.ensures lengths

pub returns-clause-trace : goal.returns-clause-trace
returns-clause-trace g c =
    subst (λ (l : List (HopState Stored)). Makes g.D.Disk.state (hops_reads c.args.geometry.now c.args.victim l) true c.args.disk.now c.collect_hops.new.disk) c.hops.ensures
    c.in_ok-hops.ensures.trace
