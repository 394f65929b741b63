use Rattle.std.proofs.Common.{ℕ, List, subst}
use Rattle.rly_reclaim.specs.LiveRoom.{HasRoomFor}
use Rattle.rly_reclaim.proofs.LiveRooms.{has_room_for}
use Rattle.rly_reclaim.specs.SegmentChoice.{IsFree, IsVictim}
use Rattle.rly_journal_relocate.specs.Relocation.{MayMove}
use Rattle.rly_journal_relocate.proofs.Moves.{may_move}
use Rattle.rly_journal_index.specs.Index.{IndexState}
use Rattle.rly_journal_index.proofs.index.Index.choose.Goals as goal

pub returns-clause-may : goal.returns-clause-may
returns-clause-may c =
    let x = c.self.inside in
    let target = c.in-Some.choice.target in
    let victim = c.in-Some.choice.victim in
    let holds = c.self.invariant.holds in
    subst (λ (v : IndexState). MayMove v.geometry target victim v.spool.state) c.self.view_is
    (may_move x.geometry x.segment target victim x.machine.state holds.layout.segments holds.layout.fits c.law_sound.ensures holds.params
    (subst (λ (l : List ℕ). IsFree l x.segment target) c.self.invariant.live c.in-Some.ensures.target)
    (subst (λ (l : List ℕ). IsVictim l target victim) c.self.invariant.live c.in-Some.ensures.victim)
    holds.index.inline holds.index.there)

pub returns-clause-room : goal.returns-clause-room
returns-clause-room c =
    let x = c.self.inside in
    let target = c.in-Some.choice.target in
    let victim = c.in-Some.choice.victim in
    let holds = c.self.invariant.holds in
    subst (λ (v : IndexState). HasRoomFor v.geometry v.spool.state victim) c.self.view_is
    (has_room_for x.geometry x.machine.state x.segment target victim holds.layout.segments holds.layout.fits c.law_sound.ensures holds.params
    (subst (λ (l : List ℕ). IsFree l x.segment target) c.self.invariant.live c.in-Some.ensures.target)
    (subst (λ (l : List ℕ). IsVictim l target victim) c.self.invariant.live c.in-Some.ensures.victim))
