use Rattle.rly_journal.proofs.Common.{false≢true, iff_false, sym, ◌∙◌}
use Rattle.rly_journal.proofs.Reading.{going}
use Rattle.rly_journal.proofs.Renewed.{calm_ready}
use Rattle.rly_journal.proofs.journal.Journal.make_ready.Goals as goal

pub returns-then-not-holds_command : goal.returns-then-not-holds_command
returns-then-not-holds_command g c =
    rw (← c.self.view_is) (calm_ready (going g.D.Disk.state c.self.view_is c.requires c.self.invariant.0) (λ due. elim c.then-not-holds_command.branch [
      | goal.then-not-holds_command-via-then-not-holds_command w ↦ absurd (false≢true (sym w.if-not-holds_command.true ∙ c.holds_command.ensures ∙ due.0))
      | goal.then-not-holds_command-via-else-not-holds_command+then-not-is_full w ↦ iff_false w.is_full.ensures w.if-not-is_full.true due.1
    ]))

pub invariant_of-self : goal.invariant_of-self
invariant_of-self g c =
    let j = going g.D.Disk.state c.self.view_is c.requires c.self.invariant.0 in
    let t = c.in-Ok.ensures _ _ c.args.calls.now (cc) j.here in (rw j.whole t.sound, rw t.geometry c.self.invariant.1)

pub returns-in-Ok : goal.returns-in-Ok
returns-in-Ok g c =
    let j = going g.D.Disk.state c.self.view_is c.requires c.self.invariant.0 in
    rw (← c.self.view_is, j.whole) (c.in-Ok.ensures _ _ c.args.calls.now (cc) j.here).readied

pub invariant_of-self-in-Err-OutOfMemory : goal.invariant_of-self-in-Err-OutOfMemory
invariant_of-self-in-Err-OutOfMemory g c =
    let j = going g.D.Disk.state c.self.view_is c.requires c.self.invariant.0 in
    let t = rw c.in-Err-OutOfMemory.field-0-is at (c.in-Err-OutOfMemory.ensures _ _ c.args.calls.now (cc) j.here) in
    (rw j.whole t.sound, rw t.geometry c.self.invariant.1)

pub returns-in-Err-OutOfMemory : goal.returns-in-Err-OutOfMemory
returns-in-Err-OutOfMemory g c =
    let j = going g.D.Disk.state c.self.view_is c.requires c.self.invariant.0 in
    rw (← c.self.view_is, j.whole) (rw c.in-Err-OutOfMemory.field-0-is at (c.in-Err-OutOfMemory.ensures _ _ c.args.calls.now (cc) j.here)).readied

pub invariant_of-self-in-Err-Read : goal.invariant_of-self-in-Err-Read
invariant_of-self-in-Err-Read g c =
    let j = going g.D.Disk.state c.self.view_is c.requires c.self.invariant.0 in
    let t = rw c.in-Err-Read.field-0-is at (c.in-Err-Read.ensures _ _ c.args.calls.now (cc) j.here) in
    (rw j.whole t.sound, rw t.geometry c.self.invariant.1)

pub returns-in-Err-Read : goal.returns-in-Err-Read
returns-in-Err-Read g c =
    let j = going g.D.Disk.state c.self.view_is c.requires c.self.invariant.0 in
    rw (← c.self.view_is, j.whole) (rw c.in-Err-Read.field-0-is at (c.in-Err-Read.ensures _ _ c.args.calls.now (cc) j.here)).readied

pub invariant_of-self-in-Err-Device : goal.invariant_of-self-in-Err-Device
invariant_of-self-in-Err-Device g c =
    let j = going g.D.Disk.state c.self.view_is c.requires c.self.invariant.0 in
    let t = rw c.in-Err-Device.field-0-is at (c.in-Err-Device.ensures _ _ c.args.calls.now (cc) j.here) in (t.sound, rw t.geometry c.self.invariant.1)

pub returns-in-Err-Device : goal.returns-in-Err-Device
returns-in-Err-Device g c =
    let j = going g.D.Disk.state c.self.view_is c.requires c.self.invariant.0 in
    rw (← c.self.view_is, j.whole) (rw c.in-Err-Device.field-0-is at (c.in-Err-Device.ensures _ _ c.args.calls.now (cc) j.here)).readied
