use Rattle.rly_journal.proofs.Common.{gates_broken, gates_made, head_unread, header_broken, inl, IsAmbiguous, IsReadNewest, Ok, read_again}
use Rattle.rly_gate.proofs.Rereading.{only_read}
use Rattle.rly_segment.proofs.Looking.{header_only}
use Rattle.rly_journal.proofs.Recovering.{IsLooked, head_read, head_starved, headless}
use Rattle.rly_journal.proofs.recovery.read_newest_head.Goals.{In-Ok-newest}
use Rattle.rly_journal.proofs.recovery.read_newest_head.Goals as goal

-- ---- the header

pub returns-in-Err-NotADevice : goal.returns-in-Err-NotADevice
returns-in-Err-NotADevice g c =
    let by = rw c.in-Err-NotADevice.field-0-is at c.in-Err-NotADevice.ensures in record { refused = by.read; trace = header_broken _ by.trace }

pub returns-in-Err-BadGeometry : goal.returns-in-Err-BadGeometry
returns-in-Err-BadGeometry g c =
    let by = rw c.in-Err-BadGeometry.field-0-is at c.in-Err-BadGeometry.ensures in record { refused = by.read; trace = header_broken _ by.trace }

pub returns-in-Err-Device : goal.returns-in-Err-Device
returns-in-Err-Device g c =
    let by = rw c.in-Err-Device.field-0-is at c.in-Err-Device.ensures in record { refused = by.read; trace = header_broken _ by.trace }

-- ---- the generations

pub returns-in-Err-Damaged : goal.returns-in-Err-Damaged
returns-in-Err-Damaged g c =
    let by = rw c.in-Err-Damaged.field-0-is at c.in-Err-Damaged.ensures in
    let only = only_read g.D.Disk.state g.met.D.Disk.consistent (header_only g.D.Disk.state _ c.in-Ok.ensures.trace) in
    let again = read_again (λ image. IsAmbiguous image c.in-Ok.geometry c.in-Err-Damaged.place) only by.read in
    record {
      refused = λ honest. let header = c.in-Ok.ensures.read honest in rw (c.in-Err-Damaged.field-0-is, ← header.1) (header.0, header.2, inl (again honest));
      trace = gates_broken c.in-Ok.geometry (gates_made _ _ c.in-Ok.ensures.geometry c.in-Ok.ensures.trace by.trace);
    }

pub returns-in-Err-Device-newest : goal.returns-in-Err-Device-newest
returns-in-Err-Device-newest g c =
    let by = rw c.in-Err-Device-newest.field-0-is at c.in-Err-Device-newest.ensures in
    record { refused = λ honest. tt; trace = gates_broken c.in-Ok.geometry (gates_made _ _ c.in-Ok.ensures.geometry c.in-Ok.ensures.trace by.trace) }

-- ---- the head

looked : (g : _) (c : In-Ok-newest g) → IsLooked g.D.Disk.state c.in-Ok.geometry c.in-Ok-newest.newest c.args.disk.now c.newest.new.disk
looked g c =
    let header = c.in-Ok.ensures in let only = only_read g.D.Disk.state g.met.D.Disk.consistent (header_only g.D.Disk.state _ header.trace) in
    let newest = read_again (λ image. IsReadNewest image c.in-Ok.geometry (Ok c.in-Ok-newest.newest)) only c.in-Ok-newest.ensures.read in
    let made = gates_made _ _ header.geometry header.trace c.in-Ok-newest.ensures.trace in
    record { layout = header.geometry; there = c.in-Ok-newest.ensures.within; header = header.read; newest = newest; made = made }

pub returns-in-Err-OutOfMemory : goal.returns-in-Err-OutOfMemory
returns-in-Err-OutOfMemory g c =
    let by = rw c.in-Err-OutOfMemory.field-0-is at c.in-Err-OutOfMemory.ensures.trace in
    head_starved g.met.D.Disk.consistent (looked g (goal.at.returns-in-Err-OutOfMemory g c).In-Ok-newest) by.0 by.2

pub returns-in-Err-Damaged-read_placed_head : goal.returns-in-Err-Damaged-read_placed_head
returns-in-Err-Damaged-read_placed_head g c =
    let by = rw c.in-Err-Damaged-read_placed_head.field-0-is at c.in-Err-Damaged-read_placed_head.ensures in
    headless g.met.D.Disk.consistent (looked g (goal.at.returns-in-Err-Damaged-read_placed_head g c).In-Ok-newest) by.trace.0
    c.segment_place.ensures by.trace.2 by.read

pub returns-in-Err-Device-read_placed_head : goal.returns-in-Err-Device-read_placed_head
returns-in-Err-Device-read_placed_head g c =
    let by = rw c.in-Err-Device-read_placed_head.field-0-is at c.in-Err-Device-read_placed_head.ensures.trace in
    let so_far = looked g (goal.at.returns-in-Err-Device-read_placed_head g c).In-Ok-newest in
    record { refused = λ honest. tt; trace = head_unread c.in-Ok.geometry c.in-Ok-newest.newest.segment by.0 so_far.made by.2 }

pub returns : goal.returns
returns g c =
    let by = c.in-Ok-read_placed_head.ensures in
    head_read g.met.D.Disk.consistent (looked g (goal.at.returns g c).In-Ok-newest) c.in-Ok-read_placed_head.head by.head by.gate by.read
    by.trace.1 c.begin.ensures.state c.begin.ensures.at by.trace.2
