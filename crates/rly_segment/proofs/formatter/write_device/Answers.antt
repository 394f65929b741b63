use Rattle.rly_segment.proofs.Common.{[], ◌++◌, ◌∷◌, Bool, close_calls, cut_short, Decides-not, fill_calls, Formats, Makes, makes_front, makes_joined, not, open_gate}
use Rattle.rly_segment.proofs.Common.{rules, settle_calls}
use Rattle.rly_segment.proofs.Devices.{closed_read}
use Rattle.rly_segment.proofs.HeadWriting.{new_head_room}
use Rattle.rly_segment.proofs.formatter.write_device.Goals.{In_ok-opened}
use Rattle.rly_segment.proofs.formatter.write_device.Goals as goal

-- the gate was read, and then the other calls were made
then_made : (g : _) (c : In_ok-opened g) {whole : Bool} {e : g.row.D.Denot}
    → Makes g.D.Disk.state (close_calls 0 (not c.in_ok-opened.opened) ++ (fill_calls c.args.geometry.now c.args.head.now ++ settle_calls 0 (open_gate ∷ [])))
    whole c.is_open.new.disk e → Formats g.D.Disk.state c.args.geometry.now c.args.head.now whole c.args.disk.now e
then_made g c made =
    let told = λ (honest : (g.D.Disk.state c.args.disk.now).honest). Decides-not c.in_ok-opened.opened (c.in_ok-opened.ensures.read honest) in
    let row = makes_joined g.D.Disk.state _ _ _ c.in_ok-opened.ensures.trace made in search told

pub write_contents-requires-clause-room : goal.write_contents-requires-clause-room
write_contents-requires-clause-room g c = rw c.requires.head (new_head_room c.requires.geometry)

pub returns-in_err-opened : goal.returns-in_err-opened
returns-in_err-opened g c =
    let row = cut_short g.D.Disk.state _ c.from_residual.ensures.0 (makes_front g.D.Disk.state _ _ c.in_err-opened.ensures.trace) in
    record { closed = _; told = λ _. closed_read (g.D.Disk.state c.args.disk.now).seen 0; row = row }

pub returns-in_err-close_gate : goal.returns-in_err-close_gate
returns-in_err-close_gate g c = then_made g (goal.at.returns-in_err-close_gate g c).In_ok-opened (search (rules, cut_short, makes_front))

pub returns-in_err-write_contents : goal.returns-in_err-write_contents
returns-in_err-write_contents g c =
    then_made g (goal.at.returns-in_err-write_contents g c).In_ok-opened (cut_short _ _ c.from_residual-in_err-write_contents.ensures.0
    (makes_joined _ _ _ _ c.in_ok-close_gate.ensures (makes_front _ _ _ c.in_err-write_contents.ensures)))

pub returns : goal.returns
returns g c = then_made g (goal.at.returns g c).In_ok-opened (search (rules, makes_joined g.D.Disk.state))
