use Rattle.std.proofs.Common.{ap, arith, length}
use Rattle.std.specs.Prelude.{◌≡◌, ◌-◌, ◌++◌, IfSome, option_map, take}
use Rattle.rly_daemon_folder.specs.Input.{front_of}
use Rattle.rly_daemon_folder.proofs.Inputs.{whole_puts, whole_stops}
use Rattle.rly_daemon_folder.proofs.input.put_whole.Goals as goal

pub returns-in-Ok-clause-puts : goal.returns-in-Ok-clause-puts
returns-in-Ok-clause-puts g c =
    let fits : c.take.result.limit ≡ 8195 - length (front_of c.args.destination) = omega (arith, c.take.ensures.limit, c.len.ensures, ap length c.in_ok-file.ensures) in
    let read : IfSome (option_map (take c.take.result.limit) (g.R.Read.remaining c.args.reader.now)) (λ xs. c.read_to_end.new.buf.items ≡ front_of c.args.destination ++ xs) =
    rw (c.in_ok-file.ensures, c.take.ensures.inner) at c.in-Ok.ensures.bytes in
    whole_puts g.F.Folder.state c.args.limit c.args.destination c.take.result.limit c.read_to_end.new.buf.items c.deref.result.now fits (g.R.Read.remaining c.args.reader.now) read
    c.deref.ensures.value c.put_file.result _ _ c.put_file.ensures.puts

pub returns-in-Ok-clause-stops : goal.returns-in-Ok-clause-stops
returns-in-Ok-clause-stops g c =
    let fits : c.take.result.limit ≡ 8195 - length (front_of c.args.destination) = omega (arith, c.take.ensures.limit, c.len.ensures, ap length c.in_ok-file.ensures) in
    let read : IfSome (option_map (take c.take.result.limit) (g.R.Read.remaining c.args.reader.now)) (λ xs. c.read_to_end.new.buf.items ≡ front_of c.args.destination ++ xs) =
    rw (c.in_ok-file.ensures, c.take.ensures.inner) at c.in-Ok.ensures.bytes in
    whole_stops g.F.Folder.state c.args.limit c.args.destination c.take.result.limit c.read_to_end.new.buf.items c.deref.result.now fits (g.R.Read.remaining c.args.reader.now) read
    c.deref.ensures.value c.put_file.result _ _ c.put_file.ensures.stops
