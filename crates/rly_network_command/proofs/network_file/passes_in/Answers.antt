use Rattle.std.proofs.Common.{refl}
use Rattle.rly_network_folder.proofs.Puts.{looked_none, looked_then}
use Rattle.rly_network_command.proofs.network_file.passes_in.Goals as goal

pub loop-pass-init : goal.loop-pass-init
loop-pass-init g c = looked_none _ _ refl

pub loop-pass-preserved : goal.loop-pass-preserved
loop-pass-preserved g c = looked_then _ _ _ c.loop-pass.invariant c.read_pass.ensures

pub returns-in_err-read : goal.returns-in_err-read
returns-in_err-read g c = looked_then _ _ _ c.loop-pass.invariant c.read_pass.ensures

pub returns-in_err-push : goal.returns-in_err-push
returns-in_err-push g c = looked_then _ _ _ c.loop-pass.invariant c.read_pass.ensures
