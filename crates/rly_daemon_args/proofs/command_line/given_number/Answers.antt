use Rattle.std.specs.Str.Parse.{ExplainsUnsignedError, HasUnsignedDigitsIfOk, ParsesUnsigned}
use Rattle.clap.specs.Words.{found_of}
use Rattle.rly_daemon_args.proofs.Readings.{number_read}
use Rattle.rly_daemon_args.proofs.command_line.given_number.Goals as goal

pub returns : goal.returns
returns c = number_read (λ bs r. ParsesUnsigned 64 10 bs r × ExplainsUnsignedError 10 bs r × HasUnsignedDigitsIfOk bs r) (λ t r h. h.0)
    (found_of c.args.options.now) c.args.name.now c.get_one.result c.get_one.ensures.none c.get_one.ensures.value
