use Rattle.std.specs.Str.Parse.{ParsesUnsigned, ExplainsUnsignedError, HasUnsignedDigitsIfOk}
use Rattle.clap.specs.Matches.{found_of}
use Rattle.command_line.proofs.Matched.{number_read}
use Rattle.command_line.proofs.grammar.number_in.Goals as goal

pub returns : goal.returns
returns c = λ given is digits.
    number_read {G = λ bs r. ParsesUnsigned 64 10 bs r × ExplainsUnsignedError 10 bs r × HasUnsignedDigitsIfOk bs r} (found_of c.args.matches.now) c.args.id.now given c.args.default c.get_one.result
    c.unwrap_or.result c.get_one.ensures.none c.get_one.ensures.value (λ u x g. g.0) is digits c.unwrap_or.ensures
