use Rattle.std.proofs.Common.{rules}
use Rattle.command_line.proofs.Numbers.{parsed}
use Rattle.command_line.proofs.plain.are_turns.Goals as goal

pub returns-in-Err : goal.returns-in-Err
returns-in-Err c =
    let is = parsed c.args.digits.now c.parse.result (search rules) (search rules) in
    cc
