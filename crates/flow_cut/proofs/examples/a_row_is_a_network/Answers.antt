use Rattle.std.proofs.Common.{◌≤◌, arith}
use Rattle.flow_cut.specs.Flows.{no_arc}
use Rattle.flow_cut.proofs.examples.a_row_is_a_network.Goals as goal

pub returns-clause-not_of_two : goal.returns-clause-not_of_two
returns-clause-not_of_two c = λ network. let within : 3 ≤ 2 = (network.ends 1 no_arc (omega arith)).to_in.in_range in omega arith

pub returns-clause-not_so_great : goal.returns-clause-not_so_great
returns-clause-not_so_great c = λ network. let within : 1000000000000000001 ≤ 1000000000000000000 = network.rooms 0 no_arc (omega arith) in omega arith
