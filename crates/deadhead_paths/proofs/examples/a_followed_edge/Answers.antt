use Rattle.std.proofs.Common.{[], refl}
use Rattle.deadhead_paths.proofs.Small.{not_turned}
use Rattle.deadhead_paths.proofs.examples.a_followed_edge.Goals as goal

pub returns-clause-next : goal.returns-clause-next
returns-clause-next c = record { before = []; after = []; joined = refl }

pub returns-clause-turned : goal.returns-clause-turned
returns-clause-turned c = λ followed. not_turned followed.before followed.after followed.joined
