use Rattle.std.proofs.Common.{◌≡◌}
use Rattle.matching_duals.specs.Sets.{members_of}
use Rattle.matching_duals.proofs.setting.list_members.Given as goal

abbrev pub invariant-loop-j : goal.invariant-loop-j
invariant-loop-j l = l.members.items ≡ members_of l.odd l.matching l.i l.j
