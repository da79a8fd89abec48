use Rattle.std.proofs.Common.{ap, ◌∙◌, ℤ, w64}
use Rattle.std.proofs.lemmas.Int.{to_z-of_z}
use Rattle.branch_rules.specs.Bonds.{GroupWeight}
use Rattle.column_generation.proofs.Offered.{offered_more}
use Rattle.column_generation.proofs.groups.push_group.Goals as goal

pub returns : goal.returns
returns c =
    let with_weight : ℤ → GroupWeight = λ z. record { edges = c.args.edges.now; weight = z } in
    let same = c.in_ok-group.ensures ∙ ap with_weight (to_z-of_z w64 c.args.weight c.ranges.weight) in
    record {
      offered = offered_more c.args.inst.now c.push.new.self.items c.args.groups.now.items c.in_ok-group.group c.args.edges.now c.args.weight same c.in_ok-push.ensures.items c.requires.offered c.requires.room c.requires.group c.requires.small c.requires.some c.requires.pair c.requires.weight;
    }
