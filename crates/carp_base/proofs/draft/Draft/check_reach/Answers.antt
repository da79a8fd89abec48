use Rattle.std.proofs.Common.{take, ap, rules, arith}
use Rattle.carp_base.specs.Drafts.{drafted}
use Rattle.carp_base.proofs.Bounds.{few_vertices, few_edges, depot_within}
use Rattle.carp_base.proofs.Paths.{ends_within}
use Rattle.carp_base.proofs.Ranks.{clear_below}
use Rattle.carp_base.proofs.ReachFaults.{ends_marked, cut_off_clear, cut_off_first, all_reached}
use Rattle.carp_base.proofs.draft.Draft.check_reach.Goals as goal

pub marks_reached-requires-clause-few : goal.marks_reached-requires-clause-few
marks_reached-requires-clause-few c = omega (arith, few_vertices (drafted c.args.self.now) 11 c.requires (omega arith))

pub marks_reached-requires-clause-few_edges : goal.marks_reached-requires-clause-few_edges
marks_reached-requires-clause-few_edges c =
    let few = few_edges (drafted c.args.self.now) 11 c.requires (omega arith) in search rules

pub marks_reached-requires-clause-ends : goal.marks_reached-requires-clause-ends
marks_reached-requires-clause-ends c = let p = drafted c.args.self.now in ends_within p (clear_below p 11 4 (omega arith) c.requires)

pub marks_reached-requires-clause-depot : goal.marks_reached-requires-clause-depot
marks_reached-requires-clause-depot c = depot_within (drafted c.args.self.now) 11 c.requires (omega arith)

pub first_cut_off-requires : goal.first_cut_off-requires
first_cut_off-requires c =
    let many = c.in_ok-marks.ensures.long in
    ends_marked (drafted c.args.self.now) _ (ap (take c.args.self.now.required) c.deref-2.ensures.value) (search rules) c.deref.result.now c.requires (rw c.deref.ensures.value many)

pub returns-in-Some-clause-refused : goal.returns-in-Some-clause-refused
returns-in-Some-clause-refused c =
    cut_off_first (drafted c.args.self.now) _ (ap (take c.args.self.now.required) c.deref-2.ensures.value) (search rules) c.deref.result.now
    (rw c.deref.ensures.value c.in_ok-marks.ensures) c.in-Some.i c.requires c.in-Some.ensures.value

pub returns-clause-reached : goal.returns-clause-reached
returns-clause-reached c =
    all_reached (drafted c.args.self.now) _ (ap (take c.args.self.now.required) c.deref-2.ensures.value) (search rules) c.deref.result.now
    (rw c.deref.ensures.value c.in_ok-marks.ensures) c.in-None.ensures.value

pub returns-clause-clear : goal.returns-clause-clear
returns-clause-clear c =
    cut_off_clear (drafted c.args.self.now) _ (ap (take c.args.self.now.required) c.deref-2.ensures.value) (search rules) c.deref.result.now
    (rw c.deref.ensures.value c.in_ok-marks.ensures) c.requires c.in-None.ensures.value
