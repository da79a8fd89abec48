use Rattle.std.proofs.Common.{subst, sym}
use Rattle.blossom_match.specs.Turns.{top_of}
use Rattle.blossom_match.specs.Ways.{IsWay}
use Rattle.blossom_match.proofs.Retracing.{same_searching, same_trans, same_meet, same_aimed, same_way}
use Rattle.blossom_match.proofs.shrink.fork.Goals as goal

pub mark_one-requires-clause-searching : goal.mark_one-requires-clause-searching
mark_one-requires-clause-searching c = same_searching c.args.costs.now c.args.state.now c.aim_tree.new.state c.aim_tree.ensures.same c.requires.searching

pub mark_other-requires-clause-searching : goal.mark_other-requires-clause-searching
mark_other-requires-clause-searching c =
    same_searching c.args.costs.now c.args.state.now c.mark_one.new.state (same_trans c.args.state.now c.aim_tree.new.state c.mark_one.new.state c.aim_tree.ensures.same c.mark_one.ensures.same) c.requires.searching

pub returns-clause-same : goal.returns-clause-same
returns-clause-same c =
    same_trans c.args.state.now c.aim_tree.new.state c.mark_other.new.state c.aim_tree.ensures.same
    (same_trans c.aim_tree.new.state c.mark_one.new.state c.mark_other.new.state c.mark_one.ensures.same c.mark_other.ensures.same)

pub returns-clause-forked : goal.returns-clause-forked
returns-clause-forked c =
    let all = returns-clause-same c in
    let s2 = c.mark_one.new.state in
    let s3 = c.mark_other.new.state in
    record {
      searching = same_searching c.args.costs.now c.args.state.now c.mark_other.new.state all c.requires.searching;
      aimed = same_aimed c.mark_one.new.state c.mark_other.new.state c.mark_other.ensures.same c.mark_other.ensures.entry
          (same_aimed c.aim_tree.new.state c.mark_one.new.state c.mark_one.ensures.same c.mark_one.ensures.entry c.aim_tree.ensures.aimed);
      meet = same_meet c.args.costs.now c.args.state.now c.mark_other.new.state c.args.u c.args.v all c.requires.meet;
      one = subst (λ w. IsWay c.mark_other.new.state.top.items c.mark_other.new.state.entry.items (top_of c.mark_other.new.state c.args.u) (top_of c.mark_other.new.state c.mark_other.new.state.root) w) (sym c.mark_other.ensures.one_way)
          (same_way c.mark_one.new.state c.mark_other.new.state c.args.u c.mark_one.new.state.one_way.items c.mark_other.ensures.same c.mark_other.ensures.entry c.mark_one.ensures.way);
      other = c.mark_other.ensures.way;
    }
