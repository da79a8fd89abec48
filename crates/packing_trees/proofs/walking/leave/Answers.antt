use Rattle.packing_trees.proofs.Passing.{left, kept, popped_fits, turned_fits}
use Rattle.packing_trees.proofs.walking.leave.Goals as goal

pub returns-in-Together-clause-waits : goal.returns-in-Together-clause-waits
returns-in-Together-clause-waits c =
    left c.args.branch.now.items c.loop-choice.branch.items c.pop.new.self.items c.push.new.self.items c.in-Some.choice c.in-Together.a c.in-Together.b c.loop-choice.invariant.waits c.in-Some.ensures.items c.in-Together.is
    c.in_ok-push.ensures.items

pub returns-in-Together-clause-choices : goal.returns-in-Together-clause-choices
returns-in-Together-clause-choices c = λ p fits.
    turned_fits p c.loop-choice.branch.items c.pop.new.self.items c.in-Some.choice c.in-Some.ensures.items (c.loop-choice.invariant.choices p fits) c.in-Together.a c.in-Together.b c.push.new.self.items c.in-Together.is c.in_ok-push.ensures.items

pub loop-choice-preserved : goal.loop-choice-preserved
loop-choice-preserved c = record {
  waits = kept c.args.branch.now.items c.loop-choice.branch.items c.pop.new.self.items c.in-Some.choice _ _ c.loop-choice.invariant.waits c.in-Some.ensures.items c.in_default-choice.is;
  choices = λ p fits. popped_fits p c.loop-choice.branch.items c.pop.new.self.items c.in-Some.choice c.in-Some.ensures.items (c.loop-choice.invariant.choices p fits);
}
