use Rattle.std.proofs.Common.{◌∷◌, ◌++◌, [], subst, sym}
use Rattle.augment_merge.specs.Merging.{JoinsLead, after_join}
use Rattle.augment_merge.specs.Outlines.{AreDoable, AreOutlinesOf}
use Rattle.augment_merge.proofs.Progress.{fine_outlines, doable_after, outlines_after, rows_renewable, fewer_used, leads_more}
use Rattle.augment_merge.proofs.Savings.{chosen, none_left}
use Rattle.augment_merge.proofs.merging.join_all.Goals as goal

pub make-requires-clause-saves : goal.make-requires-clause-saves
make-requires-clause-saves c =
    let loop = c.loop-join.invariant in
    (chosen c.tours_have_deadheads.ensures c.args.inst.now c.validity.ensures c.loop-join.tours c.loop-join.outlines loop.outlined loop.doable c.loop-join.rows c.in-Some.join loop.best c.in-Some.ensures).1.can

pub renew-requires-clause-outlines : goal.renew-requires-clause-outlines
renew-requires-clause-outlines c =
    let p = c.args.inst.now in
    let loop = c.loop-join.invariant in
    let found = chosen c.tours_have_deadheads.ensures p c.validity.ensures c.loop-join.tours c.loop-join.outlines loop.outlined loop.doable c.loop-join.rows c.in-Some.join loop.best c.in-Some.ensures in
    fine_outlines p (after_join c.loop-join.tours c.in-Some.join) c.make.new.outlines (outlines_after p c.loop-join.tours c.in-Some.join found.1.can c.loop-join.outlines c.make.new.outlines loop.outlined c.in_ok-make.ensures.outlines)

pub renew-requires-clause-rows : goal.renew-requires-clause-rows
renew-requires-clause-rows c =
    let p = c.args.inst.now in
    let loop = c.loop-join.invariant in
    let found = chosen c.tours_have_deadheads.ensures p c.validity.ensures c.loop-join.tours c.loop-join.outlines loop.outlined loop.doable c.loop-join.rows c.in-Some.join loop.best c.in-Some.ensures in
    rows_renewable p c.loop-join.tours c.in-Some.join found.1.can c.loop-join.outlines c.make.new.outlines loop.outlined c.in_ok-make.ensures.outlines c.loop-join.rows loop.best

pub loop-join-smaller : goal.loop-join-smaller
loop-join-smaller c =
    let p = c.args.inst.now in
    let loop = c.loop-join.invariant in
    let found = chosen c.tours_have_deadheads.ensures p c.validity.ensures c.loop-join.tours c.loop-join.outlines loop.outlined loop.doable c.loop-join.rows c.in-Some.join loop.best c.in-Some.ensures in
    fewer_used p c.loop-join.tours c.in-Some.join found.1.can c.loop-join.outlines c.make.new.outlines loop.outlined c.in_ok-make.ensures.outlines found.0

pub loop-join-preserved : goal.loop-join-preserved
loop-join-preserved c =
    let p = c.args.inst.now in
    let j = c.in-Some.join in
    let loop = c.loop-join.invariant in
    let found = chosen c.tours_have_deadheads.ensures p c.validity.ensures c.loop-join.tours c.loop-join.outlines loop.outlined loop.doable c.loop-join.rows j loop.best c.in-Some.ensures in
    let made = sym c.in_ok-make.ensures.tours in
    record {
      doable = subst (AreDoable p) made (doable_after p c.loop-join.tours j found.1.can loop.doable);
      outlined = subst (λ ts. AreOutlinesOf p ts c.make.new.outlines) made (outlines_after p c.loop-join.tours j found.1.can c.loop-join.outlines c.make.new.outlines loop.outlined c.in_ok-make.ensures.outlines);
      best = c.renew.ensures;
      leads = (loop.leads.0 ++ j ∷ [], subst (JoinsLead p c.args.tours.now (loop.leads.0 ++ j ∷ [])) made (leads_more p c.args.tours.now loop.leads.0 c.loop-join.tours j loop.leads.1 found.1));
    }

pub returns : goal.returns
returns c =
    let loop = c.loop-join.invariant in
    record {
      joins = loop.leads.0;
      leads = loop.leads.1;
      none_saves = none_left c.tours_have_deadheads.ensures c.args.inst.now c.validity.ensures c.loop-join.tours c.loop-join.outlines loop.outlined loop.doable c.loop-join.rows loop.best c.in_default.ensures;
    }
