use Rattle.std.proofs.Common.{rules, List, subst, sym}
use Rattle.instance_edits.specs.declared.edit.Edit.{Edit}
use Rattle.instance_edits.specs.Texts.{BeginsWith}
use Rattle.instance_edits.specs.Reading.{MarksClosedEdges}
use Rattle.instance_edits.proofs.Steps.{one_more}
use Rattle.instance_edits.proofs.read.read_lines.Goals as goal

pub loop-rest-preserved : goal.loop-rest-preserved
loop-rest-preserved c =
    let next = c.in-Ok.ensures c.loop-rest.edits.items c.loop-rest.invariant.marked in
    let items = sym c.in_ok-push-in-Ok.ensures.items in
    record {
      begun =
          subst (λ (x : List Edit). BeginsWith c.args.inst.now c.args.bytes.now x c.in-Ok.after.now) items
          (one_more c.args.inst.now c.args.bytes.now c.loop-rest.edits.items c.loop-rest.rest.now c.in-Ok.edit c.in-Ok.after.now c.loop-rest.invariant.begun next);
      marked = subst (λ (x : List Edit). MarksClosedEdges c.mark.new.closed x) items (c.mark.ensures c.loop-rest.edits.items c.loop-rest.invariant.marked);
      all = search rules;
    }
