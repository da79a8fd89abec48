use Rattle.std.proofs.Common.{◌≡◌, [], ◌∙◌, subst}
use Rattle.std.proofs.lemmas.List.{get_or_read}
use Rattle.augment_merge.specs.Merging.{nth_tour}
use Rattle.augment_merge.specs.Outlines.{IsOutlineOf, no_outline}
use Rattle.augment_merge.proofs.Places.{each_push, long_push}
use Rattle.augment_merge.proofs.merging.outlines_of.Goals as goal

pub loop-tour-preserved : goal.loop-tour-preserved
loop-tour-preserved c =
    let p = c.args.inst.now in
    let tours = c.args.tours.now in
    let i = c.loop-tour.tour-index in
    let before = c.loop-tour.outlines.items in
    let after = c.push.new.self.items in
    let pushed = c.in_ok-push.ensures.items in
    let tasks_are : c.tasks.result.now ≡ nth_tour tours i = c.tasks.ensures ∙ get_or_read tours i c.tour-item.result c.loop-tour-test.true c.tour-item.is [] in
    record {
      long = long_push before after c.of.result i pushed c.loop-tour.invariant.long;
      each = each_push (λ k o. IsOutlineOf p (nth_tour tours k) o) before after c.of.result no_outline i pushed c.loop-tour.invariant.long c.loop-tour.invariant.each (subst (λ t. IsOutlineOf p t c.of.result) tasks_are c.of.ensures);
    }
