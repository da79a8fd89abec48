use Rattle.std.proofs.Common.{◌∙◌, arith}
use Rattle.std.proofs.lemmas.List.{get_or_append_left, length_push}
use Rattle.capacity_cuts.proofs.Distancing.{each_more, small_more}
use Rattle.capacity_cuts.proofs.lengths.lengths_of.Goals as goal

pub loop-v-preserved : goal.loop-v-preserved
loop-v-preserved c =
    let p = c.args.inst.now in
    let loop = c.loop-v.invariant in
    let lengths = c.loop-v.lengths.items in
    let n = c.length_of.result in
    rw c.in_ok-push-2.ensures.items (record {
      long = omega (arith, loop.long, length_push lengths n);
      zero = get_or_append_left lengths _ 0 0 (omega (arith, loop.long, c.loop-v.auto.v)) ∙ loop.zero;
      each = each_more p lengths c.loop-v.v n loop.long loop.each c.length_of.ensures.value;
      small = small_more p lengths c.loop-v.v n loop.long loop.small c.length_of.ensures.small;
    })
