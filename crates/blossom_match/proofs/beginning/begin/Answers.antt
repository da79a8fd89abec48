use Rattle.std.proofs.Common.{refl}
use Rattle.blossom_match.proofs.Singles.{begun}
use Rattle.blossom_match.proofs.beginning.begin.Goals as goal

pub returns-clause-between : goal.returns-clause-between
returns-clause-between c =
    begun c.args.costs.now _
    (record {
      size_is = refl;
      held_len = c.in_ok-singles.ensures.len;
      halves_len = c.in_ok-weights.ensures.len;
      top_len = c.in_ok-numbers.ensures.len;
      sums_len = c.in_ok-weights-2.ensures.len;
      child_len = c.in_ok-no_nodes.ensures.len;
      next_len = c.in_ok-numbers-2.ensures.len;
      link_len = c.in_ok-pairs.ensures;
      mate_len = c.in_ok-no_mates.ensures.len;
      label_len = c.in_ok-free_labels.ensures.len;
      entry_len = c.in_ok-pairs-2.ensures;
      one_way_len = c.in_ok-no_nodes-2.ensures.len;
      other_way_len = c.in_ok-no_nodes-3.ensures.len;
      base_len = c.in_ok-numbers-3.ensures.len;
    })
    (record {
      own = c.in_ok-singles.ensures.own;
      others = c.in_ok-singles.ensures.others;
      weightless = c.in_ok-weights.ensures.each;
      tops = c.in_ok-numbers.ensures.each;
      sumless = c.in_ok-weights-2.ensures.each;
      childless = c.in_ok-no_nodes.ensures.each;
      mateless = c.in_ok-no_mates.ensures.each;
      bases = c.in_ok-numbers-3.ensures.each;
    })
