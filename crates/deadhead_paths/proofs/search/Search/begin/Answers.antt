use Rattle.std.proofs.Common.{◌≡◌, ◌+◌, length, set, ◌∷◌, arith, ap, rules, subst}
use Rattle.std.specs.List.Sorted.{IsPermutation}
use Rattle.std.specs.BinaryHeap.{heap_items}
use Rattle.deadhead_paths.specs.Search.{queue_entry}
use Rattle.deadhead_paths.proofs.Searching.{search_begun}
use Rattle.deadhead_paths.proofs.search.Search.begin.Goals as goal

pub returns-clause-begun : goal.returns-clause-begun
returns-clause-begun c = λ prices.
    let target = c.args.target in
    let places = c.vertices.result + 1 in
    let nexts_long : length c.in_ok-nexts.nexts.items ≡ places = search rules in
    search_begun c.args.inst.now prices target places (set c.in_ok-labels.labels.items target 0) c.in_ok-nexts.nexts.items (heap_items c.push.new.self)
    (omega (arith, c.vertices.ensures.value)) c.requires (ap (λ xs. set xs target 0) (c.in_ok-labels.ensures.items_if_clones_equal (λ y is. is))) nexts_long
    (subst (λ xs. IsPermutation (queue_entry 0 target ∷ xs) (heap_items c.push.new.self)) c.new-queue.ensures.items c.in_ok-push.ensures.permutation)
