use Rattle.std.proofs.Common.{arith, subst, sym, ◌∙◌}
use Rattle.std.specs.BinaryHeap.{heap_items}
use Rattle.std.proofs.lemmas.List.{get_or_read}
use Rattle.deadhead_paths.specs.Table.{IsTowards}
use Rattle.deadhead_paths.specs.Search.{QueueEntry}
use Rattle.deadhead_paths.proofs.Searching.{without_current, without_stale, search_done, taken_vertex}
use Rattle.deadhead_paths.proofs.search.Search.towards.Goals as goal

pub loop-label-init : goal.loop-label-init
loop-label-init c = record { target = c.in_ok-search.ensures.target; search = c.in_ok-search.ensures.begun c.args.prices.now }

pub settle-requires-clause-search : goal.settle-requires-clause-search
settle-requires-clause-search c =
    let before = c.loop-label.search in
    without_current c.args.inst.now c.args.prices.now before.target before.labels.items before.nexts.items (heap_items before.queue) (c.in-Some.field-0-0, c.in-Some.v) (heap_items c.pop.new.self)
    c.loop-label.invariant.search c.in-Some.ensures.permutation

pub loop-label-preserved : goal.loop-label-preserved
loop-label-preserved c =
    let p = c.args.inst.now in
    let before = c.loop-label.search in
    let loop = c.loop-label.invariant in
    let taken : QueueEntry = (c.in-Some.field-0-0, c.in-Some.v) in
    let vertex = taken_vertex p c.args.prices.now before.target before.labels.items before.nexts.items (heap_items before.queue) taken (heap_items c.pop.new.self)
    loop.search c.in-Some.ensures.permutation in
    let read = get_or_read before.labels.items c.in-Some.v c.index.result.now (omega (arith, vertex.in_range, loop.search.labels_long)) c.index.ensures 0 in
    record {
      target = loop.target;
      search = without_stale p c.args.prices.now before.target before.labels.items before.nexts.items (heap_items before.queue) taken (heap_items c.pop.new.self)
          loop.search c.in-Some.ensures.permutation (λ same. c.if-label-index.false (same ∙ sym read));
    }

pub returns : goal.returns
returns c =
    let end = c.loop-label.search in
    let loop = c.loop-label.invariant in
    subst (λ t. IsTowards c.args.inst.now c.args.prices.now t end.labels.items end.nexts.items) loop.target
    (search_done c.args.inst.now c.requires.valid c.args.prices.now end.target end.labels.items end.nexts.items (heap_items end.queue) (omega (arith, c.in_default.ensures.none, end.queue.data.ok.0)) loop.search)
