use Rattle.std.proofs.Common.{◌≡◌, ◌+◌, ◌*◌, ◌≤◌, ℕ, true, length, get_or, arith, ap, subst, sym, ◌∙◌, min}
use Rattle.std.specs.List.{Contains}
use Rattle.std.specs.BinaryHeap.{heap_items}
use Rattle.carp_base.specs.Problem.{IsVertex, IsEdgeNumber, edge_at}
use Rattle.road_network.specs.Incidence.{has_end, far_end, incident}
use Rattle.deadhead_paths.specs.Table.{rise_of, unreached}
use Rattle.deadhead_paths.specs.Search.{IsLabelling}
use Rattle.deadhead_paths.proofs.Searching.{AreTried, price_place, tried_edge, tried_more, settled_all, covers_all, comes_to, far_vertex}
use Rattle.deadhead_paths.proofs.search.Search.settle.Goals as goal

pub improve-requires-clause-labels : goal.improve-requires-clause-labels
improve-requires-clause-labels c =
    let p = c.args.inst.now in
    let v = c.args.v in
    let e = c.edge_at-e.result in
    let number = subst (λ q. IsEdgeNumber q e) c.requires.net c.edge_at-e.ensures.number in
    let there = subst (λ q. has_end v (edge_at q e) ≡ true) c.requires.net c.edge_at-e.ensures.there in
    let far = far_vertex p c.requires.valid v e number there in
    omega (arith, c.far_end.ensures ∙ ap (far_end v) c.edge.ensures, far.0.in_range, c.loop-i.invariant.search.labels_long)

pub improve-requires-clause-nexts : goal.improve-requires-clause-nexts
improve-requires-clause-nexts c =
    let p = c.args.inst.now in
    let v = c.args.v in
    let e = c.edge_at-e.result in
    let number = subst (λ q. IsEdgeNumber q e) c.requires.net c.edge_at-e.ensures.number in
    let there = subst (λ q. has_end v (edge_at q e) ≡ true) c.requires.net c.edge_at-e.ensures.there in
    let far = far_vertex p c.requires.valid v e number there in
    omega (arith, c.far_end.ensures ∙ ap (far_end v) c.edge.ensures, far.0.in_range, c.loop-i.invariant.search.nexts_long)

pub loop-i-preserved : goal.loop-i-preserved
loop-i-preserved c =
    let p = c.args.inst.now in
    let prices = c.args.prices.now in
    let v = c.args.v in
    let k = c.loop-i.i in
    let e = c.edge_at-e.result in
    let loop = c.loop-i.invariant in
    let before = c.loop-i.self in
    let after = c.improve.new.self in
    let number = subst (λ q. IsEdgeNumber q e) c.requires.net c.edge_at-e.ensures.number in
    let there = subst (λ q. has_end v (edge_at q e) ≡ true) c.requires.net c.edge_at-e.ensures.there in
    let far = far_vertex p c.requires.valid v e number there in
    let far_is : c.far_end.result ≡ far_end v (edge_at p e) = c.far_end.ensures ∙ ap (far_end v) c.edge.ensures in
    let way = comes_to (edge_at p e) v there in
    let label_is : c.saturating_add.result ≡ min (get_or before.labels.items v 0 + rise_of prices e) unreached =
    c.saturating_add.ensures ∙ ap (λ n. min (c.index-label.result.now + (1024 * n + 1)) unreached) (c.from.ensures ∙ price_place prices e number.from_one) ∙ ap (λ n. min (n + rise_of prices e) unreached) loop.label in
    let tried = tried_edge p prices before.target before.labels.items before.nexts.items (heap_items before.queue) v loop.search
    c.far_end.result e c.saturating_add.result after.labels.items after.nexts.items (heap_items after.queue)
    (subst (IsVertex p) (sym far_is) far.0) (λ same. far.1 (sym far_is ∙ same)) number way.0 (way.1 ∙ sym far_is) way.2
    label_is c.improve.ensures.fits c.in_ok-improve.ensures.less c.in_ok-improve.ensures.not_less in
    let e_is : e ≡ get_or (incident p v) k 0 = c.edge_at-e.ensures.value ∙ ap (λ q. get_or (incident q v) k 0) c.requires.net in
    record {
      target = c.improve.ensures.target ∙ loop.target;
      degree = loop.degree;
      search = subst (λ t. IsLabelling p prices t after.labels.items after.nexts.items (heap_items after.queue) v) (sym c.improve.ensures.target) tried.search;
      lighter = omega (arith, tried.lighter, loop.lighter);
      label = loop.label ∙ sym tried.own;
      tried = tried_more p c.requires.valid prices before.labels.items after.labels.items v k (subst (IsEdgeNumber p) e_is number) tried.falling tried.own
          (subst (λ n. get_or after.labels.items (far_end v (edge_at p n)) 0 ≤ get_or before.labels.items v 0 + rise_of prices n) e_is
          (subst (λ w. get_or after.labels.items w 0 ≤ get_or before.labels.items v 0 + rise_of prices e) far_is tried.tried)) loop.tried;
    }

pub returns : goal.returns
returns c =
    let p = c.args.inst.now in
    let prices = c.args.prices.now in
    let v = c.args.v in
    let loop = c.loop-i.invariant in
    let end = c.loop-i.self in
    let all : c.loop-i.i ≡ length (incident p v) = omega (arith, loop.degree) in
    let complete : (e : ℕ) → IsEdgeNumber p e → has_end v (edge_at p e) ≡ true → Contains (incident p v) e =
    subst (λ q. (e : ℕ) → IsEdgeNumber q e → has_end v (edge_at q e) ≡ true → Contains (incident q v) e) c.requires.net c.degree-i-end.ensures.complete in
    record {
      target = loop.target;
      search = covers_all p prices end.target end.labels.items end.nexts.items (heap_items end.queue) v loop.search
          (settled_all p prices end.labels.items v complete (subst (AreTried p prices end.labels.items v) all loop.tried));
      lighter = loop.lighter;
    }
