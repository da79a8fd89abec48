use Rattle.std.proofs.Common.{true, sym, subst}
use Rattle.carp_base.specs.Problem.{edge_at, tail_of}
use Rattle.deadhead_paths.specs.Join.{AddsService}
use Rattle.deadhead_paths.specs.Prices.{NoneLead}
use Rattle.deadhead_paths.specs.Singles.{service_of}
use Rattle.deadhead_paths.proofs.Singles.{tour_done}
use Rattle.deadhead_paths.proofs.Ways.{linked_home, linked_out}
use Rattle.deadhead_paths.proofs.touring.single_tour.Goals as goal

pub serve-requires-clause-linked : goal.serve-requires-clause-linked
serve-requires-clause-linked c =
    linked_out c.args.inst.now c.depot-depot.ensures.valid c.args.e c.requires.required c.depot-depot.result true c.depot-depot.ensures.value

pub follow-requires-clause-linked : goal.follow-requires-clause-linked
follow-requires-clause-linked c =
    subst (λ y. ¬ (NoneLead y c.in_ok-end.end c.depot-depot.result)) (sym c.requires.problem)
    (linked_home c.args.inst.now c.depot-depot.ensures.valid c.args.e c.requires.required c.in_ok-end.end c.depot-depot.result true c.in_ok-end.ensures.end c.depot-depot.ensures.value)

pub returns : goal.returns
returns c =
    let p = c.args.inst.now in
    let x = c.args.dist.now in
    let e = c.args.e in
    let out = subst (λ steps. AddsService x c.depot-depot.result (tail_of (edge_at p e) true) (service_of e) steps c.serve.new.joined) c.new-walk.ensures c.in_ok-end.ensures.added in
    tour_done p x c.requires.problem c.requires.prices e c.depot-depot.result c.in_ok-end.end c.depot-depot.ensures.value c.in_ok-end.ensures.end c.serve.new.joined c.follow.new.walk out c.in_ok-follow.ensures
