use Rattle.std.proofs.Common.{List, ◌≡◌, ◌+◌, [], ◌∷◌, ◌++◌, sym, ap, subst, ◌∙◌, arith}
use Rattle.std.specs.Prelude.{IsTrue}
use Rattle.std.specs.List.{AllByRecursion}
use Rattle.std.proofs.lemmas.List.{length_push}
use Rattle.carp_base.specs.declared.edge.Task.{Task}
use Rattle.carp_base.specs.Problem.{edge_at}
use Rattle.plan_model.specs.declared.step.Step.{Step}
use Rattle.plan_model.specs.Plans.{walk_at}
use Rattle.deadhead_paths.specs.Singles.{service_of}
use Rattle.deadhead_paths.specs.Tours.{task_of}
use Rattle.task_tours.specs.Tours.{all_tasks}
use Rattle.augment_merge.specs.Absorbing.{FlagsSay, IsAbsorbed, IsFlagged}
use Rattle.augment_merge.proofs.Absorption.{one_fewer}
use Rattle.augment_merge.proofs.Choice.{own_flagged, flags_now, is_taken, flags_after}
use Rattle.augment_merge.proofs.Taken.{taken_more, taken_all, tasks_more}
use Rattle.augment_merge.proofs.augmenting.take_all.Goals as goal

pub absorb-requires-clause-own : goal.absorb-requires-clause-own
absorb-requires-clause-own c =
    let p = c.args.inst.now in
    let loop = c.loop-place.invariant in
    let place = c.in-Some.place in
    subst (AllByRecursion (λ (s : Step). IsTrue s.served → IsFlagged p _ s.edge)) (sym c.walk.ensures.value)
    (own_flagged p c.validity.ensures c.args.singles.now c.requires.singles c.args.costs.now c.requires.costs c.loop-place.served (all_tasks c.loop-place.tours.items) loop.says place c.in-Some.ensures)

pub loop-place-preserved : goal.loop-place-preserved
loop-place-preserved c =
    let p = c.args.inst.now in
    let loop = c.loop-place.invariant in
    let place = c.in-Some.place in
    let found = c.in-Some.ensures in
    let tours = c.loop-place.tours.items in
    let tour = c.in_ok-tour.tour in
    let after = c.absorb.new.served in
    let own : List Task = all_tasks tours ++ task_of (service_of (place + 1)) ∷ [] in
    let now = flags_now p c.validity.ensures c.args.singles.now c.requires.singles c.args.costs.now c.requires.costs c.loop-place.served (all_tasks tours) loop.says place found in
    let absorbed : IsAbsorbed p c.edge-load.result.demand (walk_at c.args.singles.now place) after own tour =
    subst (λ walk. IsAbsorbed p c.edge-load.result.demand walk after own tour) c.walk.ensures.value (c.in_ok-tour.ensures.tour own now) in
    let load_is : c.edge-load.result.demand ≡ (edge_at p (place + 1)).demand = ap (λ x. x.demand) c.edge-load.ensures in
    let taken = is_taken p c.validity.ensures c.args.singles.now c.requires.singles c.args.costs.now c.requires.costs c.loop-place.served (all_tasks tours) loop.says place found
    c.edge-load.result.demand load_is after tour absorbed in
    let says = flags_after p c.validity.ensures c.args.singles.now c.requires.singles c.args.costs.now c.requires.costs c.loop-place.served (all_tasks tours) loop.says place found
    c.edge-load.result.demand load_is after tour absorbed in
    rw c.in_ok-push.ensures.items record {
      says = subst (FlagsSay p after) (sym (tasks_more tours tour)) says;
      taken = taken_more p c.args.singles.now [] tours tour loop.taken taken;
      few =
          let less = one_fewer c.loop-place.served place found.in_range found.unflagged in
          let rest = c.in_ok-tour.ensures.fewer in
          let long = length_push tours tour in
          let before = loop.few in
          omega arith;
    }

pub returns-clause-taken : goal.returns-clause-taken
returns-clause-taken c =
    let p = c.args.inst.now in
    let loop = c.loop-place.invariant in
    taken_all p c.args.singles.now [] c.loop-place.tours.items loop.taken
    (λ e required. sym (loop.says.says e required) ∙ c.in_default.ensures _ (omega (arith, required.from_one, required.in_range, loop.says.long)))
