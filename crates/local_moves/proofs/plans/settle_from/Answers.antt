use Rattle.std.proofs.Common.{◌≡◌, List, sym}
use Rattle.std.specs.List.{AllByRecursion}
use Rattle.carp_base.specs.Problem.{IsRequired}
use Rattle.plan_model.specs.declared.step.Step.{Step}
use Rattle.task_tours.specs.Tours.{PlanGoesByLeastPaths, all_tasks, plan_tours}
use Rattle.local_moves.specs.Stops.{sequence_of}
use Rattle.local_moves.proofs.Composing.{IsMade, Known, made_lawful, made_no_dearer, made_settled, still_short}
use Rattle.local_moves.proofs.Later.{ok_by_one, ok_by_three}
use Rattle.local_moves.proofs.Serving.{tours_serve}
use Rattle.local_moves.proofs.plans.settle_from.Goals as goal

pub plan_of_sequence-requires-clause-short : goal.plan_of_sequence-requires-clause-short
plan_of_sequence-requires-clause-short c =
    let settled = c.in_ok-settled.ensures in
    rw c.deref.ensures.value (still_short c.args.inst.now c.args.board.now c.args.sequence.items c.in_ok-settled.settled.items c.requires.sequence settled.no_dearer settled.closed)

pub plan_of_sequence-requires-clause-within : goal.plan_of_sequence-requires-clause-within
plan_of_sequence-requires-clause-within c = rw (c.deref.ensures.value, sym c.requires.of.width) c.in_ok-settled.ensures.no_dearer.sequence.within

pub returns : goal.returns
returns c =
    let p = c.args.inst.now in
    let b = c.args.board.now in
    let xs = c.args.sequence.items in
    let ys = c.in_ok-settled.settled.items in
    let laws = c.plans_are_tours.ensures in
    let known : Known = record { lawful = laws.lawful; tours = laws.tours; cost = laws.cost; least = laws.least } in
    let valid = c.validity.ensures in
    let settled = c.in_ok-settled.ensures in
    let told = c.plan_of_sequence.ensures in
    let made = λ (plan : List (List Step)) (tours : sequence_of (plan_tours plan) ≡ c.deref.result.now) (paths : PlanGoesByLeastPaths p plan) (required : AllByRecursion (λ t. IsRequired p t.edge) (all_tasks (plan_tours plan))).
    let own : IsMade p b xs ys plan = record { full = c.requires.sequence; own = settled.no_dearer; tours = rw c.deref.ensures.value at tours; paths = paths; required = required } in own in
    record {
      lawful = ok_by_three c.plan_of_sequence.result told.tours told.paths told.required (λ plan tours paths required. made_lawful known p b valid c.requires.of xs ys plan (made plan tours paths required));
      cost = ok_by_three c.plan_of_sequence.result told.tours told.paths told.required (λ plan tours paths required. made_no_dearer known p b valid c.requires.of xs ys plan (made plan tours paths required));
      settled = ok_by_three c.plan_of_sequence.result told.tours told.paths told.required (λ plan tours paths required. made_settled known p b valid c.requires.of xs ys plan (made plan tours paths required) settled.settled);
      paths = told.paths;
      each_serves = ok_by_one c.plan_of_sequence.result told.tours (λ plan tours. tours_serve ys (plan_tours plan) settled.closed (rw c.deref.ensures.value at tours));
    }
