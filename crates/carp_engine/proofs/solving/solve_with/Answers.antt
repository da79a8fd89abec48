use Rattle.std.proofs.Common.{arith}
use Rattle.std.proofs.lemmas.Result.{IfOk-weaker}
use Rattle.plan_model.specs.Plans.{plan_cost}
use Rattle.carp_engine.specs.Solutions.{IsAtMostSingles}
use Rattle.carp_engine.proofs.Sound.{ended, no_dearer, sound, whole}
use Rattle.carp_engine.proofs.solving.solve_with.Goals as goal

pub search-requires-clause-allowed : goal.search-requires-clause-allowed
search-requires-clause-allowed g c = c.known_laws.ensures.allowed c.args.inst.now c.ask_all.new.best c.validity.ensures c.ask_all.ensures.short

pub returns-clause-sound : goal.returns-clause-sound
returns-clause-sound g c =
    let p = c.args.inst.now in
    let laws = c.known_laws.ensures in
    let first = c.in_ok-plan.ensures in
    let at_most : IsAtMostSingles p (plan_cost p c.ask_all.new.best) = record {
      singles = first.singles;
      tours = first.tours;
      lawful = first.lawful;
      at_most = omega (arith, c.ask_all.ensures.no_dearer, first.tidied.cost);
    } in
    IfOk-weaker c.search.result _ _ (λ solved searched. sound laws p c.args.turns c.ask_all.new.best c.ask_all.ensures.short at_most _ _ searched) c.search.ensures

pub returns-clause-ended : goal.returns-clause-ended
returns-clause-ended g c =
    IfOk-weaker c.search.result _ _ (λ solved searched. ended c.args.inst.now searched.least c.args.turns c.ask_all.new.best _ _ searched.searched) c.search.ensures

pub returns-clause-whole : goal.returns-clause-whole
returns-clause-whole g c enough =
    IfOk-weaker c.search.result _ _ (λ solved searched. whole c.args.inst.now searched.least c.args.turns c.ask_all.new.best _ _ searched.searched c.known_laws.ensures.lean enough) c.search.ensures

pub returns-clause-rounds : goal.returns-clause-rounds
returns-clause-rounds g c =
    let first = c.in_ok-plan.ensures in
    IfOk-weaker c.search.result _ _
    (λ solved searched. record {
      singles = first.singles;
      tours = first.tours;
      asked = record {
        start = c.in_ok-plan.plan;
        tidied = first.tidied;
        best = c.ask_all.new.best;
        rounds = c.in_ok-ask_all.ensures.rounds;
        no_dearer = no_dearer c.args.inst.now searched.least c.args.turns c.ask_all.new.best _ _ searched.searched;
      };
    }) c.search.ensures
