use Rattle.std.proofs.lemmas.Result.{IfOk-weaker}
use Rattle.carp_engine.proofs.solving.first_plan.Goals as goal

pub returns : goal.returns
returns c =
    IfOk-weaker c.tidy.result _ _
    (λ plan tidied. record {
      singles = c.in_ok-singles.singles;
      tours = c.in_ok-singles.ensures.tours;
      lawful = c.in_ok-singles.ensures.lawful;
      tidied = tidied;
    }) c.tidy.ensures
