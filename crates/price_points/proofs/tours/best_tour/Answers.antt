use Rattle.std.proofs.Common.{Option, None, Some, IfSome}
use Rattle.std.specs.Option.{MatchOption}
use Rattle.std.proofs.lemmas.Result.{IfOk-weaker}
use Rattle.price_points.proofs.Served.{services_of_rate}
use Rattle.price_points.proofs.tours.best_tour.Goals as goal

some_of : {X : Type 0} (P : Type 0) (Q R : X → Type 0) → ((x : X) → Q x → R x) → (found : Option X) → MatchOption found P Q → IfSome found R
some_of P Q R weaker None is = tt
some_of P Q R weaker (Some x) is = weaker x is

pub returns : goal.returns
returns c =
    let f = c.requires.filled in
    IfOk-weaker c.rate_tour.result _ _ (λ tour is. some_of _ _ _ (λ tasks attains. services_of_rate f.pricing c.args.inst.now f.on tasks.items attains) tour is) (c.rate_tour.ensures f.pricing f.filled)
