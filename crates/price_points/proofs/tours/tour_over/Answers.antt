use Rattle.std.proofs.lemmas.Result.{IfOk-weaker}
use Rattle.price_points.proofs.Served.{services_through}
use Rattle.price_points.proofs.tours.tour_over.Goals as goal

pub returns : goal.returns
returns c =
    let f = c.requires.filled in
    IfOk-weaker c.tour_through.result _ _ (λ tasks is. services_through f.pricing c.args.inst.now f.on c.args.e c.args.rate tasks.items is) (c.tour_through.ensures f.pricing f.filled)
