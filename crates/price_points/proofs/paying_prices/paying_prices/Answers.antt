use Rattle.std.proofs.Common.{rules, ◌≡◌, ◌++◌, ◌∷◌, []}
use Rattle.price_points.proofs.Pushed.{longer_push, within_push}
use Rattle.price_points.proofs.paying_prices.paying_prices.Goals as goal

pub loop-place-preserved : goal.loop-place-preserved
loop-place-preserved c =
    let items : c.push.new.self.items ≡ c.loop-place.paying.items ++ c.paying_price.result ∷ [] = search rules in
    record {
      one_each = longer_push c.push.new.self.items c.loop-place.paying.items c.paying_price.result c.loop-place.place items c.loop-place.invariant.one_each;
      within = within_push c.push.new.self.items c.loop-place.paying.items c.paying_price.result items c.loop-place.invariant.within c.paying_price.ensures;
    }
