use Rattle.std.proofs.Common.{rules, ◌≡◌, ◌++◌, ◌∷◌, []}
use Rattle.price_ascent.proofs.Pushed.{within_push}
use Rattle.price_ascent.proofs.start.halves.Goals as goal

pub loop-place-preserved : goal.loop-place-preserved
loop-place-preserved c =
    let items : c.push.new.self.items ≡ c.loop-place.halves.items ++ c.half_of.result ∷ [] = search rules in
    within_push c.push.new.self.items c.loop-place.halves.items c.half_of.result items c.loop-place.invariant c.half_of.ensures
