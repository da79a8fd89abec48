use Rattle.std.proofs.Common.{arith, refl, pos}
use Rattle.std.proofs.lemmas.Int.{ints}
use Rattle.grown_trees.specs.Values.{IsShown}
use Rattle.grown_trees.proofs.Rounding.{rounded}
use Rattle.grown_trees.proofs.examples.a_value_is_rounded_up.Goals as goal

pub returns-clause-most : goal.returns-clause-most
returns-clause-most c = rounded 7 2 4 (omega arith) refl

pub returns-clause-less : goal.returns-clause-less
returns-clause-less c = λ most. omega (arith, (most.shown 4 (omega arith)).0 (omega (arith, ints)))

pub returns-clause-more : goal.returns-clause-more
returns-clause-more c = λ most. let above : IsShown 2 (pos 7) 5 = (most.shown 5 (omega arith)).1 (omega arith) in omega (arith, ints, above)

pub returns-clause-whole : goal.returns-clause-whole
returns-clause-whole c = rounded 8 2 4 (omega arith) refl
