use Rattle.std.proofs.Common.{sym, arith}
use Rattle.packing_trees.specs.Bundles.{bundle_of}
use Rattle.packing_trees.proofs.Naming.{named_bundles}
use Rattle.packing_trees.proofs.laws.bundles_are_joined.Goals as goal

pub returns : goal.returns
returns c = record {
  joined = λ branch a b. (named_bundles branch).tells a b;
  least = λ branch a. (
    ((named_bundles branch).tells a (bundle_of branch a)).0 (sym ((named_bundles branch).itself a)),
    (λ b bundled. omega (arith, ((named_bundles branch).tells a b).1 bundled, (named_bundles branch).below b)),
  );
}
