-- Components that pass the test are the odd ones.
use Rattle.std.proofs.Common.{◌≡◌, ℕ, ◌%◌, Bool, List, ◌++◌, length, take, drop}
use Rattle.std.proofs.Math.Seq.{take-append_seam}
use Rattle.std.proofs.lemmas.Bool.{eqb-true, eq-eqb}
use Rattle.carp_base.specs.Problem.{Problem}
use Rattle.cut_pool.specs.Shores.{is_in, required_crossings}
use Rattle.edge_components.specs.Components.{AreAll, PassesTest}
use Rattle.parity_cuts.specs.OddComponents.{IsOddComponent, is_odd_border}

pub odd_ones : (p : Problem) (x : List ℕ) (shores : List (List ℕ)) → AreAll (PassesTest p x 1 is_odd_border) shores → AreAll (IsOddComponent p x) shores
odd_ones p x shores all = record {
  sound = λ k d below.
      let is = all.sound k d below in
      record { component = is.component; belongs = is.belongs; odd = eqb-true _ _ is.passes };
  complete = λ shore is.
      all.complete shore (record { component = is.component; belongs = is.belongs; passes = eq-eqb (required_crossings p (is_in shore) % 2) 1 is.odd });
  ordered = all.ordered;
}

-- a slice that was lent comes back as it is
pub whole : (n : ℕ) (new old : List Bool) → n ≡ length new → take n (new ++ drop (length new) old) ≡ new
whole n new old long = rw long (take-append_seam new (drop (length new) old))
