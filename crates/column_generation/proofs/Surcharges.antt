-- The table of the surcharges of groups is one that a pricing table takes.
use Rattle.std.proofs.Common.{ℕ, List, sym, ◌∙◌, arith, ℤ}
use Rattle.std.specs.List.{All}
use Rattle.std.proofs.lemmas.Int.{ints}
use Rattle.std.proofs.lemmas.List.Elements.{All-weaker}
use Rattle.branch_rules.specs.Bonds.{GroupWeight, IsSurchargeTable}
use Rattle.branch_rules.specs.Laws.{SurchargeIsSymmetric}
use Rattle.branch_rules.specs.Limits as limits
use Rattle.route_pricing.specs.Pricing.{AreSurcharges, IsSurcharge}

pub are_surcharges : SurchargeIsSymmetric → (m : ℕ) (groups : List GroupWeight) (table : List ℤ) → IsSurchargeTable m groups table → All limits.IsSurcharge table → AreSurcharges m table
are_surcharges symmetric m groups table charged small = record {
  long = charged.long;
  both_orders = λ e f e_from e_in f_from f_in. charged.same e f e_from e_in f_from f_in ∙ symmetric groups e f ∙ sym (charged.same f e f_from f_in e_from e_in);
  small = All-weaker limits.IsSurcharge IsSurcharge (λ s is. record { low = omega (arith, ints, is.low); high = omega (arith, ints, is.high) }) table small;
}
