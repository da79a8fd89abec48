use Rattle.std.proofs.Common.{◌≡◌, ℤ, pos, ◌<ℤ◌, length, to_z, of_z, w64, subst, sym, rules, arith}
use Rattle.std.proofs.lemmas.Int.{ints, to_z-of_z}
use Rattle.branch_rules.specs.Limits.{IsPriceNumber}
use Rattle.cert_format.proofs.groups.is_group.Goals as goal

pub returns : goal.returns
returns c =
    let bits = c.ranges.weight.sfits in
    let same : to_z w64 (of_z w64 c.args.weight) ≡ c.args.weight = grind (arith, ints, to_z-of_z) in (
      λ e. (
          let weight = c.is_fine_weight.ensures.0 (search rules) in
          record {
            two = search rules;
            few = search rules;
            rising = c.edges_rise.ensures.0 (search rules);
            some = subst (λ (z : ℤ). z ≡ pos 0 → ⊥) same weight.0;
            within = subst IsPriceNumber same weight.1;
            pair = subst (λ (z : ℤ). z <ℤ pos 0 → length c.args.edges.now ≡ 2) same (c.is_pair.ensures.0 e);
          }
          ),
      λ fine. c.is_pair.ensures.1 (subst (λ (z : ℤ). z <ℤ pos 0 → length c.args.edges.now ≡ 2) (sym same) fine.pair),
    )
