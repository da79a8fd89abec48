-- A good certificate is a proof.
use Rattle.std.proofs.Common.{◌≡◌, ℕ, zero, suc, ◌≤◌, false, length, arith}
use Rattle.std.specs.List.{All}
use Rattle.std.proofs.lemmas.List.Elements.{All-weaker, recursion_from_All}
use Rattle.carp_base.specs.Problem.{Problem, IsValid}
use Rattle.cut_pool.specs.Shores.{Belongs, is_in}
use Rattle.branch_rules.specs.Trees.{Support, IsSoundSupport, set_at}
use Rattle.branch_rules.specs.Laws.{TreeBounds}
use Rattle.cert_lines.specs.Certificates.{Certificate}
use Rattle.cert_format.specs.Good.{HasPriceEach, IsGood, IsProof, support_of}

prices_at : (s : Support) → All (HasPriceEach s.problem) s.sets → (i : ℕ) → 1 ≤ i → i ≤ length s.sets → length (set_at s i).services ≡ s.problem.required
prices_at s all zero some within = absurd (omega (arith, some))
prices_at s all (suc k) some within = all k _ (omega (arith, within))

pub good_proves : TreeBounds → (p : Problem) (c : Certificate) → IsValid p → IsGood p c → IsProof p c
good_proves tree_bounds p c valid good =
    let sound : IsSoundSupport (support_of p c) = record {
      valid = valid;
      shores = recursion_from_All (λ shore. is_in shore p.depot ≡ false) c.shores (All-weaker (Belongs p) (λ shore. is_in shore p.depot ≡ false) (λ shore belongs. belongs.no_depot) c.shores good.shores);
      sets = prices_at (support_of p c) good.prices;
    } in
    record { lawful = good.lawful; cost = good.cost; bounds = tree_bounds (support_of p c) c.bound good.tree sound good.shows }
