-- Groups that are offered: one more, one fewer, and that they are few enough for a price set.
use Rattle.std.proofs.Common.{◌≡◌, ◌≢◌, ℕ, suc, ◌+◌, ◌*◌, ◌<◌, ◌≤◌, List, [], ◌∷◌, ◌++◌, length, take, drop, sum_by, arith, ℤ, pos, ◌<ℤ◌, subst, sym}
use Rattle.std.proofs.lemmas.List.{length_push}
use Rattle.std.specs.List.{All, remove}
use Rattle.std.proofs.lemmas.List.Edits.{length-remove}
use Rattle.std.proofs.lemmas.List.Elements.{All-append, All-drop, All-push, All-take}
use Rattle.std.proofs.lemmas.List.Sums.{sum_by-le}
use Rattle.carp_base.specs.Problem.{Problem}
use Rattle.branch_rules.specs.Bonds.{GroupWeight, IsGroup}
use Rattle.branch_rules.specs.Limits.{IsFineGroup}
use Rattle.route_pricing.specs.Pricing.{IsServicePrice}
use Rattle.column_generation.specs.Groups.{AreOffered, most_edges, most_groups}

-- a weight on a small group that is not 0, and below 0 only on a pair, is one that a price set may have
pub fine_group : (p : Problem) (edges : List ℕ) (weight : ℤ) → IsGroup p edges → length edges ≤ most_edges → weight ≢ pos 0 → (weight <ℤ pos 0 → length edges ≡ 2) → IsServicePrice weight → IsFineGroup (record { edges = edges; weight = weight })
fine_group p edges weight group small some pair within = record {
  two = group.two;
  few = omega arith;
  rising = group.rising;
  some = some;
  within = record { low = within.low; high = within.high };
  pair = pair;
}

offered_push : (p : Problem) (after groups : List GroupWeight) (w : GroupWeight) → after ≡ groups ++ w ∷ [] → AreOffered p groups → length groups < most_groups → length w.edges ≤ most_edges → IsFineGroup w → IsGroup p w.edges → AreOffered p after
offered_push p after groups w is offered room small fine group =
    let long : length (groups ++ w ∷ []) ≡ length groups + 1 = length_push groups w in
    subst (AreOffered p) (sym is) (record {
      few = omega (arith, long, room);
      small = All-push (λ (v : GroupWeight). length v.edges ≤ most_edges) groups w offered.small small;
      fine = All-push IsFineGroup groups w offered.fine fine;
      required = All-push (λ (v : GroupWeight). IsGroup p v.edges) groups w offered.required group;
    })

-- one more group, for which there is room
pub offered_more : (p : Problem) (after groups : List GroupWeight) (w : GroupWeight) (edges : List ℕ) (weight : ℤ) → w ≡ record { edges = edges; weight = weight } → after ≡ groups ++ w ∷ [] → AreOffered p groups → length groups < most_groups → IsGroup p edges → length edges ≤ most_edges → weight ≢ pos 0 → (weight <ℤ pos 0 → length edges ≡ 2) → IsServicePrice weight → AreOffered p after
offered_more p after groups w edges weight same is offered room group small some pair within =
    let fine : IsFineGroup w = subst IsFineGroup (sym same) (fine_group p edges weight group small some pair within) in
    let few : length w.edges ≤ most_edges = subst (λ (v : GroupWeight). length v.edges ≤ most_edges) (sym same) small in
    let of_instance : IsGroup p w.edges = subst (λ (v : GroupWeight). IsGroup p v.edges) (sym same) group in
    offered_push p after groups w is offered room few fine of_instance

all_less : {X : Type 0} (P : X → Type 0) (xs : List X) (i : ℕ) → All P xs → All P (remove xs i)
all_less P xs i all = All-append P (take i xs) (drop (suc i) xs) (All-take P i xs all) (All-drop P (suc i) xs all)

-- one group fewer
pub offered_less : (p : Problem) (after groups : List GroupWeight) (i : ℕ) → i < length groups → after ≡ remove groups i → AreOffered p groups → AreOffered p after
offered_less p after groups i inside is offered =
    let long : length (remove groups i) + 1 ≡ length groups = length-remove groups i inside in
    subst (AreOffered p) (sym is) (record {
      few = omega (arith, long, offered.few);
      small = all_less (λ (v : GroupWeight). length v.edges ≤ most_edges) groups i offered.small;
      fine = all_less IsFineGroup groups i offered.fine;
      required = all_less (λ (v : GroupWeight). IsGroup p v.edges) groups i offered.required;
    })

pub few_edges : (p : Problem) (groups : List GroupWeight) → AreOffered p groups → sum_by (λ (w : GroupWeight). length w.edges) groups ≤ 60000
few_edges p groups offered =
    let each : sum_by (λ (w : GroupWeight). length w.edges) groups ≤ length groups * most_edges = sum_by-le (λ (w : GroupWeight). length w.edges) most_edges groups offered.small in
    omega (arith, each, offered.few)
