-- Paths of a least matching joined by parity, and the levels of its sets, are a join bound.
use Rattle.std.proofs.Common.{◌≡◌, ℕ, zero, suc, ◌+◌, ◌*◌, ◌%◌, ◌<◌, ◌≤◌, Bool, true, false, not, cond, List, [], ◌∷◌, length, map, get_or, refl, sym, ap, ◌∙◌, subst, arith, add-one}
use Rattle.std.specs.Prelude.{if◌then◌else◌}
use Rattle.std.specs.List.{All, AllByRecursion, count_by}
use Rattle.std.proofs.lemmas.List.{length-map}
use Rattle.std.proofs.lemmas.List.Elements.{recursion_from_All}
use Rattle.std.proofs.lemmas.List.Sums.{sum_by-cons}
use Rattle.carp_base.specs.declared.edge.Edge.{Edge}
use Rattle.carp_base.specs.Problem.{Problem, IsValid, IsVertex, required_edges}
use Rattle.plan_model.specs.Plans.{crosses}
use Rattle.cut_pool.specs.declared.shore.Weighted.{Weighted}
use Rattle.cut_pool.specs.Shores.{is_in, required_crossings}
use Rattle.edge_components.specs.Parts.{parts_of}
use Rattle.edge_components.specs.Listing.{vertices_where}
use Rattle.edge_components.specs.Laws.{VerticesAreListed}
use Rattle.blossom_match.specs.declared.costs.Costs.{Costs}
use Rattle.blossom_match.specs.declared.least.Matching.{Matching}
use Rattle.blossom_match.specs.Matching.{IsPerfect, matching_cost}
use Rattle.blossom_match.specs.Answer.{IsLeastBy, mate_in, sets_in}
use Rattle.blossom_match.specs.Table.{cost}
use Rattle.matching_duals.specs.Joins.{AreDifferent, IsJoinBound, IsOddShore, MakesEven, Packs, all_halves, join_cost}
use Rattle.matching_duals.specs.OddSets.{OddSet, AreDistances, is_odd, level, side_of}
use Rattle.matching_duals.specs.Levels.{IsLevel}
use Rattle.matching_duals.specs.Paths.{AreReaches, reach}
use Rattle.matching_duals.specs.Pairs.{ArePaired}
use Rattle.matching_duals.specs.Sets.{AreCosts, AreLaid, AreSets, IsBounded, sets_below}
use Rattle.matching_duals.proofs.Packing.{levels_pack_law}
use Rattle.matching_duals.proofs.Duality.{counts_pay}
use Rattle.matching_duals.proofs.Shores.{level_test, odd_shore}
use Rattle.matching_duals.proofs.Few.{AllDiffer, levels_are_few}
use Rattle.matching_duals.proofs.Distances.{odd_vertex, reaches_are_distances}
use Rattle.matching_duals.proofs.Paths.{makes_even, cost_below}
use Rattle.matching_duals.proofs.Places.{OddPlaces, odd_places}
use Rattle.matching_duals.proofs.Matched.{all_weigh, are_sets}
use Rattle.matching_duals.proofs.Joined.{ends_odd, pairs_cost}

-- no required edge crosses the empty set
none_cross : (edges : List Edge) → count_by (crosses (is_in [])) edges ≡ 0
none_cross [] = refl
none_cross (x ∷ edges) = omega (arith, none_cross edges, sum_by-cons (λ y. cond (crosses (is_in []) y) 1 0) x edges)

each_map : (P : List ℕ → Type 0) (shores : List Weighted) → AllByRecursion (λ s. P s.shore) shores → AllByRecursion P (map (λ s. s.shore) shores)
each_map P [] all = tt
each_map P (s ∷ shores) all = (all.0, each_map P shores all.1)

differ_map : (s : Weighted) (shores : List Weighted) → ((k : ℕ) → k < length shores → s.shore ≡ (get_or shores k s).shore → ⊥) →
    AllByRecursion (λ r. s.shore ≡ r → ⊥) (map (λ r. r.shore) shores)
differ_map s [] apart = tt
differ_map s (r ∷ shores) apart = (apart 0 (omega arith), differ_map s shores (λ k below. apart (suc k) (omega (arith, below))))

all_differ : (shores : List Weighted) → AreDifferent shores → AllDiffer (map (λ s. s.shore) shores)
all_differ [] different = tt
all_differ (s ∷ shores) different = (
  differ_map s shores (λ k below same. first k (different 0 (suc k) s (omega arith) (omega (arith, below)) same)),
  all_differ shores (λ i j d i_in j_in same. omega (arith, different (suc i) (suc j) d (omega (arith, i_in)) (omega (arith, j_in)) same)),
)
  where
    first : (k : ℕ) → 0 ≡ suc k → ⊥
    first k same = omega (arith, same)

-- the side without the depot lacks it
side_lacks : (b : Bool) → (if b then not b else b) ≡ false
side_lacks true = refl
side_lacks false = refl

module _ (listed : VerticesAreListed) (p : Problem) (odd table : List ℕ) (costs : Costs) (m : Matching) (valid : IsValid p) (reaches : AreReaches p table)
    (odd_is : odd ≡ vertices_where (is_odd p) p.vertices) (are : AreCosts p odd table costs) (least : IsLeastBy costs m) where
  distances : AreDistances p (reach p table)
  distances = reaches_are_distances p table valid reaches

  places : OddPlaces p odd
  places = odd_places listed p odd valid odd_is

  pub sets_are : AreSets p odd table m
  sets_are = are_sets p odd table costs m valid distances places are least (λ v is. odd_vertex p v valid is)

  module _ (counts enclosing : List ℕ) (shores : List Weighted) (paired : ArePaired p odd table (mate_in m) (length odd) counts)
      (laid : AreLaid p table (sets_below odd m (length odd + 1)) enclosing shores) where
    abbrev sets : List OddSet
    sets = sets_below odd m (length odd + 1)

    bounded : IsBounded p table sets
    bounded = rw add-one (sets_are.bounded (length odd) (sets_in m) (omega arith))

    makes : MakesEven p counts
    makes =
        makes_even p paired.pairs counts paired.lead paired.parities
        (λ v vertex. omega (
          arith,
          paired.ends v,
          ends_odd p odd table (mate_in m) (length odd) places refl (subst (λ n. IsPerfect n (mate_in m)) are.size least.proved.perfect) v vertex,
        ))

    -- the counts cost at most half of what the shores weigh
    below_half : 2 * join_cost p counts ≤ all_halves shores
    below_half =
        omega (
          arith,
          cost_below p paired.pairs counts paired.lead paired.parities,
          paired.cost,
          pairs_cost p odd table (mate_in m) (length odd) (cost costs) refl (subst (λ n. IsPerfect n (mate_in m)) are.size least.proved.perfect) are.between,
          ap (λ n. matching_cost n (cost costs) (mate_in m)) are.size,
          all_weigh p odd table costs m valid distances places are least,
          laid.levels.all,
        )

    odd_shores : All (λ s. required_crossings p (is_in s.shore) % 2 ≡ 1) shores
    odd_shores k d below = odd_shore listed p (reach p table) sets valid bounded.family bounded.sized (get_or shores k d).shore (laid.levels.each k d below)

    packs : Packs p shores
    packs e number = omega (arith, laid.levels.over e number, levels_pack_law p (reach p table) sets valid bounded.family e number)

    pays : (other : List ℕ) → MakesEven p other → all_halves shores ≤ 2 * join_cost p other
    pays other also = counts_pay p shores other valid odd_shores packs also

    is_odd_shore : (k : ℕ) (d : Weighted) → k < length shores → IsOddShore p (get_or shores k d)
    is_odd_shore k d below =
        let shore = (get_or shores k d).shore in
        let is = laid.levels.each k d below in
        let test = side_of p (level (reach p table) is.set is.smaller is.number) in
        let odd = odd_shores k d below in
        let positive = laid.joined.positive k d below in
        record {
          is_shore = record {
            some = λ none. omega (arith, odd, ap (λ (l : List ℕ). required_crossings p (is_in l)) none, none_cross (required_edges p));
            rising = subst (λ (l : List ℕ). (k : ℕ) → k + 1 < length l → get_or l k 0 < get_or l (k + 1) 0) (sym is.same) (listed p test).rising;
          };
          belongs = record {
            vertices = subst (λ (l : List ℕ). All (IsVertex p) l) (sym is.same) (listed p test).within;
            no_depot = level_test listed p (reach p table) sets shore is p.depot valid.depot_in ∙ side_lacks (level (reach p table) is.set is.smaller is.number p.depot);
          };
          odd = odd;
          positive = positive.natural;
          some = positive.some;
        }

    once : (e : ℕ) → parts_of counts e ≤ 1
    once zero = omega arith
    once (suc k) = paired.bits k

    pub shown : (value : ℕ) → value ≡ join_cost p counts → IsJoinBound p counts shores value
    shown value value_is = record {
      makes_even = makes;
      once = once;
      costs = sym value_is;
      least = record {
        counts = counts;
        makes_even = makes;
        costs = sym value_is;
        least = λ other also. omega (arith, value_is, below_half, pays other also);
      };
      odd = is_odd_shore;
      packs = packs;
      twice = omega (arith, value_is, below_half, pays counts makes);
      different = laid.joined.different;
      few = omega (
        arith,
        length-map shores (λ s. s.shore),
        levels_are_few listed p (reach p table) sets valid bounded.family bounded.sized (map (λ s. s.shore) shores)
            (each_map (IsLevel p (reach p table) sets) shores (recursion_from_All (λ s. IsLevel p (reach p table) sets s.shore) shores laid.levels.each))
            (all_differ shores laid.joined.different),
      );
    }
