-- A certificate that can be spelled has its numbers in plain ranges, different shores, and a tree in preorder.
use Rattle.std.proofs.Common.{◌≡◌, ℕ, ◌^◌, ◌<◌, ◌≤◌, Bool, true, false, List, [], ◌∷◌, ◌++◌, map, length, Option, Some, None, IfSome, refl, ap, subst, arith}
use Rattle.std.specs.List.{All}
use Rattle.std.proofs.lemmas.List.Elements.{All-from_recursion}
use Rattle.cut_pool.specs.Pools.{AreDifferent}
use Rattle.plan_model.specs.declared.step.Step.{Step}
use Rattle.cert_lines.specs.declared.counts.Counts.{Counts}
use Rattle.cert_lines.specs.Lines.{Line, cost, bound, tours, shores, sets, nodes, end}
use Rattle.cert_lines.specs.Certificates.{Certificate, shores_of, has_groups}
use Rattle.cert_lines.specs.Ranges.{AreCountsInRange, IsWithin}
use Rattle.cert_lines.specs.Spelling.{AreGood, IsSpellable, IsFine, IsFineShore, IsFineSet, IsFineNode, version_lines, tour_line}
use Rattle.cert_lines.proofs.Listed.{listed}
use Rattle.cert_lines.proofs.Spelled.{head_said, plan_said, pool_said, prices_said, groups_said}
use Rattle.cert_lines.proofs.InOrder.{grouped_lines, node_lines, price_lines, pool_lines}
use Rattle.cert_lines.proofs.Fine.{no_steps, shores_of_plan, shores_of_pool, shores_of_prices, sets_of_prices}
use Rattle.cert_lines.proofs.SpellableLists.{SaysTours, SaysShores, SaysSets, tours_say, shores_say, sets_say}
use Rattle.cert_lines.proofs.SpellableNodes.{nodes_fine, tree_of}

-- the lines before the tours
record SaysHead (size : Option Counts) (grouped : Bool) (price low n : ℕ) (lines : List Line) : Type 0 where
  size_in : IfSome size AreCountsInRange
  price_in : price < 10 ^ 18
  low_in : low < 10 ^ 18
  few : n ≤ 100000
  later : AreGood (tours n ∷ (bound low ∷ (cost price ∷ listed (version_lines size grouped) []))) lines

head_says : (size : Option Counts) (grouped : Bool) (price low n : ℕ) (lines : List Line) →
    AreGood [] (version_lines size grouped ++ (cost price ∷ (bound low ∷ (tours n ∷ lines)))) → SaysHead size grouped price low n lines
head_says None grouped price low n lines good = record { size_in = tt; price_in = good.3.1; low_in = good.3.3.1; few = good.3.3.3.1; later = good.3.3.3.3 }
head_says (Some c) false price low n lines good =
    record { size_in = good.3.1; price_in = good.3.3.1; low_in = good.3.3.3.1; few = good.3.3.3.3.1; later = good.3.3.3.3.3 }
head_says (Some c) true price low n lines good =
    record { size_in = good.3.1; price_in = good.3.3.1; low_in = good.3.3.3.1; few = good.3.3.3.3.1; later = good.3.3.3.3.3 }

none_different : (pool : List (List ℕ)) → pool ≡ [] → AreDifferent pool
none_different pool none i j one two same = absurd (omega (arith, ap length none, one.from_one, one.in_range))

head_of : (c : Certificate) → IsSpellable c → SaysHead c.counts (has_groups c.sets) c.cost c.bound (length c.plan) (map tour_line c.plan ++ pool_lines (has_groups c.sets) c.shores c.sets c.nodes)
head_of c spellable =
    head_says c.counts (has_groups c.sets) c.cost c.bound (length c.plan) (map tour_line c.plan ++ pool_lines (has_groups c.sets) c.shores c.sets c.nodes)
    (subst (λ (lines : List Line). AreGood [] lines) (grouped_lines c) spellable.lines)

tours_of : (c : Certificate) → IsSpellable c → SaysTours c.plan (head_said c) (pool_lines (has_groups c.sets) c.shores c.sets c.nodes)
tours_of c spellable =
    tours_say c.plan (head_said c) (pool_lines (has_groups c.sets) c.shores c.sets c.nodes) (let none = no_steps c c.counts (has_groups c.sets) in omega arith) (head_of c spellable).later

pool_of : (c : Certificate) → IsSpellable c → AreGood (plan_said c) (pool_lines (has_groups c.sets) c.shores c.sets c.nodes)
pool_of c spellable = (tours_of c spellable).later

shores_in : (c : Certificate) → IsSpellable c → SaysShores c.shores (shores (length c.shores) ∷ plan_said c) (price_lines (has_groups c.sets) c.sets c.nodes)
shores_in c spellable =
    shores_say c.shores (shores (length c.shores) ∷ plan_said c) (price_lines (has_groups c.sets) c.sets c.nodes) (none_different (shores_of (plan_said c)) (shores_of_plan c)) (pool_of c spellable).3

sets_in : (c : Certificate) → IsSpellable c → SaysSets (has_groups c.sets) c.shores c.sets (sets (length c.sets) ∷ pool_said c) (node_lines c.nodes)
sets_in c spellable =
    sets_say (has_groups c.sets) c.shores c.sets (sets (length c.sets) ∷ pool_said c) (node_lines c.nodes) (shores_of_pool c) (pool_of c spellable).1
    (groups_said (has_groups c.sets) c.sets refl) (shores_in c spellable).later.3

nodes_in : (c : Certificate) → IsSpellable c → AreGood (prices_said c) (node_lines c.nodes)
nodes_in c spellable = (sets_in c spellable).later

pub spellable_fine : (c : Certificate) → IsSpellable c → IsFine c
spellable_fine c spellable =
    let head = head_of c spellable in
    let plan = tours_of c spellable in
    let pool = shores_in c spellable in
    let prices = sets_in c spellable in
    let all = nodes_in c spellable in
    let tree = tree_of c.nodes (prices_said c) (end ∷ []) all.1.from_first all.3 in
    record {
      counts_in = head.size_in;
      cost_in = head.price_in;
      bound_in = head.low_in;
      few_tours = head.few;
      few_steps = omega (arith, plan.few);
      edges_in = All-from_recursion (All (λ (s : Step). IsWithin 1 4000 s.edge)) c.plan plan.edges;
      few_shores = (pool_of c spellable).1;
      shores_fine = All-from_recursion IsFineShore c.shores pool.fine;
      different = subst AreDifferent (ap (λ (before : List (List ℕ)). before ++ c.shores) (shores_of_plan c)) pool.different;
      few_sets = pool.later.1;
      sets_fine = All-from_recursion (IsFineSet c.shores) c.sets prices.fine;
      counted = spellable.counted;
      few_nodes = all.1.to_last;
      nodes_fine = All-from_recursion (IsFineNode (length c.shores) (length c.sets)) c.nodes
          (nodes_fine c.nodes (length c.shores) (length c.sets) (nodes (length c.nodes) ∷ prices_said c) (end ∷ []) (ap length (shores_of_prices c spellable.counted))
          (ap length (sets_of_prices c spellable.counted)) all.3);
      tree = tree.0;
      in_preorder = tree.1;
    }
