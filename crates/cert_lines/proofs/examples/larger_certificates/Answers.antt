use Rattle.std.proofs.Common.{refl, rules, lit<, lit≤}
use Rattle.std.specs.List.{All}
use Rattle.std.proofs.lemmas.List.Elements.{All-from_recursion}
use Rattle.branch_rules.specs.Prices.{Prices}
use Rattle.branch_rules.specs.Trees.{no_prices}
use Rattle.cert_lines.specs.Spelling.{IsFineSet, IsSpellable}
use Rattle.cert_lines.specs.Examples.{row, bonded}
use Rattle.cert_lines.proofs.Spellable.{spellable_fine}
use Rattle.cert_lines.proofs.Fine.{fine_spellable}
use Rattle.cert_lines.proofs.examples.larger_certificates.Goals as goal

row_spells : IsSpellable row
row_spells = search rules

groups_fine : (set : Prices) → All (IsFineSet row.shores) row.sets → All (IsFineSet bonded.shores) bonded.sets
groups_fine set all = All-from_recursion (IsFineSet bonded.shores) bonded.sets (
  (
      let one = all 0 no_prices (lit< tt) in
      record {
        prices = record {
          some_unit = one.prices.some_unit;
          unit_in = one.prices.unit_in;
          few_services = one.prices.few_services;
          services = one.prices.services;
          few_weights = one.prices.few_weights;
          weights = one.prices.weights;
          rising = one.prices.rising;
          few_groups = lit≤ tt;
          few_edges = lit≤ tt;
          groups = search rules;
        };
        shores = one.shores;
        group_edges = search rules;
      }
      ),
  tt,
)

pub returns-clause-bonded_spellable : goal.returns-clause-bonded_spellable
returns-clause-bonded_spellable c =
    let fine = spellable_fine row row_spells in
    fine_spellable bonded (record {
      counts_in = fine.counts_in;
      cost_in = fine.cost_in;
      bound_in = fine.bound_in;
      few_tours = fine.few_tours;
      few_steps = fine.few_steps;
      edges_in = fine.edges_in;
      few_shores = fine.few_shores;
      shores_fine = fine.shores_fine;
      different = fine.different;
      few_sets = fine.few_sets;
      sets_fine = groups_fine no_prices fine.sets_fine;
      counted = λ some. refl;
      few_nodes = fine.few_nodes;
      nodes_fine = fine.nodes_fine;
      tree = fine.tree;
      in_preorder = fine.in_preorder;
    })
