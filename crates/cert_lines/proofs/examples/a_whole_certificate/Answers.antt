use Rattle.std.proofs.Common.{refl, rules, arith, lit<, lit≤}
use Rattle.std.proofs.lemmas.Bool.{false≢true}
use Rattle.branch_rules.specs.Trees.{price}
use Rattle.cert_lines.specs.Numerals.{numeral}
use Rattle.cert_lines.specs.Spelling.{IsFine}
use Rattle.cert_lines.specs.Examples.{triangle}
use Rattle.cert_lines.proofs.Spelled.{spelled_read}
use Rattle.cert_lines.proofs.Fine.{fine_spellable}
use Rattle.cert_lines.proofs.examples.a_whole_certificate.Goals as goal

fine : IsFine triangle
fine = record {
  counts_in = search rules;
  cost_in = lit< tt;
  bound_in = lit< tt;
  few_tours = lit≤ tt;
  few_steps = lit≤ tt;
  edges_in = search rules;
  few_shores = lit≤ tt;
  shores_fine = search rules;
  different = λ i j one two same. absurd (omega (arith, one.from_one, one.in_range));
  few_sets = lit≤ tt;
  sets_fine = search rules;
  counted = λ some. absurd (false≢true some);
  few_nodes = lit≤ tt;
  nodes_fine = search rules;
  tree = price 1;
  in_preorder = refl;
}

pub returns-clause-fine : goal.returns-clause-fine
returns-clause-fine c = fine

pub returns-clause-text : goal.returns-clause-text
unfolding numeral
returns-clause-text c = spelled_read triangle (fine_spellable triangle fine)
