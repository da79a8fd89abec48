use Rattle.branch_rules.proofs.Bonding.{bonds_law}
use Rattle.branch_rules.proofs.laws.bonds_are_bounded.Goals as goal

pub returns : goal.returns
returns c = λ p group plan valid lawful. bonds_law p valid c.required_edges_are_served_once.ensures.by_number group plan lawful
