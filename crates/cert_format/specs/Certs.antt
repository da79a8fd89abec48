-- A certificate and its head as plain data.
use Rattle.std.specs.Prelude.{◌≡◌, ℕ, [], ◌∷◌}
use Rattle.branch_rules.specs.Trees.{NodeList}
use Rattle.cert_lines.specs.Lines.{nodes}
use Rattle.cert_lines.specs.Order.{LatestFirst}
use Rattle.cert_lines.specs.Certificates.{Certificate, counts_of, cost_of, bound_of, plan_of, shores_of, sets_of}
use Rattle.cert_format.specs.declared.cert.Cert.{Cert}
use Rattle.cert_format.specs.declared.cert.CertHead.{CertHead}

-- the certificate, apart from where it lies in memory and for how much there is room
abbrev pub certificate_in : Cert → Certificate
certificate_in c = record {
  counts = c.counts;
  cost = c.cost;
  bound = c.bound;
  plan = c.plan;
  shores = c.shores;
  sets = c.sets.items;
  nodes = c.tree.nodes;
}

-- the number of nodes that the lines state, if they do
abbrev pub stated_nodes : LatestFirst → ℕ
stated_nodes [] = 0
stated_nodes (nodes n ∷ said) = n
stated_nodes (_ ∷ said) = stated_nodes said

-- the head is what the lines say before the first node
pub record IsHeadOf (said : LatestFirst) (head : CertHead) : Type 0 where
  pub counts : head.counts ≡ counts_of said
  pub cost : head.cost ≡ cost_of said
  pub bound : head.bound ≡ bound_of said
  pub plan : head.plan ≡ plan_of said
  pub shores : head.shores ≡ shores_of said
  pub sets : head.sets.items ≡ sets_of said
  pub nodes : head.nodes ≡ stated_nodes said

-- the head, and a tree
abbrev pub cert_with : CertHead → NodeList → Cert
cert_with head tree = record { cost = head.cost; bound = head.bound; plan = head.plan; shores = head.shores; sets = head.sets; tree = tree; counts = head.counts }
