use Rattle.std.proofs.Common.{length, subst}
use Rattle.cert_lines.specs.declared.next.Next.{Next}
use Rattle.cert_lines.specs.Certificates.{nodes_of}
use Rattle.cert_format.specs.Certs.{stated_nodes}
use Rattle.cert_format.specs.Drafts.{CountsNodes}
use Rattle.cert_format.proofs.NodesGiven.{none_at}
use Rattle.cert_format.proofs.draft.Draft.accept_nodes.Goals as goal

pub returns-clause-none : goal.returns-clause-none
returns-clause-none c = λ said held. none_at (nodes_of said) (subst (λ (n : Next). CountsNodes n (length (nodes_of said)) (stated_nodes said)) c.requires.next held.counted)
