-- What the tests before the nodes find, one after another.
use Rattle.std.specs.Prelude.{List, Option, Some, None}
use Rattle.carp_base.specs.Problem.{Problem}
use Rattle.branch_rules.specs.declared.node.Node.{Node}
use Rattle.cert_lines.specs.Certificates.{Certificate}
use Rattle.cert_checker.specs.declared.claim.Claim.{Claim}
use Rattle.cert_checker.specs.declared.reason.Reason.{Reason}
use Rattle.cert_checker.specs.Claims.{claimed}
use Rattle.cert_checker.specs.Reasons.{IsFirstReason}

-- whatever the nodes: all up to here is right, or this is the first reason
abbrev pub LayerSays : (Problem → Certificate → Type 0) → Claim → Option Reason → Type 0
LayerSays IsRight c None = (nodes : List Node) → IsRight c.inst.now (claimed c nodes)
LayerSays IsRight c (Some reason) = (nodes : List Node) → IsFirstReason c.inst.now (claimed c nodes) reason
