use Rattle.std.proofs.Common.{List, ℕ, take}
use Rattle.cert_lines.specs.Words.{HoldsWord}
use Rattle.cert_format.specs.Kinds.{IsNoneOf}
use Rattle.cert_format.proofs.kind.kind_of.Given as goal

abbrev pub invariant-loop-kind : goal.invariant-loop-kind
invariant-loop-kind l = (text : List ℕ) → HoldsWord l.word text → IsNoneOf (take l.kind-index l.kind-items) text
