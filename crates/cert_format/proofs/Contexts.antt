-- What tells which line may follow, by the lines that are held.
use Rattle.std.proofs.Common.{ℕ, List, length, ap}
use Rattle.cert_lines.specs.Order.{LatestFirst}
use Rattle.branch_rules.specs.Prices.{Prices}
use Rattle.cert_format.specs.declared.draft.Draft.{Draft}
use Rattle.cert_format.specs.Drafts.{HoldsDraft, IsBounded}
use Rattle.cert_format.specs.Judging.{context_of}
use Rattle.cert_format.proofs.Ranges.{IsContext}

pub context_is : {draft : Draft} {said : LatestFirst} → IsBounded draft → HoldsDraft draft said → IsContext (context_of draft) said
context_is {draft} {said} b h = record {
  steps = h.steps;
  shores = ap (length {A = List ℕ}) h.head.shores;
  sets = ap (length {A = Prices}) h.head.sets;
  few_steps = b.steps;
  few_shores = b.shores;
  few_sets = b.sets;
}
