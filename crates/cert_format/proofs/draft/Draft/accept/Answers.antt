use Rattle.std.proofs.Common.{subst, ap, ◌≡◌, ◌∙◌, true, ℕ, List, slice_index}
use Rattle.cert_format.specs.declared.kind.Kind.{Kind}
use Rattle.cert_format.specs.Judging.{has_stated}
use Rattle.cert_format.specs.Readiness.{IsReady}
use Rattle.cert_lines.specs.Order.{left_of}
use Rattle.cert_format.proofs.ShoreVerdicts.{shore_verdict}
use Rattle.cert_format.proofs.SetVerdicts.{sets_verdict, groups_verdict}
use Rattle.cert_format.proofs.draft.Draft.accept.Goals as goal

pub returns-in_ok-verdict-in-Shore-clause-judged : goal.returns-in_ok-verdict-in-Shore-clause-judged
returns-in_ok-verdict-in-Shore-clause-judged c = λ said words held r.
    shore_verdict c.in_ok-verdict-in-Shore.verdict c.as_slice-in-Shore.result.now said words _ c.args.line.now
    (subst (λ (k : Kind). IsReady k said c.args.line.now words) c.in-Shore.is r) (subst (λ (k : Kind). has_stated k c.args.line.now ≡ true) c.in-Shore.is c.requires.stated)
    c.as_slice-in-Shore.ensures.value (c.in_ok-verdict-in-Shore.ensures.judged said held)

pub returns-in-Sets-clause-judged : goal.returns-in-Sets-clause-judged
returns-in-Sets-clause-judged c = λ said words held r.
    sets_verdict c.judge_sets.result (slice_index c.deref-in-Sets.result.now 0) said words _ c.args.line.now (subst (λ (k : Kind). IsReady k said c.args.line.now words) c.in-Sets.is r)
    (ap (λ (f : List ℕ). slice_index f 0) c.deref-in-Sets.ensures.0) (c.judge_sets.ensures.judged said held)

pub returns-in_ok-verdict-in-Bonds-clause-judged : goal.returns-in_ok-verdict-in-Bonds-clause-judged
returns-in_ok-verdict-in-Bonds-clause-judged c = λ said words held r.
    groups_verdict c.in_ok-verdict-in-Bonds.verdict c.replace-groups.result.items c.left_of-left.result said words _ c.args.line.now
    (subst (λ (k : Kind). IsReady k said c.args.line.now words) c.in-Bonds.is r) (subst (λ (k : Kind). has_stated k c.args.line.now ≡ true) c.in-Bonds.is c.requires.stated)
    (ap (λ groups. groups.items) c.replace-groups.ensures.value) (c.left_of-left.ensures ∙ ap left_of held.next) (c.in_ok-verdict-in-Bonds.ensures.judged said held)
