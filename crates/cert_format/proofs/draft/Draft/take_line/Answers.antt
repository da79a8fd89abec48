use Rattle.std.proofs.Common.{◌≡◌, false, inl, inr, rules}
use Rattle.cert_format.specs.Judging.{context_of, has_stated}
use Rattle.cert_format.proofs.Growing.{shaped_line}
use Rattle.cert_format.proofs.Ready.{ready_both, whole_line, past_line}
use Rattle.cert_format.proofs.Verdicts.{no_line, short_line, odd_line}
use Rattle.cert_format.proofs.Contexts.{context_is}
use Rattle.cert_format.proofs.Standing.{next_is}
use Rattle.cert_format.proofs.draft.Draft.take_line.Goals as goal

pub returns-in_default : goal.returns-in_default
returns-in_default c = record {
  bounded = c.requires;
  judged = λ said words held h. (held, inl (no_line (context_of c.args.self.now) c.args.line.now words said c.in_default.not-Shaped h held.next));
}

pub returns-then-not-may_stand-clause-judged : goal.returns-then-not-may_stand-clause-judged
returns-then-not-may_stand-clause-judged c = λ said words held h.
    absurd (let s = shaped_line c.in-Shaped.is h in let one = c.may_stand.ensures.1 s.expected in let fails = c.if-not-may_stand.true in cc)

pub returns-then-len-fields-clause-judged : goal.returns-then-len-fields-clause-judged
returns-then-len-fields-clause-judged c = λ said words held h.
    (held, inl (short_line said (shaped_line c.in-Shaped.is h) (λ e. c.if-len-fields.true (search rules))))

pub returns-then-not-ends_well-clause-judged : goal.returns-then-not-ends_well-clause-judged
returns-then-not-ends_well-clause-judged c = λ said words held h.
    (held, inl (odd_line c.in-Shaped.kind said c.numerals_grow.ensures.unique (shaped_line c.in-Shaped.is h) held.next (search rules) (search rules)))

pub returns-then-not-is_in_range-clause-judged : goal.returns-then-not-is_in_range-clause-judged
returns-then-not-is_in_range-clause-judged c = λ said words held h.
    let s = shaped_line c.in-Shaped.is h in
    (held, (_, record { is = whole_line said s held.next (search rules) (search rules); past = past_line said (context_is c.requires held) s (search rules) (search rules) }))

pub returns-then-not-has_stated-clause-judged : goal.returns-then-not-has_stated-clause-judged
returns-then-not-has_stated-clause-judged c = λ said words held h.
    let s = shaped_line c.in-Shaped.is h in
    let r = ready_both said (context_is c.requires held) s held.next (search rules) (search rules) (search rules) in
    let other : has_stated c.in-Shaped.kind c.args.line.now ≡ false = search rules in
    (held, inr (_, record { is = r.is; in_range = r.in_range; disagrees = r.unstated other }))

pub accept-requires-clause-next : goal.accept-requires-clause-next
accept-requires-clause-next c = next_is c.args.self.now.next c.in-Shaped.kind (c.may_stand.ensures.0 (search rules))

pub returns-clause-judged : goal.returns-clause-judged
returns-clause-judged c = λ said words held h.
    let s = shaped_line c.in-Shaped.is h in
    c.in_ok-verdict.ensures.judged said words held (ready_both said (context_is c.requires held) s held.next (search rules) (search rules) (search rules))
