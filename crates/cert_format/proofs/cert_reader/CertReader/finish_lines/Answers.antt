use Rattle.std.proofs.Common.{ℕ, ◌+◌, sym, ap, ◌∙◌, rules}
use Rattle.cert_format.specs.Judging.{context_of}
use Rattle.cert_format.proofs.Standings.{rest_none, none_rest, unfinished_more}
use Rattle.cert_format.proofs.cert_reader.CertReader.finish_lines.Goals as goal

pub returns-then-not-is_start-clause-refused : goal.returns-then-not-is_start-clause-refused
returns-then-not-is_start-clause-refused c = λ bytes said rest going fault is.
    unfinished_more said rest (c.args.self.now.draft.lines + 1) fault (search rules) (ap (λ (k : ℕ). k + 1) going.draft.lines) (sym going.draft.next ∙ c.is_nothing.ensures.0 (search rules))
    (λ none. (let started = (c.is_start.ensures (context_of c.args.self.now.draft) going.words going.line).1 (rest_none going none).0 in let fails = c.if-not-is_start.true in cc))

pub returns-then-not-is_empty-clause-refused : goal.returns-then-not-is_empty-clause-refused
returns-then-not-is_empty-clause-refused c = λ bytes said rest going fault is.
    unfinished_more said rest (c.args.self.now.draft.lines + 1) fault (search rules) (ap (λ (k : ℕ). k + 1) going.draft.lines) (sym going.draft.next ∙ c.is_nothing.ensures.0 (search rules))
    (λ none. (let empty = (c.is_empty.ensures going.text going.word).1 (rest_none going none).1 in let fails = c.if-not-is_empty.true in cc))

pub returns-clause-whole : goal.returns-clause-whole
returns-clause-whole c = λ bytes said rest going. (
  none_rest going ((c.is_start.ensures (context_of c.args.self.now.draft) going.words going.line).0 (search rules)) ((c.is_empty.ensures going.text going.word).0 (search rules)),
  sym going.draft.next ∙ c.is_nothing.ensures.0 (search rules),
)
