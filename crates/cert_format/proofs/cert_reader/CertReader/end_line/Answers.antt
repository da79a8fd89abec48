use Rattle.std.proofs.Common.{◌≡◌, ℕ, ◌+◌, List, [], ◌∷◌, ◌++◌, sym, ap, subst, ◌∙◌}
use Rattle.cert_format.specs.declared.draft.Draft.{Draft}
use Rattle.cert_format.specs.declared.judging.Verdict.{Verdict}
use Rattle.cert_format.specs.declared.judging.Verdict.TheVariants as verdicts
use Rattle.cert_format.specs.declared.reader.Standing.TheVariants.{Bad}
use Rattle.cert_lines.specs.declared.fault.CertFault.TheVariants.{Syntax, Limit}
use Rattle.cert_format.specs.Drafts.{HoldsDraft}
use Rattle.cert_format.specs.Judging.{Judged}
use Rattle.cert_format.specs.Held.{IsBroken}
use Rattle.cert_format.proofs.MoreBytes.{line_good, line_syntax, line_limit}
use Rattle.cert_format.proofs.cert_reader.CertReader.end_line.Goals as goal

pub returns-in-Good-clause-gives : goal.returns-in-Good-clause-gives
returns-in-Good-clause-gives c = λ bytes said rest going.
    let draft = subst (λ (d : Draft). HoldsDraft d said) (sym c.end_word.ensures.draft) going.draft in
    let judged = c.in-Ok.ensures.judged said (going.words ++ going.text ∷ []) draft (c.in_ok-end_word.ensures.line going.words going.text going.line going.word) in
    line_good _ c.in-Good.item going (subst (λ (v : Verdict). Judged v said (going.words ++ going.text ∷ []) c.take_line.new.self) c.in-Good.is judged) (c.clear.ensures _) c.in_ok-end_word.ensures.word

pub returns-in-Syntax-clause-bad : goal.returns-in-Syntax-clause-bad
returns-in-Syntax-clause-bad c = λ bytes more said rest going fault is.
    let draft = subst (λ (d : Draft). HoldsDraft d said) (sym c.end_word.ensures.draft) going.draft in
    let judged = c.in-Ok.ensures.judged said (going.words ++ going.text ∷ []) draft (c.in_ok-end_word.ensures.line going.words going.text going.line going.word) in
    let words : List (List ℕ) = going.words ++ going.text ∷ [] in
    let at : ℕ = c.end_word.new.self.draft.lines + 1 in
    let same : Syntax at ≡ fault = (let a = c.refuse.ensures.fault in let b = is in cc) in
    let known = subst (λ (v : Verdict). Judged v said words c.take_line.new.self) c.in-Syntax.is judged in
    let broken = line_syntax c.refuse.new.self at more c.lines_are_cut.ensures going (ap (λ (k : ℕ). k + 1) draft.lines) (subst (λ (d : Draft). Judged verdicts.Syntax said words d) (sym c.refuse.ensures.draft) known) in
    (subst (IsBroken c.refuse.new.self (bytes ++ 10 ∷ more)) same broken, c.refuse.ensures.bad ∙ ap Bad same)

pub returns-in-Limit-clause-bad : goal.returns-in-Limit-clause-bad
returns-in-Limit-clause-bad c = λ bytes more said rest going fault is.
    let draft = subst (λ (d : Draft). HoldsDraft d said) (sym c.end_word.ensures.draft) going.draft in
    let judged = c.in-Ok.ensures.judged said (going.words ++ going.text ∷ []) draft (c.in_ok-end_word.ensures.line going.words going.text going.line going.word) in
    let words : List (List ℕ) = going.words ++ going.text ∷ [] in
    let at : ℕ = c.end_word.new.self.draft.lines + 1 in
    let same : Limit at ≡ fault = (let a = c.refuse-in-Limit.ensures.fault in let b = is in cc) in
    let known = subst (λ (v : Verdict). Judged v said words c.take_line.new.self) c.in-Limit.is judged in
    let broken = line_limit c.refuse-in-Limit.new.self at more going (ap (λ (k : ℕ). k + 1) draft.lines) (subst (λ (d : Draft). Judged verdicts.Limit said words d) (sym c.refuse-in-Limit.ensures.draft) known) in
    (subst (IsBroken c.refuse-in-Limit.new.self (bytes ++ 10 ∷ more)) same broken, c.refuse-in-Limit.ensures.bad ∙ ap Bad same)
