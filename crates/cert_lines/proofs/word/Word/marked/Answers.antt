use Rattle.std.proofs.Common.{ℕ, List, drop, rules, sym, ap, ◌∙◌, subst}
use Rattle.cert_lines.specs.Words.{IsCut}
use Rattle.cert_lines.proofs.Cuts.{marked_kept, tail_take}
use Rattle.cert_lines.proofs.word.Word.marked.Goals as goal

pub returns-clause-told : goal.returns-clause-told
returns-clause-told c = λ text held.
    marked_kept c.args.self.now.kept.items c.natural_in.result (search rules) (search rules) held (λ tail cut.
    c.natural_in.ensures.told tail (subst (λ (x : List ℕ). IsCut 19 x c.args.self.now.more c.args.self.now.digits tail) (ap (drop 1) (sym c.as_slice-kept.ensures.value) ∙ sym (tail_take c.as_slice-kept.result.now)) cut))
