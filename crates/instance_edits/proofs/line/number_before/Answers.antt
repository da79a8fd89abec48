use Rattle.std.proofs.Common.{List, ℕ, subst, sym, ap, ◌∙◌, take}
use Rattle.std.specs.Str.Parse.{AllDigits}
use Rattle.instance_edits.proofs.Numbers.{are_digits}
use Rattle.instance_edits.proofs.line.number_before.Goals as goal

pub value_of-requires-clause-digits : goal.value_of-requires-clause-digits
value_of-requires-clause-digits c =
    subst (λ (x : List ℕ). AllDigits 10 x) (sym (c.split_at.ensures.front ∙ ap (λ (k : ℕ). take k c.args.text.now) c.digit_count.ensures.count)) (are_digits c.args.text.now)
