use Rattle.std.proofs.Common.{rules}
use Rattle.cert_format.proofs.Growing.{field_fails, field_more, line_shaped}
use Rattle.cert_format.proofs.line.LineState.take_field.Goals as goal

pub returns-in_default : goal.returns-in_default
returns-in_default c = λ words text s held. field_fails text s c.requires.few (c.in_default.ensures.told text held)

pub returns-then-len-fields : goal.returns-then-len-fields
returns-then-len-fields c = λ words text s held.
    line_shaped {line = c.begin_items.new.self} {kind = c.args.kind} (search rules)
    (field_more {new = c.begin_items.new.self} text c.in-Some.number s c.requires.few (c.in-Some.ensures.told text held) (search rules) (λ e. search rules) (λ e. c.begin_items.ensures.held))

pub returns-else-len-fields : goal.returns-else-len-fields
returns-else-len-fields c = λ words text s held. field_more text c.in-Some.number s c.requires.few (c.in-Some.ensures.told text held) (search rules) (λ e. absurd (c.if-len-fields.false (search rules))) (λ e. absurd (c.if-len-fields.false (search rules)))
