use Rattle.std.proofs.Common.{◌≡◌, true, false, refl, rules}
use Rattle.cert_format.proofs.Growing.{item_fails, item_more, line_shaped, all_come}
use Rattle.cert_format.proofs.GroupFails.{groups_fail}
use Rattle.cert_format.proofs.GroupSteps.{takes_not, takes_one}
use Rattle.cert_format.proofs.line.LineState.take_bond.Goals as goal

pub returns-then-not-branch : goal.returns-then-not-branch
returns-then-not-branch c = λ context words text s all held form.
    let fits : c.in_ok-take.field-0 ≡ false = search rules in
    let none = takes_not c.take.new.self c.args.self.now.in_range s.items.groups s.items.rest text c.in_ok-take.field-0 fits (c.in_ok-take.ensures c.args.self.now.in_range s.items.groups s.items.rest text (s.held (all_come s all)) held) in
    item_fails text s all (λ y more waits e. groups_fail c.numerals_grow.ensures.unique y.groups y.rest s.items.groups s.items.rest text more e none)

pub returns-else-not-branch : goal.returns-else-not-branch
returns-else-not-branch c = λ context words text s all held form.
    let fits : c.in_ok-take.field-0 ≡ true = search rules in
    let more = takes_one c.take.new.self c.args.self.now.in_range s.items.groups s.items.rest text c.in_ok-take.field-0 fits (c.in_ok-take.ensures c.args.self.now.in_range s.items.groups s.items.rest text (s.held (all_come s all)) held) in
    line_shaped form (item_more text (record s.items { groups = more.more; rest = more.behind }) s all refl refl more.words more.held)
