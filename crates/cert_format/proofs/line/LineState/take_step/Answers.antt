use Rattle.std.proofs.Common.{ℕ, List, [], ◌∷◌, ◌++◌, map, refl, sym, ap, ◌∙◌}
use Rattle.cert_format.specs.Lists.{is_within}
use Rattle.cert_format.proofs.Hopeless.{next_item}
use Rattle.cert_format.proofs.Growing.{item_fails, item_more, list_more, line_shaped, all_come, map-append}
use Rattle.cert_format.proofs.Told.{step_told, step_is}
use Rattle.cert_format.proofs.line.LineState.take_step.Goals as goal
use Rattle.cert_lines.specs.Lines.{step_word}

pub returns-in_default : goal.returns-in_default
returns-in_default c = λ context words text s all held form.
    item_fails text s all (λ y more waits e. next_item step_word y.steps s.items.steps text more e (c.in_default.ensures text held))

pub returns : goal.returns
returns c = λ context words text s all held form.
    let is = c.in-Some.ensures text held in
    line_shaped form (item_more text (record s.items { steps = s.items.steps ++ is.step ∷ [] }) s all refl refl
    (map-append step_word s.items.steps (is.step ∷ []) ∙ ap (λ (x : List ℕ). map step_word s.items.steps ++ x ∷ []) (sym is.spelled))
    (list_more is.step c.in-Some.step c.is_in.result (s.held (all_come s all))
    c.in_ok-add.ensures.stated c.in_ok-add.ensures.found c.in_ok-add.ensures.more c.in_ok-add.ensures.in_range c.in_ok-add.ensures.kept (c.is_in.ensures ∙ ap (is_within 1 4000) c.from.ensures ∙ step_told is) (step_is is)))
