use Rattle.std.proofs.Common.{ℕ, List, [], ◌∷◌, ◌++◌, map, refl, sym, ap, ◌∙◌}
use Rattle.cert_format.proofs.Hopeless.{next_item}
use Rattle.cert_format.proofs.Growing.{item_fails, item_more, list_more, line_shaped, all_come, map-append}
use Rattle.cert_format.proofs.Told.{vertex_told, vertex_is}
use Rattle.cert_format.proofs.line.LineState.take_vertex.Goals as goal
use Rattle.cert_lines.specs.Numerals.{numeral}

pub returns-in_default : goal.returns-in_default
returns-in_default c = λ context words text s all held form.
    item_fails text s all (λ y more waits e. next_item numeral y.vertices s.items.vertices text more e (c.in_default.ensures.told text held))

pub returns : goal.returns
returns c = λ context words text s all held form.
    let is = c.in-Some.ensures.told text held in
    line_shaped form (item_more text (record s.items { vertices = s.items.vertices ++ is.n ∷ [] }) s all refl refl
    (map-append numeral s.items.vertices (is.n ∷ []) ∙ ap (λ (x : List ℕ). map numeral s.items.vertices ++ x ∷ []) (sym is.spelled))
    (list_more is.n c.min-vertex.result c.is_in.result (s.held (all_come s all))
    c.in_ok-add.ensures.stated c.in_ok-add.ensures.found c.in_ok-add.ensures.more c.in_ok-add.ensures.in_range c.in_ok-add.ensures.kept
    (c.is_in.ensures ∙ vertex_told is.n c.in-Some.number c.min-vertex.result is.value c.min-vertex.ensures) (vertex_is is.n c.in-Some.number c.min-vertex.result is.value c.min-vertex.ensures)))
