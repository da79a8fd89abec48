use Rattle.std.proofs.Common.{to_z, of_z, w64, ℕ, List, [], ◌∷◌, ◌++◌, map, refl, sym, ap, ◌∙◌}
use Rattle.cert_format.specs.Lists.{price_ok}
use Rattle.cert_format.proofs.Hopeless.{next_item}
use Rattle.cert_format.proofs.Growing.{item_fails, item_more, list_more, line_shaped, all_come, map-append}
use Rattle.cert_format.proofs.Told.{price_told, price_is, told_bits}
use Rattle.cert_format.proofs.line.LineState.take_service.Goals as goal
use Rattle.cert_lines.specs.Numerals.{signed_numeral}

pub returns-in_default : goal.returns-in_default
returns-in_default c = λ context words text s all held form.
    item_fails text s all (λ y more waits e. next_item signed_numeral y.services s.items.services text more e (c.in_default.ensures text held))

pub returns : goal.returns
returns c = λ context words text s all held form.
    let is = c.in-Some.ensures text held in
    line_shaped form (item_more text (record s.items { services = s.items.services ++ is.z ∷ [] }) s all refl refl
    (map-append signed_numeral s.items.services (is.z ∷ []) ∙ ap (λ (x : List ℕ). map signed_numeral s.items.services ++ x ∷ []) (sym is.spelled))
    (list_more is.z (to_z w64 (of_z w64 c.in-Some.price)) c.is_price.result (s.held (all_come s all))
    c.in_ok-add.ensures.stated c.in_ok-add.ensures.found c.in_ok-add.ensures.more c.in_ok-add.ensures.in_range c.in_ok-add.ensures.kept
    (c.is_price.ensures ∙ ap price_ok (told_bits is.z c.in-Some.price is.value) ∙ price_told is.z c.in-Some.price is.value) (λ holds. told_bits is.z c.in-Some.price is.value ∙ price_is is.z c.in-Some.price is.value holds)))
