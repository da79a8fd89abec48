use Rattle.std.proofs.Common.{to_z, of_z, w64, ◌≡◌, ℕ, ◌≤◌, ◌&&◌, [], ◌∷◌, ◌++◌, None, refl, ap, subst, ◌∙◌}
use Rattle.cert_format.proofs.Growing.{item_fails, item_more, list_more, line_shaped, all_come}
use Rattle.cert_format.proofs.Told.{weight_told, told_bits, weight_is, weight_more, weight_fails, waiting_is}
use Rattle.cert_format.proofs.line.LineState.take_weight_of.Goals as goal
use Rattle.cert_format.specs.Lists.{is_within, price_ok}

pub returns-in_default : goal.returns-in_default
returns-in_default c = λ context words text s all held form some same.
    let h = s.held (all_come s all) in
    let w = waiting_is s.items.waiting c.args.self.now.waiting c.args.number h.1 some in
    item_fails text s all (λ y more waits e. weight_fails y.weights s.items.weights y.waiting s.items.waiting w.n text more waits w.waits e (c.in_default.ensures text held))

pub returns : goal.returns
returns c = λ context words text s all held form some same.
    let is = c.in-Some.ensures text held in
    let same_bits : to_z w64 (of_z w64 c.in-Some.weight) ≡ c.in-Some.weight = told_bits is.z c.in-Some.weight is.value in
    let few : context.shores ≤ 2000 = subst (λ (k : ℕ). k ≤ 2000) same c.requires in
    let h = s.held (all_come s all) in
    let w = waiting_is s.items.waiting c.args.self.now.waiting c.args.number h.1 some in
    line_shaped form (item_more text (record s.items { weights = s.items.weights ++ record { shore = w.n; weight = is.z } ∷ []; waiting = None }) s all refl refl
    (weight_more s.items.weights s.items.waiting w.n is.z text w.waits is.spelled) (
      list_more (record { shore = w.n; weight = is.z }) (record { shore = c.min-shore.result; weight = to_z w64 (of_z w64 c.in-Some.weight) }) c.is_weight.result h.0
          c.in_ok-add.ensures.stated c.in_ok-add.ensures.found c.in_ok-add.ensures.more c.in_ok-add.ensures.in_range c.in_ok-add.ensures.kept
          (c.is_weight.ensures ∙ ap (λ (k : ℕ). is_within 1 k c.args.number && price_ok (to_z w64 (of_z w64 c.in-Some.weight))) same ∙ weight_told context.shores w.n c.args.number is.z (to_z w64 (of_z w64 c.in-Some.weight)) few w.told (same_bits ∙ is.value))
          (weight_is context.shores w.n c.args.number c.min-shore.result is.z (to_z w64 (of_z w64 c.in-Some.weight)) few w.told c.min-shore.ensures (same_bits ∙ is.value)),
      refl,
    ))
