use Rattle.std.proofs.Common.{ap, inr, sym, length, ◌∙◌}
use Rattle.std.proofs.lemmas.List.{length-map}
use Rattle.carp.proofs.helping.run_with_helpers.Goals as goal

pub returns : goal.returns
returns g c =
    let now = c.run_with-status.new.helpers.items in
    let before = c.in-Ok-Ok.helpers.items in
    record {
      leaves = inr (_, _, length-map now _ ∙ sym (length-map now _) ∙ ap length c.run_with-status.ensures.helpers.order ∙ length-map before _ ∙ ap length c.in-Ok-Ok.ensures.items, c.run_with-status.ensures.leaves);
    }
