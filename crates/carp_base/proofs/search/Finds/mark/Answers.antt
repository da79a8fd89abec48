use Rattle.std.proofs.Common.{◌≡◌, ◌<◌, false, length, get_or, sym, ◌∙◌, arith}
use Rattle.std.proofs.lemmas.List.{get_or_read}
use Rattle.carp_base.specs.Drafts.{drafted}
use Rattle.carp_base.proofs.Finding.{search_more}
use Rattle.carp_base.proofs.search.Finds.mark.Goals as goal

pub returns-in_ok-push-clause-search : goal.returns-in_ok-push-clause-search
returns-in_ok-push-clause-search c =
    let f = c.args.self.now in
    let long = c.requires.search.long in
    let below : c.args.v < length f.marks.items = omega arith in
    let unmarked : get_or f.marks.items c.args.v false ≡ false = sym (get_or_read f.marks.items _ _ below c.index.ensures false) ∙ c.if-not-index.true in
    rw c.in_ok-push.ensures.items
    (search_more (drafted c.args.draft.now) f.marks.items f.order.items c.args.v c.requires.search c.requires.in_range c.requires.reached unmarked)
