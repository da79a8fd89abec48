use Rattle.std.proofs.Common.{◌≡◌, sym, subst, rules}
use Rattle.carp_base.specs.Problem.{Problem, IsValid, described}
use Rattle.carp_base.specs.Checks.{IsClear}
use Rattle.carp_base.specs.Drafts.{drafted}
use Rattle.carp_base.specs.Search.{AreReached}
use Rattle.carp_base.proofs.Validity.{described_valid}
use Rattle.carp_base.proofs.instance.Instance.build.Goals as goal

pub from_draft-requires : goal.from_draft-requires
from_draft-requires c =
    let a = c.args in
    let draft = c.in_ok-draft.draft in
    let p = described a.vertices a.depot a.capacity a.required.now a.others.now in
    let same : drafted draft ≡ p = c.in_ok-draft.ensures in
    let clear : IsClear (drafted draft) 13 = search rules in
    let Clear : Problem → Type 0 = λ q. IsClear q 13 in
    let Valid : Problem → Type 0 = IsValid in
    let Reached : Problem → Type 0 = AreReached in
    subst Valid (sym same)
    (described_valid a.vertices a.depot a.capacity a.required.now a.others.now (subst Clear same clear) (subst Reached same c.in_ok-check_reach.ensures.reached))
