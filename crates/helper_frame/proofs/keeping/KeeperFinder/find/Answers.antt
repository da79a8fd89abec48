use Rattle.std.proofs.Common.{sym, subst}
use Rattle.std.proofs.lemmas.Result.{IfOk-weaker}
use Rattle.helper_frame.specs.Keeping.{IsFoundBesideSome}
use Rattle.helper_frame.proofs.keeping.KeeperFinder.find.Goals as goal

pub returns-in-Some-clause-found : goal.returns-in-Some-clause-found
returns-in-Some-clause-found g c =
    IfOk-weaker c.copy.result _ _ (λ plan is. subst (IsFoundBesideSome g.F.Finder.finds c.args.inst.now) (sym is) c.in-Some.ensures.found) c.copy.ensures
