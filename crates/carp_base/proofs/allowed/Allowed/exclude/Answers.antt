use Rattle.std.proofs.Common.{sym, subst}
use Rattle.carp_base.specs.Allowed.{Relation, IsRelation, TakesOut}
use Rattle.carp_base.proofs.Entries.{without-at, takes_out, still_relation}
use Rattle.carp_base.proofs.allowed.Allowed.exclude.Goals as goal

pub invariant_of-self : goal.invariant_of-self
invariant_of-self c =
    let r = c.args.self.now in
    let Holds : Relation → Type 0 = IsRelation in
    subst Holds
    (sym (without-at c.self.inside.size c.self.inside.table.items r c.args.a c.args.b _ _ c.self.view_is c.place-there.ensures.value c.place-back.ensures.value))
    (still_relation r c.args.a c.args.b c.requires.a_is_edge c.requires.b_is_edge (subst Holds c.self.view_is c.self.invariant))

pub returns : goal.returns
returns c =
    let r = c.args.self.now in
    let Holds : Relation → Type 0 = λ q. TakesOut r q c.args.a c.args.b in
    subst Holds
    (sym (without-at c.self.inside.size c.self.inside.table.items r c.args.a c.args.b _ _ c.self.view_is c.place-there.ensures.value c.place-back.ensures.value))
    (takes_out r c.args.a c.args.b c.requires.a_is_edge c.requires.b_is_edge)
