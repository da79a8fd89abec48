use Rattle.std.proofs.Common.{◌≡◌, List, [], pos, w64, length, get_or, set, ap, sym, ◌∙◌, subst, arith}
use Rattle.std.proofs.lemmas.Int.{to_z_pos}
use Rattle.std.proofs.lemmas.List.{length-set}
use Rattle.cut_pool.specs.declared.shore.Weighted.{Weighted}
use Rattle.matching_duals.specs.Levels.{IsAdded, IsStanding, Stands, raised}
use Rattle.matching_duals.proofs.Merged.{added_push, added_raise, whole}
use Rattle.matching_duals.proofs.merging.add_shore.Goals as goal

pub returns-in-Some : goal.returns-in-Some
returns-in-Some c =
    let old = c.args.shores.now.items in
    let d : Weighted = record { shore = []; weight = pos 0 } in
    let standing = subst (λ (l : List Weighted). IsStanding l c.args.shore c.in-Some.i) c.deref.ensures.value c.in-Some.ensures in
    let is : c.raise.new.shores ≡ set old c.in-Some.i (raised (get_or old c.in-Some.i d) c.args.more) =
    subst (λ (l : List Weighted). c.raise.new.shores ≡ set l c.in-Some.i (raised (get_or l c.in-Some.i d) c.args.more)) c.deref_mut.ensures.value (c.raise.ensures d) in
    let long : length c.raise.new.shores ≡ length old = ap length is ∙ length-set old c.in-Some.i (raised (get_or old c.in-Some.i d) c.args.more) in
    subst (IsAdded old c.args.shore c.args.more)
    (sym (whole old c.raise.new.shores c.args.shores.now.len (c.args.shores.now.ok.0 ∙ sym long) ∙ is))
    (added_raise old c.args.shore c.args.more c.requires.joined c.requires.some c.in-Some.i standing d)

pub returns-in_ok-push-in-None : goal.returns-in_ok-push-in-None
returns-in_ok-push-in-None c =
    let old = c.args.shores.now.items in
    let none = subst (λ (l : List Weighted). ¬ (Stands l c.args.shore)) c.deref.ensures.value c.in-None.ensures in
    let natural = to_z_pos w64 c.args.more (omega (arith, c.requires.small)) in
    rw (c.in_ok-push-in-None.ensures.items, natural) (added_push old c.args.shore c.args.more c.requires.joined c.requires.some none)
