use Rattle.std.proofs.Common.{◌≡◌, ℕ, ◌+◌, List, arith, length, drop, ap, sym, subst}
use Rattle.carp_base.specs.Problem.{IsEdgeNumber}
use Rattle.edge_components.specs.Labels.{AreLabels}
use Rattle.edge_components.specs.Parts.{parts_of}
use Rattle.postman.specs.Trails.{one_service}
use Rattle.postman.proofs.Apart.{first_apart, one_part, whole}
use Rattle.postman.proofs.joined.find_apart.Goals as goal

pub returns : goal.returns
returns c =
    let p = c.args.inst.now in
    let x = c.deref.result.now in
    let parts = one_part p c.edge_count.result c.in_ok-services.services.items c.add_services.new.counts (c.in_ok-services.ensures.items_if_clones_equal (λ y is. is))
    (subst (λ (before : List ℕ). (e : ℕ) → IsEdgeNumber p e → parts_of c.add_services.new.counts e ≡ parts_of before e + one_service p e) c.deref_mut.ensures.value c.add_services.ensures) in
    let len : c.in_ok-services.services.len ≡ length c.add_services.new.counts =
    omega (arith, c.in_ok-services.services.ok.0, ap (λ (xs : List ℕ). length xs) c.deref_mut.ensures.value, c.add_services.auto.counts) in
    let back : x ≡ c.add_services.new.counts = whole c.add_services.new.counts (drop (length c.add_services.new.counts) c.in_ok-services.services.items) c.in_ok-services.services.len x len c.deref.ensures.value in
    first_apart p x c.edge_count.ensures.valid
    (subst (λ (now : List ℕ). (e : ℕ) → IsEdgeNumber p e → parts_of now e ≡ one_service p e) (sym back) parts)
    c.deref-2.result.now (subst (λ (labels : List ℕ). AreLabels p x 1 labels) (sym c.deref-2.ensures.value) c.in_ok-labels.ensures) c.first_other.result c.first_other.ensures
