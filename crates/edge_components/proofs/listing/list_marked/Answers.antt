use Rattle.std.proofs.Common.{◌≡◌, ℕ, Vec, Global, List, ap, ◌∙◌, sym, subst, arith}
use Rattle.carp_base.specs.Problem.{IsVertex}
use Rattle.cut_pool.specs.Shores.{IsShore}
use Rattle.edge_components.specs.Labels.{has_label}
use Rattle.edge_components.specs.Listing.{vertices_where}
use Rattle.edge_components.proofs.Grouping.{class_shore}
use Rattle.edge_components.proofs.listing.list_marked.Goals as goal

pub add_marked-requires : goal.add_marked-requires
add_marked-requires c = λ marked.
    let p = c.args.inst.now in
    let r = c.loop-r.r in
    let vertex : IsVertex p r = record { from_one = c.loop-r.auto.r; in_range = omega (arith, c.loop-r-test.true, c.vertices-r-end.ensures.value) } in
    let list : c.deref.result.now ≡ vertices_where (has_label c.args.labels.now r) p.vertices =
    c.deref.ensures.value ∙ ap (λ (w : Vec ℕ Global). w.items) c.index.ensures ∙ c.in_ok-groups.ensures.lists r c.index.result.now vertex.in_range in
    subst (λ (l : List ℕ). IsShore l) (sym list) (class_shore p c.args.labels.now r vertex (c.requires.roots r vertex marked))
