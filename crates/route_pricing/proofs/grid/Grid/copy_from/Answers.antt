use Rattle.std.proofs.Common.{◌≡◌, ◌+◌, ◌-◌, ◌*◌, ◌∙◌, ℕ, subst, slice_index}
use Rattle.std.specs.Vec.{with_items}
use Rattle.std.proofs.lemmas.List.{with_items_is}
use Rattle.carp_base.specs.Problem.{IsEdgeNumber, edge_at}
use Rattle.route_pricing.specs.declared.grid.Grid.{Grid}
use Rattle.route_pricing.specs.Pricing.{Pricing}
use Rattle.route_pricing.proofs.Copies.{copied_from, copies}
use Rattle.route_pricing.proofs.grid.Grid.copy_from.Goals as goal

pub returns-clause-of : goal.returns-clause-of
returns-clause-of c =
    let old = c.args.self.now in
    let p = c.args.inst.now in
    let pairs = c.copy_pairs.new.pairs in
    let ways = c.copy_distances.new.ways in
    let lengths = c.copy_lengths.new.lengths in
    let adds = c.copy_services.new.adds in
    let charges = c.copy_surcharges.new.charges in
    let raised = c.copy_surcharges.new.raised in
    let x : Pricing = record { problem = p; prices = c.args.dist.now.prices; unit = c.args.unit; services = c.args.services.now; relation = c.args.allowed.now; surcharges = c.args.surcharges.now } in
    let g : Grid = record { inst = old.inst; net = old.net; may = with_items old.may pairs; dist = with_items old.dist ways; ends = old.ends; lengths = with_items old.lengths lengths; adds = with_items old.adds adds; charges = with_items old.charges charges; raised = with_items old.raised raised } in
    let pairs_are = with_items_is old.may pairs (c.copy_pairs.auto.pairs ∙ c.deref_mut.ensures.len) in
    let ways_are = with_items_is old.dist ways (c.copy_distances.auto.ways ∙ c.deref_mut-2.ensures.len) in
    let lengths_are = with_items_is old.lengths lengths (c.copy_lengths.auto.lengths ∙ c.deref_mut-3.ensures.len) in
    let adds_are = with_items_is old.adds adds (c.copy_services.auto.adds ∙ c.deref_mut-4.ensures.len) in
    let charges_are = with_items_is old.charges charges (c.copy_surcharges.auto.charges ∙ c.deref_mut-5.ensures.len) in
    let raised_are = with_items_is old.raised raised (c.copy_surcharges.auto.raised ∙ c.deref_mut-6.ensures.len) in
    let streets = subst (λ xs. (e : ℕ) → IsEdgeNumber p e → slice_index lengths (e - 1) ≡ slice_index xs ((edge_at p e).u * (p.vertices + 1) + (edge_at p e).v)) (c.deref.ensures.value ∙ ways_are) c.copy_lengths.ensures.same in
    let are = copies x c.required-required.result c.vertices-vertices.result c.args.dist.now.problem pairs ways lengths adds charges raised c.required-required.ensures.value c.vertices-vertices.ensures.value c.requires.dist
    c.copy_pairs.ensures.long c.copy_distances.ensures.long c.copy_lengths.ensures.long c.copy_services.ensures.long c.requires.allowed c.copy_pairs.ensures.same c.copy_pairs.ensures.symmetric
    c.copy_distances.ensures.same streets c.copy_services.ensures.value c.copy_services.ensures.small c.requires.surcharges c.copy_surcharges.ensures in
    copied_from x g pairs ways lengths adds charges raised pairs_are ways_are lengths_are adds_are charges_are raised_are c.required-required.ensures.valid c.requires.room.inst c.requires.room.net c.requires.room.ends are
