use Rattle.std.proofs.Common.{◌≡◌, [], length, arith, ap, ◌∙◌, sym, subst}
use Rattle.std.specs.Prelude.{replicate}
use Rattle.fleet_pack.specs.FirstFit.{loads_after}
use Rattle.fleet_pack.specs.Groups.{IsPlaced, demands_of}
use Rattle.fleet_pack.proofs.Placing.{packed}
use Rattle.fleet_pack.proofs.Falling.{none_placed, sorted_demands}
use Rattle.fleet_pack.proofs.first_fit.first_fit.Goals as goal

pub place-requires : goal.place-requires
place-requires c =
    let zeros = c.in_ok-groups.ensures.items_if_clones_equal (λ y is. is) ∙ ap (λ n. replicate n 0) c.required.ensures.value in
    subst (λ xs. IsPlaced c.args.inst.now xs c.deref_mut.result.now []) (sym c.deref.ensures.value)
    (none_placed c.args.inst.now c.in_ok-items.items.items c.deref_mut.result.now c.required.ensures.valid c.in_ok-items.ensures (c.deref_mut.ensures.value ∙ zeros))

pub returns : goal.returns
returns c =
    let long : length c.in_ok-loads.loads.items ≡ c.len.result = omega arith in record {
      grouping = packed c.args.inst.now c.in_ok-groups.groups.len c.len.result c.place.new.groups c.in_ok-groups.groups.items c.in_ok-loads.loads.items c.in_ok-loads.ensures.placed (omega arith) long;
      count = sym long ∙ ap length (c.in_ok-loads.ensures.loads
          ∙ ap (λ items. loads_after c.args.inst.now.capacity (demands_of items) []) c.deref.ensures.value
          ∙ ap (λ demands. loads_after c.args.inst.now.capacity demands []) (sorted_demands c.args.inst.now c.in_ok-items.items.items c.required.ensures.valid c.in_ok-items.ensures));
    }
