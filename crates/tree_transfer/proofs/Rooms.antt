-- A group has no more room where demands rise.
use Rattle.std.proofs.Common.{◌≡◌, ℕ, zero, suc, ◌≤◌, List, [], ◌∷◌, length, refl, ap, arith, inl, inr, ◌⊎◌, ℤ, pos, negsuc, ◌≤ℤ◌}
use Rattle.std.specs.Int.{div_ceil}
use Rattle.std.proofs.lemmas.Bool.{cases_lt}
use Rattle.std.proofs.lemmas.Int.{ints}
use Rattle.std.proofs.lemmas.List.{get_or_past}
use Rattle.std.proofs.lemmas.List.Sums.{sum_by-le-sum_by}
use Rattle.std.proofs.Math.Nat.{mul-le-mul_left}
use Rattle.carp_base.specs.declared.edge.Edge.{Edge}
use Rattle.carp_base.specs.Problem.{Problem, IsValid, IsRequired, edge_at, no_edge}
use Rattle.branch_rules.specs.Bonds.{group_demand, room}
use Rattle.branch_rules.specs.Prices.{weigh_bonds}
use Rattle.tree_transfer.specs.Raised.{IsRaised}
use Rattle.tree_transfer.specs.Laws.{RoomsFall, RoomWeightsFall}
use Rattle.tree_transfer.proofs.Rising.{required_less}
use Rattle.tree_transfer.proofs.Needs.{ceil_less}

-- a number of no required edge has no demand
idle : (p : Problem) → IsValid p → (e : ℕ) → ¬ (IsRequired p e) → (edge_at p e).demand ≡ 0
idle p valid zero not = refl
idle p valid (suc k) not = elim (cases_lt k (length p.edges)) [
  | inl within ↦ elim (cases_lt p.required (suc k)) [
    | inl other ↦ (valid.idle (suc k) (record { from_one = omega arith; in_range = omega (arith, within) }) other).no_demand
    | inr required ↦ absurd (not (record { from_one = omega arith; in_range = required }))
  ]
  | inr past ↦ ap (λ (x : Edge). x.demand) (get_or_past p.edges k no_edge (omega (arith, past)))
]

either : (p : Problem) (e : ℕ) → IsRequired p e ⊎ ¬ (IsRequired p e)
either p e = elim (cases_lt p.required e) [
  | inl past ↦ inr (λ is. omega (arith, past, is.in_range))
  | inr within ↦ elim (cases_lt 0 e) [
    | inl some ↦ inl (record { from_one = some; in_range = within })
    | inr none ↦ inr (λ is. omega (arith, none, is.from_one))
  ]
]

module _ (old new : Problem) (valid : IsValid old) (valid' : IsValid new) (raised : IsRaised old new) where
  demand_rises : (e : ℕ) → (edge_at old e).demand ≤ (edge_at new e).demand
  demand_rises e = elim (either new e) [
    | inl is ↦ (required_less old new raised e (record { from_one = is.from_one; in_range = omega (arith, is.in_range, valid'.required_in) }) is).demand
    | inr not ↦ omega (arith, idle old valid e (λ is. not (record { from_one = is.from_one; in_range = omega (arith, is.in_range, raised.required) })))
  ]

  room_falls : (group : List ℕ) → room new group ≤ room old group
  room_falls group =
      let demands : group_demand old group ≤ group_demand new group = sum_by-le-sum_by (λ e. (edge_at old e).demand) (λ e. (edge_at new e).demand) group demand_rises in
      let more = ceil_less (group_demand old group) (group_demand new group) old.capacity valid.some_capacity demands in
      let same : div_ceil (group_demand new group) new.capacity ≡ div_ceil (group_demand new group) old.capacity = ap (div_ceil (group_demand new group)) raised.capacity in
      omega (arith, more, same)

pub rooms_fall : RoomsFall
rooms_fall old new valid valid' raised group = room_falls old new valid valid' raised group

-- less room takes no more
weigh_less : (z : ℤ) (less room : ℕ) → less ≤ room → weigh_bonds z less ≤ℤ weigh_bonds z room
weigh_less (pos w) less room falls = omega (arith, ints, mul-le-mul_left w falls)
weigh_less (negsuc w) less room falls = omega (arith, ints)

pub room_weights_fall : RoomWeightsFall
room_weights_fall old new pool before after valid valid' raised [] = omega (arith, ints)
room_weights_fall old new pool before after valid valid' raised (w ∷ groups) =
    omega (
      arith,
      ints,
      weigh_less w.weight (room new w.edges) (room old w.edges) (room_falls old new valid valid' raised w.edges),
      room_weights_fall old new pool before after valid valid' raised groups,
    )
