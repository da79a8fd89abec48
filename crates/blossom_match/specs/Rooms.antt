-- What has been found of the least room. No public contract speaks of this.
use Rattle.std.specs.Prelude.{◌≡◌, ◌≢◌, ℕ, ◌+◌, ◌*◌, ◌-◌, ◌<◌, ◌≤◌, Bool, true, false, List, length, slice_index, slice_index_or, Option, Some, None, IfSome, IsSomeAnd}
use Rattle.blossom_match.specs.declared.costs.Costs.{Costs}
use Rattle.blossom_match.specs.declared.state.State.{State}
use Rattle.blossom_match.specs.declared.state.Label.{Label}
use Rattle.blossom_match.specs.declared.state.Label.TheVariants.{Free, Outer, Inner}
use Rattle.blossom_match.specs.declared.room.Turn.{Turn}
use Rattle.blossom_match.specs.declared.room.Event.TheVariants.{Spent}
use Rattle.blossom_match.specs.Table.{cost}
use Rattle.blossom_match.specs.Turns.{top_of, sum_of, label_of}

-- what was found leaves room for a pair
pub record KeepsPair (costs : Costs) (state : State) (found : Option Turn) (u v : ℕ) : Type 0 where
  pub meets : top_of state u ≢ top_of state v → label_of state (top_of state u) ≡ Outer → label_of state (top_of state v) ≡ Outer →
      IsSomeAnd found (λ t. sum_of state u + sum_of state v + 2 * t.amount ≤ 2 * cost costs u v)
  pub reaches : label_of state (top_of state u) ≡ Outer → label_of state (top_of state v) ≡ Free →
      IsSomeAnd found (λ t. sum_of state u + sum_of state v + t.amount ≤ 2 * cost costs u v)

-- what was found leaves a weight for a node
abbrev pub KeepsNode : State → Option Turn → ℕ → Type 0
KeepsNode state found s = label_of state s ≡ Inner → IsSomeAnd found (λ t. t.amount ≤ slice_index state.halves.items s)

-- a node has no more weight than this
pub record IsNodeTurn (state : State) (t : Turn) : Type 0 where
  pub node : ℕ
  pub event : t.event ≡ Spent node
  pub in_slots : node < 2 * state.size
  pub inner : label_of state node ≡ Inner
  pub all : slice_index state.halves.items node ≡ t.amount

-- no more than another one
abbrev pub IsNoMore : Option Turn → Option Turn → Type 0
IsNoMore found other = IfSome other (λ x. IsSomeAnd found (λ t. t.amount ≤ x.amount))

-- less than another one, if there are both
abbrev pub IsLess : Option Turn → Option Turn → Type 0
IsLess found other = IfSome found (λ t. IfSome other (λ x. t.amount < x.amount))

-- for each member a lower bound of its room to each outer member that is known
pub record AreRooms (costs : Costs) (state : State) (known : List Bool) (least : List ℕ) : Type 0 where
  pub known_len : length known ≡ state.size
  pub least_len : length least ≡ state.size
  pub outer : (u : ℕ) → u < state.size → slice_index_or known u false ≡ true → label_of state (top_of state u) ≡ Outer
  pub low : (u v : ℕ) → u < state.size → v < state.size → slice_index_or known u false ≡ true → top_of state u ≢ top_of state v →
      sum_of state u + sum_of state v + slice_index least v ≤ 2 * cost costs u v

-- each outer member is known
abbrev pub AllKnown : State → List Bool → Type 0
AllKnown state known = (u : ℕ) → u < state.size → label_of state (top_of state u) ≡ Outer → slice_index_or known u false ≡ true

-- a bound at a member of a node with this label, once the weights are raised
abbrev pub fallen : Label → ℕ → ℕ → ℕ
fallen Free x amount = x - amount
fallen Outer x amount = x - amount - amount
fallen Inner x amount = x

-- no pair with a member of a node with this label stops the weights before what was found
pub record IsBounded (label : Label) (bound : ℕ) (found : Option Turn) : Type 0 where
  pub outer : label ≡ Outer → IsSomeAnd found (λ t. 2 * t.amount ≤ bound)
  pub free : label ≡ Free → IsSomeAnd found (λ t. t.amount ≤ bound)

-- a bound by what was found for a member of a node with this label
pub record IsBoundBy (label : Label) (bound now : ℕ) (found : Option Turn) : Type 0 where
  pub outer : label ≡ Outer → (t : Turn) → found ≡ Some t → now ≤ 2 * t.amount
  pub free : label ≡ Free → (t : Turn) → found ≡ Some t → now ≤ t.amount
  pub inner : label ≡ Inner → now ≡ bound
  pub none : found ≡ None → now ≡ bound
