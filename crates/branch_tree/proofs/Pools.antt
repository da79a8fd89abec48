-- A search whose pool gains shores.
use Rattle.std.proofs.Common.{◌≡◌, ℕ, zero, suc, ◌*◌, ◌≤◌, List, [], ◌∷◌, ◌++◌, refl, sym, subst, ap, ◌∙◌, arith, ℤ, pos, ◌+ℤ◌, ◌-ℤ◌, ◌*ℤ◌, ◌≤ℤ◌, length-append, max, ◌<◌, Some, inl, inr}
use Rattle.std.specs.Prelude.{if◌then◌else◌}
use Rattle.std.specs.List.{All, AllByRecursion}
use Rattle.std.proofs.lemmas.Bool.{cases_eq, ne_eqb}
use Rattle.std.proofs.lemmas.List.{get_or_append_left}
use Rattle.std.proofs.lemmas.List.Elements.{All-head, All-tail, All-weaker, recursion_from_All}
use Rattle.carp_base.specs.declared.edge.Edge.{Edge}
use Rattle.carp_base.specs.Problem.{Problem, IsValid, edge_at}
use Rattle.plan_model.specs.Plans.{crosses}
use Rattle.cut_pool.specs.Pools.{IsGrown, IsShoreNumber, shore_at}
use Rattle.cut_pool.specs.Shores.{Belongs, is_in, need, required_crossings}
use Rattle.decision_chains.specs.declared.decision.Decision.{Decision}
use Rattle.decision_chains.specs.declared.decision.Decision.TheVariants.{Yes, No, Low, High}
use Rattle.branch_rules.specs.Decisions.{highest, lowest, lower_of, rules_of, to_parity, IsVoid, three, cycle, heavy_chain, crossed}
use Rattle.branch_rules.specs.declared.weight.Weight.{Weight}
use Rattle.branch_rules.specs.Limits.{AreShoresIn, HasShoreOf, IsShoreOf}
use Rattle.branch_rules.specs.Prices.{Prices, crossing_weight, deadhead_price, signed_sum, value_of}
use Rattle.branch_rules.specs.Refusals.{NoneTooHeavy}
use Rattle.grown_trees.specs.Stands.{HoldsShores}
use Rattle.dual_master.specs.Growth.{GrowthKeepsSets}
use Rattle.dual_master.specs.Raising.{IsNoLower}
use Rattle.branch_tree.specs.Known.{Known}
use Rattle.branch_tree.specs.Leaves.{IsRaisedFrom, MayStand, NamesSet, with_pool}
use Rattle.branch_tree.specs.Searches.{HasGroupsInRange, IsHeld, IsHeldSet, State, set_in, support_in}
use Rattle.branch_tree.proofs.Groups.{kept_in_range}

pub grown_at : (pool more : List (List ℕ)) (i : ℕ) → IsShoreNumber pool i → shore_at (pool ++ more) i ≡ shore_at pool i
grown_at pool more zero is = absurd (omega (arith, is.from_one))
grown_at pool more (suc k) is = get_or_append_left pool more [] k (omega (arith, is.in_range))

pub shore_of_grown : (p : Problem) (pool more : List (List ℕ)) (i : ℕ) → IsShoreOf p pool i → IsShoreOf p (pool ++ more) i
shore_of_grown p pool more i is = record {
  number = record { from_one = is.number.from_one; in_range = omega (arith, is.number.in_range, length-append pool more) };
  belongs = subst (Belongs p) (sym (grown_at pool more i is.number)) is.belongs;
}

sum_same : {X : Type 0} (f g : X → ℤ) (xs : List X) → All (λ x. f x ≡ g x) xs → signed_sum f xs ≡ signed_sum g xs
sum_same f g [] all = refl
sum_same f g (x ∷ xs) all =
    ap (λ z. z +ℤ signed_sum f xs) (All-head (λ y. f y ≡ g y) x xs all) ∙ ap (λ s. g x +ℤ s) (sum_same f g xs (All-tail (λ y. f y ≡ g y) x xs all))

module _ (p : Problem) (pool more : List (List ℕ)) (set : Prices) (all : All (λ w. IsShoreNumber pool w.shore) set.weights) where
  across_same : (x : Edge) (w : Weight) → IsShoreNumber pool w.shore → crossing_weight (pool ++ more) x w ≡ crossing_weight pool x w
  across_same x w is = ap (λ shore. if crosses (is_in shore) x then w.weight else pos 0) (grown_at pool more w.shore is)

  deadhead_same : (x : Edge) → deadhead_price (pool ++ more) set x ≡ deadhead_price pool set x
  deadhead_same x =
      ap (λ s. pos (set.unit * x.cost) -ℤ s)
      (sum_same (crossing_weight (pool ++ more) x) (crossing_weight pool x) set.weights
      (All-weaker (λ (w : Weight). IsShoreNumber pool w.shore) (λ (w : Weight). crossing_weight (pool ++ more) x w ≡ crossing_weight pool x w) (across_same x) set.weights all))

  still_not_negative : NoneTooHeavy p pool set → NoneTooHeavy p (pool ++ more) set
  still_not_negative none e is = subst (λ z. pos 0 ≤ℤ z) (sym (deadhead_same (edge_at p e))) (none e is)

pub numbers_of : (p : Problem) (pool : List (List ℕ)) (set : Prices) → All (λ w. IsShoreOf p pool w.shore) set.weights → All (λ w. IsShoreNumber pool w.shore) set.weights
numbers_of p pool set shores = All-weaker (λ (w : Weight). IsShoreOf p pool w.shore) (λ (w : Weight). IsShoreNumber pool w.shore) (λ w is. is.number) set.weights shores

held_set_grows : (p : Problem) (pool more : List (List ℕ)) (set : Prices) → IsHeldSet p pool set → IsHeldSet p (pool ++ more) set
held_set_grows p pool more set is = record {
  one_each = is.one_each;
  not_negative = still_not_negative p pool more set (numbers_of p pool set is.shores) is.not_negative;
  shores =
      All-weaker (λ (w : Weight). IsShoreOf p pool w.shore) (λ (w : Weight). IsShoreOf p (pool ++ more) w.shore) (λ w. shore_of_grown p pool more w.shore) set.weights is.shores;
  groups = is.groups;
}

module _ (known : Known) (p : Problem) (s : State) (held : IsHeld p s) where
  holds_shores : HoldsShores (support_in p s)
  holds_shores = All-weaker (IsHeldSet p s.pool) (λ (set : Prices). All (λ w. IsShoreNumber s.pool w.shore) set.weights) (λ set is. numbers_of p s.pool set is.shores) s.sets held.sets

  more_shores : (more : List (List ℕ)) → All (Belongs p) (s.pool ++ more) → IsHeld p (record s { pool = s.pool ++ more })
  more_shores more belong = record {
    valid = held.valid;
    below = held.below;
    some_unit = held.some_unit;
    shown = held.shown;
    beneath = held.beneath;
    tree = held.tree;
    sound = known.more_shores (support_in p s) s.base more [] held.tree s.nodes holds_shores held.sound;
    sets = All-weaker (IsHeldSet p s.pool) (IsHeldSet p (s.pool ++ more)) (held_set_grows p s.pool more) s.sets held.sets;
    few_sets = held.few_sets;
    belong = belong;
    allowed = held.allowed;
    cost_is = held.cost_is;
    done_is = held.done_is;
    few_nodes = held.few_nodes;
  }

  pub pool_grows : (after : List (List ℕ)) → IsGrown s.pool after → All (Belongs p) after → IsHeld p (record s { pool = after })
  pool_grows after grown belong =
      subst (λ (pool : List (List ℕ)). IsHeld p (record s { pool = pool })) (sym grown.added)
      (more_shores grown.more (subst (λ (pool : List (List ℕ)). All (Belongs p) pool) grown.added belong))

-- a shore with an upper number is one of the pool
low_in : (p : Problem) (pool : List (List ℕ)) (branch : List Decision) → AllByRecursion (HasShoreOf p pool) branch → (i k : ℕ) → lowest i branch ≡ Some k → IsShoreNumber pool i
low_in p pool [] held i k low = cc
low_in p pool (Yes a b ∷ rest) held i k low = low_in p pool rest held.1 i k low
low_in p pool (No a b ∷ rest) held i k low = low_in p pool rest held.1 i k low
low_in p pool (High s m ∷ rest) held i k low = low_in p pool rest held.1 i k low
low_in p pool (Low s m ∷ rest) held i k low = elim (cases_eq s i) [
  | inl is ↦ subst (IsShoreNumber pool) is held.0.number
  | inr other ↦
      let rest_low : lowest i rest ≡ Some k = rw (ne_eqb s i other) at low in
      low_in p pool rest held.1 i k rest_low
]

module _ (p : Problem) (pool more : List (List ℕ)) (branch : List Decision) (held : AreShoresIn p pool branch) where
  lower_same : (i k : ℕ) → lowest i branch ≡ Some k → lower_of p (pool ++ more) branch i ≡ lower_of p pool branch i
  lower_same i k low =
      ap (λ (shore : List ℕ). to_parity (required_crossings p (is_in shore)) (max (need p (is_in shore)) (highest i branch)))
      (grown_at pool more i (low_in p pool branch (recursion_from_All (HasShoreOf p pool) branch held) i k low))

  void_to : IsVoid p pool branch → IsVoid p (pool ++ more) branch
  void_to (three a b said others) = three a b said others
  void_to (cycle a b path apart said detour) = cycle a b path apart said detour
  void_to (heavy_chain a heavy) = heavy_chain a heavy
  void_to (crossed i k low less) = crossed i k low (subst (λ m. k < m) (sym (lower_same i k low)) less)

  void_from : IsVoid p (pool ++ more) branch → IsVoid p pool branch
  void_from (three a b said others) = three a b said others
  void_from (cycle a b path apart said detour) = cycle a b path apart said detour
  void_from (heavy_chain a heavy) = heavy_chain a heavy
  void_from (crossed i k low less) = crossed i k low (subst (λ m. k < m) (lower_same i k low) less)

  names_more : (s : State) (place number : ℕ) → pool ≡ s.pool → NamesSet p s place branch number → NamesSet p (with_pool s (pool ++ more)) place branch number
  names_more s place number same names = record {
    at = record { least = names.at.least; way = names.at.way };
    not_void = λ void. names.not_void (subst (λ (xs : List (List ℕ)). IsVoid p xs branch) same (void_from void));
    not_fixed = λ fixed. names.not_fixed (record {
      open_yet = λ void. fixed.open_yet (void_to (subst (λ (xs : List (List ℕ)). IsVoid p xs branch) (sym same) void));
      settled = fixed.settled;
    });
    named = names.named;
  }

-- a leaf that names a set still does
pub names_then : (p : Problem) (s : State) (place number : ℕ) (branch : List Decision) (after : List (List ℕ)) → IsGrown s.pool after → AreShoresIn p s.pool branch →
    NamesSet p s place branch number → NamesSet p (with_pool s after) place branch number
names_then p s place number branch after grown held names =
    subst (λ (pool : List (List ℕ)). NamesSet p (with_pool s pool) place branch number) (sym grown.added) (names_more p s.pool grown.more branch held s place number refl names)

-- a set that was raised from the set of a leaf is no lower over the pool of now
pub no_lower_now : GrowthKeepsSets → (p : Problem) (s : State) (number : ℕ) (branch : List Decision) (after : List (List ℕ)) (set : Prices) → IsGrown s.pool after →
    All (λ w. IsShoreOf p s.pool w.shore) (set_in s.sets number).weights → IsRaisedFrom p s.pool branch s.sets number after set → IsNoLower p branch after (set_in s.sets number) after set
no_lower_now law p s number branch after set grown shores raised =
    let start = set_in s.sets number in
    let same : value_of (rules_of p after branch) start ≡ value_of (rules_of p s.pool branch) start =
    subst (λ (pool : List (List ℕ)). value_of (rules_of p pool branch) start ≡ value_of (rules_of p s.pool branch) start) (sym grown.added)
    (law p s.pool grown.more branch start (numbers_of p s.pool start shores)).value in
    subst (λ (z : ℤ). (pos set.unit *ℤ z) ≤ℤ (pos start.unit *ℤ value_of (rules_of p after branch) set)) (sym same) raised.no_lower

-- so it may stand there
pub may_stand : GrowthKeepsSets → (p : Problem) → IsValid p → (s : State) (number : ℕ) (branch : List Decision) (after : List (List ℕ)) (set : Prices) → IsGrown s.pool after → 1 ≤ set.unit →
    All (λ w. IsShoreOf p s.pool w.shore) (set_in s.sets number).weights → HasGroupsInRange (set_in s.sets number) → IsRaisedFrom p s.pool branch s.sets number after set →
    MayStand p (with_pool s after) branch number set
may_stand law p valid s number branch after set grown some shores groups raised = record {
  some_unit = some;
  from_unit = raised.from_unit;
  fits = raised.tight.fits;
  shores = raised.shores;
  groups = kept_in_range p valid (set_in s.sets number) set raised.groups groups;
  short_groups = raised.short_groups;
  no_lower = no_lower_now law p s number branch after set grown shores raised;
}
