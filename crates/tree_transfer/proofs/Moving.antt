-- A path past the node at a place.
use Rattle.std.proofs.Common.{◌≡◌, ℕ, ◌+◌, ◌≤◌, ◌<◌, Bool, true, false, List, [], ◌∷◌, ◌++◌, length, refl, sym, ap, subst, arith, length-append, length-drop}
use Rattle.std.specs.List.{All}
use Rattle.std.proofs.lemmas.List.Elements.{All-get_or, All-push}
use Rattle.carp_base.specs.Problem.{Problem}
use Rattle.decision_chains.specs.declared.decision.Decision.{Decision}
use Rattle.branch_rules.specs.Limits.{IsNodeIn}
use Rattle.branch_rules.specs.Trees.{Tree, NodeList, node_at}
use Rattle.branch_rules.specs.declared.node.Node.{Node}
use Rattle.branch_rules.specs.declared.node.Node.TheVariants as nodes
use Rattle.grown_trees.specs.Places.{IsFineNode}
use Rattle.branch_rules.specs.Paths.{IsFineSplit, IsOpen, IsPath, IsPathIn, branch_of, seconds_of, waits}
use Rattle.branch_rules.specs.Waiting.{waiting_after}
use Rattle.branch_rules.specs.declared.path.Path.{Path}
use Rattle.tree_transfer.specs.Carrying.{CarriesAt, GivesWay, IsCarrying, LiesBehind, forest}
use Rattle.tree_transfer.specs.Shown.{AreCarried, AreTreeNodes}
use Rattle.tree_transfer.proofs.Forests.{carried_all, carrying_none, gives_way, keeps}

pub fine_split : (node : Node) → IsFineNode node → IsFineSplit node
fine_split (nodes.Pair a b) fine = tt
fine_split (nodes.Cut shore k) fine = fine
fine_split (nodes.Price set) fine = tt
fine_split nodes.Void fine = tt
fine_split nodes.Fixed fine = tt

by_whole : (path : Path) (whole : Bool) → path.whole ≡ whole → 1 ≤ length (waits path) → IsOpen path
by_whole path false is some = is
by_whole path true is some =
    let none : waits path ≡ [] = rw is refl in
    absurd (omega (arith, some, ap length none))

-- where a branch waits, the path goes on
pub is_open : (path : Path) → 1 ≤ length (waits path) → IsOpen path
is_open path some = by_whole path path.whole refl some

pub waits_open : (path : Path) → IsOpen path → waits path ≡ branch_of path ∷ seconds_of path
waits_open path goes = rw goes refl

-- the node at a place has what all have
pub at_place : (P : Node → Type 0) (all : List Node) (place : ℕ) → place < length all → All P all → P (node_at all place)
at_place P all place less has = All-get_or P all place nodes.Void less has

some_trees : (trees : List Tree) → 1 ≤ length (forest trees) → 1 ≤ length trees
some_trees [] some = some
some_trees (t ∷ ts) some = omega arith

module _ (p : Problem) (pool : List (List ℕ)) (all : List Node) (place : ℕ) (path : Path) (new : NodeList) (x : CarriesAt p pool all place path new) (less : place < length all) where
  pub goes : IsOpen path
  goes =
      let some : 1 ≤ length (forest x.carrying.trees) = omega (arith, ap length x.carrying.left, length-drop place all, less) in
      is_open path (omega (arith, some_trees x.carrying.trees some, x.carrying.even))

  waiting : IsCarrying p pool all place (branch_of path ∷ seconds_of path) new.nodes
  waiting = subst (λ (w : List (List Decision)). IsCarrying p pool all place w new.nodes) (waits_open path goes) x.carrying

  -- the node gives way
  pub gives_at : (to : ℕ) (branch : List Decision) (node : Node) → branch ≡ branch_of path → node ≡ node_at all place → GivesWay p pool branch node → LiesBehind all (place + 1) to → to ≤ length all →
      place + 1 ≤ to → CarriesAt p pool all to path new
  gives_at to branch node branch_is node_is gives behind within on = record {
    within = within;
    is_path = x.is_path;
    path_in = x.path_in;
    carrying = subst (λ (w : List (List Decision)). IsCarrying p pool all to w new.nodes) (sym (waits_open path goes))
        (gives_way p pool (branch_of path) (seconds_of path) all place new.nodes waiting less to (subst (GivesWay p pool (branch_of path)) node_is (subst (λ (b : List Decision). GivesWay p pool b node) branch_is gives)) behind);
    inside = x.inside;
    fine = x.fine;
    few = omega (arith, x.few, on);
    room = x.room;
  }

  -- the node stays
  pub keeps_at : (after : Path) (more : NodeList) (branch : List Decision) (node : Node) → branch ≡ branch_of path → node ≡ node_at all place → (GivesWay p pool branch node → ⊥) →
      All (IsNodeIn p pool) all → All IsFineNode all → IsPath after → IsPathIn (record { problem = p; pool = pool; sets = [] }) after →
      waits after ≡ waiting_after (branch_of path) node (seconds_of path) → more ≡ record { nodes = new.nodes ++ node ∷ []; room = new.room } → CarriesAt p pool all (place + 1) after more
  keeps_at after more branch node branch_is node_is not inside fine is_path path_in waits_after put =
      let not_here : GivesWay p pool (branch_of path) (node_at all place) → ⊥ =
      λ gives. not (subst (λ (b : List Decision). GivesWay p pool b node) (sym branch_is) (subst (GivesWay p pool (branch_of path)) (sym node_is) gives)) in
      let here : IsCarrying p pool all (place + 1) (waiting_after (branch_of path) node (seconds_of path)) (new.nodes ++ node ∷ []) =
      subst (λ (n : Node). IsCarrying p pool all (place + 1) (waiting_after (branch_of path) n (seconds_of path)) (new.nodes ++ n ∷ [])) (sym node_is)
      (keeps p pool (branch_of path) (seconds_of path) all place new.nodes waiting less not_here) in
      let carrying : IsCarrying p pool all (place + 1) (waits after) (new.nodes ++ node ∷ []) =
      subst (λ (w : List (List Decision)). IsCarrying p pool all (place + 1) w (new.nodes ++ node ∷ [])) (sym waits_after) here in
      subst (CarriesAt p pool all (place + 1) after) (sym put) (record {
        within = omega (arith, less);
        is_path = is_path;
        path_in = path_in;
        carrying = carrying;
        inside = All-push (IsNodeIn p pool) new.nodes node x.inside (subst (IsNodeIn p pool) (sym node_is) (at_place (IsNodeIn p pool) all place less inside));
        fine = All-push IsFineNode new.nodes node x.fine (subst IsFineNode (sym node_is) (at_place IsFineNode all place less fine));
        few = omega (arith, x.few, length-append new.nodes (node ∷ []));
        room = x.room;
      })

-- before the first node
pub carries_none : (p : Problem) (pool : List (List ℕ)) (all : List Node) (path : Path) (new : NodeList) → AreTreeNodes p pool all → IsPath path →
    IsPathIn (record { problem = p; pool = pool; sets = [] }) path → waits path ≡ [] ∷ [] → new ≡ record { nodes = []; room = length all } → CarriesAt p pool all 0 path new
carries_none p pool all path new x is_path path_in waits_are none =
    subst (CarriesAt p pool all 0 path) (sym none) (record {
      within = omega arith;
      is_path = is_path;
      path_in = path_in;
      carrying = subst (λ (w : List (List Decision)). IsCarrying p pool all 0 w []) (sym waits_are) (carrying_none p pool all x);
      inside = λ k d less. absurd (omega (arith, less));
      fine = λ k d less. absurd (omega (arith, less));
      few = omega arith;
      room = refl;
    })

-- past the last node
module _ (p : Problem) (pool : List (List ℕ)) (all : List Node) (place : ℕ) (path : Path) (new : NodeList) (x : CarriesAt p pool all place path new) (end : length all ≤ place) where
  pub all_carried : AreCarried p pool all new.nodes
  all_carried = carried_all p pool all place (waits path) new.nodes (omega (arith, end, x.within)) x.carrying

  pub all_inside : AreTreeNodes p pool new.nodes
  all_inside = record { tree = all_carried.carried; in_preorder = all_carried.new_nodes; inside = x.inside; fine = x.fine }
