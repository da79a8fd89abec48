-- A tree that is carried over shows what the tree showed.
use Rattle.std.proofs.Common.{ℕ, ◌-◌, ◌<◌, ◌≤◌, List, [], ◌∷◌, ◌++◌, sym, subst, arith, inl, inr}
use Rattle.std.specs.Prelude.{IfSome}
use Rattle.carp_base.specs.Problem.{Problem, IsRequired}
use Rattle.decision_chains.specs.Exclusions.{IsDetermined}
use Rattle.decision_chains.specs.Laws.{ExcludedIsSymmetric, YesPairsJoin}
use Rattle.decision_chains.specs.declared.decision.Decision.{Decision}
use Rattle.decision_chains.specs.declared.decision.Decision.TheVariants.{Yes, No, Low, High}
use Rattle.branch_rules.specs.Decisions.{lowest, lower_of}
use Rattle.branch_rules.specs.Prices.{Prices}
use Rattle.branch_rules.specs.Trees.{Tree, pair, cut, price, void, fixed, Support, PairsIn, IsLean, Shows}
use Rattle.grown_trees.specs.Laws.{DecisionsKeepChainsLight, DecisionsKeepExclusions}
use Rattle.tree_transfer.specs.Laws.{RoomWeightsFall, FixedValuesRise, NeedsRise, SetsStayFit}
use Rattle.tree_transfer.specs.Carried.{IsCarried, WouldShow}
use Rattle.tree_transfer.specs.CarriedLaws.{CarriedTreesShow}
use Rattle.tree_transfer.proofs.Chaining.{required_now}
use Rattle.tree_transfer.proofs.Following.{Known, Follows, follows_root, open_yet, follows_yes, follows_no, follows_gone, follows_low, follows_high, follows_past}
use Rattle.tree_transfer.proofs.Leaves.{price_shows, void_stays, fixed_shows}

module _ (p q : Problem) (pool : List (List ℕ)) (sets : List Prices) (bound : ℕ) (known : Known p q) where
  abbrev before : Support
  before = record { problem = p; pool = pool; sets = sets }

  abbrev after : Support
  after = record { problem = q; pool = pool; sets = sets }

  -- the tree that was carried over, under the decisions that are left, where so many cuts may be made
  record IsSound (new : List Decision) (cuts : ℕ) (tree : Tree) : Type 0 where
    pairs : PairsIn q tree
    lean : IsLean after new cuts tree
    shows : WouldShow after new bound tree

  now : (e : ℕ) → IsRequired p e → IsRequired q e
  now = required_now p q known.valid_new known.rise

  pair_sound : (new : List Decision) (cuts a b : ℕ) (t u : Tree) → IsRequired q a → IsRequired q b → ¬ (IsDetermined q new a b) →
      IsSound (new ++ Yes a b ∷ []) cuts t → IsSound (new ++ No a b ∷ []) cuts u → IsSound new cuts (pair a b t u)
  pair_sound new cuts a b t u a_in b_in undetermined together apart = record {
    pairs = (a_in, b_in, together.pairs, apart.pairs);
    lean = (undetermined, together.lean, apart.lean);
    shows = (together.shows, apart.shows);
  }

  cut_sound : (new : List Decision) (cuts shore k : ℕ) (t u : Tree) → 1 ≤ cuts → lower_of q pool new shore ≤ k → IfSome (lowest shore new) (λ v. k < v) →
      IsSound (new ++ Low shore k ∷ []) (cuts - 1) t → IsSound (new ++ High shore k ∷ []) (cuts - 1) u → IsSound new cuts (cut shore k t u)
  cut_sound new cuts shore k t u some less within below above = record {
    pairs = (below.pairs, above.pairs);
    lean = ((some, less, within), below.lean, above.lean);
    shows = (below.shows, above.shows);
  }

  carry : (tree made : Tree) (old new : List Decision) (cuts more : ℕ) → cuts ≤ more → Follows p q pool old new → PairsIn p tree → IsLean before old cuts tree →
      Shows before old bound tree → IsCarried q pool new tree made → IsSound new more made
  carry (pair a b together apart) made old new cuts more few follows pairs lean shows (inl gone) =
      carry apart made (old ++ No a b ∷ []) new cuts more few (follows_gone p q pool known old new follows a b pairs.0 pairs.1 gone.0) pairs.3 lean.2 shows.1 gone.1
  carry (pair a b together apart) made old new cuts more few follows pairs lean shows (inr stays) =
      let undetermined = open_yet p q pool known old new follows a b pairs.0 pairs.1 lean.0 stays.0 in
      let first =
      carry together stays.1.0 (old ++ Yes a b ∷ []) (new ++ Yes a b ∷ []) cuts more few
      (follows_yes p q pool known old new follows a b pairs.0 pairs.1 undetermined) pairs.2 lean.1 shows.0 stays.1.2 in
      let second =
      carry apart stays.1.1 (old ++ No a b ∷ []) (new ++ No a b ∷ []) cuts more few
      (follows_no p q pool known old new follows a b pairs.0 pairs.1 undetermined) pairs.3 lean.2 shows.1 stays.1.3 in
      subst (IsSound new more) (sym stays.1.4) (pair_sound new more a b stays.1.0 stays.1.1 (now a pairs.0) (now b pairs.1) undetermined first second)
  carry (cut shore k below above) made old new cuts more few follows pairs lean shows (inl gone) =
      carry above made (old ++ High shore k ∷ []) new (cuts - 1) more (omega (arith, few)) (follows_past p q pool known old new follows shore k lean.0.1 gone.0) pairs.1 lean.2 shows.1 gone.1
  carry (cut shore k below above) made old new cuts more few follows pairs lean shows (inr stays) =
      let first =
      carry below stays.1.0 (old ++ Low shore k ∷ []) (new ++ Low shore k ∷ []) (cuts - 1) (more - 1) (omega (arith, few))
      (follows_low p q pool known old new follows shore k stays.0 lean.0.2) pairs.0 lean.1 shows.0 stays.1.2 in
      let second =
      carry above stays.1.1 (old ++ High shore k ∷ []) (new ++ High shore k ∷ []) (cuts - 1) (more - 1) (omega (arith, few))
      (follows_high p q pool known old new follows shore k lean.0.1 stays.0) pairs.1 lean.2 shows.1 stays.1.3 in
      let within = subst (λ o. IfSome o (λ v. k < v)) (sym (follows.numbers.upper shore)) lean.0.2 in
      subst (IsSound new more) (sym stays.1.4) (cut_sound new more shore k stays.1.0 stays.1.1 (omega (arith, few, lean.0.0)) stays.0 within first second)
  carry (price set) made old new cuts more few follows pairs lean shows is =
      subst (IsSound new more) (sym is) (record { pairs = tt; lean = tt; shows = price_shows p q pool known old new follows sets bound set shows })
  carry void made old new cuts more few follows pairs lean shows is =
      subst (IsSound new more) (sym is) (record { pairs = tt; lean = tt; shows = void_stays p q pool known old new follows shows })
  carry fixed made old new cuts more few follows pairs lean shows is =
      subst (IsSound new more) (sym is) (record { pairs = tt; lean = tt; shows = fixed_shows p q pool known old new follows sets bound shows })

pub tree_shows : YesPairsJoin → ExcludedIsSymmetric → DecisionsKeepExclusions → DecisionsKeepChainsLight → NeedsRise → SetsStayFit → FixedValuesRise → RoomWeightsFall → CarriedTreesShow
tree_shows join turn kept light needs fits values rooms p q pool sets bound tree made valid_old valid_new rise showing carried =
    let known : Known p q = record {
      valid_old = valid_old;
      valid_new = valid_new;
      rise = rise;
      join = join;
      turn = turn;
      kept = kept;
      light = light;
      needs = needs;
      fits = fits;
      values = values;
      rooms = rooms;
    } in
    let sound = carry p q pool sets bound known tree made [] [] 4 4 (omega arith) (follows_root p q pool known) showing.pairs showing.lean showing.shows carried in
    record { pairs = sound.pairs; lean = sound.lean; shows = sound.shows }
