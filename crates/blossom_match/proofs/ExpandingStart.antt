-- The inner node of weight 0 that is put away.
use Rattle.std.proofs.Common.{◌≡◌, ℕ, ◌*◌, ◌<◌, ◌≤◌, Bool, true, List, Some, slice_index, sym, subst, ap, ◌∙◌, arith}
use Rattle.blossom_match.specs.declared.costs.Costs.{Costs}
use Rattle.blossom_match.specs.declared.state.State.{State}
use Rattle.blossom_match.specs.declared.state.Pair.{Pair}
use Rattle.blossom_match.specs.Table.{IsAsked}
use Rattle.blossom_match.specs.Views.{holds, mate_at, link_at, child_at, is_used}
use Rattle.blossom_match.specs.Turns.{IsSpent, top_of}
use Rattle.blossom_match.specs.Between.{IsSearching, IsMatched, IsReached, IsCycle, AreTops, after}
use Rattle.blossom_match.specs.Cycles.{IsRound}
use Rattle.blossom_match.specs.Unfolding.{AreParts, IsPaired}
use Rattle.blossom_match.specs.Expanding.{IsCircle, IsPutAway}
use Rattle.blossom_match.proofs.Augmenting.{some_same}
use Rattle.blossom_match.proofs.Limits.{inside_of, IsInside, top_used}
use Rattle.blossom_match.proofs.RowsAround.{round_of, few_children, child_apart}
use Rattle.blossom_match.proofs.RowsNested.{if_some_number}
use Rattle.blossom_match.proofs.RowsOpening.{IsOpenable, opening_of}
use Rattle.blossom_match.proofs.UnfoldingTops.{IsOpenedTop}
use Rattle.blossom_match.proofs.ExpandingSets.{IsGone, paired_of}

pub record IsSpentTop (costs : Costs) (state : State) (s first : ℕ) (p : Pair) : Type 0 where
  pub can : IsOpenable costs state.size state.held.items state.halves.items state.child.items state.next.items state.link.items s first p
  pub parts : AreParts state.size state.held.items state.top.items
  pub topmost : (v : ℕ) → v < state.size → holds state.size state.held.items s v ≡ true → top_of state v ≡ s
  pub used : is_used state.size state.child.items s ≡ true
  pub paired : IsPaired costs state.size state.held.items state.halves.items state.top.items state.mate.items s p
  pub matched : IsMatched costs state.size state.top.items state.sums.items state.mate.items s p
  pub reached : IsReached costs state.size state.top.items state.sums.items state.label.items (link_at state.entry.items s) s p

pub parts_of : (n : ℕ) (held : List Bool) (top : List ℕ) → AreTops n held top → AreParts n held top
parts_of n held top tops = record {
  top_in = tops.top_in;
  own = tops.own;
  same = λ v w v_in w_in on. tops.inside (slice_index top v) w v (tops.top_in v v_in) w_in v_in on (tops.own v v_in);
}

pub spent_top : (costs : Costs) (state : State) (s first : ℕ) (p : Pair) → IsAsked costs → IsSearching costs state → IsSpent state 0 s → child_at state.child.items s ≡ Some first → mate_at state.mate.items s ≡ Some p →
    IsSpentTop costs state s first p
spent_top costs state s first p asked searching spent child_is is =
    let b = searching.so_far in
    let i = inside_of costs state s searching spent.in_slots spent.inner in
    let r : IsInside costs state s p = subst (λ x. IsInside costs state s x) (some_same i.0 p (sym i.1 ∙ is)) i.2 in
    let held : holds state.size state.held.items s p.inside ≡ true = ap (λ t. holds state.size state.held.items t p.inside) (sym r.matched.here) ∙ b.tops.own p.inside r.matched.tight.inside_in in
    record {
      can = record {
        sets = b.sets;
        same = λ x y x_in y_in. asked.table.same x y (omega (arith, x_in, b.shape.size_is)) (omega (arith, y_in, b.shape.size_is));
        cycle = if_some_number (child_at state.child.items s) (IsCycle costs state.size state.held.items state.halves.items state.child.items state.next.items state.link.items s) first child_is (b.cycles.larger s spent.in_slots);
        inside_in = r.matched.tight.inside_in;
        inside_held = held;
      };
      parts = parts_of state.size state.held.items state.top.items b.tops;
      topmost = λ v v_in on. b.tops.inside s v p.inside spent.in_slots v_in r.matched.tight.inside_in on held ∙ r.matched.here;
      used = subst (λ x. is_used state.size state.child.items x ≡ true) r.matched.here (top_used costs state p.inside b r.matched.tight.inside_in);
      paired = paired_of costs state.size state.held.items state.halves.items state.top.items state.sums.items state.mate.items s p b.tops b.weights r.matched;
      matched = r.matched;
      reached = r.reached;
    }

pub spent_round : (costs : Costs) (state : State) (s first : ℕ) (p : Pair) → IsSpentTop costs state s first p → IsRound state.size state.held.items state.next.items first
spent_round costs state s first p o = round_of costs state.size state.held.items state.halves.items state.child.items state.next.items state.link.items s first o.can.sets o.can.cycle

-- the node is opened
pub put_opening : (costs : Costs) (before now : State) (s first len : ℕ) (p : Pair) → IsSpentTop costs before s first p → mate_at before.mate.items s ≡ Some p → IsPutAway before now s first len p →
    (z : IsOpenedTop costs before.size before.held.items before.halves.items before.child.items before.next.items before.link.items s (top_of now p.inside) p before.top.items now.top.items before.mate.items now.mate.items)
    × (z.opening.cycle.len ≡ len)
put_opening costs before now s first len p o is a =
    let w = opening_of costs before.size before.held.items before.halves.items before.child.items before.next.items before.link.items s first len p before.top.items now.top.items before.mate.items now.mate.items o.can a.opened in
    (record { opening = w.0; sets = o.can.sets; parts = o.parts; topmost = o.topmost; matched = is; paired = o.paired }, w.1)

pub put_gone : (costs : Costs) (before now : State) (s first len : ℕ) (p : Pair) → IsSpent before 0 s → IsPutAway before now s first len p →
    IsGone before.size before.held.items now.held.items before.halves.items before.child.items now.child.items s
put_gone costs before now s first len p spent a = record {
  larger = spent.larger;
  s_in = spent.in_slots;
  rows = a.rows;
  row = a.row;
  weightless = spent.all;
  none = a.child;
  children = a.children;
}

-- what the way through the cycle is asked of
pub put_circle : (costs : Costs) (before now : State) (s first len slots : ℕ) (p : Pair) → IsSpentTop costs before s first p → mate_at before.mate.items s ≡ Some p → IsPutAway before now s first len p →
    2 * before.size ≡ slots → IsCircle before.next.items slots len (top_of now p.inside)
put_circle costs before now s first len slots p o is a slots_is =
    let z = put_opening costs before now s first len p o is a in
    let at : IsCircle before.next.items (2 * before.size) z.0.opening.cycle.len (top_of now p.inside) =
    record {
      odd = z.0.opening.cycle.odd;
      closes = z.0.opening.cycle.closes;
      in_slots = z.0.opening.cycle.in_slots;
      apart = λ j k less k_in. child_apart costs before.size before.held.items before.halves.items before.child.items before.next.items before.link.items s (top_of now p.inside) o.can.sets z.0.opening.cycle j k
          (omega (arith, less, k_in)) k_in (λ e. omega (arith, e, less));
    } in
    subst (λ x. IsCircle before.next.items x len (top_of now p.inside)) slots_is (subst (λ x. IsCircle before.next.items (2 * before.size) x (top_of now p.inside)) z.1 at)

pub put_few : (costs : Costs) (before now : State) (s first len : ℕ) (p : Pair) → IsSpentTop costs before s first p → mate_at before.mate.items s ≡ Some p → IsPutAway before now s first len p → len ≤ before.size
put_few costs before now s first len p o is a =
    let z = put_opening costs before now s first len p o is a in
    omega (arith, z.1, few_children costs before.size before.held.items before.halves.items before.child.items before.next.items before.link.items s (top_of now p.inside) o.can.sets z.0.opening.cycle)

-- the child that was entered is on the cycle
pub put_place : (costs : Costs) (before now : State) (s first len : ℕ) (p : Pair) → IsSpentTop costs before s first p → mate_at before.mate.items s ≡ Some p → IsPutAway before now s first len p →
    (k : ℕ) × (k < len) × (after before.next.items k (top_of now p.inside) ≡ top_of now (link_at before.entry.items s).inside)
put_place costs before now s first len p o is a =
    let z = put_opening costs before now s first len p o is a in
    let e_in = o.reached.entry_tight.inside_in in
    let held : holds before.size before.held.items s (link_at before.entry.items s).inside ≡ true =
    ap (λ t. holds before.size before.held.items t (link_at before.entry.items s).inside) (sym o.reached.entry_here) ∙ o.parts.own (link_at before.entry.items s).inside e_in in
    let k = z.0.opening.cycle.covers (link_at before.entry.items s).inside e_in held in
    (k.0, omega (arith, k.1, z.1), sym (z.0.opening.own k.0 (link_at before.entry.items s).inside k.1 e_in k.2))
