-- The state while sets are unfolded.
use Rattle.std.proofs.Common.{◌≡◌, ◌≢◌, ℕ, ◌*◌, ◌<◌, true, List, Option, Some, None, IsSome, IfSome, IsSomeAnd, length, slice_index, refl, sym, subst, ap, ◌∙◌, arith, inl, inr}
use Rattle.std.proofs.lemmas.Bool.{false≢true, false_from_ne_true, true_from_ne_false}
use Rattle.blossom_match.specs.declared.costs.Costs.{Costs}
use Rattle.blossom_match.specs.declared.state.State.{State}
use Rattle.blossom_match.specs.declared.state.Pair.{Pair}
use Rattle.blossom_match.specs.Table.{cost, IsAsked}
use Rattle.blossom_match.specs.Views.{holds, turned, mate_at, child_at, is_used, between}
use Rattle.blossom_match.specs.Turns.{top_of}
use Rattle.blossom_match.specs.Between.{IsBetween, IsMatched, IsCycle, HasMate}
use Rattle.blossom_match.specs.Cycles.{IsOpened, IsRound}
use Rattle.blossom_match.specs.Unfolded.{IsUnfolded, LeadsOutOnce, mate_of, outside_of}
use Rattle.blossom_match.specs.Unfolding.{AreParts, IsPaired, IsAlike, IsLedOut, IsUnfolding}
use Rattle.blossom_match.proofs.Raising.{between_apart}
use Rattle.blossom_match.proofs.Augmenting.{some_same}
use Rattle.blossom_match.proofs.Keeping.{odd_member}
use Rattle.blossom_match.proofs.RowsAround.{round_of}
use Rattle.blossom_match.proofs.RowsNested.{if_some_number}
use Rattle.blossom_match.proofs.RowsOpening.{IsOpenable, opening_of}
use Rattle.blossom_match.proofs.UnfoldingTops.{IsOpenedTop, some_pair, opened_parts, opened_matched}
use Rattle.blossom_match.proofs.UnfoldingSets.{opened_once}

some_if : (o : Option Pair) (P Q : Pair → Type 0) → IsSome o → IfSome o P → ((p : Pair) → P p → Q p) → IsSomeAnd o Q
some_if None P Q some has to = absurd (false≢true some)
some_if (Some p) P Q some has to = to p has

pub unfolding_begin : (costs : Costs) (state : State) → IsBetween costs state → ((v : ℕ) → v < state.size → HasMate state v) → IsUnfolding costs state
unfolding_begin costs state b all = record {
  shape = b.shape;
  sets = b.sets;
  cycles = b.cycles;
  packing = b.weights.packing;
  parts = record {
    top_in = b.tops.top_in;
    own = b.tops.own;
    same = λ v w v_in w_in on. b.tops.inside (top_of state v) w v (b.tops.top_in v v_in) w_in v_in on (b.tops.own v v_in);
  };
  matched = λ v v_in. some_if (mate_at state.mate.items (top_of state v)) (IsMatched costs state.size state.top.items state.sums.items state.mate.items (top_of state v))
      (IsPaired costs state.size state.held.items state.halves.items state.top.items state.mate.items (top_of state v)) (all v v_in) (b.matched v v_in)
      (λ p m. record {
        inside_in = m.tight.inside_in;
        outside_in = m.tight.outside_in;
        here = m.here;
        apart = λ e. m.tight.apart (m.here ∙ sym e);
        tight = omega (
          arith,
          between_apart state.size state.held.items state.top.items state.halves.items b.tops p.inside p.outside m.tight.inside_in m.tight.outside_in m.tight.apart,
          b.weights.kept p.inside m.tight.inside_in,
          b.weights.kept p.outside m.tight.outside_in,
          m.tight.tight,
        );
        back = m.back;
      });
  once = λ s s_in used. inl (λ v w v_in w_in at_v at_w. b.tops.inside s v w s_in v_in w_in at_v at_w);
}

-- all but the outermost nodes and their pairs is the same
pub record IsRetopped (before now : State) : Type 0 where
  pub size : now.size ≡ before.size
  pub held : now.held ≡ before.held
  pub halves : now.halves ≡ before.halves
  pub sums : now.sums ≡ before.sums
  pub child : now.child ≡ before.child
  pub next : now.next ≡ before.next
  pub link : now.link ≡ before.link
  pub label : now.label ≡ before.label
  pub entry : now.entry ≡ before.entry
  pub one_way : now.one_way ≡ before.one_way
  pub other_way : now.other_way ≡ before.other_way
  pub base : now.base ≡ before.base
  pub top_len : length now.top.items ≡ length before.top.items
  pub mate_len : length now.mate.items ≡ length before.mate.items

-- the outermost set of a member, which can be opened
pub record IsOpenTop (costs : Costs) (state : State) (v first : ℕ) (p : Pair) : Type 0 where
  pub can : IsOpenable costs state.size state.held.items state.halves.items state.child.items state.next.items state.link.items (top_of state v) first p
  pub parts : AreParts state.size state.held.items state.top.items
  pub topmost : (w : ℕ) → w < state.size → holds state.size state.held.items (top_of state v) w ≡ true → top_of state w ≡ top_of state v
  pub used : is_used state.size state.child.items (top_of state v) ≡ true
  pub paired : IsPaired costs state.size state.held.items state.halves.items state.top.items state.mate.items (top_of state v) p

pub open_top : (costs : Costs) (state : State) (v first : ℕ) (p : Pair) → IsAsked costs → IsUnfolding costs state → v < state.size →
    child_at state.child.items (top_of state v) ≡ Some first → mate_at state.mate.items (top_of state v) ≡ Some p → IsOpenTop costs state v first p
open_top costs state v first p asked u v_in child_is is =
    let q = some_pair (mate_at state.mate.items (top_of state v)) (IsPaired costs state.size state.held.items state.halves.items state.top.items state.mate.items (top_of state v)) (u.matched v v_in) in
    let paired : IsPaired costs state.size state.held.items state.halves.items state.top.items state.mate.items (top_of state v) p =
    subst (λ x. IsPaired costs state.size state.held.items state.halves.items state.top.items state.mate.items (top_of state v) x) (some_same q.0 p (sym q.1 ∙ is)) q.2 in
    record {
      can = record {
        sets = u.sets;
        same = λ x y x_in y_in. asked.table.same x y (omega (arith, x_in, u.shape.size_is)) (omega (arith, y_in, u.shape.size_is));
        cycle = if_some_number (child_at state.child.items (top_of state v))
            (IsCycle costs state.size state.held.items state.halves.items state.child.items state.next.items state.link.items (top_of state v)) first child_is (u.cycles.larger (top_of state v) (u.parts.top_in v v_in));
        inside_in = paired.inside_in;
        inside_held = ap (λ t. holds state.size state.held.items t p.inside) (sym paired.here) ∙ u.parts.own p.inside paired.inside_in;
      };
      parts = u.parts;
      topmost = λ w w_in on. u.parts.same v w v_in w_in on;
      used = true_from_ne_false (is_used state.size state.child.items (top_of state v))
          (λ unused. false≢true (sym (u.sets.empty (top_of state v) v (u.parts.top_in v v_in) v_in unused) ∙ u.parts.own v v_in));
      paired = paired;
    }

pub top_round : (costs : Costs) (state : State) (v first : ℕ) (p : Pair) → IsOpenTop costs state v first p → IsRound state.size state.held.items state.next.items first
top_round costs state v first p o =
    round_of costs state.size state.held.items state.halves.items state.child.items state.next.items state.link.items (top_of state v) first o.can.sets o.can.cycle

pub opened_top : (costs : Costs) (state : State) (v first len : ℕ) (p : Pair) (top' : List ℕ) (mate' : List (Option Pair)) → IsOpenTop costs state v first p → mate_at state.mate.items (top_of state v) ≡ Some p →
    IsOpened state.size state.held.items state.next.items state.link.items first len p state.top.items top' state.mate.items mate' →
    IsOpenedTop costs state.size state.held.items state.halves.items state.child.items state.next.items state.link.items (top_of state v) (slice_index top' p.inside) p state.top.items top' state.mate.items mate'
opened_top costs state v first len p top' mate' o is d = record {
  opening = (opening_of costs state.size state.held.items state.halves.items state.child.items state.next.items state.link.items (top_of state v) first len p state.top.items top' state.mate.items mate' o.can d).0;
  sets = o.can.sets;
  parts = o.parts;
  topmost = o.topmost;
  matched = is;
  paired = o.paired;
}

pub unfolding_more : (costs : Costs) (before now : State) (v base : ℕ) (p : Pair) → IsUnfolding costs before → v < before.size → is_used before.size before.child.items (top_of before v) ≡ true →
    IsOpenedTop costs before.size before.held.items before.halves.items before.child.items before.next.items before.link.items (top_of before v) base p before.top.items now.top.items before.mate.items now.mate.items →
    IsRetopped before now → IsUnfolding costs now
unfolding_more costs before now v base p u v_in used z r = record {
  shape = record {
    size_is = r.size ∙ u.shape.size_is;
    held_len = rw (r.held, r.size) u.shape.held_len;
    halves_len = rw (r.halves, r.size) u.shape.halves_len;
    top_len = r.top_len ∙ rw r.size u.shape.top_len;
    sums_len = rw (r.sums, r.size) u.shape.sums_len;
    child_len = rw (r.child, r.size) u.shape.child_len;
    next_len = rw (r.next, r.size) u.shape.next_len;
    link_len = rw (r.link, r.size) u.shape.link_len;
    mate_len = r.mate_len ∙ rw r.size u.shape.mate_len;
    label_len = rw (r.label, r.size) u.shape.label_len;
    entry_len = rw (r.entry, r.size) u.shape.entry_len;
    one_way_len = rw (r.one_way, r.size) u.shape.one_way_len;
    other_way_len = rw (r.other_way, r.size) u.shape.other_way_len;
    base_len = rw (r.base, r.size) u.shape.base_len;
  };
  sets = rw (r.size, r.held, r.halves, r.child) u.sets;
  cycles = rw (r.size, r.held, r.halves, r.child, r.next, r.link) u.cycles;
  packing = rw (r.size, r.held, r.halves) u.packing;
  parts = rw (r.size, r.held)
      (opened_parts costs before.size before.held.items before.halves.items before.child.items before.next.items before.link.items (top_of before v) base p before.top.items now.top.items before.mate.items now.mate.items z);
  matched = rw (r.size, r.held, r.halves) (λ w w_in.
      opened_matched costs before.size before.held.items before.halves.items before.child.items before.next.items before.link.items (top_of before v) base p before.top.items now.top.items before.mate.items now.mate.items
      z w w_in (λ off. u.matched w w_in));
  once = rw (r.size, r.held, r.child)
      (opened_once costs before.size before.held.items before.halves.items before.child.items before.next.items before.link.items (top_of before v) base p before.top.items now.top.items before.mate.items now.mate.items
      z (record { sets = u.sets; cycles = u.cycles }) (u.parts.top_in v v_in) used u.once);
}

-- a member that is an outermost node, and its pair
record IsLone (costs : Costs) (state : State) (v : ℕ) (p : Pair) : Type 0 where
  is : mate_at state.mate.items v ≡ Some p
  here : p.inside ≡ v
  outside_in : p.outside < state.size
  apart : p.outside ≢ v
  tight : between state.size state.held.items state.halves.items v p.outside ≡ 2 * cost costs v p.outside
  back : mate_at state.mate.items p.outside ≡ Some (turned p)

lone : (costs : Costs) (state : State) → IsUnfolding costs state → ((v : ℕ) → v < state.size → top_of state v ≡ v) → (v : ℕ) → v < state.size → (p : Pair) × IsLone costs state v p
lone costs state u singles v v_in =
    let q = some_pair (mate_at state.mate.items (top_of state v)) (IsPaired costs state.size state.held.items state.halves.items state.top.items state.mate.items (top_of state v)) (u.matched v v_in) in
    let here : q.0.inside ≡ v = sym (singles q.0.inside q.2.inside_in) ∙ q.2.here ∙ singles v v_in in (
      q.0,
      record {
        is = ap (λ t. mate_at state.mate.items t) (sym (singles v v_in)) ∙ q.1;
        here = here;
        outside_in = q.2.outside_in;
        apart = λ e. q.2.apart (singles q.0.outside q.2.outside_in ∙ e ∙ sym (singles v v_in));
        tight = subst (λ x. between state.size state.held.items state.halves.items x q.0.outside ≡ 2 * cost costs x q.0.outside) here q.2.tight;
        back = ap (λ t. mate_at state.mate.items t) (sym (singles q.0.outside q.2.outside_in)) ∙ q.2.back;
      },
    )

mate_is : (state : State) (v : ℕ) (p : Pair) → mate_at state.mate.items v ≡ Some p → mate_of state v ≡ p.outside
mate_is state v p is = ap outside_of is

some_at : (o : Option Pair) (p : Pair) → o ≡ Some p → IsSome o
some_at o p is = subst (λ x. IsSome x) (sym is) refl

once_alike : (costs : Costs) (state : State) → IsUnfolding costs state → ((v : ℕ) → v < state.size → top_of state v ≡ v) → (s : ℕ) → s < 2 * state.size → is_used state.size state.child.items s ≡ true →
    IsAlike state.size (holds state.size state.held.items s) state.top.items → LeadsOutOnce state.size (holds state.size state.held.items s) (mate_of state)
once_alike costs state u singles s s_in used alike =
    let m = odd_member state.size (holds state.size state.held.items s) (u.sets.odd s s_in used) in
    let p = lone costs state u singles m.0 m.1 in
    let is = mate_is state m.0 p.0 p.1.is in
    record {
      base = m.0;
      base_in = m.1;
      held = m.2;
      out = ap (λ x. holds state.size state.held.items s x) is
          ∙ false_from_ne_true (holds state.size state.held.items s p.0.outside)
          (λ on. p.1.apart (sym (singles p.0.outside p.1.outside_in) ∙ alike p.0.outside m.0 p.1.outside_in m.1 on m.2 ∙ singles m.0 m.1));
      others = λ v v_in other on. absurd (other (sym (singles v v_in) ∙ alike v m.0 v_in m.1 on m.2 ∙ singles m.0 m.1));
    }

once_led : (costs : Costs) (state : State) → IsUnfolding costs state → ((v : ℕ) → v < state.size → top_of state v ≡ v) → (s : ℕ) →
    IsLedOut state.size (holds state.size state.held.items s) state.top.items state.mate.items → LeadsOutOnce state.size (holds state.size state.held.items s) (mate_of state)
once_led costs state u singles s l = record {
  base = l.base;
  base_in = l.base_in;
  held = l.held;
  out = ap (λ x. holds state.size state.held.items s x) (mate_is state l.base l.pair (ap (λ t. mate_at state.mate.items t) (sym (singles l.base l.base_in)) ∙ l.is)) ∙ l.out;
  others = λ v v_in other on.
      let p = lone costs state u singles v v_in in
      ap (λ x. holds state.size state.held.items s x) (mate_is state v p.0 p.1.is)
      ∙ l.others v p.0 v_in on (λ e. other (sym (singles v v_in) ∙ e ∙ singles l.base l.base_in)) (ap (λ t. mate_at state.mate.items t) (singles v v_in) ∙ p.1.is);
}

pub unfolded_end : (costs : Costs) (state : State) → IsUnfolding costs state → ((v : ℕ) → v < state.size → top_of state v < state.size) → IsUnfolded costs state
unfolded_end costs state u low =
    let singles : (v : ℕ) → v < state.size → top_of state v ≡ v = λ v v_in. u.cycles.single (top_of state v) v (low v v_in) v_in (u.parts.own v v_in) in
    record {
      shape = u.shape;
      each = λ v v_in. (let p = lone costs state u singles v v_in in some_at (mate_at state.mate.items v) p.0 p.1.is);
      perfect = record {
        in_range = λ v v_in. (let p = lone costs state u singles v v_in in subst (λ x. x < state.size) (sym (mate_is state v p.0 p.1.is)) p.1.outside_in);
        back = λ v v_in. (let p = lone costs state u singles v v_in in
            ap (λ x. mate_of state x) (mate_is state v p.0 p.1.is) ∙ mate_is state p.0.outside (turned p.0) p.1.back ∙ p.1.here);
        other = λ v v_in e. (let p = lone costs state u singles v v_in in p.1.apart (sym (mate_is state v p.0 p.1.is) ∙ e));
      };
      tight = λ v v_in. (let p = lone costs state u singles v v_in in
          subst (λ x. between state.size state.held.items state.halves.items v x ≡ 2 * cost costs v x) (sym (mate_is state v p.0 p.1.is)) p.1.tight);
      once = λ s s_in used. elim (u.once s s_in used) [
        | inl alike ↦ once_alike costs state u singles s s_in used alike
        | inr led ↦ once_led costs state u singles s led
      ];
      sets = u.sets;
      packing = u.packing;
    }
