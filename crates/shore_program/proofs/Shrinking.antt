-- Cuts of which some go.
use Rattle.std.proofs.Common.{◌≡◌, ℕ, ◌+◌, ◌-◌, ◌<◌, ◌≤◌, All, List, length, get_or, set, sum_by, ap, sym, arith, subst, refl}
use Rattle.std.specs.List.{Contains, swap_remove}
use Rattle.std.proofs.lemmas.List.Elements.{All-contains, All-contains_itself, All-map, All-set, All-take, All-weaker, Contains-get_or}
use Rattle.std.proofs.lemmas.List.Sums.{sum_by-swap_remove}
use Rattle.std.proofs.lemmas.List.{length-map}
use Rattle.carp_base.specs.Problem.{Problem}
use Rattle.cut_pool.specs.Shores.{Belongs}
use Rattle.shore_program.specs.Programs.{IsTrimmed}
use Rattle.shore_program.specs.declared.cuts.Cut.{Cut}
use Rattle.shore_program.specs.Tableaus.{AreTrimmed, Shrinks, shores_of}
use Rattle.shore_program.proofs.Holding.{held_there, sum_by_shores}

-- the last cut took the place of another
pub one_went : (before after : List Cut) (i : ℕ) (x : Cut) →
    i < length before → after ≡ swap_remove before i x → length after + 1 ≡ length before → Shrinks 1 before after
one_went before after i x below is long =
    let last = get_or before (length before - 1) x in
    record {
      few = omega (arith, long);
      held = subst (λ (xs : List Cut). All (Contains before) xs) (sym is)
          (All-take (Contains before) (length before - 1) (set before i last)
          (All-set (Contains before) before i last (Contains-get_or before (length before - 1) x (omega (arith, below))) (All-contains_itself before)));
      no_more = λ (f : Cut → ℕ). subst (λ (xs : List Cut). sum_by f xs ≤ sum_by f before) (sym is)
          (omega (arith, sum_by-swap_remove f before i x below));
    }

-- none went
pub none_went : (count : ℕ) (cuts : List Cut) → Shrinks count cuts cuts
none_went count cuts = record { few = omega arith; held = All-contains_itself cuts; no_more = λ f. omega arith }

-- one more went
pub more_went : (count : ℕ) (before between after : List Cut) → Shrinks count before between →
    Shrinks 1 between after → Shrinks (count + 1) before after
more_went count before between after first then = record {
  few = omega (arith, first.few, then.few);
  held = All-weaker (Contains between) (Contains before) (λ x there. All-contains (Contains before) between x first.held there) after then.held;
  no_more = λ f. omega (arith, first.no_more f, then.no_more f);
}

pub trimmed_none : (cuts : List Cut) → AreTrimmed cuts cuts
trimmed_none cuts = record {
  held = All-contains_itself cuts;
  no_more = λ f. omega arith;
  few = λ _. refl;
  enough = λ many. omega (arith, many);
}

pub trimmed : (before after : List Cut) (idle : ℕ) → idle ≤ length before → 800 < idle → Shrinks (idle - 400) before after → AreTrimmed before after
trimmed before after idle within many shrinks = record {
  held = shrinks.held;
  no_more = shrinks.no_more;
  few = λ few. absurd (omega (arith, within, many, few));
  enough = λ _. omega (arith, within, many, shrinks.few);
}

pub belong_after : (p : Problem) (before after : List Cut) → All (Contains before) after →
    All (λ c. Belongs p c.shore) before → All (λ c. Belongs p c.shore) after
belong_after p before after held belong =
    All-weaker (Contains before) (λ (c : Cut). Belongs p c.shore)
    (λ x there. All-contains (λ (c : Cut). Belongs p c.shore) before x belong there) after held

-- the same of the program that the cuts are of
pub program_trimmed : (p : Problem) (before after : List Cut) → AreTrimmed before after →
    IsTrimmed (record { problem = p; shores = shores_of before }) (record { problem = p; shores = shores_of after })
program_trimmed p before after is =
    let long = length-map before (λ (c : Cut). c.shore) in
    let long' = length-map after (λ (c : Cut). c.shore) in
    let shore : (x : Cut) → Contains before x → Contains (shores_of before) x.shore =
    λ x there. held_there before x.shore there.0 x there.1 (ap (λ (c : Cut). c.shore) there.2) in
    record {
      problem = refl;
      held = All-map (Contains (shores_of before)) (λ (c : Cut). c.shore) after
          (All-weaker (Contains before) (λ (c : Cut). Contains (shores_of before) c.shore) shore after is.held);
      no_more = λ f. omega (arith, is.no_more (λ (c : Cut). f c.shore), sum_by_shores f before, sum_by_shores f after);
      few = λ few. ap (λ (cuts : List Cut). record { problem = p; shores = shores_of cuts }) (is.few (omega (arith, few, long)));
      enough = λ many. omega (arith, is.enough (omega (arith, many, long)), long');
    }
