-- Shores that are laid out against what is left over the edges.
use Rattle.std.proofs.Common.{◌≡◌, ℕ, zero, suc, ◌+◌, All, length, ◌<◌, ◌≤◌, true, false, List, [], ◌∷◌, ◌++◌, pos, get_or, take, ap, sym, arith, subst, refl}
use Rattle.std.specs.Prelude.{if◌then◌else◌, nat_abs, Bool}
use Rattle.std.proofs.lemmas.List.Elements.{All-push}
use Rattle.std.proofs.lemmas.List.Sums.{sum_by_more, sum_by_push, sum_by-take-le}
use Rattle.carp_base.specs.declared.edge.Edge.{Edge}
use Rattle.carp_base.specs.Problem.{Problem, no_edge}
use Rattle.plan_model.specs.Plans.{crosses}
use Rattle.cut_pool.specs.Shores.{Belongs, is_in}
use Rattle.cut_pool.specs.declared.shore.Weighted.{Weighted}
use Rattle.shore_program.specs.Programs.{IsWeighted, ListsNoMore, Packs}
use Rattle.shore_program.specs.Tableaus.{AreWeighted, IsLaid, LeavesRoom, Takes, shores_of}
use Rattle.shore_program.specs.declared.cuts.Cut.{Cut}
use Rattle.shore_program.proofs.Holding.{held_there, sum_by_shores}

-- a shore with a weight
weighted : List ℕ → ℕ → Weighted
weighted shore amount = record { shore = shore; weight = pos amount }

-- what was taken came to the list
pub laid_push : (edges : List Edge) (shore : List ℕ) (amount : ℕ) (rooms rooms' : List ℕ) (shores : List Weighted) →
    Takes edges shore amount rooms rooms' → 1 ≤ amount → amount ≤ 1000000000000 →
    IsLaid edges shore rooms rooms' shores (shores ++ record { shore = shore; weight = pos amount } ∷ [])
unfolding weighted
laid_push edges shore amount rooms rooms' shores takes some small = record {
  long = takes.long;
  same = λ e d below.
      let over = λ (s : Weighted). if crosses (is_in s.shore) (get_or edges e d) then nat_abs s.weight else 0 in
      omega (arith, takes.each e d below, sum_by_push over shores (weighted shore amount));
  each = λ program held belongs all.
      All-push (IsWeighted program) shores (weighted shore amount) all
      (record { held = held; belongs = belongs; natural = refl; some = some; small = small });
  once = λ f. omega (arith, sum_by_push (λ (s : Weighted). f s.shore) shores (weighted shore amount));
}

nothing : (b : Bool) → ◌≡◌ {A = ℕ} (if b then 0 else 0) 0
nothing true = refl
nothing false = refl

-- nothing was taken
pub laid_not : (edges : List Edge) (shore : List ℕ) (amount : ℕ) (rooms rooms' : List ℕ) (shores : List Weighted) →
    Takes edges shore amount rooms rooms' → amount ≡ 0 → IsLaid edges shore rooms rooms' shores shores
laid_not edges shore amount rooms rooms' shores takes none =
    let takes' = subst (λ n. Takes edges shore n rooms rooms') none takes in
    record {
      long = takes'.long;
      same = λ e d below. omega (arith, takes'.each e d below, nothing (crosses (is_in shore) (get_or edges e d)));
      each = λ program held belongs all. all;
      once = λ f. omega arith;
    }

-- what is left after one more shore
pub room_after : (edges : List Edge) (shore : List ℕ) (rooms rooms' : List ℕ) (shores shores' : List Weighted) →
    LeavesRoom edges rooms shores → IsLaid edges shore rooms rooms' shores shores' → LeavesRoom edges rooms' shores'
room_after edges shore rooms rooms' shores shores' room laid = record {
  long = omega (arith, room.long, laid.long);
  packs = λ e d below. omega (arith, room.packs e d below, laid.same e d below);
}

-- one more shore of cuts
pub weighted_after : (p : Problem) (cuts : List Cut) (k : ℕ) (cut : Cut) (rooms rooms' : List ℕ) (shores shores' : List Weighted) →
    All (λ c. Belongs p c.shore) cuts → k < length cuts → cut ≡ get_or cuts k cut →
    AreWeighted p cuts shores → IsLaid p.edges cut.shore rooms rooms' shores shores' → AreWeighted p cuts shores'
weighted_after p cuts k cut rooms rooms' shores shores' belong below is weighted laid =
    laid.each (record { problem = p; shores = shores_of cuts })
    (held_there cuts cut.shore k cut below (ap (λ (c : Cut). c.shore) (sym is)))
    (subst (λ (c : Cut). Belongs p c.shore) (sym is) (belong k cut below)) weighted

-- one more cut, whose shore came at most once
pub once_after : (edges : List Edge) (cuts : List Cut) (k : ℕ) (cut : Cut) (rooms rooms' : List ℕ) (shores shores' : List Weighted) →
    k < length cuts → cut ≡ get_or cuts k cut → ListsNoMore (shores_of (take k cuts)) shores →
    IsLaid edges cut.shore rooms rooms' shores shores' → ListsNoMore (shores_of (take (k + 1) cuts)) shores'
once_after edges cuts k cut rooms rooms' shores shores' below is once laid = λ f.
    let of_cut = λ (c : Cut). f c.shore in
    omega (
      arith,
      once f,
      laid.once f,
      sum_by_shores f (take k cuts),
      sum_by_shores f (take (k + 1) cuts),
      sum_by_more of_cut cuts k cut below,
      ap of_cut is,
    )

-- of the first cuts, and so of all
pub once_of_all : (cuts : List Cut) (k : ℕ) (shores : List Weighted) → ListsNoMore (shores_of (take k cuts)) shores → ListsNoMore (shores_of cuts) shores
once_of_all cuts k shores once = λ f.
    omega (arith, once f, sum_by_shores f (take k cuts), sum_by_shores f cuts, sum_by-take-le (λ (c : Cut). f c.shore) cuts k)

-- where something is left over each edge, the weights pack
pub room_packs : (p : Problem) (rooms : List ℕ) (shores : List Weighted) → LeavesRoom p.edges rooms shores → Packs p shores
room_packs p rooms shores room zero number = absurd (omega (arith, number.from_one))
room_packs p rooms shores room (suc k) number = omega (arith, room.packs k no_edge (omega (arith, number.in_range)))
