-- Walks along yes pairs. No public contract speaks of this.
use Rattle.std.specs.Prelude.{◌≡◌, ◌≢◌, ℕ, zero, suc, ◌+◌, ◌≤◌, ◌⊎◌, not, Bool, true, false, List, [], ◌∷◌, ◌++◌, length, slice_index_or, count_by}
use Rattle.std.specs.List.{AllByRecursion}
use Rattle.carp_base.specs.Problem.{IsRequired}
use Rattle.decision_chains.specs.Neighbours.{times}
use Rattle.decision_chains.specs.Exclusions.{IsYes, AreJoined, IsChainEnd}
use Rattle.decision_chains.specs.declared.chains.Chains.{Chains}
use Rattle.decision_chains.specs.declared.decision.Decision.{Decision}

-- an edge is marked, if the marks stand in the order of the edges
abbrev pub is_marked : List Bool → ℕ → Bool
is_marked marks zero = false
is_marked marks (suc k) = slice_index_or marks k false

-- how many edges are not marked
abbrev pub unmarked : List Bool → ℕ
unmarked marks = count_by (λ mark. not mark) marks

-- a marked edge has only marked yes neighbours
abbrev pub AreClosed : List Decision → List Bool → Type 0
AreClosed branch marks = (a b : ℕ) → IsYes branch a b → is_marked marks a ≡ true → is_marked marks b ≡ true

-- each edge has a yes to the next one
abbrev pub IsTrail : List Decision → ℕ → List ℕ → Type 0
IsTrail branch x [] = Unit {0}
IsTrail branch x (y ∷ ys) = IsYes branch x y × IsTrail branch y ys

-- from an edge that was reached from b the yes pairs lead over exactly these edges, one after another
abbrev pub Runs : List Decision → ℕ → ℕ → List ℕ → Type 0
Runs branch b x [] = (z : ℕ) → IsYes branch x z → z ≡ b
Runs branch b x (y ∷ ys) = IsYes branch x y × (y ≢ b) × ((z : ℕ) → IsYes branch x z → (z ≡ b) ⊎ (z ≡ y)) × Runs branch x y ys

-- the same from the first of a list, which was reached from none
abbrev pub RunsFrom : List Decision → List ℕ → Type 0
RunsFrom branch [] = ⊥
RunsFrom branch (x ∷ xs) = Runs branch 0 x xs

-- the first of a list, or 0
abbrev pub first_or_none : List ℕ → ℕ
first_or_none [] = 0
first_or_none (x ∷ xs) = x

-- the edges of a list are marked besides those that were
pub record AreMarkedToo (old marks : List Bool) (edges : List ℕ) : Type 0 where
  pub kept : (e : ℕ) → is_marked old e ≡ true → is_marked marks e ≡ true
  pub added : (e : ℕ) → 1 ≤ times e edges → is_marked marks e ≡ true
  pub only : (e : ℕ) → is_marked marks e ≡ true → (is_marked old e ≡ true) ⊎ (1 ≤ times e edges)
  pub fresh : (e : ℕ) → 1 ≤ times e edges → is_marked old e ≡ false

-- a walk along yes pairs from a start has left some edges behind and is at an edge that is not marked yet
pub record IsOnWay (t : Chains) (start : ℕ) (old : List Bool) (edges : List ℕ) (marks : List Bool) (before at : ℕ) : Type 0 where
  pub long : length marks ≡ t.inst.now.required
  pub required : IsRequired t.inst.now at
  pub free : is_marked marks at ≡ false
  pub behind : List ℕ
  pub trail : IsTrail t.decisions.now at behind
  pub last : first_or_none behind ≡ before
  pub origin : before ≡ 0 → at ≡ start
  pub same : (e : ℕ) → times e edges ≡ times e behind
  pub marked : AreMarkedToo old marks behind
  pub once : (e : ℕ) → times e behind ≤ 1
  pub all_required : AllByRecursion (IsRequired t.inst.now) edges
  pub fewer : length edges + unmarked marks ≡ unmarked old
  pub joined : (e : ℕ) → 1 ≤ times e (at ∷ behind) → AreJoined t.decisions.now start e
  pub runs : IsChainEnd t.decisions.now start → (rest : List ℕ) → Runs t.decisions.now before at rest → RunsFrom t.decisions.now (edges ++ at ∷ rest)

-- the edges of a walk along yes pairs from a start to an end of its chain
pub record IsWalked (t : Chains) (start : ℕ) (old : List Bool) (edges : List ℕ) (marks : List Bool) : Type 0 where
  pub long : length marks ≡ t.inst.now.required
  pub marked : AreMarkedToo old marks edges
  pub once : (e : ℕ) → times e edges ≤ 1
  pub all_required : AllByRecursion (IsRequired t.inst.now) edges
  pub fewer : length edges + unmarked marks ≡ unmarked old
  pub joined : (e : ℕ) → 1 ≤ times e edges → AreJoined t.decisions.now start e
  pub runs : IsChainEnd t.decisions.now start → RunsFrom t.decisions.now edges
  pub front : List ℕ
  pub end : ℕ
  pub last : edges ≡ front ++ end ∷ []
  pub ends : IsChainEnd t.decisions.now end

-- the edges of the chain of an edge, each once, from one end to the other, which are marked now
pub record IsOrdered (t : Chains) (edge : ℕ) (old : List Bool) (edges : List ℕ) (marks : List Bool) : Type 0 where
  pub long : length marks ≡ t.inst.now.required
  pub marked : AreMarkedToo old marks edges
  pub closed : AreClosed t.decisions.now marks
  pub all_required : AllByRecursion (IsRequired t.inst.now) edges
  pub fewer : length edges + unmarked marks ≡ unmarked old
  pub joined : (e : ℕ) → 1 ≤ times e edges → AreJoined t.decisions.now edge e
  pub each : (e : ℕ) → AreJoined t.decisions.now edge e → times e edges ≡ 1
  pub runs : RunsFrom t.decisions.now edges
