-- Tours in outline, and the search for the best join. No public contract speaks of this.
use Rattle.std.specs.Prelude.{◌≡◌, ◌≢◌, ℕ, ◌+◌, ◌<◌, ◌≤◌, Bool, List, [], ◌∷◌, length, slice_index_or, slice_set, min, if◌then◌else◌, Option, None, Some, MatchOption}
use Rattle.std.specs.List.{AllByRecursion, sum_by}
use Rattle.carp_base.specs.declared.edge.Task.{Task}
use Rattle.carp_base.specs.Problem.{Problem, IsRequired, edge_at, tail_of, head_of}
use Rattle.deadhead_paths.specs.Prices.{IsLeastPrice, price_of, costs_of}
use Rattle.task_tours.specs.Tours.{IsStand, tour_load}
use Rattle.augment_merge.specs.declared.joins.Join.{Join}
use Rattle.augment_merge.specs.declared.outline.Outline.{Outline}
use Rattle.augment_merge.specs.Merging.{JoinNoLater, nth_tour, tour_of_join}

-- where the first task of a tour starts, or the vertex if there is none
abbrev pub tour_starts_at : Problem → ℕ → List Task → ℕ
tour_starts_at p a [] = a
tour_starts_at p a (t ∷ ts) = tail_of (edge_at p t.edge) t.forward

-- where the last task of a tour ends, or the vertex if there is none
abbrev pub tour_ends_at : Problem → ℕ → List Task → ℕ
tour_ends_at p a [] = a
tour_ends_at p a (t ∷ ts) = tour_ends_at p (head_of (edge_at p t.edge) t.forward) ts

-- tasks on required edges that fit a vehicle
pub record IsDoable (p : Problem) (tour : List Task) : Type 0 where
  pub required : AllByRecursion (λ t. IsRequired p t.edge) tour
  pub load : tour_load p tour ≤ p.capacity

-- each of the tours is so
abbrev pub AreDoable : Problem → List (List Task) → Type 0
AreDoable p tours = (k : ℕ) → k < length tours → IsDoable p (nth_tour tours k)

-- an outline that some tour can have
pub record IsOutline (p : Problem) (o : Outline) : Type 0 where
  pub start_stands : IsStand p o.start
  pub end_stands : IsStand p o.end
  pub out_least : IsLeastPrice p (price_of (costs_of p)) p.depot o.start o.out
  pub home_least : IsLeastPrice p (price_of (costs_of p)) o.end p.depot o.home
  pub out_small : o.out ≤ 999000000
  pub home_small : o.home ≤ 999000000
  pub load_small : o.load ≤ 30000

-- the outline of a tour
pub record IsOutlineOf (p : Problem) (tour : List Task) (o : Outline) : Type 0 where
  pub outline : IsOutline p o
  pub starts : o.start ≡ tour_starts_at p p.depot tour
  pub ends : o.end ≡ tour_ends_at p p.depot tour
  pub loaded : o.load ≡ tour_load p tour

-- what stands if there is no outline
abbrev pub no_outline : Outline
no_outline = record { start = 0; end = 0; out = 0; home = 0; load = 0 }

-- the outline at a place from 0
abbrev pub nth_outline : List Outline → ℕ → Outline
nth_outline outlines k = slice_index_or outlines k no_outline

-- each is an outline that some tour can have
abbrev pub AreOutlines : Problem → List Outline → Type 0
AreOutlines p outlines = (k : ℕ) → k < length outlines → IsOutline p (nth_outline outlines k)

-- the outlines of some tours, place by place
pub record AreOutlinesOf (p : Problem) (tours : List (List Task)) (outlines : List Outline) : Type 0 where
  pub one_each : length outlines ≡ length tours
  pub each : (k : ℕ) → k < length tours → IsOutlineOf p (nth_tour tours k) (nth_outline outlines k)

-- the outlines after a join: that of the joined tour, and that of a tour without tasks
pub record AreReoutlined (p : Problem) (tours : List (List Task)) (j : Join) (before after : List Outline) : Type 0 where
  pub joined : Outline
  pub emptied : Outline
  pub joined_is : IsOutlineOf p (tour_of_join tours j) joined
  pub emptied_is : IsOutlineOf p [] emptied
  pub outlines : after ≡ slice_set (slice_set before j.first joined) j.second emptied

-- the outline of the tour as it stands, or reversed
abbrev pub oriented_outline : Bool → Outline → Outline
oriented_outline turned o = if turned then record { start = o.end; end = o.start; out = o.home; home = o.out; load = o.load } else o

-- the way from one tour home and out to the other costs so much more than the way between them
pub record IsLinkSaving (p : Problem) (a b : Outline) (saving : ℕ) : Type 0 where
  pub link : ℕ
  pub least : IsLeastPrice p (price_of (costs_of p)) a.end b.start link
  pub saved : a.home + b.out ≡ link + saving

-- a join that saves, of two tours that serve something, as it is seen in outline
pub record IsOutlineJoin (p : Problem) (outlines : List Outline) (j : Join) : Type 0 where
  pub order : j.first < j.second
  pub in_range : j.second < length outlines
  pub first_used : 1 ≤ (nth_outline outlines j.first).load
  pub second_used : 1 ≤ (nth_outline outlines j.second).load
  pub fits : (nth_outline outlines j.first).load + (nth_outline outlines j.second).load ≤ p.capacity
  pub saves : IsLinkSaving p (oriented_outline j.turn_first (nth_outline outlines j.first)) (oriented_outline j.turn_second (nth_outline outlines j.second)) j.saving
  pub some : 1 ≤ j.saving

-- such a join of two tours in one way
pub record IsWayJoin (p : Problem) (outlines : List Outline) (first second : ℕ) (turn_first turn_second : Bool) (j : Join) : Type 0 where
  pub join : IsOutlineJoin p outlines j
  pub first_is : j.first ≡ first
  pub second_is : j.second ≡ second
  pub turn_first_is : j.turn_first ≡ turn_first
  pub turn_second_is : j.turn_second ≡ turn_second

-- such a join of two tours
pub record IsPairJoin (p : Problem) (outlines : List Outline) (first second : ℕ) (j : Join) : Type 0 where
  pub join : IsOutlineJoin p outlines j
  pub first_is : j.first ≡ first
  pub second_is : j.second ≡ second

-- such a join of a tour with one that stands after it, and before the place end
pub record IsRowJoin (p : Problem) (outlines : List Outline) (first end : ℕ) (j : Join) : Type 0 where
  pub join : IsOutlineJoin p outlines j
  pub first_is : j.first ≡ first
  pub second_in : j.second < end

-- such a join of a tour with one that has not changed
pub record IsOldJoin (p : Problem) (outlines : List Outline) (made : Join) (first : ℕ) (j : Join) : Type 0 where
  pub row : IsRowJoin p outlines first (length outlines) j
  pub not_joined : j.second ≢ made.first
  pub not_emptied : j.second ≢ made.second

-- of the joins that have a property it is one that none other goes before
pub record IsFirstOfJoins (P : Join → Type 0) (best : Join) : Type 0 where
  pub has : P best
  pub first : (j : Join) → P j → JoinNoLater best j

-- such a join, or none if none has the property
abbrev pub FindsBest : (Join → Type 0) → Option Join → Type 0
FindsBest P found = MatchOption found ((j : Join) → P j → ⊥) (IsFirstOfJoins P)

-- the best join of each tour with one that stands after it
pub record AreBestRows (p : Problem) (outlines : List Outline) (rows : List (Option Join)) : Type 0 where
  pub one_each : length rows ≡ length outlines
  pub each : (k : ℕ) → k < length outlines → FindsBest (IsRowJoin p outlines k (length outlines)) (slice_index_or rows k None)

-- one of the rows below the end has this join
pub record StandsInRows (rows : List (Option Join)) (end : ℕ) (j : Join) : Type 0 where
  pub row : ℕ
  pub in_range : row < end
  pub is : slice_index_or rows row None ≡ Some j

-- neither the tour nor its partner was joined
pub record IsFresh (made : Join) (first : ℕ) (row : Option Join) : Type 0 where
  pub not_joined : first ≢ made.first
  pub not_emptied : first ≢ made.second
  pub partner : (j : Join) → row ≡ Some j → (j.second ≢ made.first) × (j.second ≢ made.second)

-- the rows in which nothing was joined have the best join with what has not changed
pub record AreRenewable (p : Problem) (outlines : List Outline) (made : Join) (rows : List (Option Join)) : Type 0 where
  pub one_each : length rows ≡ length outlines
  pub order : made.first < made.second
  pub in_range : made.second < length outlines
  pub emptied : (nth_outline outlines made.second).load ≡ 0
  pub fresh : (k : ℕ) → k < length outlines → IsFresh made k (slice_index_or rows k None) → FindsBest (IsOldJoin p outlines made k) (slice_index_or rows k None)

-- how many outlines are of tours that serve something
abbrev pub used_outlines : List Outline → ℕ
used_outlines outlines = sum_by (λ o. min 1 o.load) outlines
