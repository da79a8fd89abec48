-- Required edges that are joined to the depot, by labels of the components of the required edges.
use Rattle.std.proofs.Common.{◌≡◌, ℕ, zero, suc, ◌+◌, ◌≤◌, Bool, not, List, [], ◌∷◌, ◌++◌, length, replicate, take, refl, sym, ap, ◌∙◌, subst, arith, inl, inr, Option, None, Some}
use Rattle.std.proofs.Math.Seq.{take-append_seam}
use Rattle.std.specs.Prelude.{if◌then◌else◌, nat_le, slice_index, MatchOption}
use Rattle.std.specs.List.{AllByRecursion}
use Rattle.std.proofs.lemmas.Bool.{cases_Bool, le-leb, leb-true}
use Rattle.carp_base.specs.declared.edge.Task.{Task}
use Rattle.carp_base.specs.Problem.{Problem, IsValid, IsEdgeNumber, IsRequired, IsVertex, TasksLead, edge_at, head_of, tail_of}
use Rattle.edge_components.specs.Components.{AreJoined as AreLinked}
use Rattle.edge_components.specs.Labels.{AreLabels}
use Rattle.edge_components.specs.Parts.{parts_of}
use Rattle.postman.specs.Rounds.{AreJoined, IsFirstApart, IsJoined}
use Rattle.postman.specs.Trails.{HasLabel, IsFirstOther, one_service}
use Rattle.postman.proofs.Laid.{zeros}
use Rattle.postman.proofs.Walks.{turned_head, turned_tail}

no_parts : (n e : ℕ) → parts_of (replicate n 0) e ≡ 0
no_parts n zero = refl
no_parts n (suc k) = zeros n k

-- a lent slice that comes back as the whole list
pub whole : (xs ys : List ℕ) (n : ℕ) (got : List ℕ) → n ≡ length xs → got ≡ take n (xs ++ ys) → got ≡ xs
whole xs ys n got len is = is ∙ ap (λ k. take k (xs ++ ys)) len ∙ take-append_seam xs ys

-- the parts of required edges, and of no others
pub one_part : (p : Problem) (n : ℕ) (before x : List ℕ) → before ≡ replicate n 0 → ((e : ℕ) → IsEdgeNumber p e → parts_of x e ≡ parts_of before e + one_service p e) →
    (e : ℕ) → IsEdgeNumber p e → parts_of x e ≡ one_service p e
one_part p n before x zero_is full e number = omega (arith, full e number, ap (λ (xs : List ℕ). parts_of xs e) zero_is, no_parts n e)

module _ (p : Problem) (x : List ℕ) where
  leads_on : (a : ℕ) (first : List Task) (b : ℕ) (second : List Task) (c : ℕ) → TasksLead p a first b → TasksLead p b second c → TasksLead p a (first ++ second) c
  leads_on a [] b second c leads more = subst (λ v. TasksLead p v second c) (sym leads) more
  leads_on a (t ∷ first) b second c leads more = (leads.0, leads.1, leads_on (head_of (edge_at p t.edge) t.forward) first b second c leads.2 more)

  strong_on : (first second : List Task) → AllByRecursion (λ t. 1 ≤ parts_of x t.edge) first → AllByRecursion (λ t. 1 ≤ parts_of x t.edge) second →
      AllByRecursion (λ t. 1 ≤ parts_of x t.edge) (first ++ second)
  strong_on [] second one two = two
  strong_on (t ∷ first) second one two = (one.0, strong_on first second one.1 two)

  linked_itself : (a : ℕ) → AreLinked p x 1 a a
  linked_itself a = record { path = []; leads = refl; strong = tt }

  linked_over : (a b c : ℕ) → AreLinked p x 1 a b → AreLinked p x 1 b c → AreLinked p x 1 a c
  linked_over a b c one two = record {
    path = one.path ++ two.path;
    leads = leads_on a one.path b two.path c one.leads two.leads;
    strong = strong_on one.path two.path one.strong two.strong;
  }

  -- from the tail of a strong edge over it
  linked_by : (e : ℕ) (forward : Bool) (a b : ℕ) → IsEdgeNumber p e → 1 ≤ parts_of x e → tail_of (edge_at p e) forward ≡ a → head_of (edge_at p e) forward ≡ b →
      AreLinked p x 1 a b
  linked_by e forward a b number strong tail head = record { path = record { edge = e; forward = forward } ∷ []; leads = (number, tail, head); strong = (strong, tt) }

  back : (a : ℕ) (path : List Task) (b : ℕ) → TasksLead p a path b → AllByRecursion (λ t. 1 ≤ parts_of x t.edge) path → AreLinked p x 1 b a
  back a [] b leads strong = subst (λ v. AreLinked p x 1 v a) leads (linked_itself a)
  back a (t ∷ path) b leads strong =
      let head = head_of (edge_at p t.edge) t.forward in
      linked_over b head a (back head path b leads.2 strong.1)
      (linked_by t.edge (not t.forward) head a leads.0 strong.0 (turned_tail (edge_at p t.edge) t.forward) (turned_head (edge_at p t.edge) t.forward ∙ leads.1))

  linked_back : (a b : ℕ) → AreLinked p x 1 a b → AreLinked p x 1 b a
  linked_back a b linked = back a linked.path b linked.leads linked.strong

  module _ (valid : IsValid p) (parts : (e : ℕ) → IsEdgeNumber p e → parts_of x e ≡ one_service p e) where
    required_where_some : (e : ℕ) → IsEdgeNumber p e → 1 ≤ parts_of x e → IsRequired p e
    required_where_some e number some = elim (cases_Bool (nat_le e p.required)) [
      | inl below ↦ record { from_one = number.from_one; in_range = leb-true e p.required below }
      | inr past ↦ absurd (omega (arith, some, parts e number, ap {B = ℕ} (λ b. if b then 1 else 0) past))
    ]

    some_where_required : (e : ℕ) → IsEdgeNumber p e → IsRequired p e → 1 ≤ parts_of x e
    some_where_required e number required = omega (arith, parts e number, ap {B = ℕ} (λ b. if b then 1 else 0) (le-leb e p.required required.in_range))

    all_required : (a : ℕ) (path : List Task) (b : ℕ) → TasksLead p a path b → AllByRecursion (λ t. 1 ≤ parts_of x t.edge) path → AllByRecursion (λ t. IsRequired p t.edge) path
    all_required a [] b leads strong = tt
    all_required a (t ∷ path) b leads strong =
        (required_where_some t.edge leads.0 strong.0, all_required (head_of (edge_at p t.edge) t.forward) path b leads.2 strong.1)

    all_strong : (a : ℕ) (path : List Task) (b : ℕ) → TasksLead p a path b → AllByRecursion (λ t. IsRequired p t.edge) path → AllByRecursion (λ t. 1 ≤ parts_of x t.edge) path
    all_strong a [] b leads required = tt
    all_strong a (t ∷ path) b leads required =
        (some_where_required t.edge leads.0 required.0, all_strong (head_of (edge_at p t.edge) t.forward) path b leads.2 required.1)

    module _ (labels : List ℕ) (are : AreLabels p x 1 labels) where
      same_label : (a b : ℕ) → IsVertex p a → IsVertex p b → AreLinked p x 1 a b → slice_index labels a ≡ slice_index labels b
      same_label a b a_in b_in linked =
          let to_b = (are.each a a_in).lowest (slice_index labels b) (are.in_range.within b b_in)
          (linked_over a b (slice_index labels b) linked (are.each b b_in).joined) in
          let to_a = (are.each b b_in).lowest (slice_index labels a) (are.in_range.within a a_in)
          (linked_over b a (slice_index labels a) (linked_back a b linked) (are.each a a_in).joined) in
          omega (arith, to_a, to_b)

      linked_where_same : (a b : ℕ) → IsVertex p a → IsVertex p b → slice_index labels b ≡ slice_index labels a → AreLinked p x 1 a b
      linked_where_same a b a_in b_in same =
          linked_over a (slice_index labels a) b (are.each a a_in).joined
          (linked_back b (slice_index labels a) (subst (λ l. AreLinked p x 1 b l) same (are.each b b_in).joined))

      first_end_in : (e : ℕ) → IsRequired p e → IsVertex p (edge_at p e).u
      first_end_in e required = (valid.edges e (record { from_one = required.from_one; in_range = omega (arith, required.in_range, valid.required_in) })).u_in

      joined_where_same : (e : ℕ) → IsRequired p e → slice_index labels (edge_at p e).u ≡ slice_index labels p.depot → IsJoined p e
      joined_where_same e required same =
          let linked = linked_where_same p.depot (edge_at p e).u valid.depot_in (first_end_in e required) same in
          record { path = linked.path; required = all_required p.depot linked.path (edge_at p e).u linked.leads linked.strong; leads = linked.leads }

      same_where_joined : (e : ℕ) → IsRequired p e → IsJoined p e → slice_index labels (edge_at p e).u ≡ slice_index labels p.depot
      same_where_joined e required joined =
          sym (same_label p.depot (edge_at p e).u valid.depot_in (first_end_in e required)
          (record { path = joined.path; leads = joined.leads; strong = all_strong p.depot joined.path (edge_at p e).u joined.leads joined.required }))

      pub first_apart : (found : Option ℕ) → MatchOption found ((e : ℕ) → HasLabel p labels e) (IsFirstOther p labels) → MatchOption found (AreJoined p) (IsFirstApart p)
      first_apart None all = λ e required. joined_where_same e required (all e required)
      first_apart (Some e) first = record {
        required = first.required;
        apart = λ joined. first.other (same_where_joined e first.required joined);
        before = λ d required less. joined_where_same d required (first.before d less required);
      }
