-- Lines that follow each other up to the end are those of a certificate, in their order.
use Rattle.std.proofs.Common.{◌≡◌, ◌≢◌, ℕ, zero, suc, ◌-◌, ◌⊎◌, inl, inr, Bool, true, false, cond, ◌||◌, eqb, List, [], ◌∷◌, ◌++◌, length, IsTrue, refl, sym, ap, subst, ◌∙◌, append_assoc, arith}
use Rattle.std.specs.List.{flat_map}
use Rattle.std.proofs.lemmas.Bool.{false≢true, eqb-true}
use Rattle.plan_model.specs.declared.step.Step.{Step}
use Rattle.branch_rules.specs.Bonds.{GroupWeight}
use Rattle.branch_rules.specs.Prices.{Prices}
use Rattle.branch_rules.specs.declared.node.Node.{Node}
use Rattle.cert_lines.specs.declared.counts.Counts.{Counts}
use Rattle.cert_lines.specs.declared.next.Next.{Next}
use Rattle.cert_lines.specs.declared.next.Next.TheVariants as stands
use Rattle.cert_lines.specs.Lines.{Line, version, counts, cost, bound, tours, tour, shores, shore, sets, prices, weights, bonds, nodes, node, end, nothing}
use Rattle.cert_lines.specs.Order.{LatestFirst, version_of, next_of, follows, left_of, open_of, open_after, tours_to_come, shores_to_come, sets_to_come, nodes_to_come}
use Rattle.cert_lines.specs.Certificates.{sets_of, has_groups}
use Rattle.cert_lines.specs.Agreement.{Agrees}
use Rattle.cert_lines.specs.Spelling.{tour_line, shore_line, set_lines, AreGood}
use Rattle.cert_lines.proofs.Listed.{listed, listed-append}

-- good lines, after which nothing follows
pub record Ends (said : LatestFirst) (lines : List Line) : Type 0 where
  pub good : AreGood said lines
  pub whole : next_of (listed lines said) ≡ stands.Nothing

-- the first of them, where one is still to come
pub record First (next : Next) (said : LatestFirst) (lines : List Line) : Type 0 where
  pub line : Line
  pub rest : List Line
  pub is : lines ≡ line ∷ rest
  pub follows : IsTrue (follows next line)
  pub agrees : Agrees said line
  pub ends : Ends (line ∷ said) rest

pub first_line : (next : Next) (said : LatestFirst) (lines : List Line) → next_of said ≡ next → next ≢ stands.Nothing → Ends said lines → First next said lines
first_line next said [] at some ends = absurd (some (sym at ∙ ends.whole))
first_line next said (line ∷ rest) at some ends = record {
  line = line;
  rest = rest;
  is = refl;
  follows = subst (λ (x : Next). IsTrue (follows x line)) at ends.good.0;
  agrees = ends.good.2;
  ends = record { good = ends.good.3; whole = ends.whole };
}

-- Lines of a kind.

pub only_version : (line : Line) → IsTrue (follows stands.Version line) → (n : ℕ) × (line ≡ version n) × ((n ≡ 1) ⊎ ((n ≡ 2) ⊎ (n ≡ 4)))
only_version (version n) h = (n, refl, which (eqb n 1) (eqb n 2) (eqb n 4) refl refl refl h)
  where
    which : (a b c : Bool) → eqb n 1 ≡ a → eqb n 2 ≡ b → eqb n 4 ≡ c → IsTrue (a || b || c) → (n ≡ 1) ⊎ ((n ≡ 2) ⊎ (n ≡ 4))
    which true b c one two four h = inl (eqb-true n 1 one)
    which false true c one two four h = inr (inl (eqb-true n 2 two))
    which false false true one two four h = inr (inr (eqb-true n 4 four))
    which false false false one two four h = absurd (false≢true h)
only_version _ h = absurd (false≢true h)

pub only_counts : (line : Line) → IsTrue (follows stands.Counts line) → (c : Counts) × (line ≡ counts c)
only_counts (counts c) h = (c, refl)
only_counts _ h = absurd (false≢true h)

pub only_cost : (line : Line) → IsTrue (follows stands.Cost line) → (n : ℕ) × (line ≡ cost n)
only_cost (cost n) h = (n, refl)
only_cost _ h = absurd (false≢true h)

pub only_bound : (line : Line) → IsTrue (follows stands.Bound line) → (n : ℕ) × (line ≡ bound n)
only_bound (bound n) h = (n, refl)
only_bound _ h = absurd (false≢true h)

pub only_tours : (line : Line) → IsTrue (follows stands.Tours line) → (n : ℕ) × (line ≡ tours n)
only_tours (tours n) h = (n, refl)
only_tours _ h = absurd (false≢true h)

pub only_tour : (said : LatestFirst) (left : ℕ) (line : Line) → IsTrue (follows (stands.Tour left) line) → Agrees said line → (steps : List Step) × (line ≡ tour_line steps)
only_tour said left (tour n steps) h agrees = (steps, ap (λ (k : ℕ). tour k steps) (sym agrees))
only_tour said left _ h agrees = absurd (false≢true h)

pub only_shores : (line : Line) → IsTrue (follows stands.Shores line) → (n : ℕ) × (line ≡ shores n)
only_shores (shores n) h = (n, refl)
only_shores _ h = absurd (false≢true h)

pub only_shore : (said : LatestFirst) (left : ℕ) (line : Line) → IsTrue (follows (stands.Shore left) line) → Agrees said line → (vertices : List ℕ) × (line ≡ shore_line vertices)
only_shore said left (shore n vertices) h agrees = (vertices, ap (λ (k : ℕ). shore k vertices) (sym agrees.stated))
only_shore said left _ h agrees = absurd (false≢true h)

pub only_sets : (line : Line) → IsTrue (follows stands.Sets line) → (n : ℕ) × (line ≡ sets n)
only_sets (sets n) h = (n, refl)
only_sets _ h = absurd (false≢true h)

pub only_prices : (said : LatestFirst) (left : ℕ) (line : Line) → IsTrue (follows (stands.Prices left) line) → Agrees said line → (set : Prices) × (line ≡ prices set.unit (length set.services) set.services)
only_prices said left (prices unit n services) h agrees = (record { unit = unit; services = services; weights = []; groups = [] }, ap (λ (k : ℕ). prices unit k services) (sym agrees))
only_prices said left _ h agrees = absurd (false≢true h)

pub only_weights : (said : LatestFirst) (left : ℕ) (set : Prices) (line : Line) → IsTrue (follows (stands.Weights left) line) → Agrees said line →
    (whole : Prices) × (whole.unit ≡ set.unit) × (whole.services ≡ set.services) × (line ≡ weights (length whole.weights) whole.weights)
only_weights said left set (weights n items) h agrees =
    (record set { weights = items }, refl, refl, ap (λ (k : ℕ). weights k items) (sym agrees.stated))
only_weights said left set _ h agrees = absurd (false≢true h)

pub only_bonds : (said : LatestFirst) (left : ℕ) (line : Line) → IsTrue (follows (stands.Bonds left) line) → Agrees said line →
    (groups : List GroupWeight) × (line ≡ bonds (length groups) groups nothing)
only_bonds said left (bonds n groups rest) h agrees = (groups, λ i. bonds (sym agrees.0.stated i) groups (agrees.0.complete i))
only_bonds said left _ h agrees = absurd (false≢true h)

pub only_nodes : (line : Line) → IsTrue (follows stands.Nodes line) → (n : ℕ) × (line ≡ nodes n)
only_nodes (nodes n) h = (n, refl)
only_nodes _ h = absurd (false≢true h)

pub only_node : (left subtrees : ℕ) (line : Line) → IsTrue (follows (stands.Node left subtrees) line) → (x : Node) × (line ≡ node x)
only_node left subtrees (node x) h = (x, refl)
only_node left subtrees _ h = absurd (false≢true h)

pub only_end : (line : Line) → IsTrue (follows stands.End line) → line ≡ end
only_end end h = refl
only_end _ h = absurd (false≢true h)

pub none_after : (line : Line) → IsTrue (follows stands.Nothing line) → ⊥
none_after line h = false≢true h

-- A number of items, one after another.

-- one item of so many that are to come
pub record Item {X : Type 0} (f : X → List Line) (P : ℕ → LatestFirst → Type 0) (left : ℕ) (said : LatestFirst) (lines : List Line) : Type 0 where
  pub item : X
  pub rest : List Line
  pub is : lines ≡ f item ++ rest
  pub next : P left (listed (f item) said)
  pub ends : Ends (listed (f item) said) rest

-- so many items
pub record Items {X : Type 0} (f : X → List Line) (P : ℕ → LatestFirst → Type 0) (left : ℕ) (said : LatestFirst) (lines : List Line) : Type 0 where
  pub items : List X
  pub rest : List Line
  pub is : lines ≡ flat_map f items ++ rest
  pub count : length items ≡ left
  pub next : P 0 (listed (flat_map f items) said)
  pub ends : Ends (listed (flat_map f items) said) rest

pub one_more : {X : Type 0} (f : X → List Line) (P : ℕ → LatestFirst → Type 0) (left : ℕ) (said : LatestFirst) (lines : List Line) →
    (one : Item f P left said lines) → Items f P left (listed (f one.item) said) one.rest → Items f P (suc left) said lines
one_more f P left said lines one more =
    let joined = listed-append (f one.item) (flat_map f more.items) said in
    record {
      items = one.item ∷ more.items;
      rest = more.rest;
      is = one.is ∙ ap (λ (r : List Line). f one.item ++ r) more.is ∙ sym (append_assoc (f one.item) (flat_map f more.items) more.rest);
      count = ap suc more.count;
      next = subst (P 0) (sym joined) more.next;
      ends = subst (λ (s : LatestFirst). Ends s more.rest) (sym joined) more.ends;
    }

pub all_items : {X : Type 0} (f : X → List Line) (P : ℕ → LatestFirst → Type 0) →
    (step : (left : ℕ) (said : LatestFirst) (lines : List Line) → P (suc left) said → Ends said lines → Item f P left said lines) →
    (left : ℕ) (said : LatestFirst) (lines : List Line) → P left said → Ends said lines → Items f P left said lines
all_items f P step zero said lines next ends = record { items = []; rest = lines; is = refl; count = refl; next = next; ends = ends }
all_items f P step (suc left) said lines next ends =
    let one = step left said lines next ends in
    one_more f P left said lines one (all_items f P step left (listed (f one.item) said) one.rest one.next one.ends)

pub one_less : (left : ℕ) → suc left - 1 ≡ left
one_less left = omega arith

-- what stands next, in a text with groups or without, of which no price set was read
pub record Stands (grouped : Bool) (next : Next) (said : LatestFirst) : Type 0 where
  pub at : next_of said ≡ next
  pub in_version : eqb (version_of said) 4 ≡ grouped
  pub no_sets : sets_of said ≡ []

abbrev pub AreTours : Bool → ℕ → LatestFirst → Type 0
AreTours grouped left said = Stands grouped (tours_to_come left) said

abbrev pub one_tour : List Step → List Line
one_tour steps = tour_line steps ∷ []

pub next_tour : (grouped : Bool) (left : ℕ) (said : LatestFirst) (lines : List Line) → AreTours grouped (suc left) said → Ends said lines →
    Item one_tour (AreTours grouped) left said lines
next_tour grouped left said lines are ends =
    let first = first_line (stands.Tour (suc left)) said lines are.at (λ same. cc) ends in
    let kind = only_tour said (suc left) first.line first.follows first.agrees in
    record {
      item = kind.0;
      rest = first.rest;
      is = first.is ∙ ap (λ (l : Line). l ∷ first.rest) kind.1;
      next = record {
        at = ap (λ (x : Next). tours_to_come (left_of x - 1)) are.at ∙ ap tours_to_come (one_less left);
        in_version = are.in_version;
        no_sets = are.no_sets;
      };
      ends = subst (λ (l : Line). Ends (l ∷ said) first.rest) kind.1 first.ends;
    }

abbrev pub AreShores : Bool → ℕ → LatestFirst → Type 0
AreShores grouped left said = Stands grouped (shores_to_come left) said

abbrev pub one_shore : List ℕ → List Line
one_shore vertices = shore_line vertices ∷ []

pub next_shore : (grouped : Bool) (left : ℕ) (said : LatestFirst) (lines : List Line) → AreShores grouped (suc left) said → Ends said lines →
    Item one_shore (AreShores grouped) left said lines
next_shore grouped left said lines are ends =
    let first = first_line (stands.Shore (suc left)) said lines are.at (λ same. cc) ends in
    let kind = only_shore said (suc left) first.line first.follows first.agrees in
    record {
      item = kind.0;
      rest = first.rest;
      is = first.is ∙ ap (λ (l : Line). l ∷ first.rest) kind.1;
      next = record {
        at = ap (λ (x : Next). shores_to_come (left_of x - 1)) are.at ∙ ap shores_to_come (one_less left);
        in_version = are.in_version;
        no_sets = are.no_sets;
      };
      ends = subst (λ (l : Line). Ends (l ∷ said) first.rest) kind.1 first.ends;
    }

-- so many price sets are to come; with none to come, some set has a group in a text with groups
pub record AreSets (grouped : Bool) (left : ℕ) (said : LatestFirst) : Type 0 where
  pub at : next_of said ≡ sets_to_come left
  pub in_version : eqb (version_of said) 4 ≡ grouped
  pub some : grouped ≡ true → left ≡ 0 → IsTrue (has_groups (sets_of said))

same_set : (whole set : Prices) → whole.unit ≡ set.unit → whole.services ≡ set.services → prices set.unit (length set.services) set.services ≡ prices whole.unit (length whole.services) whole.services
same_set whole set unit services = λ i. prices (sym unit i) (length (sym services i)) (sym services i)

-- the prices and the weights of a set, behind which these lines stand
record Halves (left : ℕ) (said : LatestFirst) (lines : List Line) : Type 0 where
  set : Prices
  rest : List Line
  is : lines ≡ prices set.unit (length set.services) set.services ∷ (weights (length set.weights) set.weights ∷ rest)
  ends : Ends (weights (length set.weights) set.weights ∷ (prices set.unit (length set.services) set.services ∷ said)) rest

halves : (left : ℕ) (said : LatestFirst) (lines : List Line) → next_of said ≡ sets_to_come (suc left) → Ends said lines → Halves left said lines
halves left said lines at ends =
    let first = first_line (stands.Prices (suc left)) said lines at (λ same. cc) ends in
    let kind = only_prices said (suc left) first.line first.follows first.agrees in
    let after_prices : next_of (first.line ∷ said) ≡ stands.Weights (suc left) =
    ap (λ (l : Line). next_of (l ∷ said)) kind.1 ∙ ap (λ (x : Next). stands.Weights (left_of x)) at in
    let second = first_line (stands.Weights (suc left)) (first.line ∷ said) first.rest after_prices (λ same. cc) first.ends in
    let whole = only_weights (first.line ∷ said) (suc left) kind.0 second.line second.follows second.agrees in
    let head : first.line ≡ prices whole.0.unit (length whole.0.services) whole.0.services = kind.1 ∙ same_set whole.0 kind.0 whole.1 whole.2 in
    record {
      set = whole.0;
      rest = second.rest;
      is = first.is ∙ ap (λ (r : List Line). first.line ∷ r) second.is ∙ (λ i. head i ∷ (whole.3 i ∷ second.rest));
      ends = subst (λ (l : Line). Ends (l ∷ (prices whole.0.unit (length whole.0.services) whole.0.services ∷ said)) second.rest) whole.3
          (subst (λ (l : Line). Ends (second.line ∷ (l ∷ said)) second.rest) head second.ends);
    }

pub next_set : (grouped : Bool) (left : ℕ) (said : LatestFirst) (lines : List Line) → AreSets grouped (suc left) said → Ends said lines →
    Item (set_lines grouped) (AreSets grouped) left said lines
next_set false left said lines are ends =
    let one = halves left said lines are.at ends in
    record {
      item = one.set;
      rest = one.rest;
      is = one.is;
      next = record {
        at = ap (λ (b : Bool). cond b (stands.Bonds (left_of (next_of said))) (sets_to_come (left_of (next_of said) - 1))) are.in_version
            ∙ ap (λ (x : Next). sets_to_come (left_of x - 1)) are.at ∙ ap sets_to_come (one_less left);
        in_version = are.in_version;
        some = λ none. absurd (false≢true none);
      };
      ends = one.ends;
    }
next_set true left said lines are ends =
    let one = halves left said lines are.at ends in
    let lines_before : LatestFirst = weights (length one.set.weights) one.set.weights ∷ (prices one.set.unit (length one.set.services) one.set.services ∷ said) in
    let at : next_of lines_before ≡ stands.Bonds (suc left) =
    ap (λ (b : Bool). cond b (stands.Bonds (left_of (next_of said))) (sets_to_come (left_of (next_of said) - 1))) are.in_version
    ∙ ap (λ (x : Next). stands.Bonds (left_of x)) are.at in
    let third = first_line (stands.Bonds (suc left)) lines_before one.rest at (λ same. cc) one.ends in
    let kind = only_bonds lines_before (suc left) third.line third.follows third.agrees in
    let agrees : Agrees lines_before (bonds (length kind.0) kind.0 nothing) = subst (λ (l : Line). Agrees lines_before l) kind.1 third.agrees in
    record {
      item = record one.set { groups = kind.0 };
      rest = third.rest;
      is = one.is ∙ (λ i. prices one.set.unit (length one.set.services) one.set.services ∷ (weights (length one.set.weights) one.set.weights ∷ third.is i))
          ∙ (λ i. prices one.set.unit (length one.set.services) one.set.services ∷ (weights (length one.set.weights) one.set.weights ∷ (kind.1 i ∷ third.rest)));
      next = record {
        at = ap (λ (x : Next). sets_to_come (left_of x - 1)) at ∙ ap sets_to_come (one_less left);
        in_version = are.in_version;
        some = λ grouped none. agrees.1 (ap left_of at ∙ ap suc none);
      };
      ends = subst (λ (l : Line). Ends (l ∷ lines_before) third.rest) kind.1 third.ends;
    }

abbrev pub AreNodes : ℕ → LatestFirst → Type 0
AreNodes left said = (subtrees : ℕ) × (next_of said ≡ nodes_to_come left subtrees)

abbrev pub one_node : Node → List Line
one_node x = node x ∷ []

pub next_node : (left : ℕ) (said : LatestFirst) (lines : List Line) → AreNodes (suc left) said → Ends said lines → Item one_node AreNodes left said lines
next_node left said lines (subtrees, at) ends =
    let first = first_line (stands.Node (suc left) subtrees) said lines at (λ same. cc) ends in
    let kind = only_node (suc left) subtrees first.line first.follows in
    record {
      item = kind.0;
      rest = first.rest;
      is = first.is ∙ ap (λ (l : Line). l ∷ first.rest) kind.1;
      next = (
        open_after (open_of (next_of said)) kind.0,
        ap (λ (k : ℕ). nodes_to_come k (open_after (open_of (next_of said)) kind.0)) (ap (λ (x : Next). left_of x - 1) at ∙ one_less left),
      );
      ends = subst (λ (l : Line). Ends (l ∷ said) first.rest) kind.1 first.ends;
    }
