-- A text is the spelling of its certificate.
use Rattle.std.proofs.Common.{◌≡◌, ℕ, ◌≤◌, ◌⊎◌, inl, inr, Bool, true, false, eqb, List, [], ◌∷◌, ◌++◌, map, length, Option, Some, None, IsTrue, refl, sym, ap, subst, ◌∙◌, append_assoc, arith}
use Rattle.std.specs.Prelude.{IsSome}
use Rattle.std.specs.List.{flat_map}
use Rattle.std.proofs.lemmas.Bool.{false≢true, eqb-true}
use Rattle.std.proofs.lemmas.List.{append-nil, length-map}
use Rattle.std.proofs.lemmas.List.Concat.{flat_map_single}
use Rattle.plan_model.specs.declared.step.Step.{Step}
use Rattle.branch_rules.specs.Prices.{Prices}
use Rattle.branch_rules.specs.declared.node.Node.{Node}
use Rattle.cert_lines.specs.declared.counts.Counts.{Counts}
use Rattle.cert_lines.specs.declared.next.Next.TheVariants as stands
use Rattle.cert_lines.specs.Lines.{Line, version, cost, bound, tours, shores, sets, nodes, node, end}
use Rattle.cert_lines.specs.declared.next.Next.{Next}
use Rattle.cert_lines.specs.Order.{LatestFirst, version_of, next_of, follows}
use Rattle.cert_lines.specs.Certificates.{Certificate, certificate_of, sets_of, has_groups}
use Rattle.cert_lines.specs.Agreement.{Agrees}
use Rattle.cert_lines.specs.Spelling.{version_lines, tour_line, shore_line, set_lines, lines_of, text_of, whole_line, AreGood, HasCountsForGroups, IsSpellable}
use Rattle.cert_lines.specs.Texts.{IsTextOf, parts_of}
use Rattle.cert_lines.proofs.Listed.{listed, read_lines, text_of_lines}
use Rattle.cert_lines.proofs.Spelled.{lines_said, all_said, all_is, bare, sets_said, any_said}
use Rattle.cert_lines.proofs.Followed.{Ends, first_line, only_version, only_counts, only_cost, only_bound, only_tours, only_shores, only_sets, only_nodes, only_end, none_after, Items, all_items, Stands, AreTours, AreShores, AreSets, AreNodes, one_tour, one_shore, one_node, next_tour, next_shore, next_set, next_node}

-- the version, with the numbers of the instance
pub record Head (lines : List Line) : Type 0 where
  pub size : Option Counts
  pub grouped : Bool
  pub counted : grouped ≡ true → IsSome size
  pub rest : List Line
  pub is : lines ≡ version_lines size grouped ++ rest
  pub next : Stands grouped stands.Cost (listed (version_lines size grouped) [])
  pub ends : Ends (listed (version_lines size grouped) []) rest

one_version : (lines rest : List Line) → lines ≡ version 1 ∷ rest → Ends (version 1 ∷ []) rest → Head lines
one_version lines rest is ends = record {
  size = None;
  grouped = false;
  counted = λ none. absurd (false≢true none);
  rest = rest;
  is = is;
  next = record { at = refl; in_version = refl; no_sets = refl };
  ends = ends;
}

two_version : (lines rest : List Line) → lines ≡ version 2 ∷ rest → Ends (version 2 ∷ []) rest → Head lines
two_version lines rest is ends =
    let first = first_line stands.Counts (version 2 ∷ []) rest refl (λ same. cc) ends in
    let kind = only_counts first.line first.follows in
    record {
      size = Some kind.0;
      grouped = false;
      counted = λ some. refl;
      rest = first.rest;
      is = is ∙ ap (λ (r : List Line). version 2 ∷ r) first.is ∙ ap (λ (l : Line). version 2 ∷ (l ∷ first.rest)) kind.1;
      next = record { at = refl; in_version = refl; no_sets = refl };
      ends = subst (λ (l : Line). Ends (l ∷ (version 2 ∷ [])) first.rest) kind.1 first.ends;
    }

four_version : (lines rest : List Line) → lines ≡ version 4 ∷ rest → Ends (version 4 ∷ []) rest → Head lines
four_version lines rest is ends =
    let first = first_line stands.Counts (version 4 ∷ []) rest refl (λ same. cc) ends in
    let kind = only_counts first.line first.follows in
    record {
      size = Some kind.0;
      grouped = true;
      counted = λ some. refl;
      rest = first.rest;
      is = is ∙ ap (λ (r : List Line). version 4 ∷ r) first.is ∙ ap (λ (l : Line). version 4 ∷ (l ∷ first.rest)) kind.1;
      next = record { at = refl; in_version = refl; no_sets = refl };
      ends = subst (λ (l : Line). Ends (l ∷ (version 4 ∷ [])) first.rest) kind.1 first.ends;
    }

head_of : (lines : List Line) → Ends [] lines → Head lines
head_of lines ends =
    let first = first_line stands.Version [] lines refl (λ same. cc) ends in
    let kind = only_version first.line first.follows in
    which first.rest kind.0 (first.is ∙ ap (λ (l : Line). l ∷ first.rest) kind.1) (subst (λ (l : Line). Ends (l ∷ []) first.rest) kind.1 first.ends) kind.2
  where
    which : (rest : List Line) (n : ℕ) → lines ≡ version n ∷ rest → Ends (version n ∷ []) rest → (n ≡ 1) ⊎ ((n ≡ 2) ⊎ (n ≡ 4)) → Head lines
    which rest n is ends (inl one) = one_version lines rest (is ∙ ap (λ (k : ℕ). version k ∷ rest) one) (subst (λ (k : ℕ). Ends (version k ∷ []) rest) one ends)
    which rest n is ends (inr (inl two)) = two_version lines rest (is ∙ ap (λ (k : ℕ). version k ∷ rest) two) (subst (λ (k : ℕ). Ends (version k ∷ []) rest) two ends)
    which rest n is ends (inr (inr four)) = four_version lines rest (is ∙ ap (λ (k : ℕ). version k ∷ rest) four) (subst (λ (k : ℕ). Ends (version k ∷ []) rest) four ends)

-- A line with a number, and then so many items.

record Counted {X : Type 0} (kind : ℕ → Line) (f : X → List Line) (P : ℕ → LatestFirst → Type 0) (said : LatestFirst) (lines : List Line) : Type 0 where
  items : List X
  rest : List Line
  is : lines ≡ kind (length items) ∷ (flat_map f items ++ rest)
  next : P 0 (listed (flat_map f items) (kind (length items) ∷ said))
  ends : Ends (listed (flat_map f items) (kind (length items) ∷ said)) rest

counted_from : {X : Type 0} (kind : ℕ → Line) (f : X → List Line) (P : ℕ → LatestFirst → Type 0) (said : LatestFirst) (lines rest : List Line) (n : ℕ) →
    lines ≡ kind n ∷ rest → Items f P n (kind n ∷ said) rest → Counted kind f P said lines
counted_from kind f P said lines rest n is all = record {
  items = all.items;
  rest = all.rest;
  is = is ∙ (λ i. kind (sym all.count i) ∷ all.is i);
  next = subst (λ (k : ℕ). P 0 (listed (flat_map f all.items) (kind k ∷ said))) (sym all.count) all.next;
  ends = subst (λ (k : ℕ). Ends (listed (flat_map f all.items) (kind k ∷ said)) all.rest) (sym all.count) all.ends;
}

tours_in : (grouped : Bool) (said : LatestFirst) (lines : List Line) → Stands grouped stands.Tours said → Ends said lines → Counted tours one_tour (AreTours grouped) said lines
tours_in grouped said lines are ends =
    let first = first_line stands.Tours said lines are.at (λ same. cc) ends in
    let kind = only_tours first.line first.follows in
    counted_from tours one_tour (AreTours grouped) said lines first.rest kind.0 (first.is ∙ ap (λ (l : Line). l ∷ first.rest) kind.1)
    (all_items one_tour (AreTours grouped) (next_tour grouped) kind.0 (tours kind.0 ∷ said) first.rest
    (record { at = refl; in_version = are.in_version; no_sets = are.no_sets }) (subst (λ (l : Line). Ends (l ∷ said) first.rest) kind.1 first.ends))

shores_in : (grouped : Bool) (said : LatestFirst) (lines : List Line) → Stands grouped stands.Shores said → Ends said lines → Counted shores one_shore (AreShores grouped) said lines
shores_in grouped said lines are ends =
    let first = first_line stands.Shores said lines are.at (λ same. cc) ends in
    let kind = only_shores first.line first.follows in
    counted_from shores one_shore (AreShores grouped) said lines first.rest kind.0 (first.is ∙ ap (λ (l : Line). l ∷ first.rest) kind.1)
    (all_items one_shore (AreShores grouped) (next_shore grouped) kind.0 (shores kind.0 ∷ said) first.rest
    (record { at = refl; in_version = are.in_version; no_sets = are.no_sets }) (subst (λ (l : Line). Ends (l ∷ said) first.rest) kind.1 first.ends))

-- in a text with groups there is a set
some_sets : (grouped : Bool) (said : LatestFirst) (n : ℕ) → eqb (version_of said) 4 ≡ grouped → Agrees said (sets n) → grouped ≡ true → n ≡ 0 → ⊥
some_sets grouped said n in_version agrees is none =
    let some : 1 ≤ n = agrees (eqb-true (version_of said) 4 (in_version ∙ is)) in
    omega (arith, some, none)

sets_in : (grouped : Bool) (said : LatestFirst) (lines : List Line) → Stands grouped stands.Sets said → Ends said lines → Counted sets (set_lines grouped) (AreSets grouped) said lines
sets_in grouped said lines are ends =
    let first = first_line stands.Sets said lines are.at (λ same. cc) ends in
    let kind = only_sets first.line first.follows in
    let agrees : Agrees said (sets kind.0) = subst (λ (l : Line). Agrees said l) kind.1 first.agrees in
    counted_from sets (set_lines grouped) (AreSets grouped) said lines first.rest kind.0 (first.is ∙ ap (λ (l : Line). l ∷ first.rest) kind.1)
    (all_items (set_lines grouped) (AreSets grouped) (next_set grouped) kind.0 (sets kind.0 ∷ said) first.rest
    (record { at = refl; in_version = are.in_version; some = λ is none. absurd (some_sets grouped said kind.0 are.in_version agrees is none) })
    (subst (λ (l : Line). Ends (l ∷ said) first.rest) kind.1 first.ends))

nodes_in : (said : LatestFirst) (lines : List Line) → next_of said ≡ stands.Nodes → Ends said lines → Counted nodes one_node AreNodes said lines
nodes_in said lines at ends =
    let first = first_line stands.Nodes said lines at (λ same. cc) ends in
    let kind = only_nodes first.line first.follows in
    counted_from nodes one_node AreNodes said lines first.rest kind.0 (first.is ∙ ap (λ (l : Line). l ∷ first.rest) kind.1)
    (all_items one_node AreNodes next_node kind.0 (nodes kind.0 ∷ said) first.rest (1, refl) (subst (λ (l : Line). Ends (l ∷ said) first.rest) kind.1 first.ends))

-- The groups of lines, from the last to the first.

none_more : (said : LatestFirst) (lines : List Line) → next_of said ≡ stands.Nothing → Ends said lines → lines ≡ []
none_more said [] at ends = refl
none_more said (line ∷ lines) at ends = absurd (none_after line (subst (λ (x : Next). IsTrue (follows x line)) at ends.good.0))

end_in : (said : LatestFirst) (lines : List Line) → next_of said ≡ stands.End → Ends said lines → lines ≡ end ∷ []
end_in said lines at ends =
    let first = first_line stands.End said lines at (λ same. cc) ends in
    let kind = only_end first.line first.follows in
    let none = none_more (first.line ∷ said) first.rest (ap (λ (l : Line). next_of (l ∷ said)) kind) first.ends in
    first.is ∙ (λ i. kind i ∷ none i)

abbrev pub node_lines : List Node → List Line
node_lines all = nodes (length all) ∷ (map node all ++ end ∷ [])

nodes_follow : (said : LatestFirst) (lines : List Line) → next_of said ≡ stands.Nodes → Ends said lines → (all : List Node) × (lines ≡ node_lines all)
nodes_follow said lines at ends =
    let c = nodes_in said lines at ends in
    (c.items, c.is ∙ (λ i. nodes (length c.items) ∷ (flat_map_single node c.items i ++ end_in _ c.rest c.next.1 c.ends i)))

abbrev pub price_lines : (grouped : Bool) → List Prices → List Node → List Line
price_lines grouped prices all = sets (length prices) ∷ (flat_map (set_lines grouped) prices ++ node_lines all)

-- a price set has the lines that it has without its groups
bare_lines : (all : List Prices) → flat_map (set_lines false) (map bare all) ≡ flat_map (set_lines false) all
bare_lines [] = refl
bare_lines (set ∷ all) = ap (λ (lines : List Line). set_lines false set ++ lines) (bare_lines all)

bare_none : (all : List Prices) → has_groups (map bare all) ≡ false
bare_none [] = refl
bare_none (set ∷ all) = bare_none all

-- the sets of a text, with their lines
record AreSetsOf (grouped : Bool) (prices : List Prices) (lines : List Line) (all : List Node) : Type 0 where
  are : lines ≡ price_lines grouped prices all
  is : has_groups prices ≡ grouped

sets_are : (grouped : Bool) (prices : List Prices) (said : LatestFirst) (lines : List Line) (all : List Node) → Stands grouped stands.Sets said →
    lines ≡ price_lines grouped prices all → AreSets grouped 0 (listed (flat_map (set_lines grouped) prices) (sets (length prices) ∷ said)) →
    (some : List Prices) × AreSetsOf grouped some lines all
sets_are false prices said lines all at are last = (
  map bare prices,
  record {
    are = are ∙ (λ i. sets (sym (length-map prices bare) i) ∷ (sym (bare_lines prices) i ++ node_lines all));
    is = bare_none prices;
  },
)
sets_are true prices said lines all at are last =
    let known : has_groups (sets_of (listed (flat_map (set_lines true) prices) (sets (length prices) ∷ said))) ≡ true = last.some refl refl in
    let same : sets_of (listed (flat_map (set_lines true) prices) (sets (length prices) ∷ said)) ≡ prices =
    ap (λ (d : Certificate). d.sets) (sets_said true prices (sets (length prices) ∷ said) at.in_version (any_said prices))
    ∙ ap (λ (before : List Prices). before ++ prices) at.no_sets in
    (prices, record { are = are; is = ap has_groups (sym same) ∙ known })

-- what the lines from the price sets on are
record Later (grouped : Bool) (lines : List Line) : Type 0 where
  prices : List Prices
  all : List Node
  are : lines ≡ price_lines grouped prices all
  is : has_groups prices ≡ grouped

sets_follow : (grouped : Bool) (said : LatestFirst) (lines : List Line) → Stands grouped stands.Sets said → Ends said lines → Later grouped lines
sets_follow grouped said lines at ends =
    let c = sets_in grouped said lines at ends in
    let later = nodes_follow (listed (flat_map (set_lines grouped) c.items) (sets (length c.items) ∷ said)) c.rest c.next.at c.ends in
    let one = sets_are grouped c.items said lines later.0 at (c.is ∙ (λ i. sets (length c.items) ∷ (flat_map (set_lines grouped) c.items ++ later.1 i))) c.next in
    record { prices = one.0; all = later.0; are = one.1.are; is = one.1.is }

abbrev pub pool_lines : (grouped : Bool) → List (List ℕ) → List Prices → List Node → List Line
pool_lines grouped pool prices all = shores (length pool) ∷ (map shore_line pool ++ price_lines grouped prices all)

shores_follow : (grouped : Bool) (said : LatestFirst) (lines : List Line) → Stands grouped stands.Shores said → Ends said lines →
    (pool : List (List ℕ)) × (prices : List Prices) × (all : List Node) × (lines ≡ pool_lines grouped pool prices all) × (has_groups prices ≡ grouped)
shores_follow grouped said lines at ends =
    let c = shores_in grouped said lines at ends in
    let later = sets_follow grouped (listed (flat_map one_shore c.items) (shores (length c.items) ∷ said)) c.rest c.next c.ends in
    (c.items, later.prices, later.all, c.is ∙ (λ i. shores (length c.items) ∷ (flat_map_single shore_line c.items i ++ later.are i)), later.is)

abbrev pub plan_lines : (grouped : Bool) → List (List Step) → List (List ℕ) → List Prices → List Node → List Line
plan_lines grouped plan pool prices all = tours (length plan) ∷ (map tour_line plan ++ pool_lines grouped pool prices all)

tours_follow : (grouped : Bool) (said : LatestFirst) (lines : List Line) → Stands grouped stands.Tours said → Ends said lines →
    (plan : List (List Step)) × (pool : List (List ℕ)) × (prices : List Prices) × (all : List Node)
    × (lines ≡ plan_lines grouped plan pool prices all) × (has_groups prices ≡ grouped)
tours_follow grouped said lines at ends =
    let c = tours_in grouped said lines at ends in
    let later = shores_follow grouped (listed (flat_map one_tour c.items) (tours (length c.items) ∷ said)) c.rest c.next c.ends in
    (c.items, later.0, later.1, later.2, c.is ∙ (λ i. tours (length c.items) ∷ (flat_map_single tour_line c.items i ++ later.3 i)), later.4)

-- the cost and the bound
record Values (said : LatestFirst) (lines : List Line) : Type 0 where
  price : ℕ
  low : ℕ
  rest : List Line
  is : lines ≡ cost price ∷ (bound low ∷ rest)
  ends : Ends (bound low ∷ (cost price ∷ said)) rest

values_in : (said : LatestFirst) (lines : List Line) → next_of said ≡ stands.Cost → Ends said lines → Values said lines
values_in said lines at ends =
    let first = first_line stands.Cost said lines at (λ same. cc) ends in
    let kind = only_cost first.line first.follows in
    let second = first_line stands.Bound (first.line ∷ said) first.rest (ap (λ (l : Line). next_of (l ∷ said)) kind.1) (λ same. cc) first.ends in
    let low = only_bound second.line second.follows in
    record {
      price = kind.0;
      low = low.0;
      rest = second.rest;
      is = first.is ∙ (λ i. first.line ∷ second.is i) ∙ (λ i. kind.1 i ∷ (low.1 i ∷ second.rest));
      ends = subst (λ (l : Line). Ends (l ∷ (cost kind.0 ∷ said)) second.rest) low.1
          (subst (λ (l : Line). Ends (second.line ∷ (l ∷ said)) second.rest) kind.1 second.ends);
    }

-- lines of a certificate, grouped from the right
abbrev pub in_groups : Bool → Certificate → List Line
in_groups grouped c = version_lines c.counts grouped ++ (cost c.cost ∷ (bound c.bound ∷ plan_lines grouped c.plan c.shores c.sets c.nodes))

pub grouped_lines : (c : Certificate) → lines_of c ≡ in_groups (has_groups c.sets) c
grouped_lines c = rw (append_assoc, append_assoc, append_assoc, append_assoc) refl

-- a certificate that has these lines, and with a group the numbers of the instance
record IsLinesOf (lines : List Line) : Type 0 where
  c : Certificate
  are : lines ≡ lines_of c
  counted : HasCountsForGroups c

lines_of_one : (lines : List Line) → Ends [] lines → IsLinesOf lines
lines_of_one lines ends =
    let head = head_of lines ends in
    let before = listed (version_lines head.size head.grouped) [] in
    let values = values_in before head.rest head.next.at head.ends in
    let at : Stands head.grouped stands.Tours (bound values.low ∷ (cost values.price ∷ before)) =
    record { at = refl; in_version = head.next.in_version; no_sets = head.next.no_sets } in
    let later = tours_follow head.grouped (bound values.low ∷ (cost values.price ∷ before)) values.rest at values.ends in
    let c : Certificate =
    record { counts = head.size; cost = values.price; bound = values.low; plan = later.0; shores = later.1; sets = later.2; nodes = later.3 } in
    record {
      c = c;
      are = head.is ∙ (λ i. version_lines head.size head.grouped ++ values.is i)
          ∙ (λ i. version_lines head.size head.grouped ++ (cost values.price ∷ (bound values.low ∷ later.4 i)))
          ∙ (λ i. in_groups (sym later.5 i) c) ∙ sym (grouped_lines c);
      counted = λ some. head.counted (sym later.5 ∙ some);
    }

-- Texts.

record IsOne (bytes : List ℕ) (c : Certificate) : Type 0 where
  lines : List Line
  good : AreGood [] lines
  are : lines ≡ lines_of c
  text : bytes ≡ flat_map whole_line lines
  counted : HasCountsForGroups c

is_one : (bytes : List ℕ) (c : Certificate) → IsTextOf bytes c → IsOne bytes c
is_one bytes c is =
    let all = read_lines [] (parts_of bytes) is.said [] is.reads in
    let one = lines_of_one all.lines (record { good = all.good; whole = ap next_of (sym all.is) ∙ is.whole }) in
    let said : is.said ≡ all_said one.c = all.is ∙ ap (λ (lines : List Line). listed lines []) one.are ∙ lines_said one.c in
    let same : one.c ≡ c = sym (all_is one.c one.counted) ∙ ap certificate_of (sym said) ∙ sym is.is in
    record {
      lines = all.lines;
      good = all.good;
      are = one.are ∙ ap lines_of same;
      text = text_of_lines bytes is.said [] all ∙ append-nil (flat_map whole_line all.lines);
      counted = subst HasCountsForGroups same one.counted;
    }

pub read_spellable : (bytes : List ℕ) (c : Certificate) → IsTextOf bytes c → IsSpellable c
read_spellable bytes c is =
    let one = is_one bytes c is in
    record { lines = subst (λ (lines : List Line). AreGood [] lines) one.are one.good; counted = one.counted }

pub read_spelled : (bytes : List ℕ) (c : Certificate) → IsTextOf bytes c → bytes ≡ text_of c
read_spelled bytes c is = let one = is_one bytes c is in one.text ∙ ap (flat_map whole_line) one.are
