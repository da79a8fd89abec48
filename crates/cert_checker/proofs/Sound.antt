-- What good lines have, whatever follows them.
use Rattle.std.proofs.Common.{◌≡◌, ℕ, zero, suc, ◌+◌, ◌-◌, ◌≤◌, ◌==◌, ◌↔◌, Bool, true, false, if◌then◌else◌, List, [], ◌∷◌, ◌++◌, length, refl, sym, ap, subst, ◌∙◌, arith, length-append, append-nil}
use Rattle.std.specs.List.{All}
use Rattle.std.proofs.lemmas.List.Elements.{All-nil, All-cons, All-weaker, All-append}
use Rattle.carp_base.specs.Problem.{Problem}
use Rattle.cut_pool.specs.Pools.{IsShoreNumber}
use Rattle.branch_rules.specs.Bonds.{GroupWeight}
use Rattle.branch_rules.specs.Prices.{Prices}
use Rattle.branch_rules.specs.Trees.{Support}
use Rattle.branch_rules.specs.declared.node.Node.{Node}
use Rattle.branch_rules.specs.declared.node.Node.TheVariants as tree
use Rattle.branch_rules.specs.declared.weight.Weight.{Weight}
use Rattle.cert_lines.specs.declared.item.Item.{Item}
use Rattle.cert_lines.specs.declared.item.Item.TheVariants as items
use Rattle.cert_lines.specs.declared.next.Next.{Next}
use Rattle.cert_lines.specs.declared.next.Next.TheVariants as stands
use Rattle.cert_lines.specs.Lines.{Line, Remainder, version, counts, cost, bound, tours, tour, shores, shore, sets, prices, weights, bonds, nodes, node, end}
use Rattle.cert_lines.specs.Order.{LatestFirst, version_of, next_of, after, follows, left_of, open_of, open_after, nodes_to_come, sets_to_come, shores_to_come, tours_to_come}
use Rattle.cert_lines.specs.Certificates.{certificate_of, nodes_of, services_of, sets_of, shores_of, unit_of, weights_of}
use Rattle.cert_lines.specs.Ranges.{IsInRange, IsWeightInRange}
use Rattle.cert_lines.specs.Agreement.{Agrees, BecomesWhole}
use Rattle.cert_lines.specs.Spelling.{AreGood}
use Rattle.cert_lines.specs.Texts.{items_of}
use Rattle.cert_format.specs.Certs.{stated_nodes}
use Rattle.cert_checker.specs.Claims.{IsSetRead, IsNodeRead}
use Rattle.cert_checker.specs.Streams.{AreSound, Fits, head_count, said_support, with_nodes}
use Rattle.cert_checker.proofs.Extending.{GoesOn, after_lines}
use Rattle.cert_checker.proofs.Spelled.{node_read}

true_false : false ≡ true → ⊥
true_false e = cc

-- Items.

pub head_count-append : (xs ys : List Item) → head_count (xs ++ ys) ≡ head_count xs + head_count ys
head_count-append [] ys = omega arith
head_count-append (items.Quiet ∷ xs) ys = head_count-append xs ys
head_count-append (items.Head ∷ xs) ys = omega (arith, head_count-append xs ys)
head_count-append (items.Node x ∷ xs) ys = head_count-append xs ys
head_count-append (items.Whole ∷ xs) ys = head_count-append xs ys

abbrev nodes_in : List Item → List Node
nodes_in [] = []
nodes_in (items.Node x ∷ given) = x ∷ nodes_in given
nodes_in (_ ∷ given) = nodes_in given

nodes_in-append : (xs ys : List Item) → nodes_in (xs ++ ys) ≡ nodes_in xs ++ nodes_in ys
nodes_in-append [] ys = refl
nodes_in-append (items.Quiet ∷ xs) ys = nodes_in-append xs ys
nodes_in-append (items.Head ∷ xs) ys = nodes_in-append xs ys
nodes_in-append (items.Node x ∷ xs) ys = ap (λ (r : List Node). x ∷ r) (nodes_in-append xs ys)
nodes_in-append (items.Whole ∷ xs) ys = nodes_in-append xs ys

nodes_are : (said : LatestFirst) → nodes_in (items_of said) ≡ nodes_of said
nodes_are [] = refl
nodes_are (version n ∷ said) = nodes_are said
nodes_are (counts c ∷ said) = nodes_are said
nodes_are (cost n ∷ said) = nodes_are said
nodes_are (bound n ∷ said) = nodes_are said
nodes_are (tours n ∷ said) = nodes_are said
nodes_are (tour n steps ∷ said) = nodes_are said
nodes_are (shores n ∷ said) = nodes_are said
nodes_are (shore n vertices ∷ said) = nodes_are said
nodes_are (sets n ∷ said) = nodes_are said
nodes_are (prices unit n services ∷ said) = nodes_are said
nodes_are (weights n given ∷ said) = nodes_are said
nodes_are (bonds n groups rest ∷ said) = nodes_are said
nodes_are (nodes n ∷ said) = nodes_in-append (items_of said) (items.Head ∷ []) ∙ append-nil (nodes_in (items_of said)) ∙ nodes_are said
nodes_are (node x ∷ said) = nodes_in-append (items_of said) (items.Node x ∷ []) ∙ ap (λ (r : List Node). r ++ x ∷ []) (nodes_are said)
nodes_are (end ∷ said) = nodes_in-append (items_of said) (items.Whole ∷ []) ∙ append-nil (nodes_in (items_of said)) ∙ nodes_are said

-- the nodes after more items
pub nodes_given : (said before : LatestFirst) (given : List Item) → items_of said ≡ items_of before ++ given → nodes_of said ≡ nodes_of before ++ nodes_in given
nodes_given said before given gives =
    sym (nodes_are said) ∙ ap nodes_in gives ∙ nodes_in-append (items_of before) given ∙ ap (λ (r : List Node). r ++ nodes_in given) (nodes_are before)

-- How many subtrees are still to come after some nodes.

abbrev opens : List Node → ℕ → ℕ
opens [] n = n
opens (x ∷ xs) n = opens xs (open_after n x)

opens_more : (xs : List Node) (x : Node) (n : ℕ) → opens (xs ++ x ∷ []) n ≡ open_after (opens xs n) x
opens_more [] x n = refl
opens_more (y ∷ xs) x n = opens_more xs x (open_after n y)

fits_more : (xs : List Node) (x : Node) (n : ℕ) → Fits xs n → 1 ≤ opens xs n → Fits (xs ++ x ∷ []) n
fits_more [] x n fits some = (some, tt)
fits_more (y ∷ xs) x n fits some = (fits.0, fits_more xs x (open_after n y) fits.1 some)

-- Where the lines stand.

record IsEarly (heads : ℕ) (all : List Node) : Type 0 where
  none : heads ≡ 0
  empty : all ≡ []

record IsInTree (left subtrees heads stated : ℕ) (all : List Node) : Type 0 where
  one : heads ≡ 1
  some_stated : 1 ≤ stated
  few_stated : stated ≤ 2097153
  counted : length all + left ≡ stated
  some_left : 1 ≤ left
  some_open : 1 ≤ subtrees
  open_is : opens all 1 ≡ subtrees

record IsDone (heads stated : ℕ) (all : List Node) : Type 0 where
  one : heads ≡ 1
  some_stated : 1 ≤ stated
  few : length all ≤ 2097153

abbrev InState : Next → (heads stated : ℕ) → List Node → Type 0
InState (stands.Node left subtrees) heads stated all = IsInTree left subtrees heads stated all
InState stands.End heads stated all = IsDone heads stated all
InState stands.Nothing heads stated all = IsDone heads stated all
InState _ heads stated all = IsEarly heads all

abbrev IsQuiet : Line → Type 0
IsQuiet (nodes n) = ⊥
IsQuiet (node x) = ⊥
IsQuiet end = ⊥
IsQuiet _ = Unit {0}

early_in_tree : (left subtrees : ℕ) (line : Line) → IsQuiet line → follows (stands.Node left subtrees) line ≡ true → ⊥
early_in_tree left subtrees (node x) quiet follows = quiet
early_in_tree left subtrees _ quiet follows = true_false follows

early_at_end : (line : Line) → IsQuiet line → follows stands.End line ≡ true → ⊥
early_at_end end quiet follows = quiet
early_at_end _ quiet follows = true_false follows

early_at_nothing : (line : Line) → follows stands.Nothing line ≡ true → ⊥
early_at_nothing _ follows = true_false follows

-- before a line that is none of the tree
early_before : (next : Next) (line : Line) (heads stated : ℕ) (all : List Node) → IsQuiet line → follows next line ≡ true → InState next heads stated all → IsEarly heads all
early_before (stands.Node left subtrees) line heads stated all quiet follows state = absurd (early_in_tree left subtrees line quiet follows)
early_before stands.End line heads stated all quiet follows state = absurd (early_at_end line quiet follows)
early_before stands.Nothing line heads stated all quiet follows state = absurd (early_at_nothing line follows)
early_before _ line heads stated all quiet follows state = state

early_if : (b : Bool) (heads stated : ℕ) (all : List Node) → IsEarly heads all → InState (if b then stands.Cost else stands.Counts) heads stated all
early_if true heads stated all early = early
early_if false heads stated all early = early

early_tours : (n heads stated : ℕ) (all : List Node) → IsEarly heads all → InState (tours_to_come n) heads stated all
early_tours zero heads stated all early = early
early_tours (suc n) heads stated all early = early

early_shores : (n heads stated : ℕ) (all : List Node) → IsEarly heads all → InState (shores_to_come n) heads stated all
early_shores zero heads stated all early = early
early_shores (suc n) heads stated all early = early

early_sets : (n heads stated : ℕ) (all : List Node) → IsEarly heads all → InState (sets_to_come n) heads stated all
early_sets zero heads stated all early = early
early_sets (suc n) heads stated all early = early

early_bonds : (b : Bool) (left heads stated : ℕ) (all : List Node) → IsEarly heads all → InState (if b then stands.Bonds left else sets_to_come (left - 1)) heads stated all
early_bonds true left heads stated all early = early
early_bonds false left heads stated all early = early_sets (left - 1) heads stated all early

-- after a line that is none of the tree
early_after : (v : ℕ) (next : Next) (line : Line) (heads stated : ℕ) (all : List Node) → IsQuiet line → IsEarly heads all → InState (after v next line) heads stated all
early_after v next (version n) heads stated all quiet early = early_if (n == 1) heads stated all early
early_after v next (counts c) heads stated all quiet early = early
early_after v next (cost n) heads stated all quiet early = early
early_after v next (bound n) heads stated all quiet early = early
early_after v next (tours n) heads stated all quiet early = early_tours n heads stated all early
early_after v next (tour n steps) heads stated all quiet early = early_tours (left_of next - 1) heads stated all early
early_after v next (shores n) heads stated all quiet early = early_shores n heads stated all early
early_after v next (shore n vertices) heads stated all quiet early = early_shores (left_of next - 1) heads stated all early
early_after v next (sets n) heads stated all quiet early = early_sets n heads stated all early
early_after v next (prices unit n services) heads stated all quiet early = early
early_after v next (weights n given) heads stated all quiet early = early_bonds (v == 4) (left_of next) heads stated all early
early_after v next (bonds n groups rest) heads stated all quiet early = early_sets (left_of next - 1) heads stated all early
early_after v next (nodes n) heads stated all quiet early = absurd quiet
early_after v next (node x) heads stated all quiet early = absurd quiet
early_after v next end heads stated all quiet early = absurd quiet

-- the number of nodes
tree_begins : (n heads : ℕ) (all : List Node) → 1 ≤ n → n ≤ 2097153 → heads ≡ 1 → all ≡ [] → InState (nodes_to_come n 1) heads n all
tree_begins zero heads all some few one empty = absurd (omega (arith, some))
tree_begins (suc n) heads all some few one empty = record {
  one = one;
  some_stated = some;
  few_stated = few;
  counted = omega (arith, ap length empty);
  some_left = omega arith;
  some_open = omega arith;
  open_is = ap (λ (xs : List Node). opens xs 1) empty;
}

before_nodes : (next : Next) (n heads stated : ℕ) (all : List Node) → follows next (nodes n) ≡ true → InState next heads stated all → IsEarly heads all
before_nodes stands.Nodes n heads stated all follows state = state
before_nodes _ n heads stated all follows state = absurd (true_false follows)

-- a node
tree_goes : (rest left subtrees heads stated : ℕ) (all : List Node) (x : Node) → left ≡ rest + 1 → IsInTree left subtrees heads stated all → ((open_after subtrees x ≡ 0) ↔ (left ≡ 1)) →
    InState (nodes_to_come rest (open_after subtrees x)) heads stated (all ++ x ∷ [])
tree_goes zero left subtrees heads stated all x is state whole = record {
  one = state.one;
  some_stated = state.some_stated;
  few = omega (arith, state.counted, state.few_stated, is, length-append all (x ∷ []));
}
tree_goes (suc rest) left subtrees heads stated all x is state whole = record {
  one = state.one;
  some_stated = state.some_stated;
  few_stated = state.few_stated;
  counted = omega (arith, state.counted, is, length-append all (x ∷ []));
  some_left = omega arith;
  some_open = some_more (open_after subtrees x) (λ none. omega (arith, whole.0 none, is));
  open_is = opens_more all x 1 ∙ ap (λ (k : ℕ). open_after k x) state.open_is;
}
  where
    some_more : (k : ℕ) → (k ≡ 0 → ⊥) → 1 ≤ k
    some_more zero some = absurd (some refl)
    some_more (suc k) some = omega arith

record AtNode (next : Next) (heads stated : ℕ) (all : List Node) : Type 0 where
  left : ℕ
  subtrees : ℕ
  is : next ≡ stands.Node left subtrees
  state : IsInTree left subtrees heads stated all

before_node : (next : Next) (x : Node) (heads stated : ℕ) (all : List Node) → follows next (node x) ≡ true → InState next heads stated all → AtNode next heads stated all
before_node (stands.Node left subtrees) x heads stated all follows state = record { left = left; subtrees = subtrees; is = refl; state = state }
before_node _ x heads stated all follows state = absurd (true_false follows)

after_node : (next : Next) (x : Node) (heads stated : ℕ) (all : List Node) → AtNode next heads stated all → BecomesWhole (left_of next) (open_of next) x →
    InState (nodes_to_come (left_of next - 1) (open_after (open_of next) x)) heads stated (all ++ x ∷ [])
after_node next x heads stated all at whole =
    let whole' : BecomesWhole at.left at.subtrees x = subst (λ (n : Next). BecomesWhole (left_of n) (open_of n) x) at.is whole in
    subst (λ (n : Next). InState (nodes_to_come (left_of n - 1) (open_after (open_of n) x)) heads stated (all ++ x ∷ [])) (sym at.is)
    (tree_goes (at.left - 1) at.left at.subtrees heads stated all x (omega (arith, at.state.some_left)) at.state whole')

-- the end
at_end : (next : Next) (heads stated : ℕ) (all : List Node) → follows next end ≡ true → InState next heads stated all → IsDone heads stated all
at_end stands.End heads stated all follows state = state
at_end _ heads stated all follows state = absurd (true_false follows)

-- Shores and sets that are there stay there.

node_stays : (s t : Support) (x : Node) → length s.pool ≤ length t.pool → length s.sets ≤ length t.sets → IsNodeRead s x → IsNodeRead t x
node_stays s t (tree.Pair a b) pools long read = tt
node_stays s t (tree.Cut border k) pools long read = (record { from_one = read.0.from_one; in_range = omega (arith, read.0.in_range, pools) }, read.1)
node_stays s t (tree.Price set) pools long read = record { from_one = read.from_one; in_range = omega (arith, read.in_range, long) }
node_stays s t tree.Void pools long read = tt
node_stays s t tree.Fixed pools long read = tt

weights_stay : (s t : Support) (given : List Weight) → length s.pool ≤ length t.pool → All (λ w. IsShoreNumber s.pool w.shore) given → All (λ w. IsShoreNumber t.pool w.shore) given
weights_stay s t given pools read =
    All-weaker (λ (w : Weight). IsShoreNumber s.pool w.shore) (λ (w : Weight). IsShoreNumber t.pool w.shore)
    (λ w number. record { from_one = number.from_one; in_range = omega (arith, number.in_range, pools) }) given read

set_stays : (s t : Support) (set : Prices) → length s.pool ≤ length t.pool → IsSetRead s set → IsSetRead t set
set_stays s t set pools read = weights_stay s t set.weights pools read

-- a set that comes, or not
sets_if : (P : Prices → Type 0) (b : Bool) (old : List Prices) (set : Prices) → All P old → P set → All P (if b then old else old ++ set ∷ [])
sets_if P true old set all is = all
sets_if P false old set all is = All-append P old (set ∷ []) all (All-cons P set [] is (All-nil P))

no_fewer_if : (b : Bool) (old : List Prices) (set : Prices) → length old ≤ length (if b then old else old ++ set ∷ [])
no_fewer_if true old set = omega arith
no_fewer_if false old set = omega (arith, length-append old (set ∷ []))

-- what good lines keep
record Kept (p : Problem) (said : LatestFirst) : Type 0 where
  sets_read : All (IsSetRead (said_support p said)) (sets_of said)
  read : All (IsNodeRead (said_support p said)) (nodes_of said)
  fits : Fits (nodes_of said) 1
  weights_read : All (λ w. IsShoreNumber (shores_of said) w.shore) (weights_of said)
  state : InState (next_of said) (head_count (items_of said)) (stated_nodes said) (nodes_of said)

keep_quiet : (p : Problem) (line : Line) (said : LatestFirst) → IsQuiet line → follows (next_of said) line ≡ true → Kept p said → InState (after (version_of said) (next_of said) line) (head_count (items_of said)) (stated_nodes said) (nodes_of said)
keep_quiet p line said quiet follows kept =
    early_after (version_of said) (next_of said) line (head_count (items_of said)) (stated_nodes said) (nodes_of said) quiet
    (early_before (next_of said) line (head_count (items_of said)) (stated_nodes said) (nodes_of said) quiet follows kept.state)

keep_shore : (p : Problem) (n : ℕ) (vertices : List ℕ) (said : LatestFirst) → follows (next_of said) (shore n vertices) ≡ true → Kept p said → Kept p (shore n vertices ∷ said)
keep_shore p n vertices said follows kept =
    let s = said_support p said in
    let t = said_support p (shore n vertices ∷ said) in
    let pools : length s.pool ≤ length t.pool = omega (arith, length-append (shores_of said) (vertices ∷ [])) in
    record {
      sets_read = All-weaker (IsSetRead s) (IsSetRead t) (λ set read. set_stays s t set pools read) (sets_of said) kept.sets_read;
      read = All-weaker (IsNodeRead s) (IsNodeRead t) (λ x read. node_stays s t x pools (omega arith) read) (nodes_of said) kept.read;
      fits = kept.fits;
      weights_read = weights_stay s t (weights_of said) pools kept.weights_read;
      state = keep_quiet p (shore n vertices) said tt follows kept;
    }

keep_weights : (p : Problem) (n : ℕ) (given : List Weight) (said : LatestFirst) → follows (next_of said) (weights n given) ≡ true → All (IsWeightInRange (length (shores_of said))) given → Kept p said →
    Kept p (weights n given ∷ said)
keep_weights p n given said follows fine kept =
    let s = said_support p said in
    let t = said_support p (weights n given ∷ said) in
    let b : Bool = version_of said == 4 in
    let set : Prices = record { unit = unit_of said; services = services_of said; weights = given; groups = [] } in
    let new : All (λ w. IsShoreNumber (shores_of said) w.shore) given =
    All-weaker (IsWeightInRange (length (shores_of said))) (λ w. IsShoreNumber (shores_of said) w.shore)
    (λ w in_range. record { from_one = in_range.shore.from_first; in_range = in_range.shore.to_last }) given fine in
    record {
      sets_read = sets_if (IsSetRead t) b (sets_of said) set (All-weaker (IsSetRead s) (IsSetRead t) (λ old read. set_stays s t old (omega arith) read) (sets_of said) kept.sets_read) new;
      read = All-weaker (IsNodeRead s) (IsNodeRead t) (λ x read. node_stays s t x (omega arith) (no_fewer_if b (sets_of said) set) read) (nodes_of said) kept.read;
      fits = kept.fits;
      weights_read = new;
      state = keep_quiet p (weights n given) said tt follows kept;
    }

keep_bonds : (p : Problem) (n : ℕ) (groups : List GroupWeight) (rest : Remainder) (said : LatestFirst) → follows (next_of said) (bonds n groups rest) ≡ true → Kept p said → Kept p (bonds n groups rest ∷ said)
keep_bonds p n groups rest said follows kept =
    let s = said_support p said in
    let t = said_support p (bonds n groups rest ∷ said) in
    let set : Prices = record { unit = unit_of said; services = services_of said; weights = weights_of said; groups = groups } in
    record {
      sets_read = All-append (IsSetRead t) (sets_of said) (set ∷ [])
          (All-weaker (IsSetRead s) (IsSetRead t) (λ old read. set_stays s t old (omega arith) read) (sets_of said) kept.sets_read)
          (All-cons (IsSetRead t) set [] kept.weights_read (All-nil (IsSetRead t)));
      read = All-weaker (IsNodeRead s) (IsNodeRead t) (λ x read. node_stays s t x (omega arith) (omega (arith, length-append (sets_of said) (set ∷ []))) read) (nodes_of said) kept.read;
      fits = kept.fits;
      weights_read = kept.weights_read;
      state = keep_quiet p (bonds n groups rest) said tt follows kept;
    }

keep_nodes : (p : Problem) (n : ℕ) (said : LatestFirst) → follows (next_of said) (nodes n) ≡ true → 1 ≤ n → n ≤ 2097153 → Kept p said → Kept p (nodes n ∷ said)
keep_nodes p n said follows some few kept =
    let early = before_nodes (next_of said) n (head_count (items_of said)) (stated_nodes said) (nodes_of said) follows kept.state in
    record {
      sets_read = kept.sets_read;
      read = kept.read;
      fits = kept.fits;
      weights_read = kept.weights_read;
      state = tree_begins n _ (nodes_of said) some few (omega (arith, head_count-append (items_of said) (items.Head ∷ []), early.none)) early.empty;
    }

keep_node : (p : Problem) (x : Node) (said : LatestFirst) → follows (next_of said) (node x) ≡ true → IsInRange said (node x) → Agrees said (node x) → Kept p said → Kept p (node x ∷ said)
keep_node p x said follows in_range agrees kept =
    let at = before_node (next_of said) x (head_count (items_of said)) (stated_nodes said) (nodes_of said) follows kept.state in
    let same : head_count (items_of said) ≡ head_count (items_of said ++ items.Node x ∷ []) = omega (arith, head_count-append (items_of said) (items.Node x ∷ [])) in
    record {
      sets_read = kept.sets_read;
      read = All-append (IsNodeRead (said_support p said)) (nodes_of said) (x ∷ []) kept.read
          (All-cons (IsNodeRead (said_support p said)) x [] (node_read (said_support p said) _ _ x refl refl in_range) (All-nil (IsNodeRead (said_support p said))));
      fits = fits_more (nodes_of said) x 1 kept.fits (omega (arith, at.state.open_is, at.state.some_open));
      weights_read = kept.weights_read;
      state = subst (λ (k : ℕ). InState (after (version_of said) (next_of said) (node x)) k (stated_nodes said) (nodes_of said ++ x ∷ [])) same
          (after_node (next_of said) x (head_count (items_of said)) (stated_nodes said) (nodes_of said) at agrees.1);
    }

keep_end : (p : Problem) (said : LatestFirst) → follows (next_of said) end ≡ true → Kept p said → Kept p (end ∷ said)
keep_end p said follows kept =
    let done = at_end (next_of said) (head_count (items_of said)) (stated_nodes said) (nodes_of said) follows kept.state in
    record {
      sets_read = kept.sets_read;
      read = kept.read;
      fits = kept.fits;
      weights_read = kept.weights_read;
      state = record { one = omega (arith, head_count-append (items_of said) (items.Whole ∷ []), done.one); some_stated = done.some_stated; few = done.few };
    }

keep : (p : Problem) (line : Line) (said : LatestFirst) → follows (next_of said) line ≡ true → IsInRange said line → Agrees said line → Kept p said → Kept p (line ∷ said)
keep p (shore n vertices) said follows in_range agrees kept = keep_shore p n vertices said follows kept
keep p (weights n given) said follows in_range agrees kept = keep_weights p n given said follows in_range.1 kept
keep p (bonds n groups rest) said follows in_range agrees kept = keep_bonds p n groups rest said follows kept
keep p (nodes n) said follows in_range agrees kept = keep_nodes p n said follows in_range.from_first in_range.to_last kept
keep p (node x) said follows in_range agrees kept = keep_node p x said follows in_range agrees kept
keep p end said follows in_range agrees kept = keep_end p said follows kept
keep p (version n) said follows in_range agrees kept = record { sets_read = kept.sets_read; read = kept.read; fits = kept.fits; weights_read = kept.weights_read; state = keep_quiet p (version n) said tt follows kept }
keep p (counts c) said follows in_range agrees kept = record { sets_read = kept.sets_read; read = kept.read; fits = kept.fits; weights_read = kept.weights_read; state = keep_quiet p (counts c) said tt follows kept }
keep p (cost n) said follows in_range agrees kept = record { sets_read = kept.sets_read; read = kept.read; fits = kept.fits; weights_read = kept.weights_read; state = keep_quiet p (cost n) said tt follows kept }
keep p (bound n) said follows in_range agrees kept = record { sets_read = kept.sets_read; read = kept.read; fits = kept.fits; weights_read = kept.weights_read; state = keep_quiet p (bound n) said tt follows kept }
keep p (tours n) said follows in_range agrees kept = record { sets_read = kept.sets_read; read = kept.read; fits = kept.fits; weights_read = kept.weights_read; state = keep_quiet p (tours n) said tt follows kept }
keep p (tour n steps) said follows in_range agrees kept = record { sets_read = kept.sets_read; read = kept.read; fits = kept.fits; weights_read = kept.weights_read; state = keep_quiet p (tour n steps) said tt follows kept }
keep p (shores n) said follows in_range agrees kept = record { sets_read = kept.sets_read; read = kept.read; fits = kept.fits; weights_read = kept.weights_read; state = keep_quiet p (shores n) said tt follows kept }
keep p (sets n) said follows in_range agrees kept = record { sets_read = kept.sets_read; read = kept.read; fits = kept.fits; weights_read = kept.weights_read; state = keep_quiet p (sets n) said tt follows kept }
keep p (prices unit n services) said follows in_range agrees kept =
    record { sets_read = kept.sets_read; read = kept.read; fits = kept.fits; weights_read = kept.weights_read; state = keep_quiet p (prices unit n services) said tt follows kept }

keep_lines : (p : Problem) (lines : List Line) (said : LatestFirst) → AreGood said lines → Kept p said → Kept p (after_lines lines said)
keep_lines p [] said good kept = kept
keep_lines p (line ∷ lines) said good kept = keep_lines p lines (line ∷ said) good.3 (keep p line said good.0 good.1 good.2 kept)

none_kept : (p : Problem) → Kept p []
none_kept p = record { sets_read = All-nil (IsSetRead (said_support p [])); read = All-nil (IsNodeRead (said_support p [])); fits = tt; weights_read = All-nil (λ (w : Weight). IsShoreNumber [] w.shore); state = record { none = refl; empty = refl } }

all_kept : (p : Problem) (said : LatestFirst) → GoesOn [] said → Kept p said
all_kept p said on = subst (Kept p) (sym on.is) (keep_lines p on.lines [] on.good (none_kept p))

record InAll (heads stated : ℕ) (all : List Node) : Type 0 where
  few : length all ≤ 2097153
  one : heads ≤ 1
  no_nodes : heads ≡ 0 → all ≡ []
  some_stated : heads ≡ 1 → 1 ≤ stated

in_all : (next : Next) (heads stated : ℕ) (all : List Node) → InState next heads stated all → InAll heads stated all
in_all (stands.Node left subtrees) heads stated all state = record {
  few = omega (arith, state.counted, state.few_stated);
  one = omega (arith, state.one);
  no_nodes = λ none. absurd (omega (arith, none, state.one));
  some_stated = λ one. state.some_stated;
}
in_all stands.End heads stated all state = record { few = state.few; one = omega (arith, state.one); no_nodes = λ none. absurd (omega (arith, none, state.one)); some_stated = λ one. state.some_stated }
in_all stands.Nothing heads stated all state = record { few = state.few; one = omega (arith, state.one); no_nodes = λ none. absurd (omega (arith, none, state.one)); some_stated = λ one. state.some_stated }
in_all _ heads stated all state = record {
  few = omega (arith, ap length state.empty);
  one = omega (arith, state.none);
  no_nodes = λ none. state.empty;
  some_stated = λ one. absurd (omega (arith, one, state.none));
}

-- good lines are sound
pub sound_lines : (p : Problem) (said : LatestFirst) → GoesOn [] said → AreSound p said
sound_lines p said on =
    let kept = all_kept p said on in
    let a = in_all (next_of said) (head_count (items_of said)) (stated_nodes said) (nodes_of said) kept.state in
    record { sets_read = kept.sets_read; read = kept.read; fits = kept.fits; few = a.few; one = a.one; no_nodes = a.no_nodes; stated = a.some_stated }

-- after the last line the head was given
pub whole_lines : (p : Problem) (said : LatestFirst) → GoesOn [] said → next_of said ≡ stands.Nothing → head_count (items_of said) ≡ 1
whole_lines p said on whole =
    let kept = all_kept p said on in
    let done = subst (λ (n : Next). InState n (head_count (items_of said)) (stated_nodes said) (nodes_of said)) whole kept.state in
    done.one

-- Once the number of nodes stands, what stands before it does not change.

abbrev IsLate : Next → Type 0
IsLate (stands.Node left subtrees) = Unit {0}
IsLate stands.End = Unit {0}
IsLate stands.Nothing = Unit {0}
IsLate _ = ⊥

late_state : (next : Next) (heads stated : ℕ) (all : List Node) → InState next heads stated all → heads ≡ 1 → IsLate next
late_state (stands.Node left subtrees) heads stated all state one = tt
late_state stands.End heads stated all state one = tt
late_state stands.Nothing heads stated all state one = tt
late_state _ heads stated all state one = absurd (omega (arith, one, state.none))

abbrev IsLateLine : Line → Type 0
IsLateLine (node x) = Unit {0}
IsLateLine end = Unit {0}
IsLateLine _ = ⊥

late_to_come : (n subtrees : ℕ) → IsLate (nodes_to_come n subtrees)
late_to_come zero subtrees = tt
late_to_come (suc n) subtrees = tt

late_in_tree : (left subtrees : ℕ) (line : Line) → follows (stands.Node left subtrees) line ≡ true → IsLateLine line
late_in_tree left subtrees (node x) follows = tt
late_in_tree left subtrees _ follows = absurd (true_false follows)

late_at_end : (line : Line) → follows stands.End line ≡ true → IsLateLine line
late_at_end end follows = tt
late_at_end _ follows = absurd (true_false follows)

late_line : (next : Next) (line : Line) → IsLate next → follows next line ≡ true → IsLateLine line
late_line (stands.Node left subtrees) line late follows = late_in_tree left subtrees line follows
late_line stands.End line late follows = late_at_end line follows
late_line stands.Nothing line late follows = absurd (early_at_nothing line follows)
late_line _ line late follows = absurd late

late_after : (v : ℕ) (next : Next) (line : Line) → IsLateLine line → IsLate (after v next line)
late_after v next (node x) late = late_to_come (left_of next - 1) (open_after (open_of next) x)
late_after v next end late = tt
late_after v next _ late = absurd late

same_head : (line : Line) (said : LatestFirst) → IsLateLine line → with_nodes (certificate_of (line ∷ said)) [] ≡ with_nodes (certificate_of said) []
same_head (node x) said late = refl
same_head end said late = refl
same_head _ said late = absurd late

same_heads : (lines : List Line) (said : LatestFirst) → IsLate (next_of said) → AreGood said lines → with_nodes (certificate_of (after_lines lines said)) [] ≡ with_nodes (certificate_of said) []
same_heads [] said late good = refl
same_heads (line ∷ lines) said late good =
    let here = late_line (next_of said) line late good.0 in
    same_heads lines (line ∷ said) (late_after (version_of said) (next_of said) line here) good.3 ∙ same_head line said here

pub steady_head : (p : Problem) (before said : LatestFirst) → GoesOn [] before → GoesOn before said → head_count (items_of before) ≡ 1 → with_nodes (certificate_of said) [] ≡ with_nodes (certificate_of before) []
steady_head p before said from on one =
    let kept = all_kept p before from in
    let late = late_state (next_of before) _ _ _ kept.state one in
    ap (λ (x : LatestFirst). with_nodes (certificate_of x) []) on.is ∙ same_heads on.lines before late on.good
