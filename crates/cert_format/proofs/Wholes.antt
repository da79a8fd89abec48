-- The pieces are the text of the certificate.
use Rattle.std.proofs.Common.{◌≡◌, ℕ, Bool, true, false, List, [], ◌∷◌, ◌++◌, map, length, codes, Option, Some, None, refl, sym, ap, ◌∙◌, append_assoc}
use Rattle.std.specs.List.{flat_map}
use Rattle.std.proofs.lemmas.Grind.{flat_map-append}
use Rattle.std.proofs.lemmas.List.{append-nil}
use Rattle.std.proofs.lemmas.List.Folds.{flat_map-map}
use Rattle.plan_model.specs.declared.step.Step.{Step}
use Rattle.branch_rules.specs.Bonds.{GroupWeight}
use Rattle.branch_rules.specs.Prices.{Prices}
use Rattle.branch_rules.specs.declared.weight.Weight.{Weight}
use Rattle.branch_rules.specs.declared.node.Node.{Node}
use Rattle.branch_rules.specs.declared.node.Node.TheVariants.{Pair, Cut, Price, Void, Fixed}
use Rattle.cert_lines.specs.declared.counts.Counts.{Counts}
use Rattle.cert_lines.specs.Numerals.{numeral, signed_numeral}
use Rattle.cert_lines.specs.Lines.{version, counts, cost, bound, tours, shores, sets, prices, weights, bonds, nodes, node, nothing, after_blank, step_word, weight_words, group_words}
use Rattle.cert_lines.specs.Certificates.{Certificate, has_groups}
use Rattle.cert_lines.specs.Spelling.{whole_line, version_lines, tour_line, shore_line, group_lines, set_lines, text_of}
use Rattle.cert_format.specs.Pieces.{number_piece, price_piece, weight_piece, group_piece, keyword_line, pair_line, sizes_piece, loads_piece, counts_line, tour_text, shore_text, prices_head, prices_text, weights_text, bonds_text, groups_text, set_text, node_text, second_text, version_text, plan_text, pool_text, sets_text, nodes_text, values_text}

-- a word, a number and items, each after a blank, and the LF
line_of_items : (word one items : List ℕ) → (word ++ (one ++ items)) ++ 10 ∷ [] ≡ word ++ (one ++ (items ++ 10 ∷ []))
line_of_items word one items = append_assoc word (one ++ items) (10 ∷ []) ∙ ap (λ (bytes : List ℕ). word ++ bytes) (append_assoc one items (10 ∷ []))

number_is : (word : List ℕ) (n : ℕ) → keyword_line word n ≡ (word ++ (number_piece n ++ [])) ++ 10 ∷ []
unfolding keyword_line
number_is word n = sym (line_of_items word (number_piece n) [])

pair_is : (word : List ℕ) (a b : ℕ) → pair_line word a b ≡ (word ++ (number_piece a ++ (number_piece b ++ []))) ++ 10 ∷ []
unfolding pair_line
pair_is word a b =
    sym (line_of_items word (number_piece a) (number_piece b ++ [])
    ∙ ap (λ (bytes : List ℕ). word ++ (number_piece a ++ bytes)) (append_assoc (number_piece b) [] (10 ∷ [])))

tour_is : (steps : List Step) → tour_text steps ≡ whole_line (tour_line steps)
unfolding tour_text
tour_is steps =
    ap (λ (items : List ℕ). codes "tour" ++ (number_piece (length steps) ++ (items ++ 10 ∷ []))) (sym (flat_map-map after_blank step_word steps))
    ∙ sym (line_of_items (codes "tour") (number_piece (length steps)) (flat_map after_blank (map step_word steps)))

shore_is : (vertices : List ℕ) → shore_text vertices ≡ whole_line (shore_line vertices)
unfolding shore_text
shore_is vertices =
    ap (λ (items : List ℕ). codes "shore" ++ (number_piece (length vertices) ++ (items ++ 10 ∷ []))) (sym (flat_map-map after_blank numeral vertices))
    ∙ sym (line_of_items (codes "shore") (number_piece (length vertices)) (flat_map after_blank (map numeral vertices)))

prices_is : (set : Prices) → prices_text set ≡ whole_line (prices set.unit (length set.services) set.services)
unfolding prices_text prices_head
prices_is set =
    let items = flat_map price_piece set.services in
    append_assoc (codes "prices") (number_piece set.unit ++ number_piece (length set.services)) (items ++ 10 ∷ [])
    ∙ ap (λ (bytes : List ℕ). codes "prices" ++ bytes) (append_assoc (number_piece set.unit) (number_piece (length set.services)) (items ++ 10 ∷ []))
    ∙ ap (λ (bytes : List ℕ). codes "prices" ++ (number_piece set.unit ++ bytes)) (sym (append_assoc (number_piece (length set.services)) items (10 ∷ [])))
    ∙ sym (line_of_items (codes "prices") (number_piece set.unit) (number_piece (length set.services) ++ items))
    ∙ ap (λ (bytes : List ℕ). (codes "prices" ++ (number_piece set.unit ++ (number_piece (length set.services) ++ bytes))) ++ 10 ∷ [])
    (sym (flat_map-map after_blank signed_numeral set.services))

weight_items : (items : List Weight) → flat_map weight_piece items ≡ flat_map after_blank (flat_map weight_words items)
unfolding weight_piece
weight_items [] = refl
weight_items (w ∷ items) =
    append_assoc (number_piece w.shore) (price_piece w.weight) (flat_map weight_piece items)
    ∙ ap (λ (bytes : List ℕ). number_piece w.shore ++ (price_piece w.weight ++ bytes)) (weight_items items)

weights_is : (set : Prices) → weights_text set ≡ whole_line (weights (length set.weights) set.weights)
unfolding weights_text
weights_is set =
    ap (λ (items : List ℕ). codes "weights" ++ (number_piece (length set.weights) ++ (items ++ 10 ∷ []))) (weight_items set.weights)
    ∙ sym (line_of_items (codes "weights") (number_piece (length set.weights)) (flat_map after_blank (flat_map weight_words set.weights)))

group_items : (groups : List GroupWeight) → flat_map group_piece groups ≡ flat_map after_blank (flat_map group_words groups)
unfolding group_piece
group_items [] = refl
group_items (w ∷ groups) =
    let edges = flat_map number_piece w.edges in
    let rest = flat_map group_piece groups in
    append_assoc (price_piece w.weight) (number_piece (length w.edges) ++ edges) rest
    ∙ ap (λ (bytes : List ℕ). price_piece w.weight ++ bytes) (append_assoc (number_piece (length w.edges)) edges rest)
    ∙ (λ i. price_piece w.weight ++ (number_piece (length w.edges) ++ (sym (flat_map-map after_blank numeral w.edges) i ++ group_items groups i)))
    ∙ ap (λ (bytes : List ℕ). price_piece w.weight ++ (number_piece (length w.edges) ++ bytes)) (sym (flat_map-append after_blank (map numeral w.edges) (flat_map group_words groups)))

bonds_is : (set : Prices) → bonds_text set ≡ whole_line (bonds (length set.groups) set.groups nothing)
unfolding bonds_text
bonds_is set =
    ap (λ (items : List ℕ). codes "bonds" ++ (number_piece (length set.groups) ++ (items ++ 10 ∷ []))) (group_items set.groups ∙ ap (flat_map after_blank) (sym (append-nil (flat_map group_words set.groups))))
    ∙ sym (line_of_items (codes "bonds") (number_piece (length set.groups)) (flat_map after_blank (flat_map group_words set.groups ++ [])))

groups_are : (grouped : Bool) (set : Prices) → groups_text grouped set ≡ flat_map whole_line (group_lines grouped set)
groups_are false set = refl
groups_are true set = bonds_is set ∙ sym (append-nil (whole_line (bonds (length set.groups) set.groups nothing)))

set_is : (grouped : Bool) (set : Prices) → set_text grouped set ≡ flat_map whole_line (set_lines grouped set)
unfolding set_text
set_is grouped set = λ i. prices_is set i ++ (weights_is set i ++ groups_are grouped set i)

node_is : (x : Node) → node_text x ≡ whole_line (node x)
unfolding node_text
node_is (Pair a b) = pair_is (codes "pair") a b
node_is (Cut border k) = pair_is (codes "cut") border k
node_is (Price set) = number_is (codes "price") set
node_is Void = refl
node_is Fixed = refl

counts_is : (c : Counts) → counts_line c ≡ whole_line (counts c)
unfolding counts_line sizes_piece loads_piece
counts_is c = simp append_assoc

second_is : (n : ℕ) (c : Counts) → second_text n c ≡ flat_map whole_line (version n ∷ counts c ∷ [])
unfolding second_text
second_is n c = λ i. number_is (codes "carp-certificate") n i ++ (counts_is c ∙ sym (append-nil (whole_line (counts c)))) i

version_is : (size : Option Counts) (grouped : Bool) → version_text size grouped ≡ flat_map whole_line (version_lines size grouped)
unfolding version_text
version_is None grouped = number_is (codes "carp-certificate") 1 ∙ sym (append-nil (whole_line (version 1)))
version_is (Some c) false = second_is 2 c
version_is (Some c) true = second_is 4 c

-- Groups.

tours_is : (plan : List (List Step)) → flat_map tour_text plan ≡ flat_map whole_line (map tour_line plan)
tours_is [] = refl
tours_is (steps ∷ plan) = λ i. tour_is steps i ++ tours_is plan i

shores_is : (pool : List (List ℕ)) → flat_map shore_text pool ≡ flat_map whole_line (map shore_line pool)
shores_is [] = refl
shores_is (vertices ∷ pool) = λ i. shore_is vertices i ++ shores_is pool i

sets_is : (grouped : Bool) (all : List Prices) → flat_map (set_text grouped) all ≡ flat_map whole_line (flat_map (set_lines grouped) all)
sets_is grouped [] = refl
sets_is grouped (set ∷ all) =
    (λ i. set_is grouped set i ++ sets_is grouped all i) ∙ sym (flat_map-append whole_line (set_lines grouped set) (flat_map (set_lines grouped) all))

nodes_is : (all : List Node) → flat_map node_text all ≡ flat_map whole_line (map node all)
nodes_is [] = refl
nodes_is (x ∷ all) = λ i. node_is x i ++ nodes_is all i

plan_is : (plan : List (List Step)) → plan_text plan ≡ flat_map whole_line (tours (length plan) ∷ map tour_line plan)
unfolding plan_text
plan_is plan = λ i. number_is (codes "tours") (length plan) i ++ tours_is plan i

pool_is : (pool : List (List ℕ)) → pool_text pool ≡ flat_map whole_line (shores (length pool) ∷ map shore_line pool)
unfolding pool_text
pool_is pool = λ i. number_is (codes "shores") (length pool) i ++ shores_is pool i

all_sets_is : (grouped : Bool) (all : List Prices) → sets_text grouped all ≡ flat_map whole_line (sets (length all) ∷ flat_map (set_lines grouped) all)
unfolding sets_text
all_sets_is grouped all = λ i. number_is (codes "sets") (length all) i ++ sets_is grouped all i

all_nodes_is : (all : List Node) → nodes_text all ≡ flat_map whole_line (nodes (length all) ∷ map node all) ++ codes "end\n"
unfolding nodes_text
all_nodes_is all =
    (λ i. number_is (codes "nodes") (length all) i ++ (nodes_is all i ++ codes "end\n"))
    ∙ sym (append_assoc (whole_line (nodes (length all))) (flat_map whole_line (map node all)) (codes "end\n"))

values_is : (price low : ℕ) → values_text price low ≡ whole_line (cost price) ++ whole_line (bound low)
unfolding values_text
values_is price low = λ i. number_is (codes "cost") price i ++ number_is (codes "bound") low i

-- the pieces one after another
lines_cut : (c : Certificate) →
    text_of c
    ≡ flat_map whole_line (version_lines c.counts (has_groups c.sets))
    ++ (whole_line (cost c.cost) ++ (whole_line (bound c.bound) ++ flat_map whole_line (tours (length c.plan) ∷ map tour_line c.plan)))
    ++ flat_map whole_line (shores (length c.shores) ∷ map shore_line c.shores)
    ++ flat_map whole_line (sets (length c.sets) ∷ flat_map (set_lines (has_groups c.sets)) c.sets)
    ++ flat_map whole_line (nodes (length c.nodes) ∷ map node c.nodes)
    ++ codes "end\n"
lines_cut c = rw (flat_map-append, flat_map-append, flat_map-append, flat_map-append, flat_map-append) refl

regrouped : (head price low plan pool costs tree last : List ℕ) →
    head ++ (price ++ low) ++ plan ++ pool ++ costs ++ (tree ++ last) ≡ head ++ (price ++ (low ++ plan)) ++ pool ++ costs ++ tree ++ last
regrouped head price low plan pool costs tree last =
    sym (append_assoc (head ++ (price ++ low) ++ plan ++ pool ++ costs) tree last)
    ∙ ap (λ (front : List ℕ). front ++ pool ++ costs ++ tree ++ last)
    (append_assoc head (price ++ low) plan ∙ ap (λ (bytes : List ℕ). head ++ bytes) (append_assoc price low plan))

pub text_is : (c : Certificate) →
    version_text c.counts (has_groups c.sets) ++ values_text c.cost c.bound ++ plan_text c.plan ++ pool_text c.shores ++ sets_text (has_groups c.sets) c.sets ++ nodes_text c.nodes ≡ text_of c
text_is c =
    (λ i. version_is c.counts (has_groups c.sets) i ++ values_is c.cost c.bound i ++ plan_is c.plan i ++ pool_is c.shores i ++ all_sets_is (has_groups c.sets) c.sets i ++ all_nodes_is c.nodes i)
    ∙ regrouped (flat_map whole_line (version_lines c.counts (has_groups c.sets))) (whole_line (cost c.cost)) (whole_line (bound c.bound))
    (flat_map whole_line (tours (length c.plan) ∷ map tour_line c.plan)) (flat_map whole_line (shores (length c.shores) ∷ map shore_line c.shores))
    (flat_map whole_line (sets (length c.sets) ∷ flat_map (set_lines (has_groups c.sets)) c.sets)) (flat_map whole_line (nodes (length c.nodes) ∷ map node c.nodes)) (codes "end\n")
    ∙ sym (lines_cut c)
