use Rattle.std.proofs.Common.{◌≡◌, ◌∙◌, Bool, List, ap, arith, length, map, subst, sym, ℕ}
use Rattle.branch_rules.specs.Prices.{Prices}
use Rattle.grown_trees.specs.declared.growing.GrowingNode.{GrowingNode}
use Rattle.tree_transfer.specs.Named.{AreNamedSets, renumbered_entry}
use Rattle.tree_transfer.specs.Naming.{AreMarked, AreNumbers, marked_sets, number_in}
use Rattle.tree_transfer.proofs.Marks.{are_named, no_more}
use Rattle.tree_transfer.proofs.naming.keep_named_sets.Goals as goal

-- the numbers are those of the marks
counted : (c : goal.After-drop-numbers-2) → AreNumbers c.in_ok-marks.marks.items c.in_ok-numbers.numbers.items
counted c = subst (λ (marks : List Bool). AreNumbers marks c.in_ok-numbers.numbers.items) c.deref.ensures.value c.in_ok-numbers.ensures

marked : (c : goal.After-drop-numbers-2) → AreMarked c.args.nodes.now (length c.args.sets.items) c.in_ok-marks.marks.items
marked c =
    let long : c.len.result ≡ length c.args.sets.items = omega (arith, c.len.ensures, c.args.sets.ok.0) in
    subst (λ (n : ℕ). AreMarked c.args.nodes.now n c.in_ok-marks.marks.items) long c.in_ok-marks.ensures

pub returns-clause-named : goal.returns-clause-named
returns-clause-named c =
    let sets = c.args.sets.items in
    let before = c.args.nodes.now in
    let numbers = c.in_ok-numbers.numbers.items in
    let after : c.renumber.new.nodes ≡ map (renumbered_entry (number_in numbers)) before =
    c.renumber.ensures ∙ ap (λ (ns : List ℕ). map (renumbered_entry (number_in ns)) before) c.deref-2.ensures.value in
    subst (λ (kept : List Prices). AreNamedSets sets kept before c.renumber.new.nodes) (sym c.in_ok-kept.ensures)
    (subst (λ (es : List GrowingNode). AreNamedSets sets (marked_sets c.in_ok-marks.marks.items sets) before es) (sym after)
    (are_named sets before c.in_ok-marks.marks.items numbers c.requires (marked c) (counted c)))

pub returns-clause-no_more : goal.returns-clause-no_more
returns-clause-no_more c = omega (arith, ap length c.in_ok-kept.ensures, no_more c.args.sets.items c.args.nodes.now c.in_ok-marks.marks.items c.in_ok-numbers.numbers.items c.requires (marked c) (counted c))
