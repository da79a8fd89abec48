use Rattle.std.proofs.Common.{ℕ, ◌≤◌, List, sym, subst}
use Rattle.edge_components.specs.Search.{IsSearch}
use Rattle.edge_components.proofs.Paths.{joined_itself}
use Rattle.edge_components.proofs.Searching.{label_more, taken}
use Rattle.edge_components.proofs.labelling.label_component.Goals as goal

pub loop-v-init : goal.loop-v-init
loop-v-init c =
    let p = c.args.inst.now in
    let so_far = subst (λ (w : List ℕ). IsSearch p c.args.x.now c.args.least c.args.root c.args.labels.now w 0) (sym c.requires.none) c.requires.search in
    let more = label_more p c.args.x.now c.args.least c.args.root 0 c.args.root c.args.labels.now c.args.waiting.now.items c.label.new.labels c.label.new.waiting.items
    so_far c.requires.root c.requires.root (joined_itself p c.args.x.now c.args.least c.args.root) c.in_ok-label.ensures.labels c.in_ok-label.ensures.waiting in
    record { search = more.search; some = more.some }

pub label_neighbours-requires-clause-vertex : goal.label_neighbours-requires-clause-vertex
label_neighbours-requires-clause-vertex c =
    let p = c.args.inst.now in
    let so_far = subst (λ (w : List ℕ). IsSearch p c.args.x.now c.args.least c.args.root c.loop-v.labels w 0) c.in-Some.ensures.items c.loop-v.invariant.search in
    let next = taken p c.args.x.now c.args.least c.args.root c.in-Some.v c.loop-v.labels c.pop.new.self.items so_far in
    (so_far.sound c.in-Some.v (subst (λ n. 1 ≤ n) (sym next.1) c.requires.root.from_one)).vertex

pub label_neighbours-requires-clause-search : goal.label_neighbours-requires-clause-search
label_neighbours-requires-clause-search c =
    let p = c.args.inst.now in
    let so_far = subst (λ (w : List ℕ). IsSearch p c.args.x.now c.args.least c.args.root c.loop-v.labels w 0) c.in-Some.ensures.items c.loop-v.invariant.search in
    (taken p c.args.x.now c.args.least c.args.root c.in-Some.v c.loop-v.labels c.pop.new.self.items so_far).0
