use Rattle.std.proofs.Common.{rules, ◌≡◌, ◌∙◌, true, subst}
use Rattle.std.specs.Cmp.Lexicographic.{pointwise}
use Rattle.helper_frame.proofs.Same.{edge_eq, same_problem, same_edges, own_edges}
use Rattle.helper_frame.proofs.known_distances.is_same.Goals as goal

pub returns-then-eq-clause-same : goal.returns-then-eq-clause-same
returns-then-eq-clause-same c = λ so.
    let vertices : c.args.first.now.vertices ≡ c.args.second.now.vertices = search rules in
    let depot : c.args.first.now.depot ≡ c.args.second.now.depot = search rules in
    let capacity : c.args.first.now.capacity ≡ c.args.second.now.capacity = search rules in
    let required : c.args.first.now.required ≡ c.args.second.now.required = search rules in
    let edges : c.args.first.now.edges ≡ c.args.second.now.edges = search (rules, same_edges) in
    same_problem _ _ vertices depot capacity required edges

pub returns-then-eq-clause-other : goal.returns-then-eq-clause-other
returns-then-eq-clause-other c = λ same.
    let edges : c.edges.result.now ≡ c.edges-then-eq.result.now = search rules in
    let told : c.eq-then-eq.result ≡ true =
    c.eq-then-eq.ensures ∙ subst (λ xs. pointwise edge_eq c.edges.result.now xs ≡ true) edges (own_edges c.edges.result.now) in
    search rules
