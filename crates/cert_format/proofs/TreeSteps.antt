-- A tree that grows with the text.
use Rattle.std.proofs.Common.{◌≡◌, ℕ, ◌+◌, ◌<◌, List, [], ◌∷◌, ◌++◌, length, refl, sym, ap, subst, ◌∙◌, arith, length-append}
use Rattle.branch_rules.specs.Trees.{NodeList}
use Rattle.branch_rules.specs.declared.node.Node.{Node as NodeValue}
use Rattle.cert_lines.specs.declared.item.Item.{Item}
use Rattle.cert_lines.specs.declared.item.Item.TheVariants.{Quiet, Head, Node, Whole}
use Rattle.cert_lines.specs.Order.{LatestFirst, next_of}
use Rattle.cert_lines.specs.Certificates.{certificate_of, counts_of, cost_of, bound_of, plan_of, shores_of, nodes_of}
use Rattle.cert_format.specs.declared.cert_reader.CertReader.{CertReader}
use Rattle.cert_format.specs.Certs.{cert_with, certificate_in, IsHeadOf, stated_nodes}
use Rattle.std.proofs.Common.{Option}
use Rattle.plan_model.specs.declared.step.Step.{Step}
use Rattle.branch_rules.specs.Prices.{Prices}
use Rattle.cert_lines.specs.declared.counts.Counts.{Counts}
use Rattle.cert_lines.specs.declared.next.Next.TheVariants.{Nothing}
use Rattle.cert_lines.specs.Laws.{ReadingIsUnique}
use Rattle.cert_lines.specs.Texts.{ReadsAs, IsTextOf}
use Rattle.cert_format.specs.declared.cert.CertHead.{CertHead}
use Rattle.cert_format.specs.declared.reader.Standing.TheVariants.{Going}
use Rattle.cert_format.specs.Held.{Advances, StandingHolds}
use Rattle.cert_format.specs.Reads.{ItemFits, KeepsItem, ReadsTree}
use Rattle.cert_format.proofs.NodesGiven.{node_given, none_given, nodes_within}

pub tree_quiet : {reader : CertReader} {tree : NodeList} {bytes : List ℕ} (new : CertReader) (more : List ℕ) → (r : ReadsTree reader tree bytes) → Advances new more r.said Quiet → ReadsTree new tree more
tree_quiet {reader} {tree} {bytes} new more r a = record { said = a.said; rest = a.rest; going = a.going; nodes = r.nodes ∙ sym (none_given a.said r.said Quiet refl a.gives); room = r.room ∙ sym a.steady }

pub tree_whole : {reader : CertReader} {tree : NodeList} {bytes : List ℕ} (new : CertReader) (more : List ℕ) → (r : ReadsTree reader tree bytes) → Advances new more r.said Whole → ReadsTree new tree more
tree_whole {reader} {tree} {bytes} new more r a = record { said = a.said; rest = a.rest; going = a.going; nodes = r.nodes ∙ sym (none_given a.said r.said Whole refl a.gives); room = r.room ∙ sym a.steady }

pub tree_head : {reader : CertReader} {tree : NodeList} {bytes : List ℕ} (new : CertReader) (fresh : NodeList) (more : List ℕ) → (r : ReadsTree reader tree bytes) → Advances new more r.said Head → fresh.nodes ≡ [] → fresh.room ≡ new.draft.head.nodes → ReadsTree new fresh more
tree_head {reader} {tree} {bytes} new fresh more r a none room = record { said = a.said; rest = a.rest; going = a.going; nodes = none ∙ sym a.steady; room = room ∙ a.going.draft.head.nodes }

pub node_fits : {reader : CertReader} {tree : NodeList} {bytes : List ℕ} (new : CertReader) (more : List ℕ) (x : NodeValue) → (r : ReadsTree reader tree bytes) → Advances new more r.said (Node x) → length tree.nodes < tree.room
node_fits {reader} {tree} {bytes} new more x r a =
    let grown : nodes_of a.said ≡ nodes_of r.said ++ x ∷ [] = node_given a.said r.said x a.gives in
    let long : length (nodes_of a.said) ≡ length tree.nodes + 1 = ap length grown ∙ length-append (nodes_of r.said) (x ∷ []) ∙ ap (λ (k : List NodeValue). length k + 1) (sym r.nodes) in
    let within = nodes_within new.draft.next (length (nodes_of a.said)) (stated_nodes a.said) a.going.draft.counted (omega (arith, long)) in
    omega (arith, within, long, a.steady, r.room)

pub tree_node : {reader : CertReader} {tree : NodeList} {bytes : List ℕ} (new : CertReader) (more : List ℕ) (x : NodeValue) (grown : NodeList) → (r : ReadsTree reader tree bytes) → Advances new more r.said (Node x) →
    grown ≡ record { nodes = tree.nodes ++ x ∷ []; room = tree.room } → ReadsTree new grown more
tree_node {reader} {tree} {bytes} new more x grown r a is = record {
  said = a.said;
  rest = a.rest;
  going = a.going;
  nodes = ap (λ (t : NodeList). t.nodes) is ∙ ap (λ (k : List NodeValue). k ++ x ∷ []) r.nodes ∙ sym (node_given a.said r.said x a.gives);
  room = ap (λ (t : NodeList). t.room) is ∙ r.room ∙ sym a.steady;
}

same_tree : {reader : CertReader} {tree : NodeList} {bytes : List ℕ} (other : NodeList) → other ≡ tree → ReadsTree reader tree bytes → ReadsTree reader other bytes
same_tree {reader} {tree} {bytes} other same r = subst (λ (t : NodeList). ReadsTree reader t bytes) (sym same) r

pub item_fits : {reader : CertReader} {tree : NodeList} {bytes : List ℕ} (new : CertReader) (more : List ℕ) (item : Item) → (r : ReadsTree reader tree bytes) → Advances new more r.said item → ItemFits item tree
item_fits {reader} {tree} {bytes} new more Quiet r a = tt
item_fits {reader} {tree} {bytes} new more Head r a = tt
item_fits {reader} {tree} {bytes} new more (Node x) r a = node_fits new more x r a
item_fits {reader} {tree} {bytes} new more Whole r a = tt

pub tree_step : {reader : CertReader} {tree : NodeList} {bytes : List ℕ} (new : CertReader) (more : List ℕ) (item : Item) (grown : NodeList) → (r : ReadsTree reader tree bytes) → Advances new more r.said item →
    KeepsItem item new.draft.head.nodes tree grown → ReadsTree new grown more
tree_step {reader} {tree} {bytes} new more Quiet grown r a keeps = same_tree grown keeps (tree_quiet new more r a)
tree_step {reader} {tree} {bytes} new more Head grown r a keeps = tree_head new grown more r a (ap (λ (t : NodeList). t.nodes) keeps) (ap (λ (t : NodeList). t.room) keeps)
tree_step {reader} {tree} {bytes} new more (Node x) grown r a keeps = tree_node new more x grown r a keeps
tree_step {reader} {tree} {bytes} new more Whole grown r a keeps = same_tree grown keeps (tree_whole new more r a)

pub tree_start : {reader : CertReader} (tree : NodeList) → StandingHolds Going reader [] → tree.nodes ≡ [] → tree.room ≡ 0 → ReadsTree reader tree []
tree_start {reader} tree h nodes room = record {
  said = h.0;
  rest = h.1;
  going = h.2;
  nodes = nodes ∙ ap nodes_of (sym h.2.reads.0);
  room = room ∙ ap stated_nodes (sym h.2.reads.0);
}

-- the certificate of the head and the nodes
pub cert_is : (said : LatestFirst) (head : CertHead) (tree : NodeList) → IsHeadOf said head → tree.nodes ≡ nodes_of said → certificate_in (cert_with head tree) ≡ certificate_of said
cert_is said head tree h nodes =
    ap (λ (k : Option Counts). record (certificate_in (cert_with head tree)) { counts = k }) h.counts
    ∙ ap (λ (k : ℕ). record (certificate_in (cert_with head tree)) { counts = counts_of said; cost = k }) h.cost
    ∙ ap (λ (k : ℕ). record (certificate_in (cert_with head tree)) { counts = counts_of said; cost = cost_of said; bound = k }) h.bound
    ∙ ap (λ (k : List (List Step)). record (certificate_in (cert_with head tree)) { counts = counts_of said; cost = cost_of said; bound = bound_of said; plan = k }) h.plan
    ∙ ap (λ (k : List (List ℕ)). record (certificate_in (cert_with head tree)) { counts = counts_of said; cost = cost_of said; bound = bound_of said; plan = plan_of said; shores = k }) h.shores
    ∙ ap (λ (k : List Prices). record (certificate_in (cert_with head tree)) { counts = counts_of said; cost = cost_of said; bound = bound_of said; plan = plan_of said; shores = shores_of said; sets = k }) h.sets
    ∙ ap (λ (k : List NodeValue). record (certificate_of said) { nodes = k }) nodes

-- the bytes are the text of what was read
pub text_read : {reader : CertReader} {tree : NodeList} {bytes : List ℕ} → ReadingIsUnique → (r : ReadsTree reader tree bytes) → (w : (said : LatestFirst) × ReadsAs bytes said [] × (next_of said ≡ Nothing)) → IsTextOf bytes (certificate_in (cert_with reader.draft.head tree))
text_read {reader} {tree} {bytes} one r w =
    let same = one bytes r.said w.0 r.rest [] r.going.reads w.1 in
    record {
      said = w.0;
      reads = w.1;
      whole = w.2;
      is = cert_is r.said reader.draft.head tree r.going.draft.head r.nodes ∙ ap certificate_of same.0;
    }
