-- A search that is light stays so, and the text of its certificate is short.
use Rattle.std.proofs.Common.{◌≡◌, ℕ, ◌≤◌, Bool, List, length, map, refl, sym, subst, arith, All, Result, Ok, Err, IfOk}
use Rattle.std.proofs.lemmas.List.Elements.{All-map, All-weaker}
use Rattle.carp_base.specs.Problem.{Problem}
use Rattle.branch_rules.specs.Prices.{Prices}
use Rattle.branch_rules.specs.declared.node.Node.{Node}
use Rattle.branch_rules.specs.declared.node.Node.TheVariants as nodes
use Rattle.dual_master.specs.Raising.{HasShortGroups}
use Rattle.grown_trees.specs.declared.growing.GrowingNode.{GrowingNode}
use Rattle.branch_tree.specs.Counts.{IsLight, SearchesStayLight}
use Rattle.branch_tree.specs.Founds.{Findings, IsFound}
use Rattle.branch_tree.specs.Searches.{State}
use Rattle.branch_tree.specs.Steps.{IsOffered, IsShortCut, IsStep}
use Rattle.branch_tree.specs.declared.search.Turn.{Turn}
use Rattle.task_tours.specs.Shorts.{IsShortPlan}
use Rattle.cert_lines.specs.Certificates.{Certificate}
use Rattle.cert_lines.specs.Lengths as texts
use Rattle.cert_lines.specs.Spelling.{text_of}
use Rattle.carp_engine.specs.Certifying.{AreWithinLimits, IsCertified, IsTerse, certificate_by}
use Rattle.carp_engine.specs.Known.{Known}
use Rattle.carp_engine.proofs.Certified.{is_fine}

pub both_ok : {X E : Type 0} (r : Result X E) (P Q R : X → Type 0) → ((x : X) → P x → Q x → R x) → IfOk r P → IfOk r Q → IfOk r R
both_ok (Ok x) P Q R all p q = all x p q
both_ok (Err e) P Q R all p q = tt

-- a turn, after which a plan was offered, keeps a search light
pub after_turn : SearchesStayLight → (p : Problem) (before middle after : State) (turn : Turn) (taken : Bool) → length before.sets ≤ 256 → IsStep p before middle turn → IsOffered p middle after taken → IsLight before → IsLight after
after_turn law p before middle after turn taken few step offered light = law.offered p middle after taken offered (law.stepped p before middle turn few step light)

-- the certificate of what a light search found is terse
pub terse_found : (p : Problem) (s : State) (f : Findings) (c : Certificate) → IsCertified p f c → f.sets ≡ s.sets → f.nodes ≡ map (λ (entry : GrowingNode). entry.node) s.nodes → IsLight s → IsTerse c
terse_found p s f c certified sets nodes_are light =
    subst IsTerse (sym certified.certificate) (record {
      short_groups = subst (All HasShortGroups) (sym sets) light.short_groups;
      short_cuts = subst (All IsShortCut) (sym nodes_are) (All-map IsShortCut (λ (entry : GrowingNode). entry.node) s.nodes light.short);
    })

short_cut : (node : Node) → IsShortCut node → texts.IsShortCut node
short_cut (nodes.Pair a b) is = tt
short_cut (nodes.Cut shore k) is = is
short_cut (nodes.Price set) is = tt
short_cut nodes.Void is = tt
short_cut nodes.Fixed is = tt

-- the text of a terse certificate of a short plan is short
pub short_text : (laws : Known) (p : Problem) (f : Findings) (turns : ℕ) (found : IsFound p f turns) → AreWithinLimits f.pool f.sets → IsShortPlan p f.plan → IsTerse (certificate_by p f) → length (text_of (certificate_by p f)) ≤ 64000000
short_text laws p f turns found limits short terse =
    laws.texts (certificate_by p f) (record {
      fine = is_fine laws p f turns found limits;
      few_tours = omega (arith, short.few_tours, found.valid.few_required);
      short_groups = terse.short_groups;
      short_cuts = All-weaker IsShortCut texts.IsShortCut short_cut f.nodes terse.short_cuts;
    })
