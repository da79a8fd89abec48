-- A certificate that is taken in pieces.
use Rattle.std.proofs.Common.{◌≡◌, ℕ, ◌+◌, ◌-◌, ◌≤◌, List, [], ◌∷◌, ◌++◌, length, take, refl, sym, ap, subst, ◌∙◌, arith, append-nil, length-append, inl, Option, Some, None}
use Rattle.std.specs.Prelude.{MatchOption}
use Rattle.std.specs.List.{All}
use Rattle.std.proofs.Math.Seq.{get_or-append_seam}
use Rattle.carp_base.specs.Problem.{Problem}
use Rattle.branch_rules.specs.Prices.{Prices}
use Rattle.branch_rules.specs.declared.node.Node.{Node}
use Rattle.plan_model.specs.declared.step.Step.{Step}
use Rattle.cert_lines.specs.declared.counts.Counts.{Counts}
use Rattle.cert_lines.specs.declared.fault.CertFault.{CertFault}
use Rattle.cert_lines.specs.declared.item.Item.{Item}
use Rattle.cert_lines.specs.declared.item.Item.TheVariants as items
use Rattle.cert_lines.specs.declared.next.Next.TheVariants.{Nothing}
use Rattle.cert_lines.specs.Order.{LatestFirst, next_of}
use Rattle.cert_lines.specs.Certificates.{Certificate, certificate_of, nodes_of, counts_of, cost_of, bound_of, plan_of, shores_of}
use Rattle.cert_lines.specs.Texts.{BreaksAt, IsTextOf, ReadsAs, items_of, parts_of}
use Rattle.cert_format.specs.declared.cert.CertHead.{CertHead}
use Rattle.cert_format.specs.declared.cert_reader.CertReader.{CertReader}
use Rattle.cert_format.specs.Certs.{IsHeadOf, stated_nodes}
use Rattle.cert_format.specs.Good.{support_of}
use Rattle.cert_format.specs.Held.{HasTaken}
use Rattle.cert_format.specs.Judging.{item_list}
use Rattle.cert_format.specs.Readers.{Gives, GivesItem, SaysSoFar}
use Rattle.cert_checker.specs.declared.checker.Checker.{Checker}
use Rattle.cert_checker.specs.declared.reason.Answer.{Answer}
use Rattle.cert_checker.specs.declared.reason.Answer.TheVariants as answers
use Rattle.cert_checker.specs.declared.reason.Reason.{Reason}
use Rattle.cert_checker.specs.declared.stream.Stage.{Stage}
use Rattle.cert_checker.specs.declared.stream.Stage.TheVariants.{Before, Rejected, Walking}
use Rattle.cert_checker.specs.declared.stream.Stream.{Stream}
use Rattle.cert_checker.specs.Claims.{IsSetRead, IsNodeRead}
use Rattle.cert_checker.specs.Reasons.{IsAnswer, IsFirstReason}
use Rattle.cert_checker.specs.Streams.{Fits, HasStreamed, ItemComes, MayWalk, StageAnswers, StageHolds, StageSays, TextLaws, Walks, head_count, head_with, said_support, stage_heads, with_nodes}
use Rattle.cert_checker.specs.Walks.{TreeSays}
use Rattle.cert_checker.proofs.Accepting.{first_from, good_from}
use Rattle.cert_checker.proofs.Extending.{GoesOn, bytes_go_on, read_goes_on}
use Rattle.cert_checker.proofs.Sound.{head_count-append, nodes_given, sound_lines, steady_head, whole_lines}
use Rattle.cert_checker.proofs.Spelled.{spelled_is}
use Rattle.cert_checker.proofs.Walking.{tree_says}

-- The bytes of a run.

item_given : (item : Item) (before said : LatestFirst) (bytes : List ℕ) (taken size : ℕ) → GivesItem before said bytes taken size item → items_of said ≡ items_of before ++ item_list item
item_given items.Quiet before said bytes taken size gives = gives.0 ∙ sym (append-nil (items_of before))
item_given items.Head before said bytes taken size gives = gives.0
item_given (items.Node x) before said bytes taken size gives = gives.0
item_given items.Whole before said bytes taken size gives = gives.0

from_start : (bytes : List ℕ) (said : LatestFirst) (rest : List ℕ) → ReadsAs bytes said rest → GoesOn [] said
from_start bytes said rest reads = read_goes_on (parts_of bytes) [] said rest reads

-- with what the reader gives, an item comes
pub item_comes : TextLaws → (p : Problem) (old mid : Stream) (bytes piece : List ℕ) (count : ℕ) (item : Item) → HasStreamed p old bytes → mid.stage ≡ old.stage → HasTaken mid.reader (bytes ++ take count piece) →
    (g : Gives bytes piece count item) → ItemComes p mid item g.before g.said
item_comes laws p old mid bytes piece count item streamed same taken g =
    let from = from_start bytes g.before g.rest_before g.read_before in
    let on = bytes_go_on laws.reading bytes (take count piece) g.before g.said g.rest_before g.rest g.read_before g.read in
    record {
      bytes = bytes ++ take count piece;
      rest = g.rest;
      taken = taken;
      reads = g.read;
      stage = subst (StageHolds p g.before) (sym same) (streamed.stage g.before g.rest_before g.read_before);
      sound = sound_lines p g.said (from_start (bytes ++ take count piece) g.said g.rest g.read);
      was_sound = sound_lines p g.before from;
      gives = item_given item g.before g.said (bytes ++ take count piece) count (length piece) g.gives;
      steady = steady_head p g.before g.said from on;
    }

-- the stage after the item is that after the bytes
pub streamed_on : TextLaws → (p : Problem) (new : Stream) (reader : CertReader) (bytes : List ℕ) (said : LatestFirst) (rest : List ℕ) → new.reader ≡ reader → HasTaken reader bytes → ReadsAs bytes said rest →
    StageHolds p said new.stage → HasStreamed p new bytes
streamed_on laws p new reader bytes said rest same taken reads holds = record {
  taken = subst (λ (r : CertReader). HasTaken r bytes) (sym same) taken;
  stage = λ other more reads'. subst (λ (x : LatestFirst). StageHolds p x new.stage) (laws.reading bytes said other rest more reads reads').0 holds;
}

-- nothing is said of the stage behind a bad line
pub streamed_bad : TextLaws → (p : Problem) (new : Stream) (bytes : List ℕ) (said : LatestFirst) (fault : CertFault) → HasTaken new.reader bytes → BreaksAt bytes said fault → HasStreamed p new bytes
streamed_bad laws p new bytes said fault taken breaks = record { taken = taken; stage = λ other rest reads. absurd (laws.apart bytes other said rest fault reads breaks) }

-- Heads and nodes.

pub head_is : (said : LatestFirst) (head : CertHead) (nodes : List Node) → IsHeadOf said head → head_with head nodes ≡ with_nodes (certificate_of said) nodes
head_is said head nodes h =
    ap (λ (k : Option Counts). record (head_with head nodes) { counts = k }) h.counts
    ∙ ap (λ (k : ℕ). record (head_with head nodes) { counts = counts_of said; cost = k }) h.cost
    ∙ ap (λ (k : ℕ). record (head_with head nodes) { counts = counts_of said; cost = cost_of said; bound = k }) h.bound
    ∙ ap (λ (k : List (List Step)). record (head_with head nodes) { counts = counts_of said; cost = cost_of said; bound = bound_of said; plan = k }) h.plan
    ∙ ap (λ (k : List (List ℕ)). record (head_with head nodes) { counts = counts_of said; cost = cost_of said; bound = bound_of said; plan = plan_of said; shores = k }) h.shores
    ∙ ap (λ (k : List Prices). record (head_with head nodes) { counts = counts_of said; cost = cost_of said; bound = bound_of said; plan = plan_of said; shores = shores_of said; sets = k }) h.sets

-- the same certificate, but for its nodes
same_but : (before said : LatestFirst) (nodes : List Node) → with_nodes (certificate_of said) [] ≡ with_nodes (certificate_of before) [] → nodes_of said ≡ nodes → certificate_of said ≡ with_nodes (certificate_of before) nodes
same_but before said nodes steady are = ap (λ (c : Certificate). with_nodes c (nodes_of said)) steady ∙ ap (with_nodes (certificate_of before)) are

-- what all of a list have, its last has
last_has : (P : Node → Type 0) (xs : List Node) (x : Node) → All P (xs ++ x ∷ []) → P x
last_has P xs x all = subst P (get_or-append_seam xs x [] x) (all (length xs) x (omega (arith, length-append xs (x ∷ []))))

-- Items.

-- an item that is no head: the stage stays, or the nodes go on
keeps_heads : {p : Problem} {stream : Stream} {item : Item} {before said : LatestFirst} → head_count (item_list item) ≡ 0 → (x : ItemComes p stream item before said) → head_count (items_of said) ≡ head_count (items_of before)
keeps_heads {p} {stream} {item} {before} {said} none x = omega (arith, ap head_count x.gives, head_count-append (items_of before) (item_list item), none)

pub rejected_on : {p : Problem} {stream : Stream} {item : Item} {before said : LatestFirst} (reason : Reason) → head_count (item_list item) ≡ 0 → stream.stage ≡ Rejected reason → (x : ItemComes p stream item before said) → StageHolds p said stream.stage
rejected_on {p} {stream} {item} {before} {said} reason none is x =
    let was : StageHolds p before (Rejected reason) = subst (StageHolds p before) is x.stage in
    subst (StageHolds p said) (sym is) (record {
      heads = keeps_heads none x ∙ was.heads;
      says = λ nodes. subst (λ (c : Certificate). IsFirstReason p (with_nodes c nodes) reason) (sym (x.steady was.heads)) (was.says nodes);
    })

pub before_on : {p : Problem} {stream : Stream} {item : Item} {before said : LatestFirst} → head_count (item_list item) ≡ 0 → stream.stage ≡ Before → (x : ItemComes p stream item before said) → StageHolds p said stream.stage
before_on {p} {stream} {item} {before} {said} none is x =
    let was : StageHolds p before Before = subst (StageHolds p before) is x.stage in
    subst (StageHolds p said) (sym is) (record { heads = keeps_heads none x ∙ was.heads; says = tt })

walking_on : {p : Problem} {stream : Stream} {item : Item} {before said : LatestFirst} (checker : Checker) → head_count (item_list item) ≡ 0 → stream.stage ≡ Walking checker → (x : ItemComes p stream item before said) →
    nodes_of said ≡ nodes_of before → StageHolds p said stream.stage
walking_on {p} {stream} {item} {before} {said} checker none is x nodes =
    let was : StageHolds p before (Walking checker) = subst (StageHolds p before) is x.stage in
    let same : certificate_of said ≡ certificate_of before = same_but before said (nodes_of before) (x.steady was.heads) nodes in
    subst (StageHolds p said) (sym is) (record {
      heads = keeps_heads none x ∙ was.heads;
      says = subst (λ (c : Certificate). Walks p c checker) (sym same) was.says;
    })

stays : {p : Problem} {stream : Stream} {item : Item} {before said : LatestFirst} (stage : Stage) → head_count (item_list item) ≡ 0 → stream.stage ≡ stage → (x : ItemComes p stream item before said) →
    nodes_of said ≡ nodes_of before → StageHolds p said stream.stage
stays Before none is x nodes = before_on none is x
stays (Rejected reason) none is x nodes = rejected_on reason none is x
stays (Walking checker) none is x nodes = walking_on checker none is x nodes

-- an item that is no head and no node
pub quiet_on : {p : Problem} {stream : Stream} {before said : LatestFirst} → (x : ItemComes p stream items.Quiet before said) → StageHolds p said stream.stage
quiet_on {p} {stream} {before} {said} x = stays stream.stage refl refl x (nodes_given said before [] x.gives ∙ append-nil (nodes_of before))

pub whole_on : {p : Problem} {stream : Stream} {before said : LatestFirst} → (x : ItemComes p stream items.Whole before said) → StageHolds p said stream.stage
whole_on {p} {stream} {before} {said} x = stays stream.stage refl refl x (nodes_given said before (items.Whole ∷ []) x.gives ∙ append-nil (nodes_of before))

-- the head
pub head_heads : {p : Problem} {stream : Stream} {before said : LatestFirst} → (x : ItemComes p stream items.Head before said) → (head_count (items_of said) ≡ 1) × (head_count (items_of before) ≡ 0)
head_heads {p} {stream} {before} {said} x =
    let count : head_count (items_of said) ≡ head_count (items_of before) + 1 = ap head_count x.gives ∙ head_count-append (items_of before) (items.Head ∷ []) in
    (omega (arith, count, x.sound.one), omega (arith, count, x.sound.one))

pub says_so_far : {p : Problem} {stream : Stream} {item : Item} {before said : LatestFirst} → (x : ItemComes p stream item before said) → SaysSoFar x.bytes said
says_so_far {p} {stream} {item} {before} {said} x = inl (x.rest, x.reads)

-- no node was read before the head
pub no_nodes_yet : {p : Problem} {stream : Stream} {before said : LatestFirst} → (x : ItemComes p stream items.Head before said) → nodes_of said ≡ []
no_nodes_yet {p} {stream} {before} {said} x = nodes_given said before (items.Head ∷ []) x.gives ∙ append-nil (nodes_of before) ∙ x.was_sound.no_nodes (head_heads x).1

-- the sets of the head
pub head_sets : {p : Problem} {stream : Stream} {before said : LatestFirst} (head : CertHead) → IsHeadOf said head → (x : ItemComes p stream items.Head before said) →
    All (IsSetRead (support_of p (head_with head []))) head.sets.items
head_sets {p} {stream} {before} {said} head h x =
    subst (λ (c : Certificate). All (IsSetRead (support_of p c)) c.sets) (sym (head_is said head [] h)) x.sound.sets_read

-- the stage after the head
pub head_on : {p : Problem} {stream : Stream} {before said : LatestFirst} (head : CertHead) (stage : Stage) → IsHeadOf said head → (x : ItemComes p stream items.Head before said) →
    stage_heads stage ≡ 1 → StageSays p (head_with head []) stage → StageHolds p said stage
head_on {p} {stream} {before} {said} head stage h x one says =
    let same : head_with head [] ≡ certificate_of said = head_is said head [] h ∙ sym (ap (with_nodes (certificate_of said)) (no_nodes_yet x)) in
    record { heads = (head_heads x).0 ∙ sym one; says = subst (λ (c : Certificate). StageSays p c stage) same says }

-- a node
node_heads : {p : Problem} {stream : Stream} {before said : LatestFirst} (node : Node) (checker : Checker) → stream.stage ≡ Walking checker → (x : ItemComes p stream (items.Node node) before said) →
    (head_count (items_of before) ≡ 1) × Walks p (certificate_of before) checker
node_heads {p} {stream} {before} {said} node checker is x =
    let was : StageHolds p before (Walking checker) = subst (StageHolds p before) is x.stage in
    (was.heads, was.says)

pub node_stated : {p : Problem} {stream : Stream} {before said : LatestFirst} (node : Node) (checker : Checker) → stream.stage ≡ Walking checker → (x : ItemComes p stream (items.Node node) before said) → head_count (items_of said) ≡ 1
node_stated {p} {stream} {before} {said} node checker is x = keeps_heads refl x ∙ (node_heads node checker is x).0

-- the certificate before a node, by the head that was read
node_head : {p : Problem} {stream : Stream} {before said : LatestFirst} (node : Node) (checker : Checker) (head : CertHead) → stream.stage ≡ Walking checker → IsHeadOf said head →
    (x : ItemComes p stream (items.Node node) before said) → head_with head (nodes_of before) ≡ certificate_of before
node_head {p} {stream} {before} {said} node checker head is h x =
    head_is said head (nodes_of before) h ∙ ap (λ (c : Certificate). with_nodes c (nodes_of before)) (x.steady (node_heads node checker is x).0)

pub may_walk : {p : Problem} {stream : Stream} {before said : LatestFirst} (node : Node) (checker : Checker) (head : CertHead) → stream.stage ≡ Walking checker → IsHeadOf said head →
    (x : ItemComes p stream (items.Node node) before said) → MayWalk p head checker node
may_walk {p} {stream} {before} {said} node checker head is h x =
    let here = node_heads node checker is x in
    let same = node_head node checker head is h x in
    let grown : nodes_of said ≡ nodes_of before ++ node ∷ [] = nodes_given said before (items.Node node ∷ []) x.gives in
    let support : said_support p said ≡ support_of p (head_with head (nodes_of before)) = ap (support_of p) (sym (head_is said head (nodes_of before) h)) in
    record {
      nodes = nodes_of before;
      walks = subst (λ (c : Certificate). Walks p c checker) (sym same) here.1;
      sets_read = subst (λ (c : Certificate). All (IsSetRead (support_of p c)) c.sets) (sym (head_is said head (nodes_of before) h)) x.sound.sets_read;
      read = subst (λ s. IsNodeRead s node) support
          (last_has (IsNodeRead (said_support p said)) (nodes_of before) node (subst (All (IsNodeRead (said_support p said))) grown x.sound.read));
      fits = subst (λ (xs : List Node). Fits xs 1) grown x.sound.fits;
      few = x.was_sound.few;
    }

pub node_on : {p : Problem} {stream : Stream} {before said : LatestFirst} (node : Node) (checker after : Checker) (head : CertHead) → stream.stage ≡ Walking checker → IsHeadOf said head →
    (x : ItemComes p stream (items.Node node) before said) → Walks p (head_with head (nodes_of before ++ node ∷ [])) after → StageHolds p said (Walking after)
node_on {p} {stream} {before} {said} node checker after head is h x walks =
    let grown : nodes_of said ≡ nodes_of before ++ node ∷ [] = nodes_given said before (items.Node node ∷ []) x.gives in
    let same : head_with head (nodes_of before ++ node ∷ []) ≡ certificate_of said = ap (head_with head) (sym grown) ∙ head_is said head (nodes_of said) h in
    record { heads = node_stated node checker is x; says = subst (λ (c : Certificate). Walks p c after) same walks }

pub node_walks : {p : Problem} {stream : Stream} {before said : LatestFirst} (node : Node) (checker : Checker) (head : CertHead) → stream.stage ≡ Walking checker → IsHeadOf said head →
    (x : ItemComes p stream (items.Node node) before said) → Walks p (head_with head (nodes_of before)) checker
node_walks {p} {stream} {before} {said} node checker head is h x =
    subst (λ (c : Certificate). Walks p c checker) (sym (node_head node checker head is h x)) (node_heads node checker is x).1

-- no node is walked where the head was not read, or a reason stands
pub not_walking : {p : Problem} {stream : Stream} {before said : LatestFirst} (node : Node) (stage : Stage) → stream.stage ≡ stage → ((checker : Checker) → stage ≡ Walking checker → ⊥) →
    (x : ItemComes p stream (items.Node node) before said) → StageHolds p said stream.stage
not_walking node Before is other x = before_on refl is x
not_walking node (Rejected reason) is other x = rejected_on reason refl is x
not_walking node (Walking checker) is other x = absurd (other checker refl)

-- The end.

pub whole_heads : (p : Problem) (stream : Stream) (bytes : List ℕ) (said : LatestFirst) → HasStreamed p stream bytes → ReadsAs bytes said [] → next_of said ≡ Nothing → (stage_heads stream.stage ≡ 1) × (1 ≤ stated_nodes said)
whole_heads p stream bytes said streamed reads whole =
    let from = from_start bytes said [] reads in
    let one = whole_lines p said from whole in
    (sym (streamed.stage said [] reads).heads ∙ one, (sound_lines p said from).stated one)

rejected_answer : (p : Problem) (c : Certificate) (reason : Reason) (answer : Answer) → answer ≡ answers.Rejected reason → IsFirstReason p c reason → IsAnswer p c answer
rejected_answer p c reason answer is first = subst (IsAnswer p c) (sym is) first

walked_answer : (p : Problem) (c : Certificate) (checker : Checker) (reason : Option Reason) (answer : Answer) → TextLaws → (bytes : List ℕ) → IsTextOf bytes c → checker.reason ≡ reason → Walks p c checker →
    MatchOption reason (answer ≡ answers.Accepted) (λ r. answer ≡ answers.Rejected r) → IsAnswer p c answer
walked_answer p c checker None answer laws bytes text is walks told =
    let s = spelled_is laws.fine (support_of p c) c refl refl (laws.spellable bytes c text) in
    let says : TreeSays (support_of p c) c.bound c.nodes None = subst (TreeSays (support_of p c) c.bound c.nodes) is (tree_says (support_of p c) c.bound c.nodes checker.reason _ _ walks.walked) in
    subst (IsAnswer p c) (sym told) (good_from p c (walks.head c.nodes) s.whole says)
walked_answer p c checker (Some reason) answer laws bytes text is walks told =
    let says : TreeSays (support_of p c) c.bound c.nodes (Some reason) = subst (TreeSays (support_of p c) c.bound c.nodes) is (tree_says (support_of p c) c.bound c.nodes checker.reason _ _ walks.walked) in
    rejected_answer p c reason answer told (first_from p c reason (walks.head c.nodes) says)

pub stage_answer : (p : Problem) (stage : Stage) (said : LatestFirst) (bytes : List ℕ) (answer : Answer) → TextLaws → stage_heads stage ≡ 1 → StageSays p (certificate_of said) stage → IsTextOf bytes (certificate_of said) →
    StageAnswers stage answer → IsAnswer p (certificate_of said) answer
stage_answer p Before said bytes answer laws one says text told = absurd (omega (arith, one))
stage_answer p (Rejected reason) said bytes answer laws one says text told = rejected_answer p (certificate_of said) reason answer told (says (nodes_of said))
stage_answer p (Walking checker) said bytes answer laws one says text told = walked_answer p (certificate_of said) checker checker.reason answer laws bytes text refl says told
