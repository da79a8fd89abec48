-- What is known while the text of a certificate is taken in pieces.
use Rattle.std.specs.Prelude.{◌≡◌, ℕ, ◌+◌, ◌<◌, ◌≤◌, IsTrue, Bool, List, [], ◌∷◌, ◌++◌, length, take, Option, Some, IfSome, IsSome, IsSomeAnd, MatchOption, Result, IfOk, IsOk, IsErrOf, ◌⊎◌}
use Rattle.std.specs.List.{All}
use Rattle.carp_base.specs.Problem.{Problem}
use Rattle.carp_base.specs.declared.fail.Fail.{Fail}
use Rattle.carp_base.specs.declared.fail.Fail.TheVariants.{Memory, Refused}
use Rattle.carp_outside.specs.Causes.{Rose, RoseBy}
use Rattle.branch_rules.specs.Trees.{Support}
use Rattle.branch_rules.specs.declared.node.Node.{Node}
use Rattle.cert_lines.specs.declared.fault.CertFault.{CertFault}
use Rattle.cert_lines.specs.declared.item.Item.{Item}
use Rattle.cert_lines.specs.declared.item.Item.TheVariants as items
use Rattle.cert_lines.specs.declared.next.Next.{Next}
use Rattle.cert_lines.specs.declared.next.Next.TheVariants as stands
use Rattle.cert_lines.specs.Order.{LatestFirst, open_after}
use Rattle.cert_lines.specs.Certificates.{Certificate, certificate_of, nodes_of, sets_of}
use Rattle.cert_lines.specs.Laws.{ReadIsNotBad, ReadIsSpellable, ReadingIsUnique, SpellableIsFine}
use Rattle.cert_lines.specs.Texts.{IsFaultOf, IsTextOf, ReadsAs, items_of}
use Rattle.cert_format.specs.declared.cert.CertHead.{CertHead}
use Rattle.cert_format.specs.Certs.{stated_nodes}
use Rattle.cert_format.specs.Good.{support_of}
use Rattle.cert_format.specs.Held.{HasTaken}
use Rattle.cert_format.specs.Judging.{item_list}
use Rattle.cert_checker.specs.declared.checker.Checker.{Checker}
use Rattle.cert_checker.specs.declared.reason.Answer.{Answer}
use Rattle.cert_checker.specs.declared.reason.Answer.TheVariants as answers
use Rattle.cert_checker.specs.declared.stream.Stage.{Stage}
use Rattle.cert_checker.specs.declared.stream.Stage.TheVariants.{Before, Rejected, Walking}
use Rattle.cert_checker.specs.declared.stream.Stream.{Stream}
use Rattle.cert_checker.specs.declared.streaming.Checked.{Checked}
use Rattle.cert_checker.specs.declared.streaming.StreamFault.{StreamFault}
use Rattle.cert_checker.specs.declared.streaming.StreamFault.TheVariants as faults
use Rattle.cert_checker.specs.Claims.{IsSetRead, IsNodeRead}
use Rattle.cert_checker.specs.Reasons.{HeadIsRight, IsAnswer, IsFirstReason}
use Rattle.cert_checker.specs.Walks.{HasWalked, IsChecker}

-- the certificate with other nodes
abbrev pub with_nodes : Certificate → List Node → Certificate
with_nodes c nodes = record {
  counts = c.counts;
  cost = c.cost;
  bound = c.bound;
  plan = c.plan;
  shores = c.shores;
  sets = c.sets;
  nodes = nodes;
}

-- the certificate of a head and these nodes
abbrev pub head_with : CertHead → List Node → Certificate
head_with head nodes = record {
  counts = head.counts;
  cost = head.cost;
  bound = head.bound;
  plan = head.plan;
  shores = head.shores;
  sets = head.sets.items;
  nodes = nodes;
}

-- all before the nodes is right, and the nodes so far were walked
pub record Walks (p : Problem) (c : Certificate) (checker : Checker) : Type 0 where
  pub head : (nodes : List Node) → HeadIsRight p (with_nodes c nodes)
  pub keeps : IsChecker (support_of p c) checker
  pub walked : HasWalked (support_of p c) c.bound checker c.nodes
  pub few : checker.taken ≤ length c.nodes

-- what a stage says of the certificate whose nodes so far are these
abbrev pub StageSays : Problem → Certificate → Stage → Type 0
StageSays p c Before = Unit {0}
StageSays p c (Rejected reason) = (nodes : List Node) → IsFirstReason p (with_nodes c nodes) reason
StageSays p c (Walking checker) = Walks p c checker

-- the answer after all nodes
abbrev pub StageAnswers : Stage → Answer → Type 0
StageAnswers Before answer = Unit {0}
StageAnswers (Rejected reason) answer = answer ≡ answers.Rejected reason
StageAnswers (Walking checker) answer = MatchOption checker.reason (answer ≡ answers.Accepted) (λ reason. answer ≡ answers.Rejected reason)

-- how many heads were read at a stage
abbrev pub stage_heads : Stage → ℕ
stage_heads Before = 0
stage_heads (Rejected reason) = 1
stage_heads (Walking checker) = 1

-- how many heads were given
abbrev pub head_count : List Item → ℕ
head_count [] = 0
head_count (items.Head ∷ given) = head_count given + 1
head_count (_ ∷ given) = head_count given

-- the stage is that of these lines
pub record StageHolds (p : Problem) (said : LatestFirst) (stage : Stage) : Type 0 where
  pub heads : head_count (items_of said) ≡ stage_heads stage
  pub says : StageSays p (certificate_of said) stage

-- exactly these bytes were taken, and if no line of them is bad, the stage is that of the lines
pub record HasStreamed (p : Problem) (stream : Stream) (bytes : List ℕ) : Type 0 where
  pub taken : HasTaken stream.reader bytes
  pub stage : (said : LatestFirst) (rest : List ℕ) → ReadsAs bytes said rest → StageHolds p said stream.stage

-- before each node one subtree or more is to come, if so many are to come before the first
abbrev pub Fits : List Node → (subtrees : ℕ) → Type 0
Fits [] subtrees = Unit {0}
Fits (node ∷ nodes) subtrees = (1 ≤ subtrees) × Fits nodes (open_after subtrees node)

-- what the nodes so far are held against
abbrev pub said_support : Problem → LatestFirst → Support
said_support p said = support_of p (certificate_of said)

-- what good lines have: their weights are on their shores, and their nodes name their shores and their sets and fit into one tree
pub record AreSound (p : Problem) (said : LatestFirst) : Type 0 where
  pub sets_read : All (IsSetRead (said_support p said)) (sets_of said)
  pub read : All (IsNodeRead (said_support p said)) (nodes_of said)
  pub fits : Fits (nodes_of said) 1
  pub few : length (nodes_of said) ≤ 2097153
  pub one : head_count (items_of said) ≤ 1
  pub no_nodes : head_count (items_of said) ≡ 0 → nodes_of said ≡ []
  pub stated : head_count (items_of said) ≡ 1 → 1 ≤ stated_nodes said

-- after the lines before, these lines are said, and with them an item is given
pub record ItemComes (p : Problem) (stream : Stream) (item : Item) (before said : LatestFirst) : Type 0 where
  pub bytes : List ℕ
  pub rest : List ℕ
  pub taken : HasTaken stream.reader bytes
  pub reads : ReadsAs bytes said rest
  pub stage : StageHolds p before stream.stage
  pub sound : AreSound p said
  pub was_sound : AreSound p before
  pub gives : items_of said ≡ items_of before ++ item_list item
  pub steady : head_count (items_of before) ≡ 1 → with_nodes (certificate_of said) [] ≡ with_nodes (certificate_of before) []

-- some lines are said with which this item comes
pub record SomeItemComes (p : Problem) (stream : Stream) (item : Item) : Type 0 where
  pub before : LatestFirst
  pub said : LatestFirst
  pub comes : ItemComes p stream item before said

-- a node may be walked after the nodes so far
pub record MayWalk (p : Problem) (head : CertHead) (checker : Checker) (node : Node) : Type 0 where
  pub nodes : List Node
  pub walks : Walks p (head_with head nodes) checker
  pub sets_read : All (IsSetRead (support_of p (head_with head nodes))) head.sets.items
  pub read : IsNodeRead (support_of p (head_with head nodes)) node
  pub fits : Fits (nodes ++ node ∷ []) 1
  pub few : length nodes ≤ 2097153

-- some bytes were streamed
pub record HasStreamedSome (p : Problem) (stream : Stream) : Type 0 where
  pub bytes : List ℕ
  pub streamed : HasStreamed p stream bytes

-- bytes were streamed that were all given meanwhile
pub record HasStreamedGiven (p : Problem) (given_before given_now : ℕ) (stream : Stream) : Type 0 where
  pub bytes : List ℕ
  pub given : RoseBy (length bytes) given_before given_now
  pub streamed : HasStreamed p stream bytes

-- the bytes are the text of a certificate, and this is its answer, with its cost, its bound and its plan
pub record IsChecked (p : Problem) (bytes : List ℕ) (checked : Checked) : Type 0 where
  pub certificate : Certificate
  pub text : IsTextOf bytes certificate
  pub answer : IsAnswer p certificate checked.answer
  pub cost : checked.cost ≡ certificate.cost
  pub bound : checked.bound ≡ certificate.bound
  pub plan : checked.plan ≡ certificate.plan

-- bytes that were all given meanwhile are the text of the certificate of this answer
pub record IsCheckedGiven (p : Problem) (given_before given_now : ℕ) (checked : Checked) : Type 0 where
  pub bytes : List ℕ
  pub given : RoseBy (length bytes) given_before given_now
  pub is : IsChecked p bytes checked

-- the bytes of a file so far, as many as these, were streamed; if contents are told, they stand at the front of what the name holds
pub record HasRead (p : Problem) (stream : Stream) (tells : Bool) (held : Option (List ℕ)) (taken : ℕ) : Type 0 where
  pub bytes : List ℕ
  pub streamed : HasStreamed p stream bytes
  pub count : length bytes ≡ taken
  pub front : IsTrue tells → IfSome held (λ file. (bytes ≡ take (length bytes) file) × (length bytes ≤ length file))
  pub there : IsTrue tells → 0 < length bytes → IsSome held

-- what is said of all texts: their lines are read in one way, or one of them is bad, and a certificate that is read can be spelled, and has
-- its numbers in range and the nodes of one tree
pub record TextLaws : Type 0 where
  pub reading : ReadingIsUnique
  pub apart : ReadIsNotBad
  pub spellable : ReadIsSpellable
  pub fine : SpellableIsFine

-- What is answered of a name that holds this or nothing; the looks at it that failed and the bytes that were given were so many before, and
-- are so many now. Each refusal has its cause. If no look failed, the bytes and the memory decide.
pub record FileSays (p : Problem) (limit : ℕ) (tells : Bool) (held : Option (List ℕ)) (before now given_before given_now : ℕ)
    (result : Result Checked (Fail StreamFault)) : Type 0 where
  pub checked : IsTrue tells → IfOk result (λ checked. IsSomeAnd held (λ file. (length file ≤ limit) × IsChecked p file checked))
  pub given_text : IfOk result (IsCheckedGiven p given_before given_now)
  pub read : IsErrOf result (Refused faults.Read) → Rose before now
  pub longer : IsTrue tells → IsErrOf result (Refused faults.TooLong) → IsSomeAnd held (λ file. limit < length file)
  pub bad : IsTrue tells → (fault : CertFault) → IsErrOf result (Refused (faults.Bad fault)) → IsSomeAnd held (λ file. (length file ≤ limit) × IsFaultOf file fault)
  pub not_longer : IsTrue tells → IfSome held (λ file. limit < length file) → (Rose before now → ⊥) → IsErrOf result (Refused faults.TooLong) ⊎ IsErrOf result Memory
  pub text : IsTrue tells → (file : List ℕ) (c : Certificate) → held ≡ Some file → length file ≤ limit → IsTextOf file c → (Rose before now → ⊥) → IsOk result ⊎ IsErrOf result Memory
  pub no_text : IsTrue tells → (file : List ℕ) (fault : CertFault) → held ≡ Some file → length file ≤ limit → IsFaultOf file fault → (Rose before now → ⊥)
      → IsErrOf result (Refused (faults.Bad fault)) ⊎ IsErrOf result Memory
