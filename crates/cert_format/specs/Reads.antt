-- What is held of a whole text while it is read.
use Rattle.std.specs.Prelude.{◌≡◌, ℕ, ◌<◌, List, [], ◌∷◌, ◌++◌, length}
use Rattle.cert_lines.specs.declared.item.Item.{Item}
use Rattle.cert_lines.specs.declared.item.Item.TheVariants.{Quiet, Head, Node, Whole}
use Rattle.branch_rules.specs.Trees.{NodeList}
use Rattle.cert_lines.specs.Order.{LatestFirst}
use Rattle.cert_lines.specs.Certificates.{nodes_of}
use Rattle.cert_format.specs.declared.cert_reader.CertReader.{CertReader}
use Rattle.cert_format.specs.Certs.{stated_nodes}
use Rattle.cert_format.specs.Held.{IsGoing}

-- the reader has taken these bytes, no line is bad, and the tree has the nodes, with room for those that are stated
pub record ReadsTree (reader : CertReader) (tree : NodeList) (bytes : List ℕ) : Type 0 where
  pub said : LatestFirst
  pub rest : List ℕ
  pub going : IsGoing reader bytes said rest
  pub nodes : tree.nodes ≡ nodes_of said
  pub room : tree.room ≡ stated_nodes said

-- there is room for the node that is given
abbrev pub ItemFits : Item → NodeList → Type 0
ItemFits Quiet tree = Unit {0}
ItemFits Head tree = Unit {0}
ItemFits (Node x) tree = length tree.nodes < tree.room
ItemFits Whole tree = Unit {0}

-- a node is put last; with the head there is room for so many
abbrev pub KeepsItem : Item → ℕ → (old new : NodeList) → Type 0
KeepsItem Quiet n old new = new ≡ old
KeepsItem Head n old new = new ≡ record { nodes = []; room = n }
KeepsItem (Node x) n old new = new ≡ record { nodes = old.nodes ++ x ∷ []; room = old.room }
KeepsItem Whole n old new = new ≡ old
