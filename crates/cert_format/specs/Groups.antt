-- What is held of the groups on a line, of which some words have come.
use Rattle.std.specs.Prelude.{◌≡◌, ℕ, suc, ◌+◌, ◌≤◌, Bool, true, false, ◌&&◌, nat_le, List, [], ◌∷◌, ◌++◌, length, sum_by}
use Rattle.std.specs.List.{All, list_all, flat_map}
use Rattle.branch_rules.specs.Bonds.{GroupWeight}
use Rattle.branch_rules.specs.Limits.{IsFineGroup}
use Rattle.cert_lines.specs.Numbers.{IsNoNatural, IsNoWhole, clamped}
use Rattle.cert_lines.specs.Lines.{Remainder, nothing, weight_alone, short_of, stated_size, group_words, remainder_words}
use Rattle.cert_lines.specs.Ranges.{remainder_size}
use Rattle.cert_lines.specs.Agreement.{IsGroupInOrder}
use Rattle.cert_format.specs.declared.groups.Awaited.{Awaited}
use Rattle.cert_format.specs.declared.groups.Awaited.TheVariants.{Weight, Size, Edge}
use Rattle.cert_format.specs.declared.groups.Groups.{Groups}
use Rattle.cert_format.specs.Numbers.{is_within, price_ok}

-- the words of groups, and of what stands behind them
abbrev pub all_words : List GroupWeight → Remainder → List (List ℕ)
all_words groups rest = flat_map group_words groups ++ remainder_words rest

-- the sizes that are stated
abbrev pub sizes : List GroupWeight → Remainder → ℕ
sizes groups rest = sum_by (λ (w : GroupWeight). length w.edges) groups + remainder_size rest

-- the numbers of groups are in range
abbrev pub edge_ok : ℕ → Bool
edge_ok e = is_within 1 600 e

abbrev pub group_ok : GroupWeight → Bool
group_ok w = price_ok w.weight && is_within 2 600 (length w.edges) && list_all edge_ok w.edges

abbrev pub rest_ok : Remainder → Bool
rest_ok nothing = true
rest_ok (weight_alone z) = price_ok z
rest_ok (short_of missing z edges) = price_ok z && is_within 2 600 (stated_size missing edges) && list_all edge_ok edges

abbrev pub groups_ok : List GroupWeight → Remainder → Bool
groups_ok groups rest = list_all group_ok groups && rest_ok rest && nat_le (sizes groups rest) 60000

-- so many edges are to come: as many as are missing and one, or no more than these if the number is not exact
abbrev pub LeftIs : (exact : Bool) → (left missing : ℕ) → Type 0
LeftIs true left missing = left ≡ suc missing
LeftIs false left missing = left ≤ suc missing

-- what stands next is told by what stands behind the complete groups
abbrev pub Awaits : Awaited → Remainder → Type 0
Awaits Weight nothing = Unit {0}
Awaits (Size weight) (weight_alone z) = weight ≡ clamped z
Awaits (Edge weight left exact) (short_of missing z edges) = (weight ≡ clamped z) × LeftIs exact left missing
Awaits _ _ = ⊥

-- the edges of an incomplete group are held
abbrev pub HoldsEdges : List ℕ → Remainder → Type 0
HoldsEdges held (short_of missing z edges) = held ≡ edges
HoldsEdges held _ = Unit {0}

-- groups whose numbers are in range
pub record KnowsGroups (held : Groups) (groups : List GroupWeight) (rest : Remainder) : Type 0 where
  pub room : held.room + sizes groups rest ≡ 60000
  pub edges : HoldsEdges held.edges.items rest
  pub kept : held.in_order ≡ true → (held.kept.items ≡ groups) × All IsGroupInOrder groups
  pub odd : held.in_order ≡ false → All IsGroupInOrder groups → ⊥

-- the groups of a line, and what stands behind them; whether the number before them is in range
pub record HoldsGroups (held : Groups) (head : Bool) (groups : List GroupWeight) (rest : Remainder) : Type 0 where
  pub awaits : Awaits held.awaited rest
  pub in_range : held.in_range ≡ (head && groups_ok groups rest)
  pub known : held.in_range ≡ true → KnowsGroups held groups rest

-- no word that may stand there
abbrev pub IsNoWordAfter : Remainder → List ℕ → Type 0
IsNoWordAfter nothing text = IsNoWhole text
IsNoWordAfter _ text = IsNoNatural text

-- the groups with one word more
pub record AreMore (new : Groups) (head : Bool) (groups : List GroupWeight) (rest : Remainder) (text : List ℕ) : Type 0 where
  pub more : List GroupWeight
  pub behind : Remainder
  pub words : all_words more behind ≡ all_words groups rest ++ text ∷ []
  pub held : HoldsGroups new head more behind

-- the word may stand there, and is taken, or it may not
abbrev pub Takes : (fits : Bool) → Groups → (head : Bool) → List GroupWeight → Remainder → List ℕ → Type 0
Takes true new head groups rest text = AreMore new head groups rest text
Takes false new head groups rest text = IsNoWordAfter rest text

-- groups of a price set
pub record AreSetGroups (groups : List GroupWeight) : Type 0 where
  pub few : length groups ≤ 2000
  pub few_edges : sum_by (λ (w : GroupWeight). length w.edges) groups ≤ 60000
  pub fine : All IsFineGroup groups
