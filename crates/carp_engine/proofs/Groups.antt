-- Groups of edges from 1 to 600, as the search says it and as a certificate's spelling does.
use Rattle.std.proofs.Common.{◌≤◌}
use Rattle.std.specs.List.{All}
use Rattle.std.proofs.lemmas.List.Elements.{All-weaker}
use Rattle.branch_rules.specs.Bonds.{GroupWeight}
use Rattle.branch_rules.specs.Prices.{Prices}
use Rattle.branch_tree.specs.Searches.{HasGroupsInRange, IsGroupInRange}
use Rattle.cert_lines.specs.Ranges.{IsWithin}

-- the edges of each group are within the range of a certificate's line
abbrev pub AreSpelledGroups : Prices → Type 0
AreSpelledGroups set = All (λ (w : GroupWeight). All (IsWithin 1 600) w.edges) set.groups

pub spelled_in_range : (set : Prices) → AreSpelledGroups set → HasGroupsInRange set
spelled_in_range set all =
    All-weaker (λ (w : GroupWeight). All (IsWithin 1 600) w.edges) IsGroupInRange
    (λ w edges. All-weaker (IsWithin 1 600) (λ e. (1 ≤ e) × (e ≤ 600)) (λ e is. (is.from_first, is.to_last)) w.edges edges) set.groups all

pub in_range_spelled : (set : Prices) → HasGroupsInRange set → AreSpelledGroups set
in_range_spelled set all =
    All-weaker IsGroupInRange (λ (w : GroupWeight). All (IsWithin 1 600) w.edges)
    (λ w edges. All-weaker (λ e. (1 ≤ e) × (e ≤ 600)) (IsWithin 1 600) (λ e is. record { from_first = is.0; to_last = is.1 }) w.edges edges) set.groups all
