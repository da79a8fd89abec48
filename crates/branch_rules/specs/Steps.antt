-- One decision on, and one back. No public contract speaks of this.
use Rattle.std.specs.Prelude.{◌≡◌, Option, [], ◌∷◌, ◌++◌}
use Rattle.decision_chains.specs.declared.decision.Decision.{Decision}
use Rattle.branch_rules.specs.declared.path.Path.{Path}

-- the path goes on by a decision
pub record Enters (old new : Path) (decision : Decision) (second : Option Decision) : Type 0 where
  pub branch : new.branch ≡ old.branch ++ decision ∷ []
  pub seconds : new.seconds.items ≡ old.seconds.items ++ second ∷ []
  pub same_whole : new.whole ≡ old.whole

-- the path went back by one decision
abbrev pub LeavesOne : (new old : Path) → (second : Option Decision) → Type 0
LeavesOne new old second = (decision : Decision) × Enters new old decision second
