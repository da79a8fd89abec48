-- What a turn of a search leaves. No public contract speaks of this.
use Rattle.std.specs.Prelude.{◌<◌}
use Rattle.branch_tree.specs.declared.search.Turn.{Turn}
use Rattle.branch_tree.specs.declared.search.Turn.TheVariants.{Done, Closed, Split}
use Rattle.branch_tree.specs.Searches.{State}
use Rattle.branch_tree.specs.Steps.{AreClosed}

-- each leaf is closed if there was nothing to do, and else there are more turns
abbrev pub HasTurned : State → State → Turn → Type 0
HasTurned before after Done = AreClosed after
HasTurned before after Closed = before.done < after.done
HasTurned before after Split = before.done < after.done
