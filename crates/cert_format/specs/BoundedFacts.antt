-- That a draft is bounded is a fact, with no choice in it.
use Rattle.std.specs.Prelude.{ℕ, Option}
use Rattle.std.proofs.Props.{props}
use Rattle.cert_lines.specs.declared.next.Next.{Next}
use Rattle.cert_lines.specs.declared.next.Next.TheVariants as stands
use Rattle.cert_format.specs.declared.draft.Draft.{Draft}
use Rattle.branch_rules.specs.Prices.{Prices}
use Rattle.cert_format.specs.Drafts.{Bounds, HasSet, IsBounded}

pub Bounds-prop : (next : Next) (tours shores sets : ℕ) → IsProp (Bounds next tours shores sets)
Bounds-prop stands.Version tours shores sets = hlevel props
Bounds-prop stands.Counts tours shores sets = hlevel props
Bounds-prop stands.Cost tours shores sets = hlevel props
Bounds-prop stands.Bound tours shores sets = hlevel props
Bounds-prop stands.Tours tours shores sets = hlevel props
Bounds-prop (stands.Tour left) tours shores sets = hlevel props
Bounds-prop stands.Shores tours shores sets = hlevel props
Bounds-prop (stands.Shore left) tours shores sets = hlevel props
Bounds-prop stands.Sets tours shores sets = hlevel props
Bounds-prop (stands.Prices left) tours shores sets = hlevel props
Bounds-prop (stands.Weights left) tours shores sets = hlevel props
Bounds-prop (stands.Bonds left) tours shores sets = hlevel props
Bounds-prop stands.Nodes tours shores sets = hlevel props
Bounds-prop (stands.Node left subtrees) tours shores sets = hlevel props
Bounds-prop stands.End tours shores sets = hlevel props
Bounds-prop stands.Nothing tours shores sets = hlevel props

pub HasSet-prop : (next : Next) (set : Option Prices) → IsProp (HasSet next set)
HasSet-prop stands.Version set = hlevel props
HasSet-prop stands.Counts set = hlevel props
HasSet-prop stands.Cost set = hlevel props
HasSet-prop stands.Bound set = hlevel props
HasSet-prop stands.Tours set = hlevel props
HasSet-prop (stands.Tour left) set = hlevel props
HasSet-prop stands.Shores set = hlevel props
HasSet-prop (stands.Shore left) set = hlevel props
HasSet-prop stands.Sets set = hlevel props
HasSet-prop (stands.Prices left) set = hlevel props
HasSet-prop (stands.Weights left) set = hlevel props
HasSet-prop (stands.Bonds left) set = hlevel props
HasSet-prop stands.Nodes set = hlevel props
HasSet-prop (stands.Node left subtrees) set = hlevel props
HasSet-prop stands.End set = hlevel props
HasSet-prop stands.Nothing set = hlevel props

pub IsBounded-prop : (draft : Draft) → IsProp (IsBounded draft)
IsBounded-prop draft = hlevel (props, Bounds-prop, HasSet-prop)
