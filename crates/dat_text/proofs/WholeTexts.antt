-- What a whole text describes, and its faults.
use Rattle.std.proofs.Common.{◌≡◌, ℕ, ◌+◌, ◌<◌, ◌≤◌, Bool, true, false, cond, eqb, List, [], ◌∷◌, ◌++◌, length, Some, Err, ap, ◌∙◌, inl, inr, arith}
use Rattle.std.proofs.lemmas.Option.{none-some}
use Rattle.std.proofs.lemmas.List.{length_push}
use Rattle.std.proofs.lemmas.List.Sums.{count_by-le-length}
use Rattle.std.proofs.lemmas.List.Splits.{length-slice_split}
use Rattle.carp_base.specs.declared.edge.RawEdge.{RawEdge}
use Rattle.carp_base.specs.declared.fault.InstanceFault.{InstanceFault}
use Rattle.carp_base.specs.declared.fail.Fail.{Fail}
use Rattle.carp_base.specs.declared.fail.Fail.TheVariants as fails
use Rattle.dat_text.specs.declared.key.Key.{Key}
use Rattle.dat_text.specs.declared.key.Key.TheVariants.{Vertices, RequiredList, OtherList}
use Rattle.dat_text.specs.declared.fault.DatFault.{DatFault}
use Rattle.dat_text.specs.declared.fault.DatFault.TheVariants.{Syntax, MissingKey, DoubleKey, CountDiffers, NumberTooLong, Refused}
use Rattle.dat_text.specs.Text.{lines_of, same_key, number_of, edges_of, AreGood, HasFirstBad, Description, Describes, IsFaultOf, LatestFirst}
use Rattle.dat_text.specs.Text.Statement.{nothing, states, lists}
use Rattle.dat_text.specs.Drafts.{ReadsLines, ReadsText}

-- a bad line's fault is none of the instance
no_bad_refusal : (before : LatestFirst) (at : ℕ) (lines : List (List ℕ)) (fault : InstanceFault) → HasFirstBad before at lines (Refused fault) → ⊥
no_bad_refusal before at [] fault bad = bad
no_bad_refusal before at (line ∷ lines) fault (inl bad) = bad
no_bad_refusal before at (line ∷ lines) fault (inr more) = no_bad_refusal (more.0 ∷ before) (at + 1) lines fault more.2

pub bad_is_fault : (bytes : List ℕ) (fault : DatFault) → HasFirstBad [] 1 (lines_of bytes) fault → IsFaultOf bytes fault
bad_is_fault bytes (Syntax n) bad = inl bad
bad_is_fault bytes (MissingKey k) bad = inl bad
bad_is_fault bytes (DoubleKey k) bad = inl bad
bad_is_fault bytes (CountDiffers k stated found) bad = inl bad
bad_is_fault bytes (NumberTooLong n) bad = inl bad
bad_is_fault bytes (Refused fault) bad = absurd (no_bad_refusal [] 1 (lines_of bytes) fault bad)

pub refused_text : (bytes : List ℕ) (e : Fail DatFault) → ReadsLines bytes (Err e) → ReadsText bytes (Err e)
refused_text bytes fails.Memory reads = tt
refused_text bytes (fails.Refused fault) reads = bad_is_fault bytes fault reads

-- How many edges there are.

said_length : (before : LatestFirst) (lines : List (List ℕ)) (said : LatestFirst) → AreGood before lines said → length said ≡ length before + length lines
said_length before [] said says = ap length says ∙ omega arith
said_length before (line ∷ lines) said says = said_length (says.0 ∷ before) lines said says.2 ∙ omega arith

edge_step : (t : Bool) (xs : List RawEdge) (x : RawEdge) → length (cond t (xs ++ x ∷ []) xs) ≤ length xs + 1
edge_step true xs x = omega (arith, length_push xs x)
edge_step false xs x = omega arith

edges_within : (list : Key) (said : LatestFirst) → length (edges_of list said) ≤ length said
edges_within list [] = omega arith
edges_within list (nothing ∷ said) = omega (arith, edges_within list said)
edges_within list (states k n ∷ said) = omega (arith, edges_within list said)
edges_within list (lists other x ∷ said) = omega (arith, edges_within list said, edge_step (same_key other list) (edges_of list said) x)

-- where a number stands, not all entries are edges
edges_below : (list k : Key) (n : ℕ) (said : LatestFirst) → number_of k said ≡ Some n → length (edges_of list said) < length said
edges_below list k n [] there = absurd (none-some n there)
edges_below list k n (nothing ∷ said) there = omega (arith, edges_within list said)
edges_below list k n (states other m ∷ said) there = omega (arith, edges_within list said)
edges_below list k n (lists other x ∷ said) there = omega (arith, edges_below list k n said there, edge_step (same_key other list) (edges_of list said) x)

list_within : (bytes : List ℕ) (said : LatestFirst) (list : Key) (n : ℕ) → AreGood [] (lines_of bytes) said → number_of Vertices said ≡ Some n →
    length (edges_of list said) ≤ length bytes
list_within bytes said list n says there =
    omega (arith, edges_below list Vertices n said there, said_length [] (lines_of bytes) said says, length-slice_split (λ b. eqb b 10) bytes, count_by-le-length (λ b. eqb b 10) bytes)

pub required_within : (bytes : List ℕ) (d : Description) → Describes bytes d → length d.required ≤ length bytes
required_within bytes d h = omega (arith, ap length h.complete.required, list_within bytes h.said RequiredList d.vertices h.lines h.complete.vertices)

pub others_within : (bytes : List ℕ) (d : Description) → Describes bytes d → length d.others ≤ length bytes
others_within bytes d h = omega (arith, ap length h.complete.others, list_within bytes h.said OtherList d.vertices h.lines h.complete.vertices)
