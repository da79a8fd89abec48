use Rattle.std.proofs.Common.{◌≡◌, ◌+◌, [], length, drop}
use Rattle.dat_text.specs.declared.fault.DatFault.{DatFault}
use Rattle.dat_text.specs.Text.{lines_of, AreGood, HasFirstBad, LatestFirst}
use Rattle.dat_text.specs.Drafts.{Matches}
use Rattle.dat_text.proofs.reading.read_lines.Given as goal

-- the lines so far are good, and what holds of the others after them holds of all
abbrev pub invariant-loop-line : goal.invariant-loop-line
invariant-loop-line l = record {
  said : LatestFirst;
  matches : Matches said l.draft;
  at : l.at ≡ length l.yielded;
  good : (all : LatestFirst) → AreGood said (drop (length l.yielded) (lines_of l.bytes)) all → AreGood [] (lines_of l.bytes) all;
  bad : (fault : DatFault) → HasFirstBad said (length l.yielded + 1) (drop (length l.yielded) (lines_of l.bytes)) fault → HasFirstBad [] 1 (lines_of l.bytes) fault;
}
