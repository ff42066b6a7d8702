use Rattle.std.proofs.Common.{◌≡◌, ◌++◌, List, length, reverse}
use Rattle.std.specs.declared.rc.Rc.{Rc}
use Rattle.std.specs.declared.alloc.Global.{Global}
use Rattle.env_table.specs.declared.entries.Entry.{Entry}
use Rattle.sig_template.specs.Structures.{entries_of, newest_alone, AreMet}
use Rattle.sig_template.proofs.structures.newest_alone.Given as goal

abbrev pub invariant-loop-entry : goal.invariant-loop-entry
invariant-loop-entry l = record {
  newer : List (Rc Entry Global);
  both : l.entries ≡ l.rest ++ newer;
  kept : reverse (entries_of l.kept.items) ≡ newest_alone (entries_of newer);
  met : AreMet l.met (entries_of newer);
}

abbrev pub decreases-loop-entry : goal.decreases-loop-entry
decreases-loop-entry l = length l.rest
