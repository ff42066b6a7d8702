-- The exit status of the program, by how its run ended.
use Rattle.std.specs.Prelude.{ℕ}
use Rattle.lsp_loop.specs.declared.ends.End.{End}
use Rattle.lsp_loop.specs.declared.ends.End.TheVariants as end
use Rattle.session_loop.specs.declared.service.Status.{Status}
use Rattle.session_loop.specs.declared.service.Status.TheVariants.{Done, BadWords, ReadFault, WriteFault, InputTooLong, NoMemory}

-- the exit status of a run's end
abbrev pub number_of : Status → ℕ
number_of Done = 0
number_of BadWords = 2
number_of ReadFault = 3
number_of WriteFault = 4
number_of InputTooLong = 5
number_of NoMemory = 6

-- the exit status of the end of an editor's run
abbrev pub number_of_end : End → ℕ
number_of_end end.Done = 0
number_of_end end.NoShutdown = 1
number_of_end end.ReadFault = 3
number_of_end end.WriteFault = 4
number_of_end end.InputTooLong = 5
number_of_end end.NoMemory = 6
number_of_end end.BadFrame = 7
