-- The command that the code takes apart: its file, and what it does with the module. What `msan` promises does not name this file.
use Rattle.std.specs.Prelude.{List, ℕ}
use Rattle.ms_words.specs.declared.commands.Command.{Command}
use Rattle.ms_words.specs.declared.commands.Command.TheVariants as command
use Rattle.ms_top.specs.declared.commands.Action.{Action}
use Rattle.ms_top.specs.declared.commands.Action.TheVariants.{Instrument, Run, Check, CheckSchedules, Explain, Corpus}
use Rattle.ms_top.specs.declared.commands.FileCommand.{FileCommand}

-- the command that does this with the module in a file
abbrev pub command_with : (file : List ℕ) → Action → Command
command_with file Instrument = command.Instrument file
command_with file (Run options) = command.Run file options.now
command_with file (Check options) = command.Check file options.now
command_with file (CheckSchedules options runs workers) = command.CheckSchedules file options.now runs workers
command_with file (Explain options) = command.Explain file options.now
command_with file (Corpus inputs options workers) = command.Corpus file inputs.now options.now workers

abbrev pub command_of : FileCommand → Command
command_of c = command_with c.file.now c.action
