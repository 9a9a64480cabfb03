use Rattle.std.proofs.Common.{◌≡◌, ◌++◌, drop}
use Rattle.ms_words.specs.Usage.{all_command_lines}
use Rattle.ms_words.proofs.help.push_commands.Given as goal

abbrev pub invariant-loop-command : goal.invariant-loop-command
invariant-loop-command l = l.text.items ++ all_command_lines (drop l.command-index l.commands) ≡ l.initial.text.items ++ all_command_lines l.commands
