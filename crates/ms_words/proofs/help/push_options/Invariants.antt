use Rattle.std.proofs.Common.{◌≡◌, ◌++◌, drop}
use Rattle.ms_words.specs.Usage.{option_lines}
use Rattle.ms_words.proofs.help.push_options.Given as goal

abbrev pub invariant-loop-option : goal.invariant-loop-option
invariant-loop-option l = l.text.items ++ option_lines (drop l.option-index l.options) ≡ l.initial.text.items ++ option_lines l.options
