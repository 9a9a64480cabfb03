use Rattle.std.proofs.Common.{◌≡◌, ◌++◌, drop}
use Rattle.ms_words.specs.Usage.{option_uses}
use Rattle.ms_words.proofs.help.push_uses.Given as goal

abbrev pub invariant-loop-option : goal.invariant-loop-option
invariant-loop-option l = l.text.items ++ option_uses l.command (drop l.option-index l.options) ≡ l.initial.text.items ++ option_uses l.command l.options
