use Rattle.std.proofs.Common.{◌≡◌, ◌++◌, drop, map}
use Rattle.ms_words.specs.Usage.{lines_of}
use Rattle.ms_words.proofs.help.push_lines.Given as goal

abbrev pub invariant-loop-line : goal.invariant-loop-line
invariant-loop-line l = l.text.items ++ lines_of (map (λ t. t.now) (drop l.line-index l.lines)) ≡ l.initial.text.items ++ lines_of (map (λ t. t.now) l.lines)
