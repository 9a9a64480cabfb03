use Rattle.std.proofs.Common.{◌≡◌, ◌++◌, drop}
use Rattle.ms_report.specs.SchedulesTexts.{hex_text}
use Rattle.ms_report.proofs.schedules.push_hex.Given as goal

abbrev pub invariant-loop-byte : goal.invariant-loop-byte
invariant-loop-byte l = l.text.items ++ hex_text (drop l.byte-index l.bytes) ≡ l.initial.text.items ++ hex_text l.bytes
