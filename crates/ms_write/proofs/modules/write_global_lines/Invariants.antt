use Rattle.std.proofs.Common.{◌≡◌, map, drop}
use Rattle.ms_text_grammar.specs.LayoutModules.{global_line}
use Rattle.ms_write_values.specs.Sheets.{put_lines}
use Rattle.ms_write.proofs.modules.write_global_lines.Given as goal

abbrev pub invariant-loop-global : goal.invariant-loop-global
invariant-loop-global l = put_lines l.writer (map global_line (drop l.global-index l.globals)) ≡ put_lines l.fn.writer (map global_line l.globals)
