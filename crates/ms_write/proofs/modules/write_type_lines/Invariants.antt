use Rattle.std.proofs.Common.{◌≡◌, map, drop}
use Rattle.ms_text_grammar.specs.LayoutModules.{type_line}
use Rattle.ms_write_values.specs.Sheets.{put_lines}
use Rattle.ms_write.proofs.modules.write_type_lines.Given as goal

abbrev pub invariant-loop-named : goal.invariant-loop-named
invariant-loop-named l = put_lines l.writer (map type_line (drop l.named-index l.types)) ≡ put_lines l.fn.writer (map type_line l.types)
