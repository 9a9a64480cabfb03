use Rattle.std.proofs.Common.{◌≡◌, map, drop}
use Rattle.ms_text_grammar.specs.LayoutModules.{declaration_line}
use Rattle.ms_write_values.specs.Sheets.{put_lines}
use Rattle.ms_write.proofs.modules.write_declaration_lines.Given as goal

abbrev pub invariant-loop-decl : goal.invariant-loop-decl
invariant-loop-decl l = put_lines l.writer (map declaration_line (drop l.decl-index l.decls)) ≡ put_lines l.fn.writer (map declaration_line l.decls)
