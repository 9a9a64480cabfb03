use Rattle.std.proofs.Common.{◌≡◌, drop}
use Rattle.std.specs.Prelude.{flat_map}
use Rattle.ms_text_grammar.specs.LayoutModules.{function_lines}
use Rattle.ms_write_values.specs.Sheets.{put_lines}
use Rattle.ms_write.proofs.modules.write_functions.Given as goal

abbrev pub invariant-loop-func : goal.invariant-loop-func
invariant-loop-func l = put_lines l.writer (flat_map (function_lines l.dotted) (drop l.func-index l.funcs)) ≡ put_lines l.fn.writer (flat_map (function_lines l.dotted) l.funcs)
