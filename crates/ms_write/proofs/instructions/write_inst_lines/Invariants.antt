use Rattle.std.proofs.Common.{◌≡◌, map, drop}
use Rattle.ms_text_grammar.specs.LayoutInsts.{inst_line}
use Rattle.ms_write_values.specs.Sheets.{put_lines}
use Rattle.ms_write.proofs.instructions.write_inst_lines.Given as goal

abbrev pub invariant-loop-inst : goal.invariant-loop-inst
invariant-loop-inst l = put_lines l.writer (map (inst_line l.dotted) (drop l.inst-index l.insts)) ≡ put_lines l.fn.writer (map (inst_line l.dotted) l.insts)
