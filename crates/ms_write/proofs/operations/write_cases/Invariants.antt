use Rattle.std.proofs.Common.{◌≡◌, drop}
use Rattle.std.specs.Prelude.{flat_map}
use Rattle.ms_text_grammar.specs.LayoutInsts.{case_tokens}
use Rattle.ms_write_values.specs.Sheets.{put}
use Rattle.ms_write.proofs.operations.write_cases.Given as goal

abbrev pub invariant-loop-case : goal.invariant-loop-case
invariant-loop-case l = put l.writer (flat_map (case_tokens l.ty) (drop l.case-index l.cases)) ≡ put l.fn.writer (flat_map (case_tokens l.ty) l.cases)
