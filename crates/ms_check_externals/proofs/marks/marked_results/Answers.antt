use Rattle.std.proofs.Common.{◌++◌, ◌∙◌, filter_map}
use Rattle.std.specs.Prelude.{flat_map}
use Rattle.std.proofs.Math.Path.{ap₂}
use Rattle.ms_check_externals.proofs.Marked.{picked_result, marked_is}
use Rattle.ms_check_externals.proofs.marks.marked_results.Goals as goal

pub returns : goal.returns
returns c =
    c.in_ok-push_code.ensures ∙ ap₂ (λ names blocks. names ++ flat_map (λ b. filter_map picked_result b.insts) blocks) c.new-names.ensures c.as_slice.ensures ∙ marked_is c.args.func.now
