use Rattle.std.proofs.Common.{◌++◌, ◌∙◌, filter_map}
use Rattle.std.specs.Prelude.{flat_map}
use Rattle.std.proofs.Math.Path.{ap₂}
use Rattle.ms_check_externals.proofs.Marked.{picked_callee, called_is}
use Rattle.ms_check_externals.proofs.called.called_names.Goals as goal

pub returns : goal.returns
returns c =
    c.in_ok-push_funcs.ensures ∙ ap₂ (λ names funcs. names ++ flat_map (λ f. flat_map (λ b. filter_map picked_callee b.insts) f.blocks) funcs) c.new-names.ensures c.as_slice.ensures ∙ called_is c.args.m.now.funcs
