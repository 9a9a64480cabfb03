use Rattle.std.proofs.Common.{[], ◌∷◌}
use Rattle.ms_ir.specs.declared.syntax.Ty.{Int}
use Rattle.ms_pass_tasks.specs.Tasks.{Sets, mask_name, origin_name}
use Rattle.ms_pass_tasks.specs.ResultMasks.{first_last}
use Rattle.ms_rules_builder.specs.Steps.{inputs_of}
use Rattle.ms_rules_tables.proofs.Tasks.{more_tasks}
use Rattle.ms_rules_tables.proofs.results.define_joined.Goals as goal

pub returns : goal.returns
returns c = λ e p.
    more_tasks c.set_mask.result c.args.builder.now c.set_last_origin.new.builder c.set_mask.new.builder
    (Sets (origin_name c.args.value) (Int 32) (first_last (inputs_of c.args.inputs.now).operands) ∷ [])
    (Sets (mask_name c.args.value) (Int c.args.width) e ∷ []) c.in_ok-set_last_origin.ensures (c.set_mask.ensures e p)
