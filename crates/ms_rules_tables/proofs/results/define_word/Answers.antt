use Rattle.std.proofs.Common.{[], ◌∷◌}
use Rattle.ms_ir.specs.declared.syntax.Ty.{Int}
use Rattle.ms_pass_tasks.specs.Tasks.{Sets, mask_name, origin_name}
use Rattle.ms_rules_tables.proofs.Tasks.{more_tasks}
use Rattle.ms_rules_tables.proofs.results.define_word.Goals as goal

pub returns : goal.returns
returns c = λ e f p q.
    more_tasks c.set_mask.result c.args.builder.now c.set_origin.new.builder c.set_mask.new.builder (Sets (origin_name c.args.value) (Int 32) e ∷ [])
    (Sets (mask_name c.args.value) (Int c.args.width) f ∷ []) (c.in_ok-set_origin.ensures e p) (c.set_mask.ensures f q)
