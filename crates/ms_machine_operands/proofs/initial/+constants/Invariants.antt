use Rattle.std.proofs.Common.{◌+◌, ◌*◌, drop}
use denote.Param.Weighed.{most}
use Rattle.ms_ir.specs.declared.syntax.Init.{size-Init}
use Rattle.ms_machine_code.specs.Constants.{parts_constants}
use Rattle.ms_machine_operands.proofs.Pushing.{Pushing}
use Rattle.ms_machine_operands.proofs.initial.+constants.Given as goal

abbrev pub decreases-push_init : goal.decreases-push_init
decreases-push_init l = 2 * size-Init l.init.now

-- the greatest depth among the parts
abbrev pub decreases-push_parts : goal.decreases-push_parts
decreases-push_parts l = 2 * most (λ p. size-Init p.1) l.parts.now + 1

abbrev pub invariant-push_parts-loop-init : goal.invariant-push_parts-loop-init
invariant-push_parts-loop-init l = Pushing l.tables.whole.now l.initial.words.items l.words.items (parts_constants l.parts) (parts_constants (drop l.init-index l.parts))
