use Rattle.std.proofs.Common.{◌≡◌, ◌+◌, length}
use Rattle.ms_text_grammar.specs.Modules.{instructions_of}
use Rattle.ms_read_top.proofs.function_entities.instructions_of.Given as goal

abbrev pub invariant-counted : goal.invariant-counted
invariant-counted l = l.count + instructions_of l.rest ≡ instructions_of l.blocks

abbrev pub decreases-counted : goal.decreases-counted
decreases-counted l = length l.rest
