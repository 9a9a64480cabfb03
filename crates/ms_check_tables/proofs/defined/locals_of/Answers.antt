use Rattle.std.proofs.Common.{◌++◌, ◌∙◌, ap}
use Rattle.std.specs.Prelude.{flat_map}
use Rattle.std.proofs.Math.Path.{ap₂}
use Rattle.ms_ir.specs.Locals.{block_locals}
use Rattle.ms_check_tables.proofs.defined.locals_of.Goals as goal

pub returns : goal.returns
returns c =
    c.in_ok-push_blocks.ensures ∙ ap₂ (λ names more. names ++ more) c.in_ok-names.ensures (ap (flat_map block_locals) c.as_slice.ensures)
