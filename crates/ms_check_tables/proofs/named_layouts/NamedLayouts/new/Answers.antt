use Rattle.std.proofs.Common.{◌∙◌}
use Rattle.ms_check_tables.proofs.ExtentRows.{none_kept}
use Rattle.ms_check_tables.proofs.Given.{all_given}
use Rattle.ms_check_tables.proofs.named_layouts.NamedLayouts.new.Goals as goal

pub invariant_of-result : goal.invariant_of-result
invariant_of-result c =
    none_kept c.args.types.now c.in_ok-names.names c.in_ok-layouts.layouts.items (c.in_ok-names.ensures ∙ all_given (λ t. t.0) c.args.types.now) c.in_ok-layouts.ensures
