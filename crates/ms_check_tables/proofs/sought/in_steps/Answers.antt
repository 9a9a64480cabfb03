use Rattle.std.proofs.Common.{List, sym, ◌∙◌}
use Rattle.ms_ir.specs.Equal.{AddressStep}
use Rattle.ms_ir.specs.Written.{Mention, type_mentions}
use Rattle.ms_check_tables.proofs.Items.{none_left}
use Rattle.ms_check_tables.proofs.Mentioned.{sought_passed, sought_stopped}
use Rattle.ms_check_tables.proofs.sought.in_steps.Goals as goal

abbrev step_mentions : AddressStep → List Mention
step_mentions s = type_mentions s.0

pub returns-in-Some : goal.returns-in-Some
returns-in-Some g c =
    sym (sought_stopped (g.S.Search.sought c.args.search.now) step_mentions c.args.steps.now c.loop-ty.ty-index c.loop-ty-item.result c.in-Some.spelled c.loop-ty-test.true c.loop-ty-item.is
    (sym c.in_type.ensures ∙ c.in-Some.is))
    ∙ c.loop-ty.invariant

pub loop-ty-preserved : goal.loop-ty-preserved
loop-ty-preserved g c =
    sought_passed (g.S.Search.sought c.args.search.now) step_mentions c.args.steps.now c.loop-ty.ty-index c.loop-ty-item.result _ c.loop-ty-test.true c.loop-ty-item.is
    (sym c.in_type.ensures ∙ none_left c.in_type.result c.in_default.not-Some) c.loop-ty.invariant
