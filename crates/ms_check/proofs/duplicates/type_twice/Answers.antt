use Rattle.std.proofs.Common.{[], ◌∙◌, ap, Some, filter_map}
use Rattle.std.specs.Prelude.{slice_get}
use Rattle.std.proofs.lemmas.Result.{IfOk-weaker}
use Rattle.ms_check_valid.specs.NamesOnce.{repeats}
use Rattle.ms_check_tables.proofs.Given.{given_is}
use Rattle.ms_check.proofs.duplicates.type_twice.Goals as goal

pub returns : goal.returns
returns c = IfOk-weaker c.first_twice.result _ _ (λ r p.
    p ∙ ap (λ seen. slice_get (repeats seen (filter_map (λ t. Some t.0) c.as_slice.result.now)) 0) c.new-types.ensures
    ∙ ap (λ names. slice_get (repeats [] names) 0) (given_is (λ t. t.0) c.as_slice.result.now c.args.m.now.types c.as_slice.ensures)
    ) c.first_twice.ensures.first
