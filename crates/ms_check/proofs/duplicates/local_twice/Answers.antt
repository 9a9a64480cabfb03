use Rattle.std.proofs.Common.{◌∙◌, ap}
use Rattle.std.specs.Prelude.{slice_get}
use Rattle.std.proofs.lemmas.Result.{IfOk-weaker}
use Rattle.ms_ir.specs.Locals.{locals}
use Rattle.ms_check_valid.specs.NamesOnce.{repeats}
use Rattle.ms_check.proofs.duplicates.local_twice.Goals as goal

pub returns : goal.returns
returns c =
    IfOk-weaker c.locals_twice.result _ _ (λ r is. is ∙ ap (λ seen. slice_get (repeats seen (locals c.args.func.now)) 0) c.new-seen.ensures) c.locals_twice.ensures
