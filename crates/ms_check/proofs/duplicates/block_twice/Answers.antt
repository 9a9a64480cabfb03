use Rattle.std.proofs.Common.{[], ◌∷◌, sym, ◌∙◌, ap}
use Rattle.std.specs.Prelude.{slice_get}
use Rattle.std.specs.Option.{option_copied}
use Rattle.std.proofs.lemmas.Result.{IfOk-weaker}
use Rattle.ms_ir.specs.Locals.{results}
use Rattle.ms_check_valid.specs.NamesOnce.{repeats}
use Rattle.ms_check.proofs.Repeated.{second_answers}
use Rattle.ms_check.proofs.duplicates.block_twice.Goals as goal

pub returns-in-None-clause-first : goal.returns-in-None-clause-first
returns-in-None-clause-first c = IfOk-weaker c.first_twice.result _ _ (λ r p.
    p ∙ ap (λ insts. slice_get (repeats c.append.new.seen (results insts)) 0) c.as_slice.ensures
    ∙ second_answers c.args.seen.now c.append.new.seen (c.args.block.now.name ∷ []) (results c.args.block.now.insts) c.in_ok-name.ensures.seen (sym c.in_ok-name.ensures.first ∙ ap option_copied c.in-None.is)
    ) c.first_twice.ensures.first
