use Rattle.std.proofs.Common.{◌∙◌, sym}
use Rattle.std.proofs.lemmas.Result.{err_from_is_err_and}
use Rattle.ms_alloc.specs.declared.errors.AllocError.TheVariants as refused
use Rattle.ms_host.proofs.GlobalsMade.{global-written, global-full, same-error}
use Rattle.ms_host.proofs.worlds.World.make_global.Goals as goal

pub returns-in_err-base-clause-full : goal.returns-in_err-base-clause-full
returns-in_err-base-clause-full c = λ full.
    let p = err_from_is_err_and c.from_residual.result c.from_residual.ensures.1 in
    global-full c.args.extents.now c.args.global.now c.args.self.now c.make_zero.new.self c.in-Some.size c.in_err-base.field-0.0 (sym c.is_reserved.ensures ∙ c.if-is_reserved.false) (sym c.size_of.ensures ∙ c.in-Some.is)
    c.in_err-base.ensures.cleared (sym p.2 ∙ same-error p.0 refused.Full (sym p.1 ∙ full))

pub returns-clause-written : goal.returns-clause-written
returns-clause-written c =
    global-written c.args.extents.now c.args.global.now c.args.words.now c.write_init-left.result.now c.args.self.now c.make_zero.new.self c.write_init-left.new.self c.in-Some.size c.in_ok-base.base
    (sym c.is_reserved.ensures ∙ c.if-is_reserved.false) (sym c.size_of.ensures ∙ c.in-Some.is) c.in_ok-base.ensures.cleared c.write_init-left.ensures.written
