use Rattle.std.proofs.Common.{refl}
use Rattle.std.specs.Prelude.{unwrap_or}
use Rattle.ms_ir.specs.declared.syntax.Name.TheVariants.{Number}
use Rattle.ms_trail_moves.specs.declared.moves.Target.TheVariants as place
use Rattle.ms_trail.proofs.Told.{told_none, told_one}
use Rattle.ms_trail.proofs.words.tell_loaded.Goals as goal
use Rattle.std.proofs.lemmas.Result.{on_ok_weaker}

pub returns-then-mask-eq0-clause-told : goal.returns-then-mask-eq0-clause-told
returns-then-mask-eq0-clause-told c = λ moves is. told_none c.args.log.now moves c.args.stamp.event c.args.stamp.site c.args.mask c.args.from (place.Value c.args.frame (unwrap_or c.args.inst.now.result (Number 0))) c.if-mask-eq0.true is

pub returns-clause-told : goal.returns-clause-told
returns-clause-told c = λ moves is.
    on_ok_weaker c.tell.result (told_one c.tell.new.log moves c.args.stamp.event c.args.stamp.site c.args.mask c.args.from c.args.from (place.Value c.args.frame (unwrap_or c.args.inst.now.result (Number 0))) c.in_ok-to.to c.if-mask-eq0.false refl c.in_ok-to.ensures) (c.tell.ensures.told moves is)
