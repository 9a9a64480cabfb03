use Rattle.std.specs.Prelude.{unwrap_or}
use Rattle.ms_ir.specs.declared.syntax.Name.TheVariants.{Number}
use Rattle.ms_trail_moves.specs.declared.moves.Target.TheVariants as place
use Rattle.ms_trail_moves.specs.Edges.{edge_source}
use Rattle.ms_trail.proofs.Told.{told_none, told_one}
use Rattle.ms_trail.proofs.words.tell_phi.Goals as goal
use Rattle.std.proofs.lemmas.Result.{on_ok_weaker}

pub returns-then-mask-eq0-clause-told : goal.returns-then-mask-eq0-clause-told
returns-then-mask-eq0-clause-told c = λ t edges moves phi is. told_none c.args.log.now moves c.args.stamp.event c.args.stamp.site c.args.mask (edge_source c.args.frame t c.args.block.now edges c.args.row.roots) (place.Value c.args.frame (unwrap_or c.args.row.inst.now.result (Number 0))) c.if-mask-eq0.true is

pub returns-clause-told : goal.returns-clause-told
returns-clause-told c = λ t edges moves phi is.
    on_ok_weaker c.tell.result (told_one c.tell.new.log moves c.args.stamp.event c.args.stamp.site c.args.mask (edge_source c.args.frame t c.args.block.now edges c.args.row.roots) c.in_ok-moved.moved (place.Value c.args.frame (unwrap_or c.args.row.inst.now.result (Number 0))) c.in_ok-to.to c.if-mask-eq0.false (c.in_ok-moved.ensures t edges phi) c.in_ok-to.ensures) (c.tell.ensures.told moves is)
