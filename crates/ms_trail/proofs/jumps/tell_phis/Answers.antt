use Rattle.std.proofs.Common.{◌-◌, length, get_or, refl, arith}
use Rattle.ms_trail.proofs.PhisTold.{so_far_none, so_far_more, so_far_all}
use Rattle.ms_trail.proofs.jumps.tell_phis.Goals as goal

pub loop-k-init : goal.loop-k-init
loop-k-init c = so_far_none c.args.tables.now.rows.items c.args.first c.args.read.now c.args.after.event c.args.after.site c.args.frame c.args.from.now c.args.log.now

pub row-requires : goal.row-requires
row-requires c = c.requires.phis.there c.loop-k.k c.loop-k-test.true

pub tell_phi-requires-clause-roots : goal.tell_phi-requires-clause-roots
tell_phi-requires-clause-roots c = c.requires.phis.few c.loop-k.k c.row.result c.loop-k-test.true c.row.ensures

pub tell_phi-requires-clause-few : goal.tell_phi-requires-clause-few
tell_phi-requires-clause-few c = omega (arith, c.loop-k.invariant.count, c.requires.few, c.loop-k-test.true)

pub loop-k-preserved : goal.loop-k-preserved
loop-k-preserved c =
    so_far_more c.args.tables.now.rows.items c.args.first c.args.read.now c.args.after.event c.args.after.site c.args.frame c.args.from.now c.args.log.now c.loop-k.log c.tell_phi.new.log c.loop-k.k
    c.loop-k-test.true c.row.result c.row.ensures (get_or c.args.read.now c.loop-k.k 0) (c.args.after.site - (length c.args.read.now - c.loop-k.k)) refl refl c.in_ok-tell_phi.ensures.told c.tell_phi.ensures.count c.loop-k.invariant

pub returns-clause-told : goal.returns-clause-told
returns-clause-told c = so_far_all c.args.tables.now.rows.items c.args.first c.args.read.now c.args.after.event c.args.after.site c.args.frame c.args.from.now c.args.log.now c.loop-k.log c.loop-k.k (omega (arith, c.loop-k-test.false)) c.loop-k.invariant
