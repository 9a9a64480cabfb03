use Rattle.std.proofs.Common.{◌∙◌}
use Rattle.ms_depot.proofs.Trails.{goes-on, whole-way}
use Rattle.ms_depot.proofs.depot.Depot.trail.Goals as goal

pub loop-origin-preserved : goal.loop-origin-preserved
loop-origin-preserved c =
    goes-on (record { roots = c.self.inside.roots; pairs = c.self.inside.pairs.keys; depths = c.self.inside.depths.items }) c.args.self.now c.self.view_is c.self.invariant c.args.id c.loop-origin.at c.earlier-at.result c.in-Some.origin c.loop-origin.way.items c.push.new.self.items
    c.in-Some.ensures c.earlier-at.ensures c.in_ok-push.ensures.items c.loop-origin.invariant

pub returns : goal.returns
returns c = λ setting world roots pairs.
    c.from_vec.ensures ∙ whole-way c.args.self.now setting world c.args.id c.loop-origin.at c.loop-origin.way.items roots pairs c.in_default.ensures c.loop-origin.invariant
