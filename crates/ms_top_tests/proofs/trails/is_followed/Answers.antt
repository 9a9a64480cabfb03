use Rattle.ms_top.proofs.Explaining.{can_lead}
use Rattle.ms_top_tests.proofs.trails.is_followed.Goals as goal

pub leads-requires : goal.leads-requires
leads-requires c = can_lead c.args.m.now c.requires.alone c.args.setup.now c.in-Ok.found c.in-Ok.ensures
