use Rattle.ms_check_flow.proofs.PushedRows.{pushed_row}
use Rattle.ms_check_flow.proofs.arrivals.Arrivals.add.Goals as goal

pub returns : goal.returns
returns c =
    pushed_row c.self.inside.rows.items c.args.to c.args.from c.index_mut.result.now c.push.new.self (λ row. row.items) c.args.self.now c.requires c.self.view_is
    c.index_mut.ensures.value c.in_ok-push.ensures.items
