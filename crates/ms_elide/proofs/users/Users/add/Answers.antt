use Rattle.ms_elide.proofs.UserRows.{pushed_row}
use Rattle.ms_elide.proofs.users.Users.add.Goals as goal

pub returns : goal.returns
returns c =
    pushed_row c.self.inside.rows.items c.args.item c.args.user c.index_mut.result.now c.push.new.self (λ row. row.items) c.args.self.now c.requires c.self.view_is
    c.index_mut.ensures.value c.in_ok-push.ensures.items
