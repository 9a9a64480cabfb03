use Rattle.std.proofs.Common.{◌≡◌, rules, false}
use Rattle.ms_where.proofs.Noting.{absent, noted_new}
use Rattle.ms_where.proofs.variables.note.Goals as goal

pub returns-in_ok-insert : goal.returns-in_ok-insert
returns-in_ok-insert c =
    let gone : c.contains_key.result ≡ false = search rules in
    noted_new c.args.records.now c.insert.new.self (c.args.function, c.args.local) c.args.place c.in_ok-insert.ensures.updates
    (absent _ c.contains_key.result c.contains_key.ensures gone)
