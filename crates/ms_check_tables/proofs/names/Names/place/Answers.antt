use Rattle.std.proofs.Common.{◌<◌, length, sym, arith}
use Rattle.ms_check_tables.proofs.Places.{place_below}
use Rattle.ms_check_tables.proofs.names.Names.place.Goals as goal

pub overflow_cast-result : goal.overflow_cast-result
overflow_cast-result c =
    let below : c.in-Some.place < length c.self.inside.table = place_below c.self.inside.table c.args.name.now c.in-Some.place (sym c.in-Some.ensures) in
    omega arith
