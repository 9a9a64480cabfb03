-- What the functions of a module are made with may be shared by threads.
use denote.Param.Send.{IsSync, sendable}
use denote.Param.SendFields.{declared_sync}
use denote.Ref.{NamedLft}
use Rattle.std.proofs.Crossing
use Rattle.std.proofs.MapsCrossing
use Rattle.ms_ir.proofs.Crosses.{Func-sync, Ty-sync}
use Rattle.ms_ir.proofs.syntax.Name.TheSendSync as names
use Rattle.ms_check_tables.specs.contracts.table.NameTable as name_table
use Rattle.ms_check_tables.specs.contracts.extents.Extents as extents
use Rattle.ms_elide.specs.contracts.sets.CleanSet as clean_set
use Rattle.ms_pass.specs.contracts.functions.Functions as functions

NameTable-sync : (m : NamedLft) → IsSync (name_table.the_row m)
NameTable-sync m = search (MapsCrossing.crosses, Crossing.crosses, sendable) depth 60 fits 20000

Extents-sync : (m : NamedLft) → IsSync (extents.the_row m)
Extents-sync m = search (NameTable-sync, Ty-sync, names.the_sync, Crossing.crosses, sendable) depth 60 fits 20000

CleanSet-sync : (m : NamedLft) → IsSync (clean_set.the_row m)
CleanSet-sync m = search (NameTable-sync, Crossing.crosses, sendable) depth 60 fits 20000

pub Functions-sync : (a m : NamedLft) → IsSync (functions.the_row a m)
Functions-sync a m =
    declared_sync (functions.the_type a m) (
      search (Extents-sync, sendable) depth 60 fits 20000,
      (
        search (NameTable-sync, sendable) depth 60 fits 20000,
        (
          search (CleanSet-sync, sendable) depth 60 fits 20000,
          (search (Crossing.crosses, sendable) depth 60 fits 20000, (search (Func-sync, Crossing.crosses, sendable) depth 60 fits 20000, tt)),
        ),
      ),
    )
