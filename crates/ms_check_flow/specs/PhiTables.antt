-- What the instructions of a function are looked at with (own). What the crate promises does not name this file.
use Rattle.std.specs.Prelude.{length}
use Rattle.ms_ir.specs.declared.syntax.Func.{Func}
use Rattle.ms_check_flow.specs.Arriving.{AreEdgesOf}
use Rattle.ms_check_flow.specs.Fitting.{IsClear}
use Rattle.ms_check_flow.specs.declared.faults.PhiTables.{PhiTables}

-- the edges of a function, and notes with no edge that is due
pub record ArePhiTablesOf (f : Func) (w : PhiTables) : Type 0 where
  pub edges : AreEdgesOf f w.into
  pub clear : IsClear (length f.blocks) w.notes
