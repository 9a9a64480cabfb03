use Rattle.std.proofs.Common.{◌≡◌, ◌≤◌, drop}
use Rattle.ms_top.specs.Parts.{AreShort}
use Rattle.ms_top.proofs.Reading.{ReadSoFar}
use Rattle.ms_top.proofs.files.read_inputs.Given as goal

abbrev pub invariant-loop-index : goal.invariant-loop-index
invariant-loop-index g l = record {
  reads : ReadSoFar (g.F.Files.held l.fn.files) (g.F.Files.faults l.fn.files) (g.F.Files.taken l.fn.files) (g.F.Files.faults l.files) (g.F.Files.taken l.files) l.inputs.items l.names (drop l.index l.names);
  short : AreShort l.inputs.items;
  held : g.F.Files.held l.files ≡ g.F.Files.held l.fn.files;
  faults : g.F.Files.faults l.fn.files ≤ g.F.Files.faults l.files;
  taken : g.F.Files.taken l.fn.files ≤ g.F.Files.taken l.files;
}
