use Rattle.std.proofs.Common.{ℕ, List, Option, length}
use Rattle.std.specs.Io.KnownBytes.{Appends}
use Rattle.ms_io.proofs.real.write_whole.Given as goal

-- whatever appends the rest from here on appends all the bytes from the start on
abbrev pub invariant-loop-rest : goal.invariant-loop-rest
invariant-loop-rest g l =
    (later : Option (List ℕ)) → Appends (g.W.Write.contents l.writer) later l.rest
    → Appends (g.W.Write.contents l.initial.writer) later l.bytes

abbrev pub decreases-loop-rest : goal.decreases-loop-rest
decreases-loop-rest g l = length l.rest
