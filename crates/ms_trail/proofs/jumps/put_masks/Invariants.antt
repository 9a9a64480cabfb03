use Rattle.ms_machine_frames.proofs.Moves.{Writing}
use Rattle.ms_trail.proofs.jumps.put_masks.Given as goal

abbrev pub invariant-loop-i : goal.invariant-loop-i
invariant-loop-i l = Writing l.initial.masks.items l.moves l.read l.i l.masks.items
