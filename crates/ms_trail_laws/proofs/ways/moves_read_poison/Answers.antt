use Rattle.ms_trail_laws.proofs.AllMoves.{reads_poison}
use Rattle.ms_trail_laws.proofs.Staying.{read_to_report}
use Rattle.ms_trail_laws.proofs.ways.moves_read_poison.Goals as goal

pub returns-clause-steps : goal.returns-clause-steps
returns-clause-steps c = reads_poison

pub returns-clause-ways : goal.returns-clause-ways
returns-clause-ways c = read_to_report
