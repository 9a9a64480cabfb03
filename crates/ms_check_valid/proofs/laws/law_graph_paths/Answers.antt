use Rattle.ms_check_valid.proofs.FlowPaths.{graph_path, func_path, defined_there, defined_here, missed_here}
use Rattle.ms_check_valid.proofs.laws.law_graph_paths.Goals as goal

pub returns-clause-paths : goal.returns-clause-paths
returns-clause-paths c = λ f blocks. (graph_path f blocks, func_path f blocks)

pub returns-clause-uses : goal.returns-clause-uses
returns-clause-uses c = λ f place known own. (defined_there f place own, defined_here f place known own)

pub returns-clause-missed : goal.returns-clause-missed
returns-clause-missed c = missed_here
