use Rattle.ms_runs_laws.proofs.Stripped.{func_stripped, blocks_stripped, insts_stripped, func_name_kept, block_name_kept, params_kept}
use Rattle.ms_runs_laws.proofs.Numbering.{strip_unmarked, strip_twice}
use Rattle.ms_runs_laws.proofs.stripping.stripped_parts.Goals as goal

pub returns-clause-functions : goal.returns-clause-functions
returns-clause-functions c = func_stripped

pub returns-clause-blocks : goal.returns-clause-blocks
returns-clause-blocks c = blocks_stripped

pub returns-clause-instructions : goal.returns-clause-instructions
returns-clause-instructions c = insts_stripped

pub returns-clause-function_names : goal.returns-clause-function_names
returns-clause-function_names c = func_name_kept

pub returns-clause-block_names : goal.returns-clause-block_names
returns-clause-block_names c = block_name_kept

pub returns-clause-parameters : goal.returns-clause-parameters
returns-clause-parameters c = params_kept

pub returns-clause-unmarked : goal.returns-clause-unmarked
returns-clause-unmarked c = strip_unmarked

pub returns-clause-twice : goal.returns-clause-twice
returns-clause-twice c = strip_twice
