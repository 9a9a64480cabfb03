use Rattle.ms_pass_form_laws.proofs.Elided.{operand_clean, clean_operand}
use Rattle.ms_pass_form_laws.proofs.elided_modules.clean_operands_are_known.Goals as goal

pub returns-clause-sound : goal.returns-clause-sound
returns-clause-sound c = operand_clean

pub returns-clause-whole : goal.returns-clause-whole
returns-clause-whole c = clean_operand
