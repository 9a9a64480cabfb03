use Rattle.ms_text_laws.proofs.FormedModules.{read_formed}
use Rattle.ms_text_laws.proofs.formed.read_modules_are_formed.Goals as goal

pub returns : goal.returns
returns c = read_formed
