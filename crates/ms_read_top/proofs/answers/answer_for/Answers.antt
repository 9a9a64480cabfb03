use Rattle.std.proofs.Common.{length}
use Rattle.ms_read_top.proofs.Told.{short_text}
use Rattle.ms_read_top.proofs.answers.answer_for.Goals as goal

pub tokens-requires : goal.tokens-requires
tokens-requires c = short_text c.args.form (length c.args.text.now) c.requires
