use Rattle.std.proofs.Common.{length, arith}
use Rattle.ms_read_top.proofs.Told.{short_text}
use Rattle.ms_read_top.proofs.answers.answer.Goals as goal

pub error_for-requires-clause-short : goal.error_for-requires-clause-short
error_for-requires-clause-short c = let short = short_text c.args.form (length c.args.text.now) c.requires.has.short in omega arith
