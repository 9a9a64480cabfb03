use Rattle.std.proofs.Common.{refl}
use Rattle.ms_lex.proofs.NameBytes.{name_row, name_rows}
use Rattle.ms_lex.proofs.scan.is_name_byte.Goals as goal

pub returns : goal.returns
unfolding name_rows
returns c = name_row _ c.args.b refl c.ranges.b.fits
