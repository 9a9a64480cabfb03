-- The numbers under which refusals of a token are printed (own).
use Rattle.std.specs.Prelude.{ℕ, Option, Some, None}
use Rattle.ms_text_grammar.specs.declared.refusals.Cause.{Cause}
use Rattle.ms_text_grammar.specs.declared.refusals.Cause.TheVariants as r

-- 4 to 8; running out of memory is no refusal
abbrev pub printed_number : Cause → Option ℕ
printed_number r.Syntax = Some 4
printed_number (r.Outside construct) = Some 5
printed_number (r.Limit limit) = Some 6
printed_number r.Numbering = Some 7
printed_number r.Reserved = Some 8
printed_number r.NoMemory = None
