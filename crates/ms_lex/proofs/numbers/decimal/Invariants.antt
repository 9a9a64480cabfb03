use Rattle.std.proofs.Common.{◌≡◌, drop}
use Rattle.ms_lex.specs.Numbers.{decimal}
use Rattle.ms_lex.proofs.Decimals.{continued}
use Rattle.ms_lex.proofs.numbers.decimal.Given as goal

abbrev pub invariant-loop-b : goal.invariant-loop-b
invariant-loop-b l = continued l.n (drop l.b-index l.digits) ≡ decimal l.digits
