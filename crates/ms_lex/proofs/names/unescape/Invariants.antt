use Rattle.std.proofs.Common.{◌≡◌, ◌++◌, length}
use Rattle.ms_lex.specs.Names.{unescaped}
use Rattle.ms_lex.proofs.names.unescape.Given as goal

abbrev pub invariant-bytes : goal.invariant-bytes
invariant-bytes l = l.bytes.items ++ unescaped l.rest ≡ unescaped l.text

abbrev pub decreases-bytes : goal.decreases-bytes
decreases-bytes l = length l.rest
