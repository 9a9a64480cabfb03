use Rattle.std.proofs.Common.{◌^◌, ◌<◌, ℕ, List, get_or, sym, subst}
use Rattle.ms_bits.specs.WordFunctions.{bits_of}
use Rattle.ms_host.proofs.FixedNumbers.{first_fits}
use Rattle.ms_host.proofs.answering.answer.Goals as goal

pub answer_external-requires-clause-word : goal.answer_external-requires-clause-word
answer_external-requires-clause-word c = λ function width is.
    subst (λ (args : List ℕ). get_or args 0 0 < 2 ^ bits_of width) (sym c.as_slice.ensures)
    (first_fits c.args.call.now.asked c.in-External.external c.args.call.now.args c.in-External.is c.requires.first function width is)
