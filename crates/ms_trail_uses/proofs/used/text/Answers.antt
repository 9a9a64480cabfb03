use Rattle.std.proofs.Common.{◌∙◌}
use Rattle.ms_trail_uses.proofs.Uses.{string_found}
use Rattle.ms_trail_uses.proofs.used.text.Goals as goal

pub returns : goal.returns
returns c = λ beside meant shows.
    c.byte_found.ensures
    ∙ string_found c.args.world.now.planes.table meant c.args.addr c.bytes_left.result c.first_poisoned_in_string-found.result c.law_laid_out.ensures c.bytes_left.ensures.good (c.bytes_left.ensures.room beside meant shows)
    (c.first_poisoned_in_string-found.ensures beside meant shows)
