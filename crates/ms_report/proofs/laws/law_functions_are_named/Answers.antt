use Rattle.std.proofs.Common.{refl}
use Rattle.ms_ir.specs.Instructions.{site_at}
use Rattle.ms_report.proofs.Functions.{at_place}
use Rattle.ms_report.proofs.laws.law_functions_are_named.Goals as goal

pub returns : goal.returns
returns c = λ m f b p func inst here stands unmarked.
    at_place m (site_at m f b p) (record { func = f; block = b; inst = p }) func (record { unmarked = record { inst = inst; here = stands; unmarked = unmarked }; site_is = refl }) here
