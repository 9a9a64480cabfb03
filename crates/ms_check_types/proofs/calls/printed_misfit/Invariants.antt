use Rattle.std.proofs.Common.{◌≡◌, ◌+◌, drop}
use Rattle.std.specs.Prelude.{◌&&◌}
use Rattle.ms_check_valid.specs.TypesAgree.{first_misfit, is_printable}
use Rattle.ms_check_types.specs.Bodies.{fits_in}
use Rattle.ms_check_types.proofs.calls.printed_misfit.Given as goal

abbrev pub invariant-loop-place : goal.invariant-loop-place
invariant-loop-place l =
    first_misfit (λ b. is_printable b.0 && fits_in l.body b) (l.place + 1) (drop l.place l.args) ≡ first_misfit (λ b. is_printable b.0 && fits_in l.body b) 1 l.args
