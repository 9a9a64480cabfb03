use Rattle.std.proofs.Common.{ℕ, subst}
use Rattle.ms_ir.specs.Layout.{align_in, round_up}
use Rattle.ms_host.specs.Initial.{Reaches}
use Rattle.ms_host.proofs.KeptNumbers.{begin-packed, begin-rounded}
use Rattle.ms_host.proofs.globals.part_begin.Goals as goal

pub rounded-requires : goal.rounded-requires
rounded-requires c = c.align_of.ensures.positive

pub returns-then-packed : goal.returns-then-packed
returns-then-packed c = λ n r. begin-packed c.args.packed c.args.so_far n (round_up n (align_in c.args.extents.now c.args.ty.now)) c.if-packed.true r

pub returns-else-packed : goal.returns-else-packed
returns-else-packed c = λ n r.
    begin-rounded c.args.packed c.rounded.result n (round_up n (align_in c.args.extents.now c.args.ty.now)) c.if-packed.false
    (subst (λ (a : ℕ). Reaches c.rounded.result (round_up n a)) c.align_of.ensures.is (c.rounded.ensures n r))
