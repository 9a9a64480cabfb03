use Rattle.std.proofs.Common.{◌+◌, ◌<◌, ◌^◌, ℕ, arith, subst, Option}
use Rattle.std.specs.Option.{SomeIff}
use Rattle.ms_host.proofs.Liveness.{not-live}
use Rattle.ms_host.proofs.shadows.live_past.Goals as goal

pub returns-in_default : goal.returns-in_default
returns-in_default c =
    let big : ¬ (c.args.addr + c.args.k < 2 ^ 64) = subst (λ (o : Option ℕ). SomeIff o (c.args.addr + c.args.k < 2 ^ 64) (c.args.addr + c.args.k)) c.in_default.is c.checked_add.ensures in
    not-live c.args.planes.now.table (c.args.addr + c.args.k) c.requires (omega (arith, big))
