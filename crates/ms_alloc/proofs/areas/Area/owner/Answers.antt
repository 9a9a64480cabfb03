use Rattle.std.proofs.Common.{◌-◌, ◌/◌, ℕ, ap, arith}
use Rattle.ms_alloc.proofs.Owners.{owner-at, none-past}
use Rattle.ms_alloc.proofs.areas.Area.owner.Goals as goal

pub returns-then-piece-len : goal.returns-then-piece-len
returns-then-piece-len c =
    owner-at c.args.kind c.self.inside.made.items c.args.self.now c.self.inside.owners.items c.args.addr _ c.index.result.now c.self.invariant c.self.view_is c.requires.area
    c.requires.from
    (ap (λ (b : ℕ). (c.args.addr - b) / 16) c.base.ensures)
    (omega (arith, c.if-piece-len.true, c.len.ensures, c.self.inside.owners.ok.0))
    c.index.ensures

pub returns-else-piece-len : goal.returns-else-piece-len
returns-else-piece-len c =
    none-past c.args.kind c.self.inside.made.items c.args.self.now c.self.inside.owners.items c.args.addr ((c.args.addr - c.base.result) / 16) c.self.invariant c.self.view_is
    c.requires.from
    (ap (λ (b : ℕ). (c.args.addr - b) / 16) c.base.ensures)
    (omega (arith, c.if-piece-len.false, c.len.ensures, c.self.inside.owners.ok.0))
