use Rattle.std.proofs.Common.{◌≡◌, ℕ, true, sym, ◌∙◌, subst, arith}
use Rattle.ms_raw.specs.Blocks.{Lists}
use Rattle.ms_planes.specs.Memory.{Memory}
use Rattle.ms_planes.proofs.Standing.{Stands, stands, held-block, never-none}
use Rattle.ms_planes.proofs.planes.Planes.read_both.Goals as goal
use Rattle.ms_alloc.specs.Places.{IsPlace}
use Rattle.ms_alloc.specs.Allocations.{of_kind}
use Rattle.ms_planes.specs.Memory.{IsMemory}
use Rattle.ms_planes.proofs.Readings.{part-number}
use Rattle.ms_planes.proofs.Good.{placed-good}
use Rattle.ms_planes.specs.declared.parts.Plane.TheVariants as part
use Rattle.ms_alloc.specs.Allocations.{is_good}

pub block-requires : goal.block-requires
block-requires c =
    let m : Memory = c.args.self.now in
    let p = c.in-Some.place in
    let is : IsMemory m = subst IsMemory c.self.view_is c.self.invariant in
    let s1 : (was : Lists) × Stands m c.args.addr c.from.result p was = stands m c.args.addr c.from.result p is (subst (λ (q : Memory). IsPlace p.kind (of_kind p.kind q.table) c.args.addr c.from.result p) c.self.view_is c.in-Some.ensures) in
    let s0 : Stands m c.args.addr c.from.result p s1.0 = s1.1 in
    s0.within_row

pub overflow_sub-addr : goal.overflow_sub-addr
overflow_sub-addr c =
    let m : Memory = c.args.self.now in
    let p = c.in-Some.place in
    let is : IsMemory m = subst IsMemory c.self.view_is c.self.invariant in
    let s1 : (was : Lists) × Stands m c.args.addr c.from.result p was = stands m c.args.addr c.from.result p is (subst (λ (q : Memory). IsPlace p.kind (of_kind p.kind q.table) c.args.addr c.from.result p) c.self.view_is c.in-Some.ensures) in
    let s0 : Stands m c.args.addr c.from.result p s1.0 = s1.1 in
    let s : Stands m c.args.addr c.from.result p c.in-Some-block.block.now = held-block m c.args.addr c.from.result p s1.0 s0 c.in-Some-block.block.now (sym c.in-Some-block.ensures) in
    omega (arith, s.low, s.base_is)

pub both-requires-clause-within : goal.both-requires-clause-within
both-requires-clause-within c =
    let m : Memory = c.args.self.now in
    let p = c.in-Some.place in
    let is : IsMemory m = subst IsMemory c.self.view_is c.self.invariant in
    let s1 : (was : Lists) × Stands m c.args.addr c.from.result p was = stands m c.args.addr c.from.result p is (subst (λ (q : Memory). IsPlace p.kind (of_kind p.kind q.table) c.args.addr c.from.result p) c.self.view_is c.in-Some.ensures) in
    let s0 : Stands m c.args.addr c.from.result p s1.0 = s1.1 in
    let s : Stands m c.args.addr c.from.result p c.in-Some-block.block.now = held-block m c.args.addr c.from.result p s1.0 s0 c.in-Some-block.block.now (sym c.in-Some-block.ensures) in
    omega (arith, s.low, s.base_is, s.high, s.whole.bytes, c.from.ensures)

pub both-requires-clause-small : goal.both-requires-clause-small
both-requires-clause-small c =
    let m : Memory = c.args.self.now in
    let p = c.in-Some.place in
    let is : IsMemory m = subst IsMemory c.self.view_is c.self.invariant in
    let s1 : (was : Lists) × Stands m c.args.addr c.from.result p was = stands m c.args.addr c.from.result p is (subst (λ (q : Memory). IsPlace p.kind (of_kind p.kind q.table) c.args.addr c.from.result p) c.self.view_is c.in-Some.ensures) in
    let s0 : Stands m c.args.addr c.from.result p s1.0 = s1.1 in
    let s : Stands m c.args.addr c.from.result p c.in-Some-block.block.now = held-block m c.args.addr c.from.result p s1.0 s0 c.in-Some-block.block.now (sym c.in-Some-block.ensures) in
    omega (arith, s.low, s.high, s.base_is, s.size)

pub returns : goal.returns
returns c =
    let m : Memory = c.args.self.now in
    let p = c.in-Some.place in
    let is : IsMemory m = subst IsMemory c.self.view_is c.self.invariant in
    let s1 : (was : Lists) × Stands m c.args.addr c.from.result p was = stands m c.args.addr c.from.result p is (subst (λ (q : Memory). IsPlace p.kind (of_kind p.kind q.table) c.args.addr c.from.result p) c.self.view_is c.in-Some.ensures) in
    let s0 : Stands m c.args.addr c.from.result p s1.0 = s1.1 in
    let s : Stands m c.args.addr c.from.result p c.in-Some-block.block.now = held-block m c.args.addr c.from.result p s1.0 s0 c.in-Some-block.block.now (sym c.in-Some-block.ensures) in
    let good : is_good c.args.addr c.from.result m.table ≡ true =
    placed-good p m.table c.args.addr c.from.result (omega (arith, c.if-n-eq0.false, c.from.ensures)) (subst (λ (q : Memory). IsPlace p.kind (of_kind p.kind q.table) c.args.addr c.from.result p) c.self.view_is c.in-Some.ensures) in (
      subst (λ (n : ℕ). is_good c.args.addr n m.table ≡ true) c.from.ensures good,
      c.both.ensures.shadow ∙ part-number part.Shadow m c.args.addr c.from.result c.args.n p c.in-Some-block.block.now s is c.from.ensures,
      c.both.ensures.bytes ∙ part-number part.Bytes m c.args.addr c.from.result c.args.n p c.in-Some-block.block.now s is c.from.ensures,
    )

pub unreachable-requires : goal.unreachable-requires
unreachable-requires c =
    let m : Memory = c.args.self.now in
    let p = c.in-Some.place in
    let is : IsMemory m = subst IsMemory c.self.view_is c.self.invariant in
    let s1 : (was : Lists) × Stands m c.args.addr c.from.result p was = stands m c.args.addr c.from.result p is (subst (λ (q : Memory). IsPlace p.kind (of_kind p.kind q.table) c.args.addr c.from.result p) c.self.view_is c.in-Some.ensures) in
    let s0 : Stands m c.args.addr c.from.result p s1.0 = s1.1 in
    never-none m c.args.addr c.from.result p s1.0 s0 (sym c.in-None.ensures)
