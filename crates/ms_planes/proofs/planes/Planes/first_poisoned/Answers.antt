use Rattle.std.proofs.Common.{sym, subst, arith}
use Rattle.ms_raw.specs.Blocks.{Lists}
use Rattle.ms_planes.specs.Memory.{Memory}
use Rattle.ms_planes.proofs.Standing.{Stands, stands, held-block, never-none}
use Rattle.ms_planes.proofs.planes.Planes.first_poisoned.Goals as goal
use Rattle.ms_alloc.specs.Places.{IsPlace}
use Rattle.ms_alloc.specs.Allocations.{of_kind}
use Rattle.ms_planes.specs.Memory.{IsMemory}
use Rattle.ms_planes.proofs.Readings.{first-read}

pub block-requires : goal.block-requires
block-requires c =
    let m : Memory = c.args.self.now in
    let p = c.in-Some.place in
    let is : IsMemory m = subst IsMemory c.self.view_is c.self.invariant in
    let s1 : (was : Lists) × Stands m c.args.addr c.args.n p was = stands m c.args.addr c.args.n p is (subst (λ (q : Memory). IsPlace p.kind (of_kind p.kind q.table) c.args.addr c.args.n p) c.self.view_is c.in-Some.ensures) in
    let s0 : Stands m c.args.addr c.args.n p s1.0 = s1.1 in
    s0.within_row

pub overflow_sub-addr : goal.overflow_sub-addr
overflow_sub-addr c =
    let m : Memory = c.args.self.now in
    let p = c.in-Some.place in
    let is : IsMemory m = subst IsMemory c.self.view_is c.self.invariant in
    let s1 : (was : Lists) × Stands m c.args.addr c.args.n p was = stands m c.args.addr c.args.n p is (subst (λ (q : Memory). IsPlace p.kind (of_kind p.kind q.table) c.args.addr c.args.n p) c.self.view_is c.in-Some.ensures) in
    let s0 : Stands m c.args.addr c.args.n p s1.0 = s1.1 in
    let s : Stands m c.args.addr c.args.n p c.in-Some-block.block.now = held-block m c.args.addr c.args.n p s1.0 s0 c.in-Some-block.block.now (sym c.in-Some-block.ensures) in
    omega (arith, s.low, s.base_is)

pub first_marked-requires-clause-within : goal.first_marked-requires-clause-within
first_marked-requires-clause-within c =
    let m : Memory = c.args.self.now in
    let p = c.in-Some.place in
    let is : IsMemory m = subst IsMemory c.self.view_is c.self.invariant in
    let s1 : (was : Lists) × Stands m c.args.addr c.args.n p was = stands m c.args.addr c.args.n p is (subst (λ (q : Memory). IsPlace p.kind (of_kind p.kind q.table) c.args.addr c.args.n p) c.self.view_is c.in-Some.ensures) in
    let s0 : Stands m c.args.addr c.args.n p s1.0 = s1.1 in
    let s : Stands m c.args.addr c.args.n p c.in-Some-block.block.now = held-block m c.args.addr c.args.n p s1.0 s0 c.in-Some-block.block.now (sym c.in-Some-block.ensures) in
    omega (arith, s.low, s.base_is, s.high, s.whole.bytes)

pub first_marked-requires-clause-small : goal.first_marked-requires-clause-small
first_marked-requires-clause-small c =
    let m : Memory = c.args.self.now in
    let p = c.in-Some.place in
    let is : IsMemory m = subst IsMemory c.self.view_is c.self.invariant in
    let s1 : (was : Lists) × Stands m c.args.addr c.args.n p was = stands m c.args.addr c.args.n p is (subst (λ (q : Memory). IsPlace p.kind (of_kind p.kind q.table) c.args.addr c.args.n p) c.self.view_is c.in-Some.ensures) in
    let s0 : Stands m c.args.addr c.args.n p s1.0 = s1.1 in
    let s : Stands m c.args.addr c.args.n p c.in-Some-block.block.now = held-block m c.args.addr c.args.n p s1.0 s0 c.in-Some-block.block.now (sym c.in-Some-block.ensures) in
    omega (arith, s.low, s.high, s.base_is, s.size)

pub returns-in-Some-block : goal.returns-in-Some-block
returns-in-Some-block c =
    let m : Memory = c.args.self.now in
    let p = c.in-Some.place in
    let is : IsMemory m = subst IsMemory c.self.view_is c.self.invariant in
    let s1 : (was : Lists) × Stands m c.args.addr c.args.n p was = stands m c.args.addr c.args.n p is (subst (λ (q : Memory). IsPlace p.kind (of_kind p.kind q.table) c.args.addr c.args.n p) c.self.view_is c.in-Some.ensures) in
    let s0 : Stands m c.args.addr c.args.n p s1.0 = s1.1 in
    let s : Stands m c.args.addr c.args.n p c.in-Some-block.block.now = held-block m c.args.addr c.args.n p s1.0 s0 c.in-Some-block.block.now (sym c.in-Some-block.ensures) in
    first-read m c.args.addr c.args.n p c.in-Some-block.block.now s c.first_marked.result is c.first_marked.ensures.none c.first_marked.ensures.found c.first_marked.ensures.first

pub returns-in-None : goal.returns-in-None
returns-in-None c =
    let m : Memory = c.args.self.now in
    let p = c.in-Some.place in
    let is : IsMemory m = subst IsMemory c.self.view_is c.self.invariant in
    let s1 : (was : Lists) × Stands m c.args.addr c.args.n p was = stands m c.args.addr c.args.n p is (subst (λ (q : Memory). IsPlace p.kind (of_kind p.kind q.table) c.args.addr c.args.n p) c.self.view_is c.in-Some.ensures) in
    let s0 : Stands m c.args.addr c.args.n p s1.0 = s1.1 in
    absurd (never-none m c.args.addr c.args.n p s1.0 s0 (sym c.in-None.ensures))
