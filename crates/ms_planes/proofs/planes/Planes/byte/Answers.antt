use Rattle.std.proofs.Common.{sym, ◌∙◌, subst, arith}
use Rattle.ms_raw.specs.Blocks.{Lists}
use Rattle.ms_planes.specs.declared.parts.Plane.TheVariants.{Bytes}
use Rattle.ms_planes.specs.Memory.{Memory}
use Rattle.ms_planes.proofs.Standing.{Stands, stands, held-block, never-none}
use Rattle.ms_planes.proofs.planes.Planes.byte.Goals as goal
use Rattle.ms_alloc.specs.Places.{IsPlace}
use Rattle.ms_alloc.specs.Allocations.{of_kind}
use Rattle.ms_planes.specs.Memory.{IsMemory}
use Rattle.ms_planes.proofs.Readings.{part-first}

pub block-requires : goal.block-requires
block-requires c =
    let m : Memory = c.args.self.now in
    let p = c.in-Some.place in
    let is : IsMemory m = subst IsMemory c.self.view_is c.self.invariant in
    let s1 : (was : Lists) × Stands m c.args.addr 1 p was = stands m c.args.addr 1 p is (subst (λ (q : Memory). IsPlace p.kind (of_kind p.kind q.table) c.args.addr 1 p) c.self.view_is c.in-Some.ensures) in
    let s0 : Stands m c.args.addr 1 p s1.0 = s1.1 in
    s0.within_row

pub overflow_sub-addr : goal.overflow_sub-addr
overflow_sub-addr c =
    let m : Memory = c.args.self.now in
    let p = c.in-Some.place in
    let is : IsMemory m = subst IsMemory c.self.view_is c.self.invariant in
    let s1 : (was : Lists) × Stands m c.args.addr 1 p was = stands m c.args.addr 1 p is (subst (λ (q : Memory). IsPlace p.kind (of_kind p.kind q.table) c.args.addr 1 p) c.self.view_is c.in-Some.ensures) in
    let s0 : Stands m c.args.addr 1 p s1.0 = s1.1 in
    let s : Stands m c.args.addr 1 p c.in-Some-block.block.now = held-block m c.args.addr 1 p s1.0 s0 c.in-Some-block.block.now (sym c.in-Some-block.ensures) in
    omega (arith, s.low, s.base_is)

pub byte-requires : goal.byte-requires
byte-requires c =
    let m : Memory = c.args.self.now in
    let p = c.in-Some.place in
    let is : IsMemory m = subst IsMemory c.self.view_is c.self.invariant in
    let s1 : (was : Lists) × Stands m c.args.addr 1 p was = stands m c.args.addr 1 p is (subst (λ (q : Memory). IsPlace p.kind (of_kind p.kind q.table) c.args.addr 1 p) c.self.view_is c.in-Some.ensures) in
    let s0 : Stands m c.args.addr 1 p s1.0 = s1.1 in
    let s : Stands m c.args.addr 1 p c.in-Some-block.block.now = held-block m c.args.addr 1 p s1.0 s0 c.in-Some-block.block.now (sym c.in-Some-block.ensures) in
    omega (arith, s.low, s.base_is, s.high, s.whole.bytes)

pub returns-in-Some-block : goal.returns-in-Some-block
returns-in-Some-block c =
    let m : Memory = c.args.self.now in
    let p = c.in-Some.place in
    let is : IsMemory m = subst IsMemory c.self.view_is c.self.invariant in
    let s1 : (was : Lists) × Stands m c.args.addr 1 p was = stands m c.args.addr 1 p is (subst (λ (q : Memory). IsPlace p.kind (of_kind p.kind q.table) c.args.addr 1 p) c.self.view_is c.in-Some.ensures) in
    let s0 : Stands m c.args.addr 1 p s1.0 = s1.1 in
    let s : Stands m c.args.addr 1 p c.in-Some-block.block.now = held-block m c.args.addr 1 p s1.0 s0 c.in-Some-block.block.now (sym c.in-Some-block.ensures) in
    c.byte.ensures ∙ sym (part-first Bytes m c.args.addr 1 p c.in-Some-block.block.now s is (omega arith))

pub returns-in-None : goal.returns-in-None
returns-in-None c =
    let m : Memory = c.args.self.now in
    let p = c.in-Some.place in
    let is : IsMemory m = subst IsMemory c.self.view_is c.self.invariant in
    let s1 : (was : Lists) × Stands m c.args.addr 1 p was = stands m c.args.addr 1 p is (subst (λ (q : Memory). IsPlace p.kind (of_kind p.kind q.table) c.args.addr 1 p) c.self.view_is c.in-Some.ensures) in
    let s0 : Stands m c.args.addr 1 p s1.0 = s1.1 in
    absurd (never-none m c.args.addr 1 p s1.0 s0 (sym c.in-None.ensures))
