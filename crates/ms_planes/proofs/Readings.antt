-- What a good range reads.
use Rattle.std.proofs.Common.{◌≡◌, ◌≢◌, ℕ, ◌+◌, ◌-◌, ◌/◌, ◌<◌, sym, ap, ◌∙◌, arith, Option, Some, None, option_map, IfNone, IfSome}
use Rattle.ms_alloc.specs.declared.allocations.TablePlace.{TablePlace}
use Rattle.ms_bits.specs.Maps.{number_at, first_nonzero}
use Rattle.ms_raw.specs.Blocks.{Lists}
use Rattle.ms_planes.specs.declared.parts.Plane.{Plane}
use Rattle.ms_planes.specs.declared.parts.Plane.TheVariants.{Shadow}
use Rattle.ms_planes.specs.Areas.{held}
use Rattle.ms_planes.specs.Blocks.{bytes_in}
use Rattle.ms_planes.specs.Memory.{Memory, IsMemory, part_of, shadow_of, origins_of}
use Rattle.ms_planes.proofs.Ranges.{nonzero-found, nonzero-none}
use Rattle.ms_planes.proofs.Shown.{number-same}
use Rattle.ms_planes.proofs.Standing.{Stands, shown-in, covers-one, cell-in, touched}

pub part-read : (part : Plane) (m : Memory) (addr n : ℕ) (p : TablePlace) (was : Lists) (s : Stands m addr n p was) (k : ℕ) → IsMemory m → k < n → part_of part m (addr + k) ≡ held (bytes_in part was) (addr - p.base + k)
part-read part m addr n p was s k is lt =
    shown-in (λ w o. held (bytes_in part w) o) m addr n p was s (addr + k) is (covers-one s.entry (addr + k) s.alive (omega (arith, s.low)) (omega (arith, s.high, lt)))
    ∙ ap (held (bytes_in part was)) (let e : addr + k - p.base ≡ addr - p.base + k = omega (arith, s.low, s.base_is) in e)

pub part-first : (part : Plane) (m : Memory) (addr n : ℕ) (p : TablePlace) (was : Lists) (s : Stands m addr n p was) → IsMemory m → 0 < n → part_of part m addr ≡ held (bytes_in part was) (addr - p.base)
part-first part m addr n p was s is some =
    ap (part_of part m) (let e : addr ≡ addr + 0 = omega arith in e) ∙ part-read part m addr n p was s 0 is some ∙ ap (held (bytes_in part was)) (let e : addr - p.base + 0 ≡ addr - p.base = omega arith in e)

pub part-number : (part : Plane) (m : Memory) (addr n c : ℕ) (p : TablePlace) (was : Lists) (s : Stands m addr n p was) → IsMemory m → n ≡ c → number_at (held (bytes_in part was)) (addr - p.base) c ≡ number_at (part_of part m) addr c
part-number part m addr n c p was s is count =
    number-same (held (bytes_in part was)) (part_of part m) (addr - p.base) addr c (λ k l. sym (part-read part m addr n p was s k is (omega (arith, l, count))))

pub cell-first : (m : Memory) (addr n : ℕ) (p : TablePlace) (was : Lists) (s : Stands m addr n p was) → IsMemory m → 0 < n → held was.origins ((addr - p.base) / 4) ≡ origins_of m (addr / 4)
cell-first m addr n p was s is some =
    ap (held was.origins) (let e : (addr - p.base) / 4 ≡ addr / 4 - p.base / 4 = omega (arith, s.low, s.base_is, s.even) in e)
    ∙ sym (cell-in m addr n p was s (addr / 4) is (touched m addr n p was s (addr / 4) some (omega arith) (omega (arith, some))))

pub first-read : (m : Memory) (addr n : ℕ) (p : TablePlace) (was : Lists) (s : Stands m addr n p was) (r : Option ℕ) → IsMemory m →
    IfNone r ((k : ℕ) → k < n → held was.shadow (addr - p.base + k) ≡ 0) → IfSome r (λ i. (i < n) × (held was.shadow (addr - p.base + i) ≢ 0)) →
    IfSome r (λ i. (k : ℕ) → k < i → held was.shadow (addr - p.base + k) ≡ 0) → option_map (λ k. addr + k) r ≡ first_nonzero (shadow_of m) addr n
first-read m addr n p was s None is none found first =
    nonzero-none (shadow_of m) addr n (λ k l. part-read Shadow m addr n p was s k is l ∙ none k l)
first-read m addr n p was s (Some i) is none found first =
    nonzero-found (shadow_of m) addr n i found.0 (λ e. found.1 (sym (part-read Shadow m addr n p was s i is found.0) ∙ e)) (λ k l. part-read Shadow m addr n p was s k is (omega (arith, l, found.0)) ∙ first k l)
