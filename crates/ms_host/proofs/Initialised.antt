-- Bytes that are written one after the other, where some of them may stand nowhere.
use Rattle.std.proofs.Common.{◌≡◌, ◌≢◌, ℕ, ◌+◌, ◌<◌, ◌≤◌, ◌^◌, true, false, refl, sym, ◌∙◌, subst, arith, ⊎_elim}
use Rattle.std.proofs.lemmas.Bool.{cases_lt}
use Rattle.ms_alloc.specs.Allocations.{Allocations, is_good as is_live}
use Rattle.ms_bits.specs.Maps.{with_range, byte_of}
use Rattle.ms_planes.specs.Memory.{Memory, bytes_of, shadow_of, origins_of}
use Rattle.ms_planes.proofs.Ranges.{range-low, range-high}
use Rattle.ms_runs.specs.World.{World}
use Rattle.ms_runs.specs.Memory.{set_bytes}
use Rattle.ms_alloc.specs.Allocations.{IsLaidOut}
use Rattle.ms_host.specs.State.{WorldState, Beside}
use Rattle.ms_host.specs.Shows.{Agrees, Shows}
use Rattle.ms_host.proofs.Liveness.{live-low}
use Rattle.ms_host.proofs.MadeBytes.{range-next}
use Rattle.ms_host.proofs.Changes.{changed, bytes-set}

-- a byte that isn't live
dead-agrees : (t : Allocations) (f g : ℕ → ℕ) (a : ℕ) (new : ℕ → ℕ) → is_live a 1 t ≡ false → Agrees t f g → Agrees t (with_range f a 1 new) g
dead-agrees t f g a new dead same x live = ⊎_elim
    (λ (l : x < a). range-low f new a 1 x l ∙ same x live)
    (λ (h : a ≤ x). range-high f new a 1 x (past h) ∙ same x live)
    (cases_lt x a)
  where
    other : x ≢ a
    other e = let both : true ≡ false = sym (subst (λ (y : ℕ). is_live y 1 t ≡ true) e live) ∙ dead in cc

    past : a ≤ x → a + 1 ≤ x
    past h = let ne : x ≢ a = other in omega (arith, h, ne)

pub dead-byte : (w : WorldState) (beside : Beside) (world : World) (a : ℕ) (new : ℕ → ℕ) → is_live a 1 w.planes.table ≡ false → Shows w beside world → Shows w beside (set_bytes a 1 new world)
dead-byte w beside world a new dead shows =
    changed w beside world w.planes (with_range world.bytes a 1 new) world.shadow world.origins shows refl (dead-agrees w.planes.table world.bytes (bytes_of w.planes) a new dead shows.bytes) shows.shadow shows.origins

pub live-byte : (w : WorldState) (beside : Beside) (world : World) (m : Memory) (a live b v : ℕ) → live ≡ a → v ≡ b → Shows w beside world → m.table ≡ w.planes.table →
    bytes_of m ≡ with_range (bytes_of w.planes) live 1 (byte_of v) → shadow_of m ≡ shadow_of w.planes → origins_of m ≡ origins_of w.planes → Shows (record w { planes = m }) beside (set_bytes a 1 (byte_of b) world)
live-byte w beside world m a live b v at is shows same bytes s o =
    subst (λ (x : ℕ). Shows (record w { planes = m }) beside (set_bytes x 1 (byte_of b) world)) at
    (subst (λ (y : ℕ). Shows (record w { planes = m }) beside (set_bytes live 1 (byte_of y) world)) is (bytes-set w beside world m live 1 (byte_of v) shows same bytes s o))

-- one byte more
pub next-byte : (w : WorldState) (beside : Beside) (world : World) (a k b : ℕ) (g : ℕ → ℕ) → b ≡ g k → b < 256 → Shows w beside (set_bytes (a + k) 1 (byte_of b) (set_bytes a k g world)) → Shows w beside (set_bytes a (k + 1) g world)
next-byte w beside world a k b g is small shows =
    subst (λ (f : ℕ → ℕ). Shows w beside (record world { bytes = f })) (range-next world.bytes (with_range world.bytes a k g) g a k b refl is small) shows

-- none yet
pub no-byte : (w : WorldState) (beside : Beside) (world : World) (a : ℕ) (g : ℕ → ℕ) → Shows w beside world → Shows w beside (set_bytes a 0 g world)
no-byte w beside world a g shows =
    changed w beside world w.planes (with_range world.bytes a 0 g) world.shadow world.origins shows refl
    (λ x live. none x ∙ shows.bytes x live) shows.shadow shows.origins
  where
    none : (x : ℕ) → with_range world.bytes a 0 g x ≡ world.bytes x
    none x = ⊎_elim
        (λ (l : x < a). range-low world.bytes g a 0 x l)
        (λ (h : a ≤ x). range-high world.bytes g a 0 x (omega (arith, h)))
        (cases_lt x a)

-- bytes past all addresses
pub dead-range : (w : WorldState) (beside : Beside) (world : World) (a n : ℕ) (g : ℕ → ℕ) → IsLaidOut w.planes.table → 2 ^ 64 ≤ a → Shows w beside world → Shows w beside (set_bytes a n g world)
dead-range w beside world a n g laid far shows =
    changed w beside world w.planes (with_range world.bytes a n g) world.shadow world.origins shows refl
    (λ x live. range-low world.bytes g a n x (omega (arith, far, live-low w.planes.table x laid live)) ∙ shows.bytes x live) shows.shadow shows.origins
