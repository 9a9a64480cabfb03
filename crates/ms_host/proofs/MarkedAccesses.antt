-- What marked accesses come to where no slot has their bytes.
use Rattle.std.proofs.Common.{◌≡◌, ℕ, Bool, true, false, Option, Some, None, MatchOption, MatchBool, inr, sym, ap, subst, ◌∙◌}
use Rattle.std.specs.Prelude.{bit_xor, IfSome}
use Rattle.std.specs.Int.Bits.{xor_assoc, xor_self, xor_zero_r}
use Rattle.ms_bits.specs.Maps.{number_at, byte_of}
use Rattle.ms_ir.specs.Names.{slots}
use Rattle.ms_runs.specs.World.{World}
use Rattle.ms_runs.specs.Memory.{is_good, set_shadow}
use Rattle.ms_runs.specs.Plain.{in_slots, shadow_bits}
use Rattle.ms_host.specs.State.{WorldState, Beside}
use Rattle.ms_host.specs.Shows.{Shows}
use Rattle.ms_host.specs.SlotBytes.{ShowsSlots, MarkedLoad, MarkedStore}

pub from-shadow : (a n : ℕ) (cells : ℕ → ℕ) (world : World) (o : Option ℕ) → in_slots a n slots ≡ false →
    MatchOption o (is_good world (bit_xor a shadow_bits) n ≡ false) (λ v. (is_good world (bit_xor a shadow_bits) n ≡ true) × (v ≡ number_at world.shadow (bit_xor a shadow_bits) n)) → MarkedLoad a n cells world o
from-shadow a n cells world None e h = (e, h)
from-shadow a n cells world (Some v) e h = inr (e, h)

pub to-shadow : (a n v : ℕ) (cells : ℕ → ℕ) (world : World) (beside : Beside) (b : Bool) (w : WorldState) → in_slots a n slots ≡ false → ShowsSlots w.slots cells →
    MatchBool b ((is_good world (bit_xor a shadow_bits) n ≡ true) × Shows w beside (set_shadow (bit_xor a shadow_bits) n (byte_of v) world)) ((is_good world (bit_xor a shadow_bits) n ≡ false) × Shows w beside world) →
    MarkedStore a n v cells world beside b w
to-shadow a n v cells world beside true w e shown h = inr (e, h.0, shown, h.1)
to-shadow a n v cells world beside false w e shown h = (e, h.0, shown, h.1)

-- ---- shadow and the bytes themselves

twice : (a : ℕ) → bit_xor (bit_xor a shadow_bits) shadow_bits ≡ a
twice a = xor_assoc a shadow_bits shadow_bits ∙ ap (bit_xor a) (xor_self shadow_bits) ∙ xor_zero_r a

-- both numbers, where there is such a range
abbrev AreNumbers : WorldState → (a n : ℕ) → Option (ℕ × ℕ) → Type 0
AreNumbers w a n o =
    (beside : Beside) (world : World) → Shows w beside world → MatchOption o (is_good world a n ≡ false) (λ r. (is_good world a n ≡ true) × (r.0 ≡ number_at world.shadow a n) × (r.1 ≡ number_at world.bytes a n))

pub pair-shadow : (w : WorldState) (a n : ℕ) (o : Option (ℕ × ℕ)) → in_slots (bit_xor a shadow_bits) n slots ≡ false → AreNumbers w a n o
    → IfSome o (λ r. (cells : ℕ → ℕ) (beside : Beside) (world : World) → ShowsSlots w.slots cells → Shows w beside world → MarkedLoad (bit_xor a shadow_bits) n cells world (Some r.0))
pair-shadow w a n None far are = tt
pair-shadow w a n (Some r) far are = λ cells beside world kept shows.
    let is = are beside world shows in
    inr (far, (subst (λ (b : ℕ). is_good world b n ≡ true) (sym (twice a)) is.0, is.1 ∙ ap (λ (b : ℕ). number_at world.shadow b n) (sym (twice a))))

pub pair-bytes : (w : WorldState) (a n : ℕ) (o : Option (ℕ × ℕ)) → AreNumbers w a n o
    → IfSome o (λ r. (beside : Beside) (world : World) → Shows w beside world → (is_good world a n ≡ true) × (r.1 ≡ number_at world.bytes a n))
pair-bytes w a n None are = tt
pair-bytes w a n (Some r) are = λ beside world shows. let is = are beside world shows in (is.0, is.2)
