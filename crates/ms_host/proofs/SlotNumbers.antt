-- Numbers in slots.
use Rattle.std.proofs.Common.{◌≡◌, ℕ, zero, suc, ◌+◌, ◌-◌, ◌<◌, ◌≤◌, ◌⊎◌, ◌&&◌, Bool, true, false, List, [], ◌∷◌, MatchBool, inl, inr, if◌then◌else◌, leb, refl, sym, ap, ◌∙◌, subst, arith, ⊎_elim, true≢false}
use Rattle.std.proofs.Math.Path.{fun_ext}
use Rattle.std.proofs.lemmas.Bool.{cases_lt, lt-leb}
use Rattle.ms_bits.specs.Maps.{number_at, byte_of, with_range}
use Rattle.ms_ir.specs.declared.syntax.Name.{Name}
use Rattle.ms_ir.specs.declared.calls.Slot.TheVariants as slot
use Rattle.ms_ir.specs.Names.{slot_room, slots}
use Rattle.ms_runs.specs.Plain.{in_slots}
use Rattle.ms_planes.specs.Areas.{held}
use Rattle.ms_planes.proofs.Shown.{number-same}
use Rattle.ms_planes.proofs.Ranges.{range-in, range-low, range-high}
use Rattle.ms_host.specs.SlotBytes.{ShowsSlots}

pub slots-read : (bytes : List ℕ) (cells : ℕ → ℕ) (a n : ℕ) → ShowsSlots bytes cells → 0x680000000000 ≤ a → a + n ≤ 0x680000003004 → number_at (held bytes) (a - 0x680000000000) n ≡ number_at cells a n
slots-read bytes cells a n shows low high =
    number-same (held bytes) cells (a - 0x680000000000) a n
    (λ k l. let e : 0x680000000000 + (a - 0x680000000000 + k) ≡ a + k = omega (arith, low) in sym (shows (a - 0x680000000000 + k) (omega (arith, low, high, l))) ∙ ap cells e)

pub slots-written : (bytes new : List ℕ) (cells : ℕ → ℕ) (a n : ℕ) (g : ℕ → ℕ) → ShowsSlots bytes cells → 0x680000000000 ≤ a → held new ≡ with_range (held bytes) (a - 0x680000000000) n g → ShowsSlots new (with_range cells a n g)
slots-written bytes new cells a n g shows low is k l = ⊎_elim
    (λ (e : k < a - 0x680000000000). range-low cells g a n (0x680000000000 + k) (omega (arith, e, low)) ∙ shows k l ∙ sym (range-low (held bytes) g (a - 0x680000000000) n k e) ∙ at)
    (λ (e : a - 0x680000000000 ≤ k). ⊎_elim
    (λ (f : k < a - 0x680000000000 + n).
    let same : 0x680000000000 + k - a ≡ k - (a - 0x680000000000) = omega (arith, low, e) in
    range-in cells g a n (0x680000000000 + k) (omega (arith, e, low)) (omega (arith, f, low)) ∙ ap g same ∙ sym (range-in (held bytes) g (a - 0x680000000000) n k e f) ∙ at)
    (λ (f : a - 0x680000000000 + n ≤ k). range-high cells g a n (0x680000000000 + k) (omega (arith, f, low)) ∙ shows k l ∙ sym (range-high (held bytes) g (a - 0x680000000000) n k f) ∙ at)
    (cases_lt k (a - 0x680000000000 + n)))
    (cases_lt k (a - 0x680000000000))
  where
    at : with_range (held bytes) (a - 0x680000000000) n g k ≡ held new k
    at = sym (ap (λ (f : ℕ → ℕ). f k) is)

-- ---- addresses before all slots, or after them

and-false : (x : Bool) → (x && false) ≡ false
and-false true = refl
and-false false = refl

abbrev IsFar : ℕ → List (Name × (ℕ × ℕ)) → Type 0
IsFar a [] = Unit {0}
IsFar a (p ∷ ps) = ((a < p.1.0) ⊎ (p.1.0 + p.1.1 < a)) × IsFar a ps

missed : (base size a n : ℕ) → (a < base) ⊎ (base + size < a) → (leb base a && leb (a + n) (base + size)) ≡ false
missed base size a n (inl below) = ap (λ (b : Bool). b && leb (a + n) (base + size)) (lt-leb base a below)
missed base size a n (inr above) = ap (λ (b : Bool). leb base a && b) (lt-leb (a + n) (base + size) (omega (arith, above))) ∙ and-false (leb base a)

far_from : (a n : ℕ) (ps : List (Name × (ℕ × ℕ))) → IsFar a ps → in_slots a n ps ≡ false
far_from a n [] far = refl
far_from a n (p ∷ ps) far = ap (λ (b : Bool). if b then true else in_slots a n ps) (missed p.1.0 p.1.1 a n far.0) ∙ far_from a n ps far.1

pub far_away : (a n : ℕ) → (a < 0x680000000000) ⊎ (0x680000003004 < a) → in_slots a n slots ≡ false
far_away a n (inl below) = far_from a n slots (inl below, (inl (omega (arith, below)), (inl (omega (arith, below)), (inl (omega (arith, below)), tt))))
far_away a n (inr above) = far_from a n slots (inr (omega (arith, above)), (inr (omega (arith, above)), (inr (omega (arith, above)), (inr above, tt))))

-- ---- numbers that lie in a slot

-- one was written
slot_put : (a n v : ℕ) (cells : ℕ → ℕ) (new : List ℕ) (b : Bool) → in_slots a n slots ≡ true →
    MatchBool b ((in_slots a n slots ≡ true) × ShowsSlots new (with_range cells a n (byte_of v))) ((in_slots a n slots ≡ false) × ShowsSlots new cells) → ShowsSlots new (with_range cells a n (byte_of v))
slot_put a n v cells new true e h = h.1
slot_put a n v cells new false e h = absurd (true≢false (sym e ∙ h.0))

no_byte : (k : ℕ) → byte_of 0 k ≡ 0
no_byte zero = refl
no_byte (suc k) = no_byte k

-- zeros were
zeros_put : (a n : ℕ) (cells : ℕ → ℕ) (new : List ℕ) (b : Bool) → in_slots a n slots ≡ true →
    MatchBool b ((in_slots a n slots ≡ true) × ShowsSlots new (with_range cells a n (byte_of 0))) ((in_slots a n slots ≡ false) × ShowsSlots new cells) → ShowsSlots new (with_range cells a n (λ k. 0))
zeros_put a n cells new b e h = subst (λ (g : ℕ → ℕ). ShowsSlots new (with_range cells a n g)) (fun_ext no_byte) (slot_put a n 0 cells new b e h)

pub first_mask_put : (a : ℕ) → a ≡ (slot_room slot.ParamMasks).0 → (cells : ℕ → ℕ) (new : List ℕ) (b : Bool) →
    MatchBool b ((in_slots a 8 slots ≡ true) × ShowsSlots new (with_range cells a 8 (byte_of 0))) ((in_slots a 8 slots ≡ false) × ShowsSlots new cells) →
    ShowsSlots new (with_range cells (slot_room slot.ParamMasks).0 8 (λ k. 0))
first_mask_put a is cells new b h =
    subst (λ (k : ℕ). ShowsSlots new (with_range cells k 8 (λ i. 0))) is (zeros_put a 8 cells new b (ap (λ k. in_slots k 8 slots) is ∙ mask_in) h)
  where
    mask_in : in_slots 0x680000000000 8 slots ≡ true
    mask_in = refl

pub first_origin_put : (a : ℕ) → a ≡ (slot_room slot.ParamOrigins).0 → (cells : ℕ → ℕ) (new : List ℕ) (b : Bool) →
    MatchBool b ((in_slots a 4 slots ≡ true) × ShowsSlots new (with_range cells a 4 (byte_of 0))) ((in_slots a 4 slots ≡ false) × ShowsSlots new cells) →
    ShowsSlots new (with_range cells (slot_room slot.ParamOrigins).0 4 (λ k. 0))
first_origin_put a is cells new b h =
    subst (λ (k : ℕ). ShowsSlots new (with_range cells k 4 (λ i. 0))) is (zeros_put a 4 cells new b (ap (λ k. in_slots k 4 slots) is ∙ origin_in) h)
  where
    origin_in : in_slots 0x680000001000 4 slots ≡ true
    origin_in = refl

-- the slots of a result are never missed
pub mask_lies : {P : Type 0} (a : ℕ) → a ≡ (slot_room slot.RetvalMask).0 → in_slots a 8 slots ≡ false → P
mask_lies a is e = absurd (true≢false (sym mask_in ∙ sym (ap (λ k. in_slots k 8 slots) is) ∙ e))
  where
    mask_in : in_slots 0x680000002000 8 slots ≡ true
    mask_in = refl

pub origin_lies : {P : Type 0} (a : ℕ) → a ≡ (slot_room slot.RetvalOrigin).0 → in_slots a 4 slots ≡ false → P
origin_lies a is e = absurd (true≢false (sym origin_in ∙ sym (ap (λ k. in_slots k 4 slots) is) ∙ e))
  where
    origin_in : in_slots 0x680000003000 4 slots ≡ true
    origin_in = refl
