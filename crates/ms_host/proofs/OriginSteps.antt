-- Steps through the eight bytes that a mask speaks of.
use Rattle.std.proofs.Common.{◌≡◌, ◌≢◌, ℕ, suc, ◌+◌, ◌-◌, ◌/◌, ◌%◌, ◌<◌, ◌≤◌, Bool, true, false, not, sym, ap, ◌∙◌, subst, refl, arith, eqb, ◌||◌, if◌then◌else◌}
use Rattle.std.proofs.lemmas.Bool.{eq-eqb, ne_eqb}
use Rattle.ms_bits.specs.Maps.{with_cell}
use Rattle.ms_runs.specs.World.{World}
use Rattle.ms_runs.specs.Memory.{is_good}
use Rattle.ms_runs.specs.Origins.{mark_cells, origin_within}
use Rattle.ms_host.specs.State.{WorldState, Beside}
use Rattle.ms_host.specs.Shows.{Shows}
use Rattle.ms_host.specs.Poisonings.{with_mark}

-- ---- steps

-- the world after the byte at an address
abbrev pub after_byte : (rest a origin : ℕ) → World → World
after_byte rest a origin world = if eqb (rest % 256) 0 || not (is_good world a 1) then world else record world { origins = with_cell world.origins a origin }

pub mark-step : (k a rest origin : ℕ) (world : World) → k < 8 →
    mark_cells (8 - k) (a + k) rest origin world ≡ mark_cells (8 - (k + 1)) (a + (k + 1)) (rest / 256) origin (after_byte rest (a + k) origin world)
mark-step k a rest origin world l =
    let left : 8 - k ≡ suc (8 - (k + 1)) = omega arith in
    let next : a + k + 1 ≡ a + (k + 1) = omega arith in
    ap (λ (n : ℕ). mark_cells n (a + k) rest origin world) left
    ∙ ap (λ (x : ℕ). mark_cells (8 - (k + 1)) x (rest / 256) origin (after_byte rest (a + k) origin world)) next

pub byte-skipped : (rest a origin : ℕ) (world : World) → rest % 256 ≡ 0 → after_byte rest a origin world ≡ world
byte-skipped rest a origin world none =
    ap (λ (b : Bool). if b || not (is_good world a 1) then world else record world { origins = with_cell world.origins a origin }) (eq-eqb (rest % 256) 0 none)

live-choice : (b : Bool) (v w : World) → (if not b then v else w) ≡ (if b then w else v)
live-choice true v w = refl
live-choice false v w = refl

pub byte-marked : (rest a origin : ℕ) (world : World) → rest % 256 ≢ 0 → after_byte rest a origin world ≡ with_mark a origin world
byte-marked rest a origin world some =
    ap (λ (b : Bool). if b || not (is_good world a 1) then world else record world { origins = with_cell world.origins a origin }) (ne_eqb (rest % 256) 0 some)
    ∙ live-choice (is_good world a 1) world (record world { origins = with_cell world.origins a origin })

pub within-step : (k a rest : ℕ) (world : World) → k < 8 →
    origin_within (8 - k) (a + k) rest world
    ≡ (if eqb (rest % 256) 0 || not (is_good world (a + k) 1) then origin_within (8 - (k + 1)) (a + (k + 1)) (rest / 256) world else world.origins ((a + k) / 4))
within-step k a rest world l =
    let left : 8 - k ≡ suc (8 - (k + 1)) = omega arith in
    let next : a + k + 1 ≡ a + (k + 1) = omega arith in
    ap (λ (n : ℕ). origin_within n (a + k) rest world) left
    ∙ ap (λ (x : ℕ). if eqb (rest % 256) 0 || not (is_good world (a + k) 1) then origin_within (8 - (k + 1)) x (rest / 256) world else world.origins ((a + k) / 4)) next

-- a byte without a mask, or one that isn't live, is passed over
pub within-clean : (k a rest : ℕ) (world : World) → k < 8 → rest % 256 ≡ 0 → origin_within (8 - k) (a + k) rest world ≡ origin_within (8 - (k + 1)) (a + (k + 1)) (rest / 256) world
within-clean k a rest world l none =
    within-step k a rest world l
    ∙ ap (λ (b : Bool). if b || not (is_good world (a + k) 1) then origin_within (8 - (k + 1)) (a + (k + 1)) (rest / 256) world else world.origins ((a + k) / 4)) (eq-eqb (rest % 256) 0 none)

passed : (b : Bool) (x y : ℕ) → (if b || true then x else y) ≡ x
passed true x y = refl
passed false x y = refl

pub within-dead : (k a rest : ℕ) (world : World) → k < 8 → is_good world (a + k) 1 ≡ false → origin_within (8 - k) (a + k) rest world ≡ origin_within (8 - (k + 1)) (a + (k + 1)) (rest / 256) world
within-dead k a rest world l dead =
    within-step k a rest world l
    ∙ ap (λ (g : Bool). if eqb (rest % 256) 0 || not g then origin_within (8 - (k + 1)) (a + (k + 1)) (rest / 256) world else world.origins ((a + k) / 4)) dead
    ∙ passed (eqb (rest % 256) 0) _ _

-- the first other one decides
pub within-found : (k a rest : ℕ) (world : World) → k < 8 → rest % 256 ≢ 0 → is_good world (a + k) 1 ≡ true → origin_within (8 - k) (a + k) rest world ≡ world.origins ((a + k) / 4)
within-found k a rest world l some live =
    within-step k a rest world l
    ∙ ap (λ (b : Bool). if b || not (is_good world (a + k) 1) then origin_within (8 - (k + 1)) (a + (k + 1)) (rest / 256) world else world.origins ((a + k) / 4)) (ne_eqb (rest % 256) 0 some)
    ∙ ap (λ (g : Bool). if not g then origin_within (8 - (k + 1)) (a + (k + 1)) (rest / 256) world else world.origins ((a + k) / 4)) live

-- ---- the marks

-- a world stands for one from which the marks of the bytes from k on lead to the same as all from the start
abbrev pub MarksTo : (start h : WorldState) → (k a rest mask origin : ℕ) → Type 0
MarksTo start h k a rest mask origin =
    (beside : Beside) (world : World) → Shows start beside world → (v : World) × ((mark_cells (8 - k) (a + k) rest origin v ≡ mark_cells 8 a mask origin world) × Shows h beside v)

pub marks-skip : (start h : WorldState) (k a rest mask origin : ℕ) → k < 8 → rest % 256 ≡ 0 → MarksTo start h k a rest mask origin → MarksTo start h (k + 1) a (rest / 256) mask origin
marks-skip start h k a rest mask origin l none marks beside world shows =
    let r = marks beside world shows in
    (r.0, (ap (mark_cells (8 - (k + 1)) (a + (k + 1)) (rest / 256) origin) (sym (byte-skipped rest (a + k) origin r.0 none)) ∙ sym (mark-step k a rest origin r.0 l) ∙ r.1.0, r.1.1))

pub marks-one : (start h h' : WorldState) (k a rest mask origin : ℕ) → k < 8 → rest % 256 ≢ 0 → ((beside : Beside) (world : World) → Shows h beside world → Shows h' beside (with_mark (a + k) origin world)) →
    MarksTo start h k a rest mask origin → MarksTo start h' (k + 1) a (rest / 256) mask origin
marks-one start h h' k a rest mask origin l some mark marks beside world shows =
    let r = marks beside world shows in (
      with_mark (a + k) origin r.0,
      (
        ap (mark_cells (8 - (k + 1)) (a + (k + 1)) (rest / 256) origin) (sym (byte-marked rest (a + k) origin r.0 some)) ∙ sym (mark-step k a rest origin r.0 l) ∙ r.1.0,
        mark beside r.0 r.1.1,
      ),
    )

pub marks-end : (start h : WorldState) (k a rest mask origin : ℕ) → 8 ≤ k → MarksTo start h k a rest mask origin → (beside : Beside) (world : World) → Shows start beside world → Shows h beside (mark_cells 8 a mask origin world)
marks-end start h k a rest mask origin done marks beside world shows =
    let r = marks beside world shows in
    let none : 8 - k ≡ 0 = omega arith in
    subst (Shows h beside) (sym (ap (λ (n : ℕ). mark_cells n (a + k) rest origin r.0) none) ∙ r.1.0) r.1.1
