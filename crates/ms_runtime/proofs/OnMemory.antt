-- The runtime functions on memory, by the words of their arguments.
use Rattle.std.proofs.Common.{◌≡◌, ◌≢◌, ℕ, ◌+◌, ◌%◌, Bool, true, false, List, ◌∷◌, [], ◌++◌, length, refl, sym, ap, ◌∙◌, subst, eqb, ◌||◌, ◌⊎◌, inl, inr, not, if◌then◌else◌, Option, Some, None}
use Rattle.std.proofs.lemmas.Bool.{eq-eqb, ne_eqb}
use Rattle.ms_bits.specs.Maps.{first_nonzero}
use Rattle.ms_runs.specs.declared.runs.RunResult.{RunResult}
use Rattle.ms_ir.specs.declared.calls.RuntimeFn.{RuntimeFn}
use Rattle.ms_runs.specs.World.{World, Setting, Effect, Does, Gives}
use Rattle.ms_runs.specs.Memory.{is_good, set_shadow, set_cells}
use Rattle.ms_runs.specs.Origins.{Chained, chain, keeps_old, pair_index, check_byte, check_memory, check_string, asks_string_at, check_format, unpoison, fill_planes, store_origin, mark_cells}
use Rattle.ms_depot.specs.Depots.{DepotState, IsChained}
use Rattle.ms_host.specs.declared.calls.Answer.{Answer}
use Rattle.ms_host.specs.declared.calls.Answer.TheVariants.{Resumed}
use Rattle.ms_host.specs.State.{WorldState, Beside}
use Rattle.ms_host.specs.Shows.{Shows}
use Rattle.ms_host.specs.Answers.{Answered}
use Rattle.ms_runtime.specs.Served.{IsBeside, Served}

-- ---- equal words

pub with2 : (P : ℕ → ℕ → Type 0) {a a' b b' : ℕ} → a ≡ a' → b ≡ b' → P a b → P a' b'
with2 P {a = a} {a' = a'} {b = b} {b' = b'} e f h = subst (λ (x : ℕ). P x b') e (subst (λ (y : ℕ). P a y) f h)

pub with3 : (P : ℕ → ℕ → ℕ → Type 0) {a a' b b' c c' : ℕ} → a ≡ a' → b ≡ b' → c ≡ c' → P a b c → P a' b' c'
with3 P {a = a} {a' = a'} {b = b} {b' = b'} {c = c} {c' = c'} e f g h = subst (λ (x : ℕ). P x b' c') e (with2 (P a) f g h)

pub with4 : (P : ℕ → ℕ → ℕ → ℕ → Type 0) {a a' b b' c c' d d' : ℕ} → a ≡ a' → b ≡ b' → c ≡ c' → d ≡ d' → P a b c d → P a' b' c' d'
with4 P {a = a} {a' = a'} {b = b} {b' = b'} {c = c} {c' = c'} {d = d} {d' = d'} e f g i h = subst (λ (x : ℕ). P x b' c' d') e (with3 (P a) f g i h)

-- ---- answers

-- what is followed of one function is followed of an equal one
pub from-kind : (P : RuntimeFn → Type 0) {f g : RuntimeFn} → f ≡ g → P g → P f
from-kind P e h = subst P (sym e) h

-- a value is given, and the world stays
pub gives : (w : WorldState) (beside : Beside) (world : World) (effect : Effect) (v : ℕ) → effect ≡ Gives v world → Shows w beside world → Answered beside effect (Resumed (Some v)) w
gives w beside world effect v is shows = subst (λ (e : Effect). Answered beside e (Resumed (Some v)) w) (sym is) (refl, shows)

-- ---- checks of memory

pub memory-bad : (setting : Setting) (w : WorldState) (beside : Beside) (world : World) (d : DepotState) (told : RunResult) (a n kind site : ℕ) → is_good world a n ≡ false → IsBeside d told beside → Shows w beside world →
    Served (check_memory setting a n kind site world) (Resumed None) w d told
memory-bad setting w beside world d told a n kind site bad kept shows =
    subst (λ (b : Bool). Served (if b then check_byte setting kind site a (first_nonzero world.shadow a n) world else Does world) (Resumed None) w d told) (sym bad) (beside, (kept, shows))

pub memory-good : (setting : Setting) (w : WorldState) (world : World) (d : DepotState) (told : RunResult) (answer : Answer) (a n kind site : ℕ) → is_good world a n ≡ true →
    Served (check_byte setting kind site a (first_nonzero world.shadow a n) world) answer w d told → Served (check_memory setting a n kind site world) answer w d told
memory-good setting w world d told answer a n kind site good served =
    subst (λ (b : Bool). Served (if b then check_byte setting kind site a (first_nonzero world.shadow a n) world else Does world) answer w d told) (sym good) served

-- ---- checks of strings that a format asks for

pub format-skips : (setting : Setting) (w : WorldState) (beside : Beside) (world : World) (d : DepotState) (told : RunResult) (format index a site : ℕ) → asks_string_at world format index ≡ false → IsBeside d told beside → Shows w beside world →
    Served (check_format setting format index a site world) (Resumed None) w d told
format-skips setting w beside world d told format index a site none kept shows =
    subst (λ (b : Bool). Served (if b then check_string setting a site world else Does world) (Resumed None) w d told) (sym none) (beside, (kept, shows))

pub format-checks : (P : Effect → Type 0) (setting : Setting) (world : World) (format index a site : ℕ) → asks_string_at world format index ≡ true → P (check_string setting a site world) → P (check_format setting format index a site world)
format-checks P setting world format index a site asks h = subst (λ (b : Bool). P (if b then check_string setting a site world else Does world)) (sym asks) h

-- ---- chained origins

-- the pairs alone changed
pub pairs-changed : (w : WorldState) (beside : Beside) (world : World) (pairs : List (ℕ × ℕ)) → Shows w beside world → Shows w (record beside { pairs = pairs }) (record world { pairs = pairs })
pairs-changed w beside world pairs shows = record {
  allocs = shows.allocs;
  bytes = shows.bytes;
  shadow = shows.shadow;
  origins = shows.origins;
  made = shows.made;
  input = shows.input;
  output = shows.output;
  pairs = refl;
  reports = shows.reports;
  blind = shows.blind;
  fibers = shows.fibers;
}

pub beside-changed : (d d' : DepotState) (told : RunResult) (beside : Beside) → IsBeside d told beside → IsBeside d' told (record beside { pairs = d'.pairs })
beside-changed d d' told beside kept = record { pairs = refl; reports = kept.reports; blind = kept.blind }

-- a chain changes the pairs alone
chain-world : (setting : Setting) (old site : ℕ) (world : World) → record world { pairs = (chain setting old site world).world.pairs } ≡ (chain setting old site world).world
chain-world setting old site world = by (keeps_old setting world old) (pair_index world.pairs old site)
  where
    pick : Bool → Option ℕ → Chained
    pick b o = if b then record { id = old; world = world } else
        elim o [
          | Some k ↦ record { id = setting.roots + 1 + k; world = world }
          | None ↦ record { id = setting.roots + 1 + length world.pairs; world = record world { pairs = world.pairs ++ (old, site) ∷ [] } }
        ]

    by : (b : Bool) (o : Option ℕ) → record world { pairs = (pick b o).world.pairs } ≡ (pick b o).world
    by true o = refl
    by false (Some k) = refl
    by false None = refl

pub chained-in : (P : ℕ → World → Type 0) (setting : Setting) (world : World) (old site id : ℕ) (d' : DepotState) → IsChained setting world old site id d' → P id (record world { pairs = d'.pairs }) → P (chain setting old site world).id (chain setting old site world).world
chained-in P setting world old site id d' chained h =
    subst (λ (after : World). P (chain setting old site world).id after) (chain-world setting old site world)
    (subst (λ (pairs : List (ℕ × ℕ)). P (chain setting old site world).id (record world { pairs = pairs })) chained.pairs
    (subst (λ (i : ℕ). P i (record world { pairs = d'.pairs })) chained.id h))

-- ---- filled bytes

abbrev marked : Setting → (a n mask origin site : ℕ) → World → World
marked setting a n mask origin site world = set_cells a n (chain setting origin site world).id (set_shadow a n (λ k. mask) (chain setting origin site world).world)

abbrev filled : Setting → (a n mask origin site : ℕ) → World → World
filled setting a n mask origin site world = if eqb (mask % 256) 0 || eqb n 0 then set_shadow a n (λ k. 0) world else marked setting a n (mask % 256) origin site world

pub fill-bad : (setting : Setting) (world : World) (a n mask origin site : ℕ) → is_good world a n ≡ false → world ≡ fill_planes setting a n mask origin site world
fill-bad setting world a n mask origin site bad = sym (ap (λ (b : Bool). if not b then world else filled setting a n mask origin site world) bad)

fill-good : (setting : Setting) (world : World) (a n mask origin site : ℕ) → is_good world a n ≡ true → filled setting a n mask origin site world ≡ fill_planes setting a n mask origin site world
fill-good setting world a n mask origin site good = sym (ap (λ (b : Bool). if not b then world else filled setting a n mask origin site world) good)

some-zero : (m n : ℕ) → (m ≡ 0) ⊎ (n ≡ 0) → (eqb m 0 || eqb n 0) ≡ true
some-zero m n (inl e) = ap (λ (b : Bool). b || eqb n 0) (eq-eqb m 0 e)
some-zero m n (inr e) = ap (λ (b : Bool). eqb m 0 || b) (eq-eqb n 0 e) ∙ either (eqb m 0)
  where
    either : (b : Bool) → (b || true) ≡ true
    either true = refl
    either false = refl

pub fill-clean : (setting : Setting) (world : World) (a n mask m origin site : ℕ) → is_good world a n ≡ true → m ≡ mask % 256 → (m ≡ 0) ⊎ (n ≡ 0) → unpoison a n world ≡ fill_planes setting a n mask origin site world
fill-clean setting world a n mask m origin site good low none =
    ap (λ (b : Bool). if b then set_shadow a n (λ k. 0) world else world) good
    ∙ sym (ap (λ (b : Bool). if b then set_shadow a n (λ k. 0) world else marked setting a n (mask % 256) origin site world) (some-zero (mask % 256) n (subst (λ (x : ℕ). (x ≡ 0) ⊎ (n ≡ 0)) low none)))
    ∙ fill-good setting world a n mask origin site good

pub fill-marked : (setting : Setting) (world : World) (a n mask m origin site : ℕ) → is_good world a n ≡ true → m ≡ mask % 256 → m ≢ 0 → n ≢ 0 → marked setting a n m origin site world ≡ fill_planes setting a n mask origin site world
fill-marked setting world a n mask m origin site good low some more =
    ap (λ (x : ℕ). marked setting a n x origin site world) low
    ∙ sym (ap (λ (b : Bool). if b then set_shadow a n (λ k. 0) world else marked setting a n (mask % 256) origin site world)
    (ap (λ (x : ℕ). eqb x 0 || eqb n 0) (sym low) ∙ ap (λ (b : Bool). b || eqb n 0) (ne_eqb m 0 some) ∙ ne_eqb n 0 more))
    ∙ fill-good setting world a n mask origin site good

-- ---- stored origins

pub store-clean : (setting : Setting) (world : World) (a mask origin site : ℕ) → mask ≡ 0 → world ≡ store_origin setting a mask origin site world
store-clean setting world a mask origin site none =
    sym (ap (λ (b : Bool). if b then world else mark_cells 8 a mask (chain setting origin site world).id (chain setting origin site world).world) (eq-eqb mask 0 none))

pub store-marked : (setting : Setting) (world : World) (a mask origin site : ℕ) → mask ≢ 0 → mark_cells 8 a mask (chain setting origin site world).id (chain setting origin site world).world ≡ store_origin setting a mask origin site world
store-marked setting world a mask origin site some =
    sym (ap (λ (b : Bool). if b then world else mark_cells 8 a mask (chain setting origin site world).id (chain setting origin site world).world) (ne_eqb mask 0 some))

-- the world is one that was meant
pub does-as : (w : WorldState) (d : DepotState) (told : RunResult) (after meant : World) → after ≡ meant → Served (Does after) (Resumed None) w d told → Served (Does meant) (Resumed None) w d told
does-as w d told after meant is served = subst (λ (x : World). Served (Does x) (Resumed None) w d told) is served
