-- What is loaded from the slots is what was stored in them.
use Rattle.std.proofs.Common.{◌≡◌, ℕ, zero, suc, ◌+◌, ◌*◌, ◌/◌, ◌%◌, ◌^◌, ◌<◌, ◌≤◌, List, [], ◌∷◌, ◌++◌, length, refl, ap, ◌∙◌, subst, arith, true, Some, None}
use Rattle.std.specs.Prelude.{map, slice_get}
use Rattle.ms_bits.specs.Maps.{byte_of, with_range, number_at}
use Rattle.ms_bits_laws.proofs.MapLemmas.{load_elsewhere, load_elsewhere_above}
use Rattle.ms_ir.specs.declared.syntax.Name.{Name}
use Rattle.ms_ir.specs.declared.syntax.Ty.{Ty, Int}
use Rattle.ms_ir.specs.declared.syntax.Operand.{Operand}
use Rattle.ms_ir.specs.declared.syntax.Op.TheVariants as op
use Rattle.ms_ir.specs.Names.{slots}
use Rattle.ms_ir.specs.Layout.{width_of}
use Rattle.ms_runs.specs.World.{World, Setting, Here}
use Rattle.ms_runs.specs.Control.{with_value}
use Rattle.ms_runs.specs.Act.{operand_word}
use Rattle.ms_runs.specs.Plain.{in_slots}
use Rattle.ms_pass_tasks.specs.Tasks.{msan_name, Task, inserted, tasks_code}
use Rattle.ms_pass_tasks.specs.Meaning.{run_marked}
use Rattle.ms_pass_tasks.specs.Environments.{mask_type}
use Rattle.ms_pass_tasks.specs.SlotTasks.{param_mask, param_origin, result_mask_slot, result_origin_slot}
use Rattle.ms_pass_tasks.specs.Match.{SlotAddresses, mask_slot, origin_slot}
use Rattle.ms_pass_tasks.proofs.InsertedNames.{with_here, with_other, msan_name_one}
use Rattle.ms_pass_tasks.proofs.OperandWords.{word_less}
use Rattle.ms_pass_tasks.proofs.Slots.{mask_inside, origin_inside, result_inside, answer_inside, size_small, stored_word}
use Rattle.ms_slots.specs.Places.{store_tasks, load_tasks, store_arguments, load_parameters}
use Rattle.ms_slots.specs.Arrival.{AreWords, Stores, Loads, HasArrived, ArgumentsArrive, ResultArrives}
use Rattle.ms_slots.proofs.Slots.{param_mask_at, param_origin_at, result_mask_at, result_origin_at, put_slot, fetch_slot}

-- ---- one word

-- the bytes from two addresses on hold the mask and the origin of a word
record Held (s : Setting) (sent : Name → ℕ) (cells : ℕ → ℕ) (a b : ℕ) (word : Ty × Operand × Operand) : Type 0 where
  pub mask : number_at cells a ((width_of word.0 + 7) / 8) % 2 ^ width_of word.0 ≡ operand_word s sent (width_of word.0) word.1
  pub origin : number_at cells b 4 % 2 ^ 32 ≡ operand_word s sent 32 word.2

module _ (s : Setting) (h : Here) (sent : Name → ℕ) where
  -- the bytes after a word is stored
  abbrev stored_cells : (a b : ℕ) → Ty × Operand × Operand → (ℕ → ℕ) → (ℕ → ℕ)
  stored_cells a b word cells =
      with_range (with_range cells a ((width_of word.0 + 7) / 8) (byte_of (operand_word s sent (width_of word.0) word.1))) b 4 (byte_of (operand_word s sent 32 word.2))

  word_stored : (mask origin : Operand) (a b : ℕ) → operand_word s sent 64 mask ≡ a → operand_word s sent 64 origin ≡ b → (word : Ty × Operand × Operand)
      → in_slots a ((width_of word.0 + 7) / 8) slots ≡ true → in_slots b 4 slots ≡ true → (ts : List Task) (n : ℕ) (cells : ℕ → ℕ) (w : World)
      → run_marked s h (tasks_code (store_tasks mask origin word ++ ts) n).code (record { names = sent; slots = cells }) w
      ≡ run_marked s h (tasks_code ts n).code (record { names = sent; slots = stored_cells a b word cells }) w
  word_stored mask origin a b e f word p q ts n cells w =
      let rest = (tasks_code ts n).code in
      put_slot s h sent (mask_type word.0) word.1 mask a e p (inserted None (op.Store (Int 32) word.2 origin) ∷ rest) cells w
      ∙ put_slot s h sent (Int 32) word.2 origin b f q rest (with_range cells a ((width_of word.0 + 7) / 8) (byte_of (operand_word s sent (width_of word.0) word.1))) w

  word_held : (a b : ℕ) (word : Ty × Operand × Operand) (cells : ℕ → ℕ) → a + (width_of word.0 + 7) / 8 ≤ b → Held s sent (stored_cells a b word cells) a b word
  word_held a b word cells apart =
      let w = width_of word.0 in
      let first = with_range cells a ((w + 7) / 8) (byte_of (operand_word s sent w word.1)) in
      record {
        mask = ap (λ i. i % 2 ^ w) (load_elsewhere first b 4 (byte_of (operand_word s sent 32 word.2)) a ((w + 7) / 8) apart)
            ∙ stored_word cells a w (operand_word s sent w word.1) (word_less s sent w word.1);
        origin = stored_word first b 32 (operand_word s sent 32 word.2) (word_less s sent 32 word.2);
      }

module _ (s : Setting) (h : Here) (cells : ℕ → ℕ) where
  -- the words of names after one is loaded
  abbrev loaded_names : (a b n : ℕ) → Ty → (Name → ℕ) → (Name → ℕ)
  loaded_names a b n t names =
      with_value (with_value names (msan_name n) (number_at cells a ((width_of t + 7) / 8) % 2 ^ width_of t)) (msan_name (n + 1)) (number_at cells b 4 % 2 ^ 32)

  word_loaded : (mask origin : Operand) (a b : ℕ) → ((names : Name → ℕ) → operand_word s names 64 mask ≡ a) → ((names : Name → ℕ) → operand_word s names 64 origin ≡ b)
      → (n : ℕ) (t : Ty) → in_slots a ((width_of t + 7) / 8) slots ≡ true → in_slots b 4 slots ≡ true → (ts : List Task) (m : ℕ) (names : Name → ℕ) (w : World)
      → run_marked s h (tasks_code (load_tasks mask origin n t ++ ts) m).code (record { names = names; slots = cells }) w
      ≡ run_marked s h (tasks_code ts m).code (record { names = loaded_names a b n t names; slots = cells }) w
  word_loaded mask origin a b e f n t p q ts m names w =
      let rest = (tasks_code ts m).code in
      let first = with_value names (msan_name n) (number_at cells a ((width_of t + 7) / 8) % 2 ^ width_of t) in
      fetch_slot s h names (msan_name n) (mask_type t) mask a (e names) p (inserted (Some (msan_name (n + 1))) (op.Load (Int 32) origin) ∷ rest) cells w
      ∙ fetch_slot s h first (msan_name (n + 1)) (Int 32) origin b (f first) q rest cells w

  loaded_mask : (a b n : ℕ) (t : Ty) (names : Name → ℕ) → loaded_names a b n t names (msan_name n) ≡ number_at cells a ((width_of t + 7) / 8) % 2 ^ width_of t
  loaded_mask a b n t names =
      let first = with_value names (msan_name n) (number_at cells a ((width_of t + 7) / 8) % 2 ^ width_of t) in
      with_other first (msan_name (n + 1)) (msan_name n) (number_at cells b 4 % 2 ^ 32) (λ z. less n (msan_name_one n (n + 1) z))
      ∙ with_here names (msan_name n) (number_at cells a ((width_of t + 7) / 8) % 2 ^ width_of t)
    where
      less : (n : ℕ) → n ≡ n + 1 → ⊥
      less n e = omega arith

  loaded_origin : (a b n : ℕ) (t : Ty) (names : Name → ℕ) → loaded_names a b n t names (msan_name (n + 1)) ≡ number_at cells b 4 % 2 ^ 32
  loaded_origin a b n t names =
      with_here (with_value names (msan_name n) (number_at cells a ((width_of t + 7) / 8) % 2 ^ width_of t)) (msan_name (n + 1)) (number_at cells b 4 % 2 ^ 32)

  -- a name of a smaller number keeps its word
  loaded_kept : (a b n : ℕ) (t : Ty) (names : Name → ℕ) (j : ℕ) → j < n → loaded_names a b n t names (msan_name j) ≡ names (msan_name j)
  loaded_kept a b n t names j l =
      let first = with_value names (msan_name n) (number_at cells a ((width_of t + 7) / 8) % 2 ^ width_of t) in
      with_other first (msan_name (n + 1)) (msan_name j) (number_at cells b 4 % 2 ^ 32) (λ z. below j (n + 1) (omega arith) (msan_name_one j (n + 1) z))
      ∙ with_other names (msan_name n) (msan_name j) (number_at cells a ((width_of t + 7) / 8) % 2 ^ width_of t) (λ z. below j n l (msan_name_one j n z))
    where
      below : (j k : ℕ) → j < k → j ≡ k → ⊥
      below j k l e = omega arith

word_arrived : (s : Setting) (h : Here) (sent : Name → ℕ) (cells : ℕ → ℕ) (a b n : ℕ) (word : Ty × Operand × Operand) (names : Name → ℕ)
    → Held s sent cells a b word → HasArrived s sent (loaded_names s h cells a b n word.0 names) n word
word_arrived s h sent cells a b n word names held = record {
  mask = loaded_mask s h cells a b n word.0 names ∙ held.mask;
  origin = loaded_origin s h cells a b n word.0 names ∙ held.origin;
}

-- ---- arguments

-- the slots from number k on hold words
abbrev AllHeld : Setting → (Name → ℕ) → (ℕ → ℕ) → ℕ → List (Ty × Operand × Operand) → Type 0
AllHeld s sent cells k [] = Unit {0}
AllHeld s sent cells k (word ∷ words) = Held s sent cells (mask_slot k) (origin_slot k) word × AllHeld s sent cells (suc k) words

-- slots of smaller numbers hold what they held
record Smaller (k : ℕ) (new old : ℕ → ℕ) : Type 0 where
  pub masks : (j n : ℕ) → j < k → n ≤ 8 → number_at new (mask_slot j) n ≡ number_at old (mask_slot j) n
  pub origins : (j : ℕ) → j < k → number_at new (origin_slot j) 4 ≡ number_at old (origin_slot j) 4

-- what storing arguments comes to, from number k on
record Stored (s : Setting) (h : Here) (sent : Name → ℕ) (n k : ℕ) (words : List (Ty × Operand × Operand)) (cells : ℕ → ℕ) : Type 0 where
  pub after : ℕ → ℕ
  pub runs : Stores s h (store_arguments k words) n sent cells after
  pub held : AllHeld s sent after k words
  pub kept : Smaller k after cells

all_stored : (s : Setting) → SlotAddresses s → (h : Here) (sent : Name → ℕ) (n k : ℕ) (words : List (Ty × Operand × Operand)) → AreWords words → k + length words ≤ 100 → (cells : ℕ → ℕ)
    → Stored s h sent n k words cells
all_stored s at h sent n k [] are l cells = record { after = cells; runs = λ w. refl; held = tt; kept = record { masks = λ j m a b. refl; origins = λ j a. refl } }
all_stored s at h sent n k (word ∷ words) are l cells =
    let size = (width_of word.0 + 7) / 8 in
    let small : size ≤ 8 = size_small (width_of word.0) are.0 in
    let a = mask_slot k in
    let b = origin_slot k in
    let x = operand_word s sent (width_of word.0) word.1 in
    let y = operand_word s sent 32 word.2 in
    let first = with_range cells a size (byte_of x) in
    let both = stored_cells s h sent a b word cells in
    let r = all_stored s at h sent n (suc k) words are.1 (omega arith) both in
    let here = word_held s h sent a b word cells (omega arith) in
    record {
      after = r.after;
      runs = λ w.
          word_stored s h sent (param_mask k) (param_origin k) a b (param_mask_at s at sent k (omega arith)) (param_origin_at s at sent k (omega arith)) word
          (mask_inside k size (omega arith) small) (origin_inside k 4 (omega arith) (omega arith)) (store_arguments (suc k) words) n cells w
          ∙ r.runs w;
      held = (
        record {
          mask = ap (λ i. i % 2 ^ width_of word.0) (r.kept.masks k size (omega arith) small) ∙ here.mask;
          origin = ap (λ i. i % 2 ^ 32) (r.kept.origins k (omega arith)) ∙ here.origin;
        },
        r.held,
      );
      kept = record {
        masks = λ j m lj lm.
            r.kept.masks j m (omega arith) lm
            ∙ load_elsewhere first b 4 (byte_of y) (mask_slot j) m (omega arith)
            ∙ load_elsewhere cells a size (byte_of x) (mask_slot j) m (omega arith);
        origins = λ j lj.
            r.kept.origins j (omega arith)
            ∙ load_elsewhere first b 4 (byte_of y) (origin_slot j) 4 (omega arith)
            ∙ load_elsewhere_above cells a size (byte_of x) (origin_slot j) 4 (omega arith);
      };
    }

-- what loading parameters comes to, from number k on
record Loaded (s : Setting) (h : Here) (cells : ℕ → ℕ) (sent : Name → ℕ) (m next k : ℕ) (words : List (Ty × Operand × Operand)) (names : Name → ℕ) : Type 0 where
  pub after : Name → ℕ
  pub runs : Loads s h (load_parameters next k (map (λ a. a.0) words)) m cells names after
  pub arrived : (j : ℕ) (word : Ty × Operand × Operand) → slice_get words j ≡ Some word → HasArrived s sent after (next + 2 * (k + j)) word
  pub kept : (j : ℕ) → j < next + 2 * k → after (msan_name j) ≡ names (msan_name j)

all_loaded : (s : Setting) → SlotAddresses s → (h : Here) (cells : ℕ → ℕ) (sent : Name → ℕ) (m next k : ℕ) (words : List (Ty × Operand × Operand)) → AreWords words → k + length words ≤ 100
    → AllHeld s sent cells k words → (names : Name → ℕ) → Loaded s h cells sent m next k words names
all_loaded s at h cells sent m next k [] are l held names = record {
  after = names;
  runs = λ w. refl;
  arrived = λ j word e. absurd (none j word e);
  kept = λ j lj. refl;
}
  where
    none : (j : ℕ) (word : Ty × Operand × Operand) → slice_get [] j ≡ Some word → ⊥
    none zero word e = grind arith
    none (suc j) word e = grind arith
all_loaded s at h cells sent m next k (first ∷ words) are l held names =
    let n = next + 2 * k in
    let size = (width_of first.0 + 7) / 8 in
    let a = mask_slot k in
    let b = origin_slot k in
    let names1 = loaded_names s h cells a b n first.0 names in
    let r = all_loaded s at h cells sent m next (suc k) words are.1 (omega arith) held.1 names1 in
    let here = word_arrived s h sent cells a b n first names held.0 in
    record {
      after = r.after;
      runs = λ w.
          word_loaded s h cells (param_mask k) (param_origin k) a b (λ f. param_mask_at s at f k (omega arith)) (λ f. param_origin_at s at f k (omega arith)) n first.0
          (mask_inside k size (omega arith) (size_small (width_of first.0) are.0)) (origin_inside k 4 (omega arith) (omega arith)) (load_parameters next (suc k) (map (λ a. a.0) words)) m names w
          ∙ r.runs w;
      arrived = λ j word e.
          by_place r.after j word e
          (record { mask = r.kept n (omega arith) ∙ here.mask; origin = r.kept (n + 1) (omega arith) ∙ here.origin })
          r.arrived;
      kept = λ j lj. r.kept j (omega arith) ∙ loaded_kept s h cells a b n first.0 names j lj;
    }
  where
    by_place : (after : Name → ℕ) (j : ℕ) (word : Ty × Operand × Operand) → slice_get (first ∷ words) j ≡ Some word → HasArrived s sent after (next + 2 * k) first
        → ((i : ℕ) (word : Ty × Operand × Operand) → slice_get words i ≡ Some word → HasArrived s sent after (next + 2 * (suc k + i)) word)
        → HasArrived s sent after (next + 2 * (k + j)) word
    by_place after zero word e here rest =
        let same : first ≡ word = cc in
        let number : next + 2 * k ≡ next + 2 * (k + zero) = omega arith in
        subst (λ i. HasArrived s sent after i word) number (subst (HasArrived s sent after (next + 2 * k)) same here)
    by_place after (suc j) word e here rest =
        let number : next + 2 * (suc k + j) ≡ next + 2 * (k + suc j) = omega arith in
        subst (λ i. HasArrived s sent after i word) number (rest j word e)

pub arguments_arrive : (s : Setting) → SlotAddresses s → (caller callee : Here) (args : List (Ty × Operand × Operand)) → AreWords args → length args ≤ 100
    → (n m next : ℕ) (sent inner : Name → ℕ) (cells : ℕ → ℕ) → ArgumentsArrive s caller callee args n m next sent inner cells
arguments_arrive s at caller callee args are few n m next sent inner cells =
    let a = all_stored s at caller sent n 0 args are (omega (arith, few)) cells in
    let b = all_loaded s at callee a.after sent m next 0 args are (omega (arith, few)) a.held inner in
    record {
      stored = a.after;
      got = b.after;
      stores = a.runs;
      loads = b.runs;
      arrived = λ k word e. subst (λ i. HasArrived s sent b.after (next + 2 * i) word) (plus k) (b.arrived k word e);
    }
  where
    plus : (k : ℕ) → 0 + k ≡ k
    plus k = omega arith

-- ---- a result

pub result_arrives : (s : Setting) → SlotAddresses s → (callee caller : Here) (word : Ty × Operand × Operand) → width_of word.0 ≤ 64
    → (n m next : ℕ) (sent outer : Name → ℕ) (cells : ℕ → ℕ) → ResultArrives s callee caller word n m next sent outer cells
result_arrives s at callee caller word small n m next sent outer cells =
    let a : ℕ = 0x680000002000 in
    let b : ℕ = 0x680000003000 in
    let size = (width_of word.0 + 7) / 8 in
    let few : size ≤ 8 = size_small (width_of word.0) small in
    let stored = stored_cells s callee sent a b word cells in
    record {
      stored = stored;
      got = loaded_names s caller stored a b next word.0 outer;
      stores = λ w. word_stored s callee sent result_mask_slot result_origin_slot a b (result_mask_at s at sent) (result_origin_at s at sent) word (result_inside size few) answer_inside [] n cells w;
      loads = λ w. word_loaded s caller stored result_mask_slot result_origin_slot a b (result_mask_at s at) (result_origin_at s at) next word.0 (result_inside size few) answer_inside [] m outer w;
      arrived = word_arrived s caller sent stored a b next word outer (word_held s callee sent a b word cells (omega arith));
    }
