-- The law of what is inserted after an instruction.
use Rattle.std.proofs.Common.{◌≡◌, ◌≢◌, ℕ, zero, suc, ◌+◌, ◌*◌, ◌%◌, ◌^◌, ◌<◌, ◌≤◌, List, [], ◌∷◌, refl, sym, ap, ◌∙◌, subst, arith, Bool, true, false, Option, Some, None}
use Rattle.std.specs.Prelude.{if◌then◌else◌, map, get_or, is_some, unwrap_or}
use Rattle.ms_bits.specs.declared.traps.Trap.TheVariants as trap
use Rattle.ms_bits.specs.Maps.{byte_of}
use Rattle.ms_ir.specs.declared.syntax.Name.{Name}
use Rattle.ms_ir.specs.declared.syntax.Ty.{Ty, Int, Ptr}
use Rattle.ms_ir.specs.declared.syntax.Operand.{Operand}
use Rattle.ms_ir.specs.declared.syntax.Operand.TheVariants as operand
use Rattle.ms_ir.specs.declared.syntax.Op.{Op}
use Rattle.ms_ir.specs.declared.syntax.Op.TheVariants as op
use Rattle.ms_ir.specs.declared.syntax.Inst.{Inst}
use Rattle.ms_runs.specs.declared.runs.End.{End}
use Rattle.ms_ir.specs.Layout.{width_of, stored_size, size_in}
use Rattle.ms_ir.specs.Areas.{Area}
use Rattle.ms_runs.specs.World.{World, Setting, Here, Effect, Gives, Does, Enters, Ends, traps, stuck, result}
use Rattle.ms_runs.specs.Memory.{is_good, set_shadow, fits, next_base, local_area, make_unset, store_number}
use Rattle.ms_ir.specs.Instructions.{operands, count_undefs, is_root, makes_unset, external_named}
use Rattle.ms_runs.specs.Act.{operand_word, alloca, store}
use Rattle.ms_ir.specs.Names.{is_reserved, name_eq, lookup, externals}
use Rattle.ms_runs.specs.Origins.{poison}
use Rattle.std.proofs.Math.Nat.{mod-eq_of_lt, mul-suc}
use Rattle.ms_runs.specs.Poisoned.{Poisoned}
use Rattle.ms_runs.specs.Masks.{by_formulas, word_at}
use Rattle.ms_runs.specs.Shadow.{read_poisoned, external_planes, callee_planes, planes, poisoned_result}
use Rattle.ms_ir.specs.declared.calls.External.{External}
use Rattle.ms_ir.specs.declared.calls.External.TheVariants.{Malloc, Realloc, Read, PthreadCreate, PthreadJoin}
use Rattle.ms_runs.specs.declared.runs.RunResult.{RunResult}
use Rattle.ms_runs.specs.Control.{read_all, with_value}
use Rattle.ms_runs.specs.Externals.{external}
use Rattle.std.proofs.Math.Path.{ap₂}
use Rattle.ms_pass_tasks.specs.Known.{AllApart, FewNumbers, FitsCallee, HasResult, Apart, KnownOperand, KnownResult}
use Rattle.ms_pass_tasks.proofs.Externals.{external_goes, IsSmall, answers_less, block_less, planes_alike, external_done, holds_after, width_at, value_less}
use Rattle.ms_pass_tasks.specs.Tasks.{msan_name, Leaf, Two, Mul, tasks_code}
use Rattle.ms_pass_tasks.specs.Meaning.{evaluate, Values, Went, Reaches, run_marked, do_tasks, set_result}
use Rattle.ms_pass_tasks.specs.Environments.{Env, number, widened, tracked, tracked_at}
use Rattle.ms_pass_tasks.specs.Emit.{after_tasks}
use Rattle.ms_pass_tasks.specs.PlaneTasks.{saves, callee_tasks}
use Rattle.ms_pass_tasks.specs.Match.{Matches, RangedWorld, RangedValues, SavedSize, Saved}
use Rattle.ms_pass_tasks.specs.InstructionLaw.{Stands, given_of, words_at, acted_at, after_result, AfterLaw, GoesOn}
use Rattle.ms_pass_tasks.proofs.InsertedNames.{own_not_msan, mask_below, origin_below, with_here, with_other}
use Rattle.ms_pass_tasks.proofs.Flatten.{same_refl, went_inv, tasks_run}
use Rattle.ms_pass_tasks.proofs.TaskNames.{after_low}
use Rattle.ms_pass_tasks.proofs.OriginRanges.{words_ranged, answer_ranged}
use Rattle.ms_pass_tasks.proofs.OperandWords.{ap₃, word_less, mod_once, Holds, tracked_holds}
use Rattle.ms_pass_tasks.proofs.CheckTasks.{widened_word, whole}
use Rattle.ms_pass_tasks.proofs.MatchedNames.{Numbers, matches_same}
use Rattle.ms_pass_tasks.proofs.DefineResults.{store_gives}
use Rattle.ms_pass_tasks.proofs.PlaneTasks.{origin_alike, poison_alike, store_tasks, store_done, fits_small}

-- masks and origins stand below the number of the first temporary
pub numbers_low : (env : Env) (size base : ℕ) → FewNumbers env size → 2 * size + 1 ≤ base → Numbers env base
numbers_low env size base few le = record {
  masks = λ x v e. mask_below size base v le (few x v e);
  origins = λ x v e. origin_below size base v le (few x v e);
}

-- the number of roots of an instruction and before it
pub roots_small : (s : Setting) (env : Env) (size base : ℕ) (h : Here) (i : Inst) → Stands s env size base h i
    → h.root + (count_undefs (operands i.op) + (if is_root s.func i.op then 1 else 0)) < 2 ^ 32
roots_small s env size base h i st =
    subst (λ b. h.root + (if b then 0 else (count_undefs (operands i.op) + (if is_root s.func i.op then 1 else 0))) < 2 ^ 32) st.known.unmarked st.ranged.root

pub few_undefs : (s : Setting) (env : Env) (size base : ℕ) (h : Here) (i : Inst) → Stands s env size base h i → h.root + count_undefs (operands i.op) < 2 ^ 32
few_undefs s env size base h i st = omega (arith, roots_small s env size base h i st)

-- what an 'alloca' that gives an address, and a 'store' that is done, tell
alloca_made : (s : Setting) (site n x : ℕ) (w u : World) → alloca s site n w ≡ Gives x u → (fits (local_area w) n w ≡ true) × (next_base (local_area w) w ≡ x)
alloca_made s site n x w u e = by_fits (local_area w) (fits (local_area w) n w) refl e
  where
    value_of : Effect → ℕ
    value_of (Gives k z) = k
    value_of _ = 0

    by_fits : (area : Area) (b : Bool) → fits area n w ≡ b → (if b then Gives (next_base area w) (make_unset s.fill area n w) else traps trap.Stack site w) ≡ Gives x u
        → (fits area n w ≡ true) × (next_base area w ≡ x)
    by_fits area true f g = (f, grind arith)
    by_fits area false f g = absurd (grind arith)

store_made : (site a : ℕ) (t : Ty) (n : ℕ) (w u : World) → store site a t n w ≡ Does u → (is_good w a (stored_size t) ≡ true) × (store_number a (stored_size t) n w ≡ u)
store_made site a t n w u e = by_good (is_good w a (stored_size t)) refl e
  where
    by_good : (b : Bool) → is_good w a (stored_size t) ≡ b → (if b then Does (store_number a (stored_size t) n w) else traps trap.BadAddress site w) ≡ Does u
        → (is_good w a (stored_size t) ≡ true) × (store_number a (stored_size t) n w ≡ u)
    by_good true f g = (f, grind arith)
    by_good false f g = absurd (grind arith)

alloca_does : (s : Setting) (site n : ℕ) (w u : World) → alloca s site n w ≡ Does u → ⊥
alloca_does s site n w u e = by_fits (local_area w) (fits (local_area w) n w) e
  where
    by_fits : (area : Area) (b : Bool) → (if b then Gives (next_base area w) (make_unset s.fill area n w) else traps trap.Stack site w) ≡ Does u → ⊥
    by_fits area true e = grind arith
    by_fits area false e = grind arith

module _ (s : Setting) (env : Env) (size saved next : ℕ) (h : Here) (values : Name → Poisoned) where
  -- a product of numbers that is small
  product : (names : Name → ℕ) (n w : ℕ) (c : Operand) (k : ℕ) → w ≤ 64 → operand_word s names w c ≡ k → n * k < 2 ^ 64
      → evaluate s names (Two Mul (Int 64) (number n) (widened w (Leaf c))) (Int 64) ≡ n * k
  product names n w c k le e small =
      ap (λ j. (n % 2 ^ 64 * j) % 2 ^ 64 % 2 ^ 64) (widened_word s names w c ∙ whole w _ le (word_less s names w c) ∙ e)
      ∙ mod_once 64 (n % 2 ^ 64 * k) ∙ cut k small
    where
      cut : (k : ℕ) → n * k < 2 ^ 64 → (n % 2 ^ 64 * k) % 2 ^ 64 ≡ n * k
      cut zero l = let z : n % 2 ^ 64 * 0 ≡ n * 0 = omega arith in ap (λ j. j % 2 ^ 64) z ∙ mod-eq_of_lt l
      cut (suc k) l =
          let f : n ≤ n * suc k = omega (arith, mul-suc n k) in
          let less : n < 2 ^ 64 = omega (arith, f) in ap (λ j. (j * suc k) % 2 ^ 64) (mod-eq_of_lt less) ∙ mod-eq_of_lt l

  after_runs : (i : Inst) → Stands s env size saved h i → saved + saves s.func i.op ≤ next → (at : Here) (cells cells2 : ℕ → ℕ) (names : Name → ℕ) (w z : World)
      → do_tasks s at (after_tasks (given_of s) env h i saved) (record { names = names; slots = cells }) w ≡ Went (record { names = names; slots = cells2 }) z
      → (after : Name → Poisoned) → Matches env after names
      → (u : Values) × (run_marked s at (tasks_code (after_tasks (given_of s) env h i saved) next).code (record { names = names; slots = cells }) w ≡ Went u z) × Matches env after u.names
  after_runs i st le at cells cells2 names w z f after m =
      let v : Values = record { names = names; slots = cells } in
      let code = (tasks_code (after_tasks (given_of s) env h i saved) next).code in
      let t = tasks_run s at next (after_tasks (given_of s) env h i saved) (after_low s env size saved next h i st le) next (omega arith) v v w (same_refl next v) in
      let r = went_inv next (record { names = names; slots = cells2 }) z (run_marked s at code v w)
      (subst (λ q. Reaches next q (run_marked s at code v w)) f t) in
      (r.0, r.1, matches_same env next (numbers_low env size next st.few (omega (arith, st.room))) after (record { names = names; slots = cells2 }) r.0 m r.2)

  -- nothing is inserted
  nothing : (i : Inst) → Stands s env size saved h i → saved + saves s.func i.op ≤ next → (after : Name → Poisoned) (before : World) (x : ℕ) (names : Name → ℕ) (w : World)
      → after_tasks (given_of s) env h i saved ≡ [] → planes s h.site (h.root + count_undefs (operands i.op) + 1) i.op (words_at s values h i) before x w ≡ w
      → Matches env after names → AfterLaw s env saved next h i values after before x names w
  nothing i st le after before x names w e p m = record {
    runs = λ at cells.
        after_runs i st le at cells cells names w _
        (ap (λ l. do_tasks s at l (record { names = names; slots = cells }) w) e ∙ ap (λ z. Went (record { names = names; slots = cells }) z) (sym p)) after m;
    quiet = λ f. ap (result f) (sym p);
  }

  -- the bytes that an 'alloca' made are poisoned
  made_poisoned : (b : Bool) (y : Name) (t u : Ty) (c : Operand) (before : World) (x : ℕ) (w : World) (names : Name → ℕ) (after : Name → Poisoned)
      → Stands s env size saved h (record { op = op.Alloca t u c; result = Some y; marked = b }) → saved + 0 ≤ next → Apart y c → acted_at s values h (record { op = op.Alloca t u c; result = Some y; marked = b }) before ≡ Gives x w
      → Matches env after (set_result names (Some y) x) → ((z : Name) → is_reserved z ≡ false → z ≢ y → names z ≡ (values z).value)
      → AfterLaw s env saved next h (record { op = op.Alloca t u c; result = Some y; marked = b }) values after before x (set_result names (Some y) x) w
  made_poisoned b y t u c before x w names after st le apart e m own =
      let i : Inst = record { op = op.Alloca t u c; result = Some y; marked = b } in
      let count = operand_word s (λ z. (values z).value) (width_of u) c in
      let names1 = set_result names (Some y) x in
      let root = h.root + count_undefs ((u, c) ∷ []) + 1 in
      let made = alloca_made s h.site (size_in s.types t * count) x before w e in
      let small = fits_small (local_area before) (size_in s.types t * count) before made.0 in
      let address : x < 2 ^ 64 = subst (λ z. z < 2 ^ 64) made.1 small.1 in
      let roots : root < 2 ^ 32 = omega (arith, roots_small s env size saved h i st) in
      let word : operand_word s names1 (width_of u) c ≡ count = count_kept c apart st.known.reads.1 in
      let bytes : evaluate s names1 (Two Mul (Int 64) (number (size_in s.types t)) (widened (width_of u) (Leaf c))) (Int 64) ≡ size_in s.types t * count =
      product names1 (size_in s.types t) (width_of u) c count st.known.reads.0 word (omega (arith, small.0)) in
      record {
        runs = λ at cells.
            after_runs i st le at cells cells names1 w _
            (ap (λ z. Went (record { names = names1; slots = cells }) z)
            (ap₃ (λ i j k. poison i 0 j k w) (ap (λ i. i % 2 ^ 64) (with_here names y x) ∙ mod-eq_of_lt address) bytes (mod-eq_of_lt roots))) after m;
        quiet = poison_alike x 0 (size_in s.types t * count) root w;
      }
    where
      count_kept : (c : Operand) → Apart y c → KnownOperand env size c → operand_word s (set_result names (Some y) x) (width_of u) c ≡ operand_word s (λ z. (values z).value) (width_of u) c
      count_kept (operand.Local z) apart k = ap (λ n. n % 2 ^ width_of u) (with_other names y z x apart ∙ own z k.own apart)
      count_kept _ apart k = refl

  -- after a call of an external
  set_after : (b : Bool) (r : Option Name) (ret : Option Ty) (callee : Name) (args : List (Ty × Operand)) (e : External) (before : World) (x : ℕ) (w : World) (names : Name → ℕ) (after : Name → Poisoned)
      → Stands s env size saved h (record { op = op.Call ret callee args; result = r; marked = b }) → saved + saves s.func (op.Call ret callee args) ≤ next → RangedWorld before
      → is_some (s.func callee) ≡ false → external_named s.func callee ≡ Some e
      → ((k : ℕ) → Holds s names (tracked_at k (tracked env h.root args)) (word_at k (read_all (read_poisoned s values) args h.root)))
      → ((y : Name) → r ≡ Some y → names y ≡ x) → IsSmall e x → SavedSize (Some e) saved (read_all (read_poisoned s values) args h.root) before names
      → Matches env after names
      → AfterLaw s env saved next h (record { op = op.Call ret callee args; result = r; marked = b }) values after before x names w
  set_after b r ret callee args e before x w names after st le rn no_own named holds answered small size_saved m =
      let i : Inst = record { op = op.Call ret callee args; result = r; marked = b } in
      let root = h.root + count_undefs args + 1 in
      let ps = read_all (read_poisoned s values) args h.root in
      let fits : FitsCallee (Some e) r args = subst (λ o. FitsCallee o r args) named st.known.built.0 in
      let planes_are : planes s h.site root (op.Call ret callee args) ps before x w ≡ external_planes s h.site root e ps before x w =
      ap (λ o. callee_planes s h.site root o ps before x w) named in
      record {
        runs = λ at cells.
            after_runs i st le at cells cells names w _
            (ap (λ l. do_tasks s at l (record { names = names; slots = cells }) w) (call_tasks r)
            ∙ ap₂ (λ k o. do_tasks s at (callee_tasks env h.site root saved r ret k o (tracked env h.root args)) (record { names = names; slots = cells }) w) no_own named
            ∙ external_done s at h.site root saved st.ranged.site x names cells (tracked env h.root args) ps holds r e
            (λ u. roots u (roots_small s env size saved h i st)) (map (λ a. a.0) args) (λ k. width_at env h.root args k ∙ ap (λ l. get_or l k 64) fits.0) fits.1 answered small before w size_saved
            (block_less before.allocs (word_at 0 ps).value rn.placed)
            ∙ ap (λ z. Went (record { names = names; slots = cells }) z) (sym planes_are)) after m;
        quiet = λ f. planes_alike s h.site root e ps before x w f ∙ ap (result_of f) (sym planes_are);
      }
    where
      call_tasks : (r : Option Name) → after_tasks (given_of s) env h (record { op = op.Call ret callee args; result = r; marked = b }) saved
          ≡ callee_tasks env h.site (h.root + count_undefs args + 1) saved r ret (is_some (s.func callee)) (external_named s.func callee) (tracked env h.root args)
      call_tasks None = refl
      call_tasks (Some y) = refl

      result_of : End → World → RunResult
      result_of f z = result f z

      roots : makes_unset (Some e) ≡ true → h.root + (count_undefs args + (if makes_unset (external_named s.func callee) then 1 else 0)) < 2 ^ 32 → h.root + count_undefs args + 1 < 2 ^ 32
      roots u l =
          let one : ◌≡◌ {A = ℕ} (if makes_unset (external_named s.func callee) then 1 else 0) 1 = ap (λ o. if makes_unset o then 1 else 0) named ∙ ap (λ k. if k then 1 else 0) u in
          omega (arith, l, one)

  called_gives : (b : Bool) (r : Option Name) (ret : Option Ty) (callee : Name) (args : List (Ty × Operand)) (before : World) (x : ℕ) (w : World) (names : Name → ℕ) (after : Name → Poisoned)
      → Stands s env size saved h (record { op = op.Call ret callee args; result = r; marked = b }) → saved + saves s.func (op.Call ret callee args) ≤ next → RangedWorld before → RangedValues values
      → after ≡ after_result values r (poisoned_result by_formulas (op.Call ret callee args) (words_at s values h (record { op = op.Call ret callee args; result = r; marked = b })) x w)
      → AllApart r args → Saved s.func saved (op.Call ret callee args) (words_at s values h (record { op = op.Call ret callee args; result = r; marked = b })) before names
      → acted_at s values h (record { op = op.Call ret callee args; result = r; marked = b }) before ≡ Gives x w
      → Matches env after (set_result names r x)
      → (o : Option ℕ) → s.func callee ≡ o → (e : Option External) → external_named s.func callee ≡ e
      → AfterLaw s env saved next h (record { op = op.Call ret callee args; result = r; marked = b }) values after before x (set_result names r x) w
  called_gives b r ret callee args before x w names after st le rn rv same apart size_saved acts m (Some f) no_own e named =
      absurd (enters_gives (sym (ap₂ (λ o e. elim o [ Some f ↦ Enters f before | None ↦ elim e [ Some y ↦ external s h.site y (map (λ a. a.0) args) (map (λ p. p.value) (read_all (read_poisoned s values) args h.root)) before | None ↦ Ends stuck before ] ]) no_own named) ∙ acts))
    where
      enters_gives : Enters f before ≡ Gives x w → ⊥
      enters_gives q = grind arith
  called_gives b r ret callee args before x w names after st le rn rv same apart size_saved acts m None no_own None named =
      absurd (ends_gives (sym (ap₂ (λ o e. elim o [ Some f ↦ Enters f before | None ↦ elim e [ Some y ↦ external s h.site y (map (λ a. a.0) args) (map (λ p. p.value) (read_all (read_poisoned s values) args h.root)) before | None ↦ Ends stuck before ] ]) no_own named) ∙ acts))
    where
      ends_gives : Ends stuck before ≡ Gives x w → ⊥
      ends_gives q = grind arith
  called_gives b r ret callee args before x w names after st le rn rv same apart size_saved acts m None no_own (Some e) named =
      let ps = read_all (read_poisoned s values) args h.root in
      let does : external s h.site e (map (λ a. a.0) args) (map (λ p. p.value) ps) before ≡ Gives x w =
      sym (ap₂ (λ o e. elim o [ Some f ↦ Enters f before | None ↦ elim e [ Some y ↦ external s h.site y (map (λ a. a.0) args) (map (λ p. p.value) ps) before | None ↦ Ends stuck before ] ]) no_own named) ∙ acts in
      let p = poisoned_result by_formulas (op.Call ret callee args) ps x w in
      set_after b r ret callee args e before x w (set_result names r x) after st le rn (ap is_some no_own) named
      (holds_after s env size values r p (set_result names r x) (subst (λ f. Matches env f (set_result names r x)) same m) (ranged_result r rv)
      args h.root apart st.known.reads (few_undefs s env size saved h (record { op = op.Call ret callee args; result = r; marked = b }) st))
      (λ y q. here r y q) (answers_less s h.site e (map (λ a. a.0) args) (map (λ p. p.value) ps) before (value_less s env size values args h.root st.known.reads 2) x w does)
      (saved_kept r st.known.named e (subst (λ o. SavedSize o saved ps before names) named size_saved)) m
    where
      here : (r : Option Name) (y : Name) → r ≡ Some y → set_result names r x y ≡ x
      here None y q = absurd (grind arith)
      here (Some z) y q = ap (λ n. with_value names n x y) (some_name z y q) ∙ with_here names y x
        where
          some_name : (z y : Name) → Some z ≡ Some y → z ≡ y
          some_name z y q = ap (λ o. unwrap_or o z) q

      ranged_result : (r : Option Name) → RangedValues values → RangedValues (after_result values r (poisoned_result by_formulas (op.Call ret callee args) (read_all (read_poisoned s values) args h.root) x w))
      ranged_result None rv y = rv y
      ranged_result (Some z) rv y = by_name (name_eq y z)
        where
          by_name : (c : Bool) → (if c then poisoned_result by_formulas (op.Call ret callee args) (read_all (read_poisoned s values) args h.root) x w else values y).origin < 2 ^ 32
          by_name true =
              answer_ranged (lookup externals callee) (read_all (read_poisoned s values) args h.root)
              (words_ranged s values args h.root rv (few_undefs s env size saved h (record { op = op.Call ret callee args; result = r; marked = b }) st))
          by_name false = rv y

      saved_kept : (r : Option Name) → KnownResult env size r → (e : External) → SavedSize (Some e) saved (read_all (read_poisoned s values) args h.root) before names
          → SavedSize (Some e) saved (read_all (read_poisoned s values) args h.root) before (set_result names r x)
      saved_kept None k e q = q
      saved_kept (Some z) k Realloc q = with_other names z (msan_name saved) x (λ g. own_not_msan z saved k.own (sym g)) ∙ q
      saved_kept (Some z) k _ q = q

  gives_at : (b : Bool) (r : Option Name) (o : Op) (before : World) (x : ℕ) (w : World) (names : Name → ℕ) (after : Name → Poisoned)
      → Stands s env size saved h (record { op = o; result = r; marked = b }) → saved + saves s.func o ≤ next → RangedWorld before → RangedValues values
      → after ≡ after_result values r (poisoned_result by_formulas o (words_at s values h (record { op = o; result = r; marked = b })) x w)
      → AllApart r (operands o) → Saved s.func saved o (words_at s values h (record { op = o; result = r; marked = b })) before names
      → acted_at s values h (record { op = o; result = r; marked = b }) before ≡ Gives x w
      → Matches env after (set_result names r x) → ((y : Name) → is_reserved y ≡ false → r ≢ Some y → names y ≡ (values y).value)
      → AfterLaw s env saved next h (record { op = o; result = r; marked = b }) values after before x (set_result names r x) w
  gives_at b r (op.Store t n a) before x w names after st le rn rv same apart size_saved e m own = absurd (store_gives h.site _ t _ x before w e)
  gives_at b (Some y) (op.Alloca t u c) before x w names after st le rn rv same apart size_saved e m own =
      made_poisoned b y t u c before x w names after st le apart.0 e m (λ z oz ne. own z oz (λ q. ne (some_name z q)))
    where
      some_name : (z : Name) → Some y ≡ Some z → z ≡ y
      some_name z q = sym (ap (λ o. unwrap_or o y) q)
  gives_at b None (op.Alloca t u c) before x w names after st le rn rv same apart size_saved e m own = absurd st.known.built
  gives_at b r (op.Call ret callee args) before x w names after st le rn rv same apart size_saved e m own =
      called_gives b r ret callee args before x w names after st le rn rv same apart size_saved e m (s.func callee) refl (external_named s.func callee) refl
  gives_at b r (op.Phi t es) before x w names after st le rn rv same apart size_saved e m own = absurd st.known.built
  gives_at b (Some y) o before x w names after st le rn rv same apart size_saved e m own = nothing _ st le after before x _ w refl refl m
  gives_at b None o before x w names after st le rn rv same apart size_saved e m own = nothing _ st le after before x _ w refl refl m

  -- the shadow and the origin of what was stored are set
  stored : (b : Bool) (r : Option Name) (t : Ty) (n a : Operand) (before w : World) (names : Name → ℕ)
      → Stands s env size saved h (record { op = op.Store t n a; result = r; marked = b }) → saved + 0 ≤ next → RangedWorld before → RangedValues values
      → acted_at s values h (record { op = op.Store t n a; result = r; marked = b }) before ≡ Does w → Matches env values names
      → after_tasks (given_of s) env h (record { op = op.Store t n a; result = r; marked = b }) saved
      ≡ store_tasks t (tracked_at 0 (tracked env h.root ((t, n) ∷ (Ptr, a) ∷ []))) (tracked_at 1 (tracked env h.root ((t, n) ∷ (Ptr, a) ∷ []))) h.site
      → AfterLaw s env saved next h (record { op = op.Store t n a; result = r; marked = b }) values values before 0 names w
  stored b r t n a before w names st le rn rv e m same =
      let i : Inst = record { op = op.Store t n a; result = r; marked = b } in
      let os : List (Ty × Operand) = (t, n) ∷ (Ptr, a) ∷ [] in
      let x = tracked_at 0 (tracked env h.root os) in
      let y = tracked_at 1 (tracked env h.root os) in
      let p = word_at 0 (words_at s values h i) in
      let q = word_at 1 (words_at s values h i) in
      let few = few_undefs s env size saved h i st in
      let hx = tracked_holds s env size values names m rv os h.root st.known.reads few 0 in
      let hy = tracked_holds s env size values names m rv os h.root st.known.reads few 1 in
      let made = store_made h.site q.value t p.value before w e in
      let placed : RangedWorld w = subst RangedWorld made.1 (record { placed = rn.placed; origins = rn.origins; pairs = rn.pairs; answers = rn.answers }) in
      let good : is_good w q.value (stored_size t) ≡ true = subst (λ z. is_good z q.value (stored_size t) ≡ true) made.1 made.0 in
      let writes = set_shadow q.value (stored_size t) (byte_of p.mask) w in
      record {
        runs = λ at cells.
            let done = store_done s names t x y p q st.known.reads.0 hx.mask hx.origin hy.value at h.site st.ranged.site cells w placed good in
            after_runs i st le at cells done.0 names w _ (ap (λ l. do_tasks s at l (record { names = names; slots = cells }) w) same ∙ done.1) values m;
        quiet = origin_alike s q.value p.mask p.origin h.site writes;
      }

  called_does : (b : Bool) (r : Option Name) (ret : Option Ty) (callee : Name) (args : List (Ty × Operand)) (before w : World) (names : Name → ℕ)
      → Stands s env size saved h (record { op = op.Call ret callee args; result = r; marked = b }) → saved + saves s.func (op.Call ret callee args) ≤ next → RangedWorld before → RangedValues values
      → Saved s.func saved (op.Call ret callee args) (words_at s values h (record { op = op.Call ret callee args; result = r; marked = b })) before names
      → acted_at s values h (record { op = op.Call ret callee args; result = r; marked = b }) before ≡ Does w → Matches env values names
      → (o : Option ℕ) → s.func callee ≡ o → (e : Option External) → external_named s.func callee ≡ e
      → AfterLaw s env saved next h (record { op = op.Call ret callee args; result = r; marked = b }) values values before 0 names w
  called_does b r ret callee args before w names st le rn rv size_saved acts m (Some f) no_own e named =
      absurd (enters_does (sym (ap₂ (λ o e. elim o [ Some f ↦ Enters f before | None ↦ elim e [ Some y ↦ external s h.site y (map (λ a. a.0) args) (map (λ p. p.value) (read_all (read_poisoned s values) args h.root)) before | None ↦ Ends stuck before ] ]) no_own named) ∙ acts))
    where
      enters_does : Enters f before ≡ Does w → ⊥
      enters_does q = grind arith
  called_does b r ret callee args before w names st le rn rv size_saved acts m None no_own None named =
      absurd (ends_does (sym (ap₂ (λ o e. elim o [ Some f ↦ Enters f before | None ↦ elim e [ Some y ↦ external s h.site y (map (λ a. a.0) args) (map (λ p. p.value) (read_all (read_poisoned s values) args h.root)) before | None ↦ Ends stuck before ] ]) no_own named) ∙ acts))
    where
      ends_does : Ends stuck before ≡ Does w → ⊥
      ends_does q = grind arith
  called_does b r ret callee args before w names st le rn rv size_saved acts m None no_own (Some e) named =
      let ps = read_all (read_poisoned s values) args h.root in
      let does : external s h.site e (map (λ a. a.0) args) (map (λ p. p.value) ps) before ≡ Does w =
      sym (ap₂ (λ o e. elim o [ Some f ↦ Enters f before | None ↦ elim e [ Some y ↦ external s h.site y (map (λ a. a.0) args) (map (λ p. p.value) ps) before | None ↦ Ends stuck before ] ]) no_own named) ∙ acts in
      set_after b r ret callee args e before 0 w names values st le rn (ap is_some no_own) named
      (tracked_holds s env size values names m rv args h.root st.known.reads (few_undefs s env size saved h (record { op = op.Call ret callee args; result = r; marked = b }) st))
      (λ y q. absurd (none_of r (subst (λ o. FitsCallee o r args) named st.known.built.0).1 does y q)) (zero_small e) (subst (λ o. SavedSize o saved ps before names) named size_saved) m
    where
      none_of : (r : Option Name) → HasResult e r → external s h.site e (map (λ a. a.0) args) (map (λ p. p.value) (read_all (read_poisoned s values) args h.root)) before ≡ Does w → (y : Name) → r ≡ Some y → ⊥
      none_of None k q y g = grind arith
      none_of (Some z) k q y g = external_goes s h.site e (map (λ a. a.0) args) (map (λ p. p.value) (read_all (read_poisoned s values) args h.root)) before k (subst GoesOn (sym q) tt)

      zero_small : (e : External) → IsSmall e 0
      zero_small Malloc = omega arith
      zero_small Realloc = omega arith
      zero_small Read = omega arith
      zero_small PthreadCreate = omega arith
      zero_small PthreadJoin = omega arith
      zero_small _ = tt

  does_at : (b : Bool) (r : Option Name) (o : Op) (before w : World) (names : Name → ℕ)
      → Stands s env size saved h (record { op = o; result = r; marked = b }) → saved + saves s.func o ≤ next → RangedWorld before → RangedValues values
      → Saved s.func saved o (words_at s values h (record { op = o; result = r; marked = b })) before names
      → acted_at s values h (record { op = o; result = r; marked = b }) before ≡ Does w → Matches env values names
      → AfterLaw s env saved next h (record { op = o; result = r; marked = b }) values values before 0 names w
  does_at b None (op.Store t n a) before w names st le rn rv size_saved e m = stored b None t n a before w names st le rn rv e m refl
  does_at b (Some y) (op.Store t n a) before w names st le rn rv size_saved e m = stored b (Some y) t n a before w names st le rn rv e m refl
  does_at b (Some y) (op.Alloca t u c) before w names st le rn rv size_saved e m = absurd (alloca_does s h.site _ before w e)
  does_at b None (op.Alloca t u c) before w names st le rn rv size_saved e m = absurd st.known.built
  does_at b r (op.Call ret callee args) before w names st le rn rv size_saved e m = called_does b r ret callee args before w names st le rn rv size_saved e m (s.func callee) refl (external_named s.func callee) refl
  does_at b r (op.Phi t es) before w names st le rn rv size_saved e m = absurd st.known.built
  does_at b (Some y) o before w names st le rn rv size_saved e m = nothing _ st le values before 0 names w refl refl m
  does_at b None o before w names st le rn rv size_saved e m = nothing _ st le values before 0 names w refl refl m

-- the list after an instruction that gave a value, and after one that gave none
pub after_gives : (s : Setting) (env : Env) (size saved next : ℕ) (h : Here) (i : Inst) (values : Name → Poisoned) (before : World) (x : ℕ) (w : World) (names : Name → ℕ)
    → Stands s env size saved h i → saved + saves s.func i.op ≤ next → RangedWorld before → RangedValues values → AllApart i.result (operands i.op)
    → Saved s.func saved i.op (words_at s values h i) before names → acted_at s values h i before ≡ Gives x w
    → Matches env (after_result values i.result (poisoned_result by_formulas i.op (words_at s values h i) x w)) (set_result names i.result x)
    → ((y : Name) → is_reserved y ≡ false → i.result ≢ Some y → names y ≡ (values y).value)
    → AfterLaw s env saved next h i values (after_result values i.result (poisoned_result by_formulas i.op (words_at s values h i) x w)) before x (set_result names i.result x) w
after_gives s env size saved next h i values before x w names st le rn rv apart size_saved e m own =
    gives_at s env size saved next h values i.marked i.result i.op before x w names _ st le rn rv refl apart size_saved e m own

pub after_does : (s : Setting) (env : Env) (size saved next : ℕ) (h : Here) (i : Inst) (values : Name → Poisoned) (before w : World) (names : Name → ℕ)
    → Stands s env size saved h i → saved + saves s.func i.op ≤ next → RangedWorld before → RangedValues values
    → Saved s.func saved i.op (words_at s values h i) before names → acted_at s values h i before ≡ Does w → Matches env values names
    → AfterLaw s env saved next h i values values before 0 names w
after_does s env size saved next h i values before w names st le rn rv size_saved e m = does_at s env size saved next h values i.marked i.result i.op before w names st le rn rv size_saved e m
