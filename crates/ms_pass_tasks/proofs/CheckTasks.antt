-- Checks: what their tasks come to, also where one is left out.
use Rattle.std.proofs.Common.{◌≡◌, ◌≢◌, ℕ, zero, suc, ◌-◌, ◌/◌, ◌%◌, ◌^◌, ◌<◌, ◌≤◌, List, [], ◌∷◌, ◌++◌, length, refl, sym, ap, ◌∙◌, subst, arith, append_assoc, Bool, true, false, Option, Some, None}
use Rattle.std.specs.Prelude.{if◌then◌else◌, eqb, leb}
use Rattle.std.proofs.Math.Path.{ap₂}
use Rattle.std.proofs.Math.Nat.{mod-eq_of_lt, zero-mod}
use Rattle.std.proofs.Math.Pow.{pow_mono}
use Rattle.std.proofs.lemmas.Bool.{false≢true}
use Rattle.ms_bits.specs.declared.operations.CastOp.TheVariants as cast
use Rattle.ms_bits.specs.Conversions.{cast_of}
use Rattle.ms_ir.specs.declared.syntax.Name.{Name}
use Rattle.ms_ir.specs.declared.syntax.Ty.{Ty, Int}
use Rattle.ms_ir.specs.declared.syntax.Operand.{Operand}
use Rattle.ms_ir.specs.declared.syntax.Operand.TheVariants as operand
use Rattle.ms_runs.specs.declared.runs.Report.{Report}
use Rattle.ms_runs.specs.declared.runs.End.TheVariants as «end»
use Rattle.ms_ir.specs.Layout.{width_of}
use Rattle.ms_runs.specs.World.{World, Setting, Here, Effect, Gives, Does, Goes, Enters, Leaves, Ends, stuck, then_does}
use Rattle.ms_runs.specs.Origins.{check, is_hidden, add_report, trail, check_byte, check_memory, check_string, asks_string_at, check_format, first_in_string}
use Rattle.ms_runs.specs.Act.{operand_word}
use Rattle.ms_runs.specs.Poisoned.{Poisoned}
use Rattle.ms_runs.specs.Masks.{word_at}
use Rattle.ms_runs.specs.Uses.{CheckedUse, Word, Bytes, Line, Asked, type_at, check_use, check_uses}
use Rattle.ms_bits.specs.Maps.{first_nonzero}
use Rattle.ms_runs.specs.Memory.{is_good, bytes_left}
use Rattle.ms_pass_tasks.specs.Tasks.{Leaf, Turn, Task, parts}
use Rattle.ms_pass_tasks.specs.Meaning.{Values, Reach, Over, evaluate, evaluate_all, task_effect, do_tasks, marked_next}
use Rattle.ms_pass_tasks.specs.Environments.{Tracked, tracked_at, is_zero, widened, mask_of}
use Rattle.ms_pass_tasks.specs.CheckTasks.{check_task, memory_task, string_task, format_task, use_tasks, check_tasks}
use Rattle.ms_pass_tasks.proofs.OperandWords.{ap₃, Holds, word_less}

-- ---- a mask as a word of 64 bits

pub widened_word : (s : Setting) (names : Name → ℕ) (w : ℕ) (o : Operand) → evaluate s names (widened w (Leaf o)) (Int 64) ≡ operand_word s names w o % 2 ^ 64
unfolding cast_of
widened_word s names w o = by_width (eqb w 64) refl
  where
    by_width : (b : Bool) → eqb w 64 ≡ b → evaluate s names (if b then Leaf o else Turn cast.Zext (Int w) (Leaf o) (Int 64)) (Int 64) ≡ operand_word s names w o % 2 ^ 64
    by_width true e =
        let same : w ≡ 64 = grind arith in
        subst (λ i. operand_word s names 64 o ≡ operand_word s names i o % 2 ^ 64) (sym same) (sym (mod-eq_of_lt (word_less s names 64 o)))
    by_width false e = refl

-- a word of at most 64 bits is whole as one of 64
pub whole : (w n : ℕ) → w ≤ 64 → n < 2 ^ w → n % 2 ^ 64 ≡ n
whole w n le l = mod-eq_of_lt (omega (arith, pow_mono le))

-- ---- one check

-- a mask that is known to be 0 is 0
pub zero_word : (s : Setting) (names : Name → ℕ) (w : ℕ) (o : Operand) → is_zero o ≡ true → operand_word s names w o ≡ 0
zero_word s names w (operand.Int n) e = let z : n ≡ 0 = grind arith in ap (λ k. k % 2 ^ w) z ∙ zero-mod (2 ^ w)
zero_word s names w _ e = absurd (false≢true e)

-- a report tells nothing of the origin of a mask that is 0
pub check_origin : (s : Setting) (mask width o p kind part site : ℕ) (w : World) → (mask ≢ 0 → o ≡ p)
    → check s mask width o kind part site w ≡ check s mask width p kind part site w
check_origin s zero width o p kind part site w e = refl
check_origin s (suc m) width o p kind part site w e = ap (λ x. check s (suc m) width x kind part site w) (e (λ z. grind arith))

-- what a check comes to
abbrev pub IsCheck : Effect → Type 0
IsCheck (Does w) = Unit {0}
IsCheck (Ends e w) = Unit {0}
IsCheck _ = ⊥

pub check_is : (s : Setting) (mask width o kind part site : ℕ) (w : World) → IsCheck (check s mask width o kind part site w)
check_is s mask width o kind part site w = by_mask (eqb mask 0)
  where
    by_tests : (h b : Bool) (u : World) → IsCheck (if h then Does w else if b then Ends «end».Reported u else Does u)
    by_tests true b u = tt
    by_tests false true u = tt
    by_tests false false u = tt

    added : (r : Report) → IsCheck (add_report s r w)
    added r = by_tests (is_hidden s r w) (leb s.limit (length (w.reports ++ r ∷ []))) (record w { reports = w.reports ++ r ∷ [] })

    by_mask : (b : Bool) → IsCheck (if b then Does w else add_report s (record { site = site; kind = kind; part = part; width = width; mask = mask; origin = o; chain = trail s w o }) w)
    by_mask true = tt
    by_mask false = added (record { site = site; kind = kind; part = part; width = width; mask = mask; origin = o; chain = trail s w o })

-- goes on after checks
abbrev pub check_on : Effect → (World → Reach) → Reach
check_on (Does w) go = go w
check_on (Ends e w) go = Over e w
check_on (Gives x w) go = Over stuck w
check_on (Goes b w) go = Over stuck w
check_on (Enters f w) go = Over stuck w
check_on (Leaves w) go = Over stuck w

pub one_check : (v : Values) (e : Effect) (f : World → Effect) (g : Values → World → Reach) (h : World → Reach) → IsCheck e → ((w : World) → g v w ≡ check_on (f w) h)
    → marked_next None v.names v.slots e g ≡ check_on (then_does e f) h
one_check v (Does w) f g h i e = e w
one_check v (Ends x w) f g h i e = refl
one_check v (Gives x w) f g h i e = absurd i
one_check v (Goes b w) f g h i e = absurd i
one_check v (Enters b w) f g h i e = absurd i
one_check v (Leaves w) f g h i e = absurd i

-- ---- the checks of an instruction

byte_is : (s : Setting) (kind site start : ℕ) (x : Option ℕ) (w : World) → IsCheck (check_byte s kind site start x w)
byte_is s kind site start None w = tt
byte_is s kind site start (Some x) w = check_is s (w.shadow x) 8 (w.origins (x / 4)) kind (x - start) site w

memory_is : (s : Setting) (a n kind site : ℕ) (w : World) → IsCheck (check_memory s a n kind site w)
memory_is s a n kind site w = by_good (is_good w a n)
  where
    by_good : (b : Bool) → IsCheck (if b then check_byte s kind site a (first_nonzero w.shadow a n) w else Does w)
    by_good true = byte_is s kind site a (first_nonzero w.shadow a n) w
    by_good false = tt

string_is : (s : Setting) (a site : ℕ) (w : World) → IsCheck (check_string s a site w)
string_is s a site w = byte_is s 10 site a (first_in_string w a (bytes_left w a)) w

format_is : (s : Setting) (format index a site : ℕ) (w : World) → IsCheck (check_format s format index a site w)
format_is s format index a site w = by_asked (asks_string_at w format index)
  where
    by_asked : (b : Bool) → IsCheck (if b then check_string s a site w else Does w)
    by_asked true = string_is s a site w
    by_asked false = tt

-- words are checked, of kinds and at places that are small numbers; bytes at words of 64 bits
abbrev pub AreFit : List Tracked → List CheckedUse → Type 0
AreFit ts [] = Unit {0}
AreFit ts (Word kind k ∷ us) = (kind < 2 ^ 32) × (k < 2 ^ 32) × AreFit ts us
AreFit ts (Bytes kind a n ∷ us) = (kind < 2 ^ 32) × (width_of (tracked_at a ts).ty ≡ 64) × (width_of (tracked_at n ts).ty ≡ 64) × AreFit ts us
AreFit ts (Line a ∷ us) = (width_of (tracked_at a ts).ty ≡ 64) × AreFit ts us
AreFit ts (Asked a ∷ us) = (width_of (tracked_at 0 ts).ty ≡ 64) × (width_of (tracked_at a ts).ty ≡ 64) × (a < 2 ^ 32) × AreFit ts us

module _ (s : Setting) (h : Here) (v : Values) (ts : List Tracked) (os : List (Ty × Operand)) (ps : List Poisoned) (site : h.site < 2 ^ 32)
    (holds : (k : ℕ) → Holds s v.names (tracked_at k ts) (word_at k ps))
    (typed : (k : ℕ) → (tracked_at k ts).ty ≡ type_at k os) (narrow : (k : ℕ) → width_of (tracked_at k ts).ty ≤ 64) where
  check_same : (kind k : ℕ) → kind < 2 ^ 32 → k < 2 ^ 32 → (w : World)
      → task_effect s h v.names (check_task h.site kind k (tracked_at k ts)) (evaluate_all s v.names (parts (check_task h.site kind k (tracked_at k ts)))) v.slots w
      ≡ check_use s h.site os ps (Word kind k) w
  check_same kind k lk lp w =
      let t = tracked_at k ts in
      let p = word_at k ps in
      let mask : evaluate s v.names (widened (width_of t.ty) (mask_of t)) (Int 64) ≡ p.mask =
      widened_word s v.names (width_of t.ty) t.mask
      ∙ whole (width_of t.ty) _ (narrow k) (word_less s v.names (width_of t.ty) t.mask) ∙ (holds k).mask in
      let width : width_of t.ty % 2 ^ 32 ≡ width_of (type_at k os) = mod-eq_of_lt (omega (arith, narrow k)) ∙ ap width_of (typed k) in
      ap₂ (λ m n. check s m n (operand_word s v.names 32 t.origin) (kind % 2 ^ 32) (k % 2 ^ 32) (h.site % 2 ^ 32) w) mask width
      ∙ ap₃ (λ a b c. check s p.mask (width_of (type_at k os)) (operand_word s v.names 32 t.origin) a b c w) (mod-eq_of_lt lk) (mod-eq_of_lt lp) (mod-eq_of_lt site)
      ∙ check_origin s p.mask (width_of (type_at k os)) (operand_word s v.names 32 t.origin) p.origin kind k h.site w (holds k).origin

  -- the check of one word, which is left out where its mask is known to be 0
  check_case : (kind k : ℕ) → kind < 2 ^ 32 → k < 2 ^ 32 → (rest : List Task) (f : World → Effect) (go : World → Reach) (w : World)
      → ((u : World) → do_tasks s h rest v u ≡ check_on (f u) go) → (b : Bool) → is_zero (tracked_at k ts).mask ≡ b
      → do_tasks s h ((if b then [] else check_task h.site kind k (tracked_at k ts) ∷ []) ++ rest) v w ≡ check_on (then_does (check_use s h.site os ps (Word kind k) w) f) go
  check_case kind k lk lp rest f go w next true e =
      let zero_mask : (word_at k ps).mask ≡ 0 = sym (holds k).mask ∙ zero_word s v.names (width_of (tracked_at k ts).ty) (tracked_at k ts).mask e in
      next w ∙ sym (ap (λ m. check_on (then_does (check s m (width_of (type_at k os)) (word_at k ps).origin kind k h.site w) f) go) zero_mask)
  check_case kind k lk lp rest f go w next false e =
      one_check v (task_effect s h v.names (check_task h.site kind k (tracked_at k ts)) (evaluate_all s v.names (parts (check_task h.site kind k (tracked_at k ts)))) v.slots w) f (do_tasks s h rest) go
      (subst IsCheck (sym (check_same kind k lk lp w)) (check_is s _ _ _ kind k h.site w)) next
      ∙ ap (λ x. check_on (then_does x f) go) (check_same kind k lk lp w)

  address : (k : ℕ) → width_of (tracked_at k ts).ty ≡ 64 → operand_word s v.names 64 (tracked_at k ts).operand ≡ (word_at k ps).value
  address k e = ap (λ w. operand_word s v.names w (tracked_at k ts).operand) (sym e) ∙ (holds k).value

  memory_done : (kind a n : ℕ) → kind < 2 ^ 32 → width_of (tracked_at a ts).ty ≡ 64 → width_of (tracked_at n ts).ty ≡ 64 → (rest : List Task) (f : World → Effect) (go : World → Reach) (w : World)
      → ((u : World) → do_tasks s h rest v u ≡ check_on (f u) go)
      → do_tasks s h (memory_task h.site kind (tracked_at a ts) (tracked_at n ts) ∷ rest) v w ≡ check_on (then_does (check_use s h.site os ps (Bytes kind a n) w) f) go
  memory_done kind a n lk wa wn rest f go w next =
      let t = memory_task h.site kind (tracked_at a ts) (tracked_at n ts) in
      let same : task_effect s h v.names t (evaluate_all s v.names (parts t)) v.slots w ≡ check_memory s (word_at a ps).value (word_at n ps).value kind h.site w =
      ap₂ (λ i j. check_memory s i j (kind % 2 ^ 32) (h.site % 2 ^ 32) w) (address a wa) (address n wn)
      ∙ ap₂ (λ i j. check_memory s (word_at a ps).value (word_at n ps).value i j w) (mod-eq_of_lt lk) (mod-eq_of_lt site) in
      one_check v (task_effect s h v.names t (evaluate_all s v.names (parts t)) v.slots w) f (do_tasks s h rest) go
      (subst IsCheck (sym same) (memory_is s (word_at a ps).value (word_at n ps).value kind h.site w)) next
      ∙ ap (λ x. check_on (then_does x f) go) same

  string_done : (a : ℕ) → width_of (tracked_at a ts).ty ≡ 64 → (rest : List Task) (f : World → Effect) (go : World → Reach) (w : World)
      → ((u : World) → do_tasks s h rest v u ≡ check_on (f u) go)
      → do_tasks s h (string_task h.site (tracked_at a ts) ∷ rest) v w ≡ check_on (then_does (check_use s h.site os ps (Line a) w) f) go
  string_done a wa rest f go w next =
      let t = string_task h.site (tracked_at a ts) in
      let same : task_effect s h v.names t (evaluate_all s v.names (parts t)) v.slots w ≡ check_string s (word_at a ps).value h.site w =
      ap₂ (λ i j. check_string s i j w) (address a wa) (mod-eq_of_lt site) in
      one_check v (task_effect s h v.names t (evaluate_all s v.names (parts t)) v.slots w) f (do_tasks s h rest) go
      (subst IsCheck (sym same) (byte_is s 10 h.site (word_at a ps).value (first_in_string w (word_at a ps).value (bytes_left w (word_at a ps).value)) w)) next
      ∙ ap (λ x. check_on (then_does x f) go) same

  format_done : (a : ℕ) → width_of (tracked_at 0 ts).ty ≡ 64 → width_of (tracked_at a ts).ty ≡ 64 → a < 2 ^ 32 → (rest : List Task) (f : World → Effect) (go : World → Reach) (w : World)
      → ((u : World) → do_tasks s h rest v u ≡ check_on (f u) go)
      → do_tasks s h (format_task h.site a (tracked_at 0 ts) (tracked_at a ts) ∷ rest) v w ≡ check_on (then_does (check_use s h.site os ps (Asked a) w) f) go
  format_done a wf wa la rest f go w next =
      let t = format_task h.site a (tracked_at 0 ts) (tracked_at a ts) in
      let same : task_effect s h v.names t (evaluate_all s v.names (parts t)) v.slots w ≡ check_format s (word_at 0 ps).value a (word_at a ps).value h.site w =
      ap₂ (λ i j. check_format s i (a % 2 ^ 32) j (h.site % 2 ^ 32) w) (address 0 wf) (address a wa)
      ∙ ap₂ (λ i j. check_format s (word_at 0 ps).value i (word_at a ps).value j w) (mod-eq_of_lt la) (mod-eq_of_lt site) in
      one_check v (task_effect s h v.names t (evaluate_all s v.names (parts t)) v.slots w) f (do_tasks s h rest) go
      (subst IsCheck (sym same) (format_is s (word_at 0 ps).value a (word_at a ps).value h.site w)) next
      ∙ ap (λ x. check_on (then_does x f) go) same

  pub checks_done : (us : List CheckedUse) → AreFit ts us → (rest : List Task) (w : World)
      → do_tasks s h (check_tasks h.site ts us ++ rest) v w ≡ check_on (check_uses s h.site os ps us w) (do_tasks s h rest v)
  checks_done [] a rest w = refl
  checks_done (Word kind k ∷ us) a rest w =
      ap (λ l. do_tasks s h l v w) (append_assoc (use_tasks h.site ts (Word kind k)) (check_tasks h.site ts us) rest)
      ∙ check_case kind k a.0 a.1 (check_tasks h.site ts us ++ rest) (check_uses s h.site os ps us) (do_tasks s h rest v) w
      (λ u. checks_done us a.2 rest u) (is_zero (tracked_at k ts).mask) refl
  checks_done (Bytes kind a n ∷ us) b rest w =
      memory_done kind a n b.0 b.1 b.2 (check_tasks h.site ts us ++ rest) (check_uses s h.site os ps us) (do_tasks s h rest v) w (λ u. checks_done us b.3 rest u)
  checks_done (Line a ∷ us) b rest w =
      string_done a b.0 (check_tasks h.site ts us ++ rest) (check_uses s h.site os ps us) (do_tasks s h rest v) w (λ u. checks_done us b.1 rest u)
  checks_done (Asked a ∷ us) b rest w =
      format_done a b.0 b.1 b.2 (check_tasks h.site ts us ++ rest) (check_uses s h.site os ps us) (do_tasks s h rest v) w (λ u. checks_done us b.3 rest u)
