-- The locals of a function's instrumented form stand once, where those of the function do.
use Rattle.std.proofs.Common.{◌≡◌, ℕ, suc, ◌+◌, ◌*◌, ◌<◌, ◌≤◌, List, [], ◌∷◌, ◌++◌, Bool, true, false, Option, Some, None, refl, sym, ap, subst, ◌∙◌, arith, inl, inr, ⊎_elim, true≢false}
use Rattle.std.specs.Prelude.{◌⊎◌, map, flat_map, if◌then◌else◌, is_some}
use Rattle.std.specs.List.{cons_option}
use Rattle.std.proofs.Math.Path.{ap₂}
use Rattle.std.proofs.lemmas.List.{append_assoc}
use Rattle.ms_bits.specs.declared.operations.BinOp.{BinOp}
use Rattle.ms_bits.specs.declared.operations.BinOp.TheVariants as binary
use Rattle.ms_ir.specs.declared.syntax.Name.{Name}
use Rattle.ms_ir.specs.declared.syntax.Ty.{Ty}
use Rattle.ms_ir.specs.declared.syntax.Operand.{Operand}
use Rattle.ms_ir.specs.declared.syntax.Op.{Op}
use Rattle.ms_ir.specs.declared.syntax.Op.TheVariants as op
use Rattle.ms_ir.specs.declared.syntax.Inst.{Inst}
use Rattle.ms_ir.specs.declared.syntax.Block.{Block}
use Rattle.ms_ir.specs.declared.syntax.Func.{Func}
use Rattle.ms_ir.specs.Names.{is_reserved, lookup, externals}
use Rattle.ms_runs.specs.World.{Here}
use Rattle.ms_ir.specs.Instructions.{operands, count_undefs, external_named}
use Rattle.ms_bits.specs.declared.word_functions.BitMove.{BitMove}
use Rattle.ms_ir.specs.declared.calls.External.{External}
use Rattle.ms_ir.specs.declared.calls.External.TheVariants.{Malloc, Realloc}
use Rattle.ms_runs.specs.Uses.{CheckedUse, Word, Bytes, Line, uses, Asked}
use Rattle.ms_ir.specs.Locals.{results, block_locals, parameter_names, locals}
use Rattle.ms_check_valid.specs.NamesOnce.{repeats}
use Rattle.ms_pass_tasks.specs.Tasks.{msan_name, mask_name, origin_name, Task, target, tasks_code}
use Rattle.ms_pass_tasks.specs.Meaning.{Below}
use Rattle.ms_pass_tasks.specs.Environments.{Env, Given, Tracked, is_zero, tracked, tracked_at}
use Rattle.ms_pass_tasks.specs.CheckTasks.{check_task, use_tasks, check_tasks, all_zero, blinded_of, blind_tasks}
use Rattle.ms_pass_tasks.specs.ResultTasks.{define_tasks, result_tasks, external_move, answer_tasks, called_tasks}
use Rattle.ms_pass_tasks.specs.PlaneTasks.{plane_tasks, save_tasks, saves, saved_by, saved_tasks, external_tasks, callee_tasks}
use Rattle.ms_pass_tasks.specs.Emit.{before_tasks, after_tasks, start}
use Rattle.ms_pass_tasks.specs.SlotTasks.{hand_tasks, give_result, give_arguments, take_result, take_tasks, take_parameters, param_mask, param_origin, result_mask_slot, result_origin_slot}
use Rattle.ms_pass_tasks.specs.Known.{OneName, FewNumbers}
use Rattle.ms_pass_tasks.specs.PassLists.{phi_pair, phi_code, next_here, pass_insts, emit_op}
use Rattle.ms_pass_tasks.proofs.InsertedNames.{msan_name_one, own_not_msan, own_below, mask_below, origin_below, mask_name_one, origin_name_one, mask_not_origin}
use Rattle.ms_pass_tasks.proofs.Marked.{tasks_more}
use Rattle.ms_pass_laws.specs.Pass.{here_after, pass_blocks, enter_block}
use Rattle.ms_pass_form_laws.proofs.Emitted.{is_own_call}
use Rattle.ms_pass_form_laws.proofs.Paths.{In, in_left, in_right, in_either, results_append}
use Rattle.ms_pass_form_laws.proofs.PassPaths.{taken, passed}
use Rattle.ms_pass_form_laws.proofs.Once.{Distinct, distinct_join, distinct_both, to_distinct, to_once, Named, named_more, named_join, AllBelow, set_by, tasks_named, NoName}
use Rattle.std.proofs.lemmas.List.Elements.{filter_map-append}

-- ---- what stands at the entry of a function

-- names of a function with what stands at its entry are those of its blocks and its parameters
enter_distinct : (P : List Name) (code : List Inst) (bs : List Block) → Distinct ((P ++ results code) ++ flat_map block_locals bs) → Distinct (P ++ flat_map block_locals (enter_block code bs))
enter_distinct P code [] d = distinct_join P [] (distinct_both P (results code) (distinct_both (P ++ results code) [] d).0).0 tt (λ x i j. j)
enter_distinct P code (b ∷ bs) d =
    let R = results code in let B = results b.insts in let L = flat_map block_locals bs in
    let outer = distinct_both (P ++ R) (b.name ∷ (B ++ L)) d in
    let first = distinct_both P R outer.0 in
    let apart = λ (x : Name) (i : In R x) (j : In (B ++ L) x). outer.2 x (in_right P R x i) (inr j) in
    let inner : Distinct (b.name ∷ (R ++ (B ++ L))) = (
      λ i. ⊎_elim (λ k. outer.2 b.name (in_right P R b.name k) (inl refl)) outer.1.0 (in_either R (B ++ L) b.name i),
      distinct_join R (B ++ L) first.1 outer.1.1 apart,
    ) in
    subst (λ l. Distinct (P ++ (b.name ∷ l))) (sym (ap (λ l. l ++ L) (results_append code b.insts) ∙ append_assoc R B L))
    (distinct_join P (b.name ∷ (R ++ (B ++ L))) first.0 inner (λ x i j. clash x i j))
  where
    clash : (x : Name) → In P x → In (b.name ∷ (results code ++ (results b.insts ++ flat_map block_locals bs))) x → ⊥
    clash x i (inl e) = (distinct_both (P ++ results code) (b.name ∷ (results b.insts ++ flat_map block_locals bs)) d).2 x (in_left P (results code) x i) (inl e)
    clash x i (inr k) =
        let outer = distinct_both (P ++ results code) (b.name ∷ (results b.insts ++ flat_map block_locals bs)) d in
        ⊎_elim (λ r. (distinct_both P (results code) outer.0).2 x i r) (λ l. outer.2 x (in_left P (results code) x i) (inr l)) (in_either (results code) (results b.insts ++ flat_map block_locals bs) x k)

enter_in : (P : List Name) (code : List Inst) (bs : List Block) (y : Name) → In (P ++ flat_map block_locals (enter_block code bs)) y → In ((P ++ results code) ++ flat_map block_locals bs) y
enter_in P code [] y i = ⊎_elim (λ a. in_left (P ++ results code) [] y (in_left P (results code) y a)) (λ a. absurd a) (in_either P [] y i)
enter_in P code (b ∷ bs) y i =
    ⊎_elim (λ a. in_left (P ++ results code) (b.name ∷ (results b.insts ++ flat_map block_locals bs)) y (in_left P (results code) y a)) by_block
    (in_either P (b.name ∷ (results (code ++ b.insts) ++ flat_map block_locals bs)) y i)
  where
    by_result : In (results code) y ⊎ In (results b.insts) y → In ((P ++ results code) ++ (b.name ∷ (results b.insts ++ flat_map block_locals bs))) y
    by_result (inl r) = in_left (P ++ results code) (b.name ∷ (results b.insts ++ flat_map block_locals bs)) y (in_right P (results code) y r)
    by_result (inr r) = in_right (P ++ results code) (b.name ∷ (results b.insts ++ flat_map block_locals bs)) y (inr (in_left (results b.insts) (flat_map block_locals bs) y r))

    by_block : In (b.name ∷ (results (code ++ b.insts) ++ flat_map block_locals bs)) y → In ((P ++ results code) ++ (b.name ∷ (results b.insts ++ flat_map block_locals bs))) y
    by_block (inl e) = in_right (P ++ results code) (b.name ∷ (results b.insts ++ flat_map block_locals bs)) y (inl e)
    by_block (inr k) =
        ⊎_elim (λ r. by_result (in_either (results code) (results b.insts) y (subst (λ l. In l y) (results_append code b.insts) r)))
        (λ l. in_right (P ++ results code) (b.name ∷ (results b.insts ++ flat_map block_locals bs)) y (inr (in_right (results b.insts) (flat_map block_locals bs) y l)))
        (in_either (results (code ++ b.insts)) (flat_map block_locals bs) y k)

module _ (given : Given) (env : Env) (size : ℕ) (one : OneName env) (few : FewNumbers env size) where
  -- the mask or the origin of a value
  abbrev pub MarkOf : Name → Name → Type 0
  MarkOf x y = (v : ℕ) × (env.number x ≡ Some v) × ((y ≡ mask_name v) ⊎ (y ≡ origin_name v))

  -- some names, and what marks them
  abbrev Of : List Name → Name → Type 0
  Of names y = In names y ⊎ ((x : Name) × In names x × MarkOf x y)

  abbrev Free : List Name → Type 0
  Free names = (y : Name) → In names y → is_reserved y ≡ false

  -- names that mark some
  abbrev pub MarksAmong : (own names : List Name) → Type 0
  MarksAmong own names = (y : Name) → In names y → (x : Name) × In own x × MarkOf x y

  mark_below : (n : ℕ) (x y : Name) → 2 * size + 1 ≤ n → MarkOf x y → Below n y
  mark_below n x y room m = ⊎_elim (λ e. subst (Below n) (sym e) (mask_below size n m.0 room (few x m.0 m.1))) (λ e. subst (Below n) (sym e) (origin_below size n m.0 room (few x m.0 m.1))) m.2

  of_below : (n : ℕ) (names : List Name) → 2 * size + 1 ≤ n → Free names → AllBelow n (Of names)
  of_below n names room free y (inl i) = own_below n y (free y i)
  of_below n names room free y (inr m) = mark_below n m.0 y room m.2

  own_no_mark : (x y : Name) → is_reserved y ≡ false → MarkOf x y → ⊥
  own_no_mark x y free m = ⊎_elim (λ e. own_not_msan y (2 * m.0 + 1) free e) (λ e. own_not_msan y (2 * m.0 + 2) free e) m.2

  marks_one : (x z y : Name) → MarkOf x y → MarkOf z y → x ≡ z
  marks_one x z y m k = by_kind m.2 k.2
    where
      same : m.0 ≡ k.0 → x ≡ z
      same e = one x z k.0 (m.1 ∙ ap Some e) k.1

      by_kind : (y ≡ mask_name m.0) ⊎ (y ≡ origin_name m.0) → (y ≡ mask_name k.0) ⊎ (y ≡ origin_name k.0) → x ≡ z
      by_kind (inl e) (inl g) = same (mask_name_one m.0 k.0 (sym e ∙ g))
      by_kind (inl e) (inr g) = absurd (mask_not_origin m.0 k.0 (sym e ∙ g))
      by_kind (inr e) (inl g) = absurd (mask_not_origin k.0 m.0 (sym g ∙ e))
      by_kind (inr e) (inr g) = same (origin_name_one m.0 k.0 (sym e ∙ g))

  of_apart : (a b : List Name) → Distinct (a ++ b) → Free (a ++ b) → (y : Name) → Of a y → Of b y → ⊥
  of_apart a b d free y (inl i) (inl j) = (distinct_both a b d).2 y i j
  of_apart a b d free y (inl i) (inr j) = own_no_mark j.0 y (free y (in_left a b y i)) j.2
  of_apart a b d free y (inr i) (inl j) = own_no_mark i.0 y (free y (in_right a b y j)) i.2
  of_apart a b d free y (inr i) (inr j) = (distinct_both a b d).2 i.0 i.1 (subst (In b) (sym (marks_one i.0 j.0 y i.2 j.2)) j.1)

  of_left : (a b : List Name) (y : Name) → Of a y → Of (a ++ b) y
  of_left a b y (inl i) = inl (in_left a b y i)
  of_left a b y (inr i) = inr (i.0, in_left a b i.0 i.1, i.2)

  of_right : (a b : List Name) (y : Name) → Of b y → Of (a ++ b) y
  of_right a b y (inl i) = inl (in_right a b y i)
  of_right a b y (inr i) = inr (i.0, in_right a b i.0 i.1, i.2)

  free_left : (a b : List Name) → Free (a ++ b) → Free a
  free_left a b free y i = free y (in_left a b y i)

  free_right : (a b : List Name) → Free (a ++ b) → Free b
  free_right a b free y i = free y (in_right a b y i)

  of_join : (n m k : ℕ) (a b xs ys : List Name) → 2 * size + 1 ≤ n → n ≤ m → m ≤ k → Distinct (a ++ b) → Free (a ++ b) → Named n m (Of a) xs → Named m k (Of b) ys
      → Named n k (Of (a ++ b)) (xs ++ ys)
  of_join n m k a b xs ys room l r d free p q =
      named_join n m k (Of a) (Of b) (Of (a ++ b)) xs ys l r (of_left a b) (of_right a b) (of_below n a room (free_left a b free)) (of_below n b room (free_right a b free))
      (of_apart a b d free) p q

  own_named : (n : ℕ) (names : List Name) → Distinct names → Named n n (Of names) names
  own_named n names d = record { once = d; known = λ y i. inl (inl i) }

  -- ---- what tasks set

  set_nothing : (b : Bool) (t : Task) → target t ≡ None → set_by (if b then [] else t ∷ []) ≡ []
  set_nothing true t e = refl
  set_nothing false t e = ap (λ o. cons_option o []) e

  use_sets : (site : ℕ) (ts : List Tracked) (u : CheckedUse) → set_by (use_tasks site ts u) ≡ []
  use_sets site ts (Word kind k) = set_nothing (is_zero (tracked_at k ts).mask) (check_task site kind k (tracked_at k ts)) refl
  use_sets site ts (Bytes kind a n) = refl
  use_sets site ts (Line a) = refl
  use_sets site ts (Asked a) = refl

  checks_set : (site : ℕ) (ts : List Tracked) (us : List CheckedUse) → set_by (check_tasks site ts us) ≡ []
  checks_set site ts [] = refl
  checks_set site ts (u ∷ us) = filter_map-append target (use_tasks site ts u) (check_tasks site ts us) ∙ ap₂ (λ a b. a ++ b) (use_sets site ts u) (checks_set site ts us)

  blind_sets : (ts : List Tracked) → set_by (blind_tasks ts) ≡ []
  blind_sets ts = set_nothing (all_zero ts) _ refl

  -- the mask and the origin of a value, in either order, or nothing
  abbrev MarksIn : ℕ → List Name → Type 0
  MarksIn v names = (names ≡ []) ⊎ ((names ≡ origin_name v ∷ mask_name v ∷ []) ⊎ (names ≡ mask_name v ∷ origin_name v ∷ []))

  define_sets : (v : ℕ) (o : Op) (ts : List Tracked) → MarksIn v (set_by (define_tasks given.func v o ts))
  define_sets v (op.Binary o f t a b) ts = by_op o
    where
      by_op : (c : BinOp) → MarksIn v (set_by (define_tasks given.func v (op.Binary c f t a b) ts))
      by_op binary.Shl = inr (inl refl)
      by_op binary.Lshr = inr (inl refl)
      by_op binary.Ashr = inr (inl refl)
      by_op _ = inr (inl refl)
  define_sets v (op.Icmp q f t a b) ts = inr (inl refl)
  define_sets v (op.Cast o f t a u) ts = inr (inl refl)
  define_sets v (op.Select c t a b) ts = inr (inl refl)
  define_sets v (op.Freeze t a) ts = inr (inl refl)
  define_sets v (op.Alloca t u c) ts = inr (inl refl)
  define_sets v (op.Load t a) ts = inr (inr refl)
  define_sets v (op.Gep t a is) ts = inr (inl refl)
  define_sets v (op.Call r x as') ts = by_own (is_some (given.func x))
    where
      by_move : (k : Option BitMove) → MarksIn v (set_by (answer_tasks (mask_name v) (origin_name v) k (op.Call r x as') ts))
      by_move None = inr (inl refl)
      by_move (Some k) = inr (inl refl)

      by_own : (b : Bool) → MarksIn v (set_by (called_tasks b v (op.Call r x as') ts))
      by_own true = inl refl
      by_own false = by_move (external_move (lookup externals x))
  define_sets v _ ts = inl refl

  -- names that mark a result
  abbrev pub MarksOnly : Option Name → List Name → Type 0
  MarksOnly r names = Distinct names × ((y : Name) → In names y → (x : Name) × (r ≡ Some x) × MarkOf x y)

  marks_good : (r : Option Name) (x : Name) (v : ℕ) (names : List Name) → r ≡ Some x → env.number x ≡ Some v → MarksIn v names → MarksOnly r names
  marks_good r x v names e k (inl g) = subst (MarksOnly r) (sym g) (tt, λ y i. absurd i)
  marks_good r x v names e k (inr (inl g)) = subst (MarksOnly r) (sym g) ((apart, (λ i. i, tt)), each)
    where
      apart : ¬ In (mask_name v ∷ []) (origin_name v)
      apart (inl h) = mask_not_origin v v h
      apart (inr h) = h

      each : (y : Name) → In (origin_name v ∷ mask_name v ∷ []) y → (z : Name) × (r ≡ Some z) × MarkOf z y
      each y (inl h) = (x, e, (v, k, inr (sym h)))
      each y (inr (inl h)) = (x, e, (v, k, inl (sym h)))
      each y (inr (inr h)) = absurd h
  marks_good r x v names e k (inr (inr g)) = subst (MarksOnly r) (sym g) ((apart, (λ i. i, tt)), each)
    where
      apart : ¬ In (origin_name v ∷ []) (mask_name v)
      apart (inl h) = mask_not_origin v v (sym h)
      apart (inr h) = h

      each : (y : Name) → In (mask_name v ∷ origin_name v ∷ []) y → (z : Name) × (r ≡ Some z) × MarkOf z y
      each y (inl h) = (x, e, (v, k, inl (sym h)))
      each y (inr (inl h)) = (x, e, (v, k, inr (sym h)))
      each y (inr (inr h)) = absurd h

  no_marks : (r : Option Name) (names : List Name) → names ≡ [] → MarksOnly r names
  no_marks r names e = subst (MarksOnly r) (sym e) (tt, λ y i. absurd i)

  result_sets : (r : Option Name) (o : Op) (ts : List Tracked) → MarksOnly r (set_by (result_tasks given.func env r o ts))
  result_sets None o ts = no_marks None [] refl
  result_sets (Some x) o ts = by_clean (env.clean x)
    where
      by_number : (n : Option ℕ) → env.number x ≡ n → MarksOnly (Some x) (set_by (elim n as (λ w. List Task) [ Some v ↦ define_tasks given.func v o ts | None ↦ [] ]))
      by_number None e = no_marks (Some x) [] refl
      by_number (Some v) e = marks_good (Some x) x v (set_by (define_tasks given.func v o ts)) refl e (define_sets v o ts)

      by_clean : (b : Bool) → MarksOnly (Some x) (set_by (if b then [] else elim (env.number x) as (λ w. List Task) [ Some v ↦ define_tasks given.func v o ts | None ↦ [] ]))
      by_clean true = no_marks (Some x) [] refl
      by_clean false = by_number (env.number x) refl

  give_none : (k : ℕ) (ts : List Tracked) → set_by (give_arguments k ts) ≡ []
  give_none k [] = refl
  give_none k (t ∷ ts) = give_none (suc k) ts

  hand_sets : (main : Bool) (o : Op) (ts : List Tracked) → set_by (hand_tasks given.func main o ts) ≡ []
  hand_sets main (op.Call q y as') ts = by_own (is_some (given.func y))
    where
      by_own : (b : Bool) → set_by (if b then give_arguments 0 ts else []) ≡ []
      by_own true = give_none 0 ts
      by_own false = refl
  hand_sets true (op.Ret v) ts = refl
  hand_sets false (op.Ret v) ts = by_words ts
    where
      by_words : (l : List Tracked) → set_by (give_result l) ≡ []
      by_words [] = refl
      by_words (t ∷ l) = refl
  hand_sets main _ ts = refl

  -- the saved size has the first number
  save_sets : (saved : ℕ) (o : Op) (ts : List Tracked)
      → (set_by (save_tasks given.func saved o ts) ≡ []) ⊎ ((set_by (save_tasks given.func saved o ts) ≡ msan_name saved ∷ []) × (saves given.func o ≡ 1))
  save_sets saved (op.Call q y as') ts = by_name (external_named given.func y)
    where
      by_external : (e : External) → (set_by (saved_tasks saved e ts) ≡ []) ⊎ ((set_by (saved_tasks saved e ts) ≡ msan_name saved ∷ []) × (saved_by e ≡ 1))
      by_external Realloc = inr (refl, refl)
      by_external _ = inl refl

      by_name : (o : Option External) → (set_by (elim o as (λ w. List Task) [ Some e ↦ saved_tasks saved e ts | None ↦ [] ]) ≡ [])
          ⊎ ((set_by (elim o as (λ w. List Task) [ Some e ↦ saved_tasks saved e ts | None ↦ [] ]) ≡ msan_name saved ∷ []) × (elim o as (λ w. ℕ) [ Some e ↦ saved_by e | None ↦ 0 ] ≡ 1))
      by_name None = inl refl
      by_name (Some e) = by_external e
  save_sets saved _ ts = inl refl

  -- what is set before an instruction: what marks its result, and a saved size
  abbrev pub MarkOrSaved : Inst → ℕ → Name → Type 0
  MarkOrSaved i n y = ((x : Name) × (i.result ≡ Some x) × MarkOf x y) ⊎ ((y ≡ msan_name n) × (saves given.func i.op ≡ 1))

  pub before_sets : (h : Here) (i : Inst) (n : ℕ) → 2 * size + 1 ≤ n → Distinct (set_by (before_tasks given env h i n)) × ((y : Name) → In (set_by (before_tasks given env h i n)) y → MarkOrSaved i n y)
  before_sets h i n room =
      let ts = tracked env h.root (operands i.op) in
      let hs = hand_tasks given.func h.main i.op ts in
      let cs = check_tasks h.site ts (uses given.func h.main i.op) in
      let bs = blind_tasks (blinded_of given.func i.op ts) in
      let rs = result_tasks given.func env i.result i.op ts in
      let ss = save_tasks given.func n i.op ts in
      let marks = result_sets i.result i.op ts in
      subst (λ l. Distinct l × ((y : Name) → In l y → MarkOrSaved i n y))
      (sym (filter_map-append target hs (cs ++ (bs ++ (rs ++ ss))) ∙ ap₂ (λ a b. a ++ b) (hand_sets h.main i.op ts)
      (filter_map-append target cs (bs ++ (rs ++ ss)) ∙ ap₂ (λ a b. a ++ b) (checks_set h.site ts (uses given.func h.main i.op))
      (filter_map-append target bs (rs ++ ss) ∙ ap₂ (λ a b. a ++ b) (blind_sets (blinded_of given.func i.op ts)) (filter_map-append target rs ss)))))
      (both (set_by rs) (set_by ss) marks.0 marks.1 (save_sets n i.op ts))
    where
      both : (a b : List Name) → Distinct a → ((y : Name) → In a y → (x : Name) × (i.result ≡ Some x) × MarkOf x y) → (b ≡ []) ⊎ ((b ≡ msan_name n ∷ []) × (saves given.func i.op ≡ 1))
          → Distinct (a ++ b) × ((y : Name) → In (a ++ b) y → MarkOrSaved i n y)
      both a b d m (inl e) =
          subst (λ l. Distinct (a ++ l) × ((y : Name) → In (a ++ l) y → MarkOrSaved i n y)) (sym e)
          (distinct_join a [] d tt (λ y p q. q), λ y p. ⊎_elim (λ q. inl (m y q)) (λ q. absurd q) (in_either a [] y p))
      both a b d m (inr e) =
          subst (λ l. Distinct (a ++ l) × ((y : Name) → In (a ++ l) y → MarkOrSaved i n y)) (sym e.0) (
            distinct_join a (msan_name n ∷ []) d ((λ p. p), tt) (λ y p q. clash y p (only y q)),
            λ y p. ⊎_elim (λ q. inl (m y q)) (λ q. inr (only y q, e.1)) (in_either a (msan_name n ∷ []) y p),
          )
        where
          only : (y : Name) → In (msan_name n ∷ []) y → y ≡ msan_name n
          only y (inl q) = sym q
          only y (inr q) = absurd q

          clash : (y : Name) → In a y → y ≡ msan_name n → ⊥
          clash y p q = let k = m y p in let l = mark_below n k.0 y room k.2 n q in omega (arith, l)

  external_sets : (site root saved : ℕ) (r : Option Name) (e : External) (ts : List Tracked) → set_by (external_tasks site root saved r e ts) ≡ []
  external_sets site root saved (Some x) Malloc ts = refl
  external_sets site root saved (Some x) _ ts = refl
  external_sets site root saved None Malloc ts = refl
  external_sets site root saved None _ ts = refl

  pub plane_sets : (h : Here) (saved : ℕ) (r : Option Name) (o : Op) (ts : List Tracked) → is_own_call given.func o ≡ false → set_by (plane_tasks given env h saved r o ts) ≡ []
  plane_sets h saved (Some x) (op.Alloca t u c) ts e = refl
  plane_sets h saved None (op.Alloca t u c) ts e = refl
  plane_sets h saved r (op.Store t v a) ts e = refl
  plane_sets h saved (Some x) (op.Call q y as') ts e =
      ap (λ b. set_by (callee_tasks env h.site (h.root + count_undefs as' + 1) saved (Some x) q b (external_named given.func y) ts)) e ∙ by_name (external_named given.func y)
    where
      by_name : (k : Option External) → set_by (callee_tasks env h.site (h.root + count_undefs as' + 1) saved (Some x) q false k ts) ≡ []
      by_name None = refl
      by_name (Some k) = external_sets h.site (h.root + count_undefs as' + 1) saved (Some x) k ts
  plane_sets h saved None (op.Call q y as') ts e =
      ap (λ b. set_by (callee_tasks env h.site (h.root + count_undefs as' + 1) saved None q b (external_named given.func y) ts)) e ∙ by_name (external_named given.func y)
    where
      by_name : (k : Option External) → set_by (callee_tasks env h.site (h.root + count_undefs as' + 1) saved None q false k ts) ≡ []
      by_name None = refl
      by_name (Some k) = external_sets h.site (h.root + count_undefs as' + 1) saved None k ts
  plane_sets h saved r _ ts e = refl

  take_sets : (r : Option Name) (t : Option Ty) → MarksOnly r (set_by (take_result env r t))
  take_sets None t = no_marks None [] refl
  take_sets (Some x) None = no_marks (Some x) [] refl
  take_sets (Some x) (Some t) = by_clean (env.clean x)
    where
      by_number : (n : Option ℕ) → env.number x ≡ n → MarksOnly (Some x) (set_by (elim n as (λ w. List Task) [ Some v ↦ take_tasks result_mask_slot result_origin_slot v t | None ↦ [] ]))
      by_number None e = no_marks (Some x) [] refl
      by_number (Some v) e = marks_good (Some x) x v (mask_name v ∷ origin_name v ∷ []) refl e (inr (inr refl))

      by_clean : (b : Bool) → MarksOnly (Some x) (set_by (if b then [] else elim (env.number x) as (λ w. List Task) [ Some v ↦ take_tasks result_mask_slot result_origin_slot v t | None ↦ [] ]))
      by_clean true = no_marks (Some x) [] refl
      by_clean false = by_number (env.number x) refl

  -- after a call of an own function its result is marked
  pub own_plane_sets : (h : Here) (saved : ℕ) (r : Option Name) (o : Op) (ts : List Tracked) → is_own_call given.func o ≡ true → MarksOnly r (set_by (plane_tasks given env h saved r o ts))
  own_plane_sets h saved (Some x) (op.Call q y as') ts e =
      subst (λ b. MarksOnly (Some x) (set_by (callee_tasks env h.site (h.root + count_undefs as' + 1) saved (Some x) q b (external_named given.func y) ts))) (sym e) (take_sets (Some x) q)
  own_plane_sets h saved None (op.Call q y as') ts e =
      subst (λ b. MarksOnly None (set_by (callee_tasks env h.site (h.root + count_undefs as' + 1) saved None q b (external_named given.func y) ts))) (sym e) (take_sets None q)
  own_plane_sets h saved r _ ts e = absurd (true≢false (sym e))

  -- before one nothing is set
  own_result_sets : (r : Option Name) (o : Op) (ts : List Tracked) → is_own_call given.func o ≡ true → set_by (result_tasks given.func env r o ts) ≡ []
  own_result_sets None o ts w = refl
  own_result_sets (Some x) (op.Call q y as') ts w = by_clean (env.clean x)
    where
      by_number : (n : Option ℕ) → set_by (elim n as (λ k. List Task) [ Some v ↦ called_tasks (is_some (given.func y)) v (op.Call q y as') ts | None ↦ [] ]) ≡ []
      by_number None = refl
      by_number (Some v) = ap (λ b. set_by (called_tasks b v (op.Call q y as') ts)) w

      by_clean : (b : Bool) → set_by (if b then [] else elim (env.number x) as (λ k. List Task) [ Some v ↦ called_tasks (is_some (given.func y)) v (op.Call q y as') ts | None ↦ [] ]) ≡ []
      by_clean true = refl
      by_clean false = by_number (env.number x)
  own_result_sets (Some x) _ ts w = absurd (true≢false (sym w))

  own_save_sets : (saved : ℕ) (o : Op) (ts : List Tracked) → is_own_call given.func o ≡ true → set_by (save_tasks given.func saved o ts) ≡ []
  own_save_sets saved (op.Call q y as') ts w =
      ap (λ b. set_by (elim (if b then None else lookup externals y) as (λ k. List Task) [ Some e ↦ saved_tasks saved e ts | None ↦ [] ])) w
  own_save_sets saved _ ts w = refl

  pub own_before_sets : (h : Here) (i : Inst) (n : ℕ) → is_own_call given.func i.op ≡ true → set_by (before_tasks given env h i n) ≡ []
  own_before_sets h i n w =
      let ts = tracked env h.root (operands i.op) in
      let hs = hand_tasks given.func h.main i.op ts in
      let cs = check_tasks h.site ts (uses given.func h.main i.op) in
      let bs = blind_tasks (blinded_of given.func i.op ts) in
      let rs = result_tasks given.func env i.result i.op ts in
      let ss = save_tasks given.func n i.op ts in
      filter_map-append target hs (cs ++ (bs ++ (rs ++ ss))) ∙ ap₂ (λ a b. a ++ b) (hand_sets h.main i.op ts)
      (filter_map-append target cs (bs ++ (rs ++ ss)) ∙ ap₂ (λ a b. a ++ b) (checks_set h.site ts (uses given.func h.main i.op))
      (filter_map-append target bs (rs ++ ss) ∙ ap₂ (λ a b. a ++ b) (blind_sets (blinded_of given.func i.op ts))
      (filter_map-append target rs ss ∙ ap₂ (λ a b. a ++ b) (own_result_sets i.result i.op ts w) (own_save_sets n i.op ts w))))

  pub phi_sets : (root : ℕ) (r : Option Name) (t : Ty) (es : List (Operand × Name)) → MarksOnly r (results (phi_code env root r t es))
  phi_sets root None t es = no_marks None [] refl
  phi_sets root (Some x) t es = by_number (env.number x) refl
    where
      by_clean : (v : ℕ) (b : Bool) → env.number x ≡ Some v → MarksOnly (Some x) (results (if b then [] else phi_pair env v root t es))
      by_clean v true e = no_marks (Some x) [] refl
      by_clean v false e = marks_good (Some x) x v (mask_name v ∷ origin_name v ∷ []) refl e (inr (inr refl))

      by_number : (n : Option ℕ) → env.number x ≡ n
          → MarksOnly (Some x) (results (elim n as (λ w. List Inst) [ Some v ↦ if env.clean x then [] else phi_pair env v root t es | None ↦ [] ]))
      by_number None e = no_marks (Some x) [] refl
      by_number (Some v) e = by_clean v (env.clean x) e

  -- ---- the lists round an instruction

  abbrev own_of : Inst → List Name
  own_of i = cons_option i.result []

  in_own : (i : Inst) (x : Name) → i.result ≡ Some x → In (own_of i) x
  in_own i x e = subst (λ o. In (cons_option o []) x) (sym e) (inl refl)

  abbrev MarkOfResult : Inst → Name → Type 0
  MarkOfResult i y = (x : Name) × (i.result ≡ Some x) × MarkOf x y

  mark_of : (i : Inst) (y : Name) → MarkOfResult i y → Of (own_of i) y
  mark_of i y m = inr (m.0, in_own i m.0 m.1, m.2)

  own_apart : (i : Inst) → Free (own_of i) → (y : Name) → In (own_of i) y → MarkOfResult i y → ⊥
  own_apart i free y j m = own_no_mark m.0 y (free y j) m.2

  result_marks_below : (i : Inst) (n : ℕ) → 2 * size + 1 ≤ n → AllBelow n (MarkOfResult i)
  result_marks_below i n room y m = mark_below n m.0 y room m.2

  own_below_all : (i : Inst) (n : ℕ) → Free (own_of i) → AllBelow n (In (own_of i))
  own_below_all i n free y j = own_below n y (free y j)

  cons_split : (r : Option Name) (l : List Name) → cons_option r l ≡ cons_option r [] ++ l
  cons_split None l = refl
  cons_split (Some x) l = refl

  distinct_own : (r : Option Name) → Distinct (cons_option r [])
  distinct_own None = tt
  distinct_own (Some x) = (λ i. i, tt)

  -- before: marks; then the result; after: nothing but numbers
  tasks_round : (i : Inst) (n m k : ℕ) (a b : List Inst) → 2 * size + 1 ≤ n → n ≤ m → m ≤ k → Free (own_of i) → Named n m (MarkOfResult i) (results a)
      → Named m k NoName (results b) → Named n k (Of (own_of i)) (results (a ++ i ∷ b))
  tasks_round i n m k a b room l r free p q =
      subst (Named n k (Of (own_of i))) (sym (results_append a (i ∷ b) ∙ ap (λ z. results a ++ z) (cons_split i.result (results b))))
      (named_join n m k (MarkOfResult i) (In (own_of i)) (Of (own_of i)) (results a) (own_of i ++ results b) l r (mark_of i) (λ y j. inl j)
      (result_marks_below i n room) (own_below_all i n free) (λ y t u. own_apart i free y u t) p
      (named_join m m k (In (own_of i)) NoName (In (own_of i)) (own_of i) (results b) (omega arith) r (λ y j. j) (λ y j. absurd j) (own_below_all i m free) (λ y j. absurd j)
      (λ y t u. u) (record { once = distinct_own i.result; known = λ y j. inl j }) q))

  phi_round : (i : Inst) (n : ℕ) (b : List Inst) → 2 * size + 1 ≤ n → Free (own_of i) → MarksOnly i.result (results b) → Named n n (Of (own_of i)) (results (i ∷ b))
  phi_round i n b room free m =
      subst (Named n n (Of (own_of i))) (sym (cons_split i.result (results b)))
      (named_join n n n (In (own_of i)) (MarkOfResult i) (Of (own_of i)) (own_of i) (results b) (omega arith) (omega arith) (λ y j. inl j) (mark_of i)
      (own_below_all i n free) (result_marks_below i n room) (own_apart i free) (record { once = distinct_own i.result; known = λ y j. inl j })
      (record { once = m.0; known = λ y j. inl (m.1 y j) }))

  -- a call of an own function: before it nothing but numbers; then the result; after: marks
  own_round : (i : Inst) (n m k : ℕ) (a b : List Inst) → 2 * size + 1 ≤ n → n ≤ m → m ≤ k → Free (own_of i) → Named n m NoName (results a)
      → Named m k (MarkOfResult i) (results b) → Named n k (Of (own_of i)) (results (a ++ i ∷ b))
  own_round i n m k a b room l r free p q =
      subst (Named n k (Of (own_of i))) (sym (results_append a (i ∷ b) ∙ ap (λ z. results a ++ z) (cons_split i.result (results b))))
      (named_join n m k NoName (Of (own_of i)) (Of (own_of i)) (results a) (own_of i ++ results b) l r (λ y j. absurd j) (λ y j. j) (λ y j. absurd j) (of_below n (own_of i) room free)
      (λ y t u. t) p
      (named_join m m k (In (own_of i)) (MarkOfResult i) (Of (own_of i)) (own_of i) (results b) (omega arith) r (λ y j. inl j) (mark_of i) (own_below_all i m free)
      (result_marks_below i m (omega (arith, room, l))) (own_apart i free) (record { once = distinct_own i.result; known = λ y j. inl j }) q))

  own_named_round : (h : Here) (i : Inst) (n : ℕ) → is_own_call given.func i.op ≡ true → 2 * size + 1 ≤ n → Free (own_of i)
      → let a = tasks_code (before_tasks given env h i n) (start given i n) in let b = tasks_code (after_tasks given env h i n) a.next in
      (n ≤ b.next) × Named n b.next (Of (own_of i)) (results (a.code ++ i ∷ b.code))
  own_named_round h i n w room free =
      let s = start given i n in
      let bs = before_tasks given env h i n in let as' = after_tasks given env h i n in
      let a = tasks_code bs s in let b = tasks_code as' a.next in
      let nothing = own_before_sets h i n w in
      let marks = own_plane_sets h n i.result i.op (tracked env h.root (operands i.op)) w in
      let first = tasks_more bs s in
      let at_first = tasks_named bs s (subst Distinct (sym nothing) tt) (λ y j. absurd (subst (λ l. In l y) nothing j)) in
      let later : n ≤ a.next = later_start n (saves given.func i.op) a.next first in (
        omega (arith, later, tasks_more as' a.next),
        own_round i n a.next b.next a.code b.code room later (tasks_more as' a.next) free
            (record {
              once = at_first.once;
              known = λ y j. ⊎_elim (λ t. absurd (subst (λ l. In l y) nothing t)) (λ q. inr (q.0, later_start n (saves given.func i.op) q.0 q.1, q.2, q.3)) (at_first.known y j);
            })
            (named_more a.next b.next (In (set_by as')) (MarkOfResult i) (results b.code) marks.1
            (tasks_named as' a.next marks.0 (λ y j. result_marks_below i a.next (omega (arith, room, later)) y (marks.1 y j)))),
      )
    where
      later_start : (x k z : ℕ) → x + k ≤ z → x ≤ z
      later_start x k z l = omega (arith, l)

  plain_named_round : (h : Here) (i : Inst) (n : ℕ) → is_own_call given.func i.op ≡ false → 2 * size + 1 ≤ n → Free (own_of i)
      → let a = tasks_code (before_tasks given env h i n) (start given i n) in let b = tasks_code (after_tasks given env h i n) a.next in
      (n ≤ b.next) × Named n b.next (Of (own_of i)) (results (a.code ++ i ∷ b.code))
  plain_named_round h i n c room free =
      let s = start given i n in
      let bs = before_tasks given env h i n in let as' = after_tasks given env h i n in
      let a = tasks_code bs s in let b = tasks_code as' a.next in
      let marks = before_sets h i n room in
      let nothing = plane_sets h n i.result i.op (tracked env h.root (operands i.op)) c in
      let later = at_start n (saves given.func i.op) in
      let first = tasks_more bs s in
      let at_first = tasks_named bs s marks.0 (λ y j. below_start s y (further n s later room) (marks.1 y j) (λ e k l. before_start n (saves given.func i.op) k l e)) in (
        omega (arith, later, first, tasks_more as' a.next),
        tasks_round i n a.next b.next a.code b.code room (reach n s a.next later first) (tasks_more as' a.next) free
            (record {
              once = at_first.once;
              known = λ y j. ⊎_elim (λ t. ⊎_elim (λ m. inl m) (λ m. inr (n, omega arith, save_room n (saves given.func i.op) a.next first m.1, m.0)) (marks.1 y t))
                  (λ q. inr (q.0, reach n s q.0 later q.1, q.2, q.3)) (at_first.known y j);
            })
            (named_more a.next b.next (In (set_by as')) NoName (results b.code) (λ y j. subst (λ l. In l y) nothing j)
            (tasks_named as' a.next (subst Distinct (sym nothing) tt) (λ y j. absurd (subst (λ l. In l y) nothing j)))),
      )
    where
      further : (x y : ℕ) → x ≤ y → 2 * size + 1 ≤ x → 2 * size + 1 ≤ y
      further x y l r = omega (arith, l, r)

      reach : (x y z : ℕ) → x ≤ y → y ≤ z → x ≤ z
      reach x y z l r = omega (arith, l, r)

      at_start : (x k : ℕ) → x ≤ x + k
      at_start x k = omega arith

      before_start : (x k z : ℕ) → x ≡ z → k ≡ 1 → z < x + k
      before_start x k z e l = omega (arith, e, l)

      save_room : (x k z : ℕ) → x + k ≤ z → k ≡ 1 → x < z
      save_room x k z l e = omega (arith, l, e)

      below_start : (s : ℕ) (y : Name) → 2 * size + 1 ≤ s → MarkOrSaved i n y → (saves given.func i.op ≡ 1 → (k : ℕ) → n ≡ k → k < s) → Below s y
      below_start s y l (inl m) go = mark_below s m.0 y l m.2
      below_start s y l (inr m) go = λ k e. go m.1 k (msan_name_one n k (sym m.0 ∙ e))

  round_named : (h : Here) (i : Inst) (n : ℕ) (o : Op) → 2 * size + 1 ≤ n → Free (own_of i)
      → (n ≤ (emit_op given env h i n o).next) × Named n (emit_op given env h i n o).next (Of (own_of i)) (results ((emit_op given env h i n o).before ++ i ∷ (emit_op given env h i n o).after))
  round_named h i n (op.Phi t es) room free = (omega arith, phi_round i n (phi_code env h.root i.result t es) room free (phi_sets h.root i.result t es))
  round_named h i n _ room free = by_own (is_own_call given.func i.op) refl
    where
      by_own : (w : Bool) → is_own_call given.func i.op ≡ w
          → let a = tasks_code (before_tasks given env h i n) (start given i n) in let b = tasks_code (after_tasks given env h i n) a.next in
          (n ≤ b.next) × Named n b.next (Of (own_of i)) (results (a.code ++ i ∷ b.code))
      by_own true w = own_named_round h i n w room free
      by_own false w = plain_named_round h i n w room free

  pub round_more : (h : Here) (i : Inst) (n : ℕ) (o : Op) → n ≤ (emit_op given env h i n o).next
  round_more h i n (op.Phi t es) = omega arith
  round_more h i n _ =
      let s = start given i n in let bs = before_tasks given env h i n in let as' = after_tasks given env h i n in
      reach n (saves given.func i.op) (tasks_code bs s).next _ (tasks_more bs s) (tasks_more as' (tasks_code bs s).next)
    where
      reach : (x k y z : ℕ) → x + k ≤ y → y ≤ z → x ≤ z
      reach x k y z l r = omega (arith, l, r)

  pub insts_more : (is : List Inst) (h : Here) (n : ℕ) → n ≤ (pass_insts given env is h n).next
  insts_more [] h n = omega arith
  insts_more (i ∷ is) h n = let x = emit_op given env h i n i.op in omega (arith, round_more h i n i.op, insts_more is (next_here given h i) x.next)

  -- ---- lists, blocks and functions

  code_named : (is : List Inst) (h : Here) (n : ℕ) → 2 * size + 1 ≤ n → Distinct (results is) → Free (results is)
      → (n ≤ (pass_insts given env is h n).next) × Named n (pass_insts given env is h n).next (Of (results is)) (results (pass_insts given env is h n).code)
  code_named [] h n room d free = (omega arith, own_named n [] tt)
  code_named (i ∷ is) h n room d free =
      let o = emit_op given env h i n i.op in
      let y = pass_insts given env is (next_here given h i) o.next in
      let split = cons_split i.result (results is) in
      let apart = subst Distinct split d in
      let all_free = subst Free split free in
      let first = round_named h i n i.op room (free_left (own_of i) (results is) all_free) in
      let rest = code_named is (next_here given h i) o.next (more n o.next first.0 room) (distinct_both (own_of i) (results is) apart).1 (free_right (own_of i) (results is) all_free) in (
        omega (arith, first.0, rest.0),
        subst (λ l. Named n y.next (Of l) (results (o.before ++ (i ∷ (o.after ++ y.code))))) (sym split)
            (subst (λ l. Named n y.next (Of (own_of i ++ results is)) (results l)) (append_assoc o.before (i ∷ o.after) y.code)
            (subst (λ l. Named n y.next (Of (own_of i ++ results is)) l) (sym (results_append (o.before ++ i ∷ o.after) y.code))
            (of_join n o.next y.next (own_of i) (results is) (results (o.before ++ i ∷ o.after)) (results y.code) room first.0 rest.0 apart all_free first.1 rest.1))),
      )
    where
      more : (a b : ℕ) → a ≤ b → 2 * size + 1 ≤ a → 2 * size + 1 ≤ b
      more a b l r = omega (arith, l, r)

  abbrev blocks_next : List Block → Here → ℕ → ℕ
  blocks_next [] h n = n
  blocks_next (b ∷ bs) h n = blocks_next bs (here_after given h b.insts) (pass_insts given env b.insts h n).next

  blocks_named : (bs : List Block) (h : Here) (n : ℕ) → 2 * size + 1 ≤ n → Distinct (flat_map block_locals bs) → Free (flat_map block_locals bs)
      → (n ≤ blocks_next bs h n) × Named n (blocks_next bs h n) (Of (flat_map block_locals bs)) (flat_map block_locals (pass_blocks given env bs h n))
  blocks_named [] h n room d free = (omega arith, own_named n [] tt)
  blocks_named (b ∷ bs) h n room d free =
      let y = pass_insts given env b.insts h n in
      let h2 = here_after given h b.insts in
      let own = b.name ∷ results b.insts in
      let later = flat_map block_locals bs in
      let parts = distinct_both own later d in
      let first = code_named b.insts h n room parts.0.1 (λ x i. free x (in_left own later x (inr i))) in
      let rest = blocks_named bs h2 y.next (more n y.next first.0 room) parts.1 (free_right own later free) in (
        omega (arith, first.0, rest.0),
        of_join n y.next (blocks_next bs h2 y.next) own later (b.name ∷ results y.code) (flat_map block_locals (pass_blocks given env bs h2 y.next)) room first.0 rest.0 d free
            (of_join n n y.next (b.name ∷ []) (results b.insts) (b.name ∷ []) (results y.code) room (omega arith) first.0 parts.0 (free_left own later free)
            (own_named n (b.name ∷ []) (λ i. i, tt)) first.1) rest.1,
      )
    where
      more : (a b : ℕ) → a ≤ b → 2 * size + 1 ≤ a → 2 * size + 1 ≤ b
      more a b l r = omega (arith, l, r)

  -- ---- what is set at the entry

  -- the marks of the parameters
  pub taken_marks : (k : ℕ) (ps : List (Ty × Name)) (n : ℕ) → MarksAmong (map (λ p. p.1) ps) (results (tasks_code (take_parameters env k ps) n).code)
  taken_marks k [] n = λ y i. absurd i
  taken_marks k (p ∷ ps) n = by_clean (env.clean p.1) (taken_marks (suc k) ps n)
    where
      further : MarksAmong (map (λ q. q.1) ps) (results (tasks_code (take_parameters env (suc k) ps) n).code) → (y : Name) → In (results (tasks_code (take_parameters env (suc k) ps) n).code) y
          → (x : Name) × In (map (λ q. q.1) (p ∷ ps)) x × MarkOf x y
      further go y i = let r = go y i in (r.0, inr r.1, r.2)

      by_number : (o : Option ℕ) → env.number p.1 ≡ o → MarksAmong (map (λ q. q.1) ps) (results (tasks_code (take_parameters env (suc k) ps) n).code)
          → MarksAmong (map (λ q. q.1) (p ∷ ps))
          (results (tasks_code ((elim o as (λ w. List Task) [ Some v ↦ take_tasks (param_mask k) (param_origin k) v p.0 | None ↦ [] ]) ++ take_parameters env (suc k) ps) n).code)
      by_number None e go y i = further go y i
      by_number (Some v) e go y (inl s) = (p.1, inl refl, (v, e, inl (sym s)))
      by_number (Some v) e go y (inr (inl s)) = (p.1, inl refl, (v, e, inr (sym s)))
      by_number (Some v) e go y (inr (inr i)) = further go y i

      by_clean : (b : Bool) → MarksAmong (map (λ q. q.1) ps) (results (tasks_code (take_parameters env (suc k) ps) n).code)
          → MarksAmong (map (λ q. q.1) (p ∷ ps))
          (results (tasks_code ((if b then [] else elim (env.number p.1) as (λ w. List Task) [ Some v ↦ take_tasks (param_mask k) (param_origin k) v p.0 | None ↦ [] ]) ++ take_parameters env (suc k) ps) n).code)
      by_clean true go = further go
      by_clean false go = by_number (env.number p.1) refl go

  taken_once : (k : ℕ) (ps : List (Ty × Name)) (n : ℕ) → Distinct (map (λ p. p.1) ps) → Distinct (results (tasks_code (take_parameters env k ps) n).code)
  taken_once k [] n d = tt
  taken_once k (p ∷ ps) n d = by_clean (env.clean p.1) (taken_once (suc k) ps n d.1)
    where
      apart : (y : Name) → MarkOf p.1 y → In (results (tasks_code (take_parameters env (suc k) ps) n).code) y → ⊥
      apart y m i = let r = taken_marks (suc k) ps n y i in d.0 (subst (In (map (λ q. q.1) ps)) (sym (marks_one p.1 r.0 y m r.2)) r.1)

      mask_apart : (v : ℕ) → env.number p.1 ≡ Some v → In (origin_name v ∷ results (tasks_code (take_parameters env (suc k) ps) n).code) (mask_name v) → ⊥
      mask_apart v e (inl s) = mask_not_origin v v (sym s)
      mask_apart v e (inr i) = apart (mask_name v) (v, e, inl refl) i

      by_number : (o : Option ℕ) → env.number p.1 ≡ o → Distinct (results (tasks_code (take_parameters env (suc k) ps) n).code)
          → Distinct (results (tasks_code ((elim o as (λ w. List Task) [ Some v ↦ take_tasks (param_mask k) (param_origin k) v p.0 | None ↦ [] ]) ++ take_parameters env (suc k) ps) n).code)
      by_number None e go = go
      by_number (Some v) e go = (mask_apart v e, (λ i. apart (origin_name v) (v, e, inr refl) i, go))

      by_clean : (b : Bool) → Distinct (results (tasks_code (take_parameters env (suc k) ps) n).code)
          → Distinct (results (tasks_code ((if b then [] else elim (env.number p.1) as (λ w. List Task) [ Some v ↦ take_tasks (param_mask k) (param_origin k) v p.0 | None ↦ [] ]) ++ take_parameters env (suc k) ps) n).code)
      by_clean true go = go
      by_clean false go = by_number (env.number p.1) refl go

  params_named : (f : Func) (n : ℕ) → Distinct (parameter_names f) → Free (parameter_names f) → Named n n (Of (parameter_names f)) (parameter_names f ++ results (taken given env f n))
  params_named f n d free = record {
    once = distinct_join (parameter_names f) (results (taken given env f n)) d (taken_once 0 f.params n d) (λ y i j. let m = taken_marks 0 f.params n y j in own_no_mark m.0 y (free y i) m.2);
    known = λ y i. inl (⊎_elim (λ l. inl l) (λ r. inr (taken_marks 0 f.params n y r)) (in_either (parameter_names f) (results (taken given env f n)) y i));
  }

  -- the locals of the instrumented form stand once
  pub once_kept : (f : Func) (h : Here) (n : ℕ) → 2 * size + 1 ≤ n → repeats [] (locals f) ≡ [] → ((x : Name) → In (locals f) x → is_reserved x ≡ false)
      → repeats [] (locals (passed given env f h n)) ≡ []
  once_kept f h n room e free =
      let d = to_distinct (locals f) e in
      let params = parameter_names f in
      let own = flat_map block_locals f.blocks in
      let parts = distinct_both params own d in
      let b = blocks_named f.blocks h n room parts.1 (free_right params own free) in
      to_once (locals (passed given env f h n))
      (enter_distinct params (taken given env f n) (pass_blocks given env f.blocks h n)
      (of_join n n (blocks_next f.blocks h n) params own (params ++ results (taken given env f n)) (flat_map block_locals (pass_blocks given env f.blocks h n)) room (omega arith) b.0 d free
      (params_named f n parts.0 (free_left params own free)) b.1).once)

  -- they are the function's, or inserted ones
  pub names_known : (f : Func) (h : Here) (n : ℕ) → 2 * size + 1 ≤ n → repeats [] (locals f) ≡ [] → ((x : Name) → In (locals f) x → is_reserved x ≡ false)
      → (y : Name) → In (locals (passed given env f h n)) y → In (locals f) y ⊎ ((k : ℕ) × (y ≡ msan_name k))
  names_known f h n room e free y i =
      let d = to_distinct (locals f) e in
      let params = parameter_names f in
      let own = flat_map block_locals f.blocks in
      let parts = distinct_both params own d in
      let b = blocks_named f.blocks h n room parts.1 (free_right params own free) in
      ⊎_elim (λ o. ⊎_elim (λ q. inl q) (λ q. ⊎_elim (λ a. inr (2 * q.2.0 + 1, a)) (λ a. inr (2 * q.2.0 + 2, a)) q.2.2) o) (λ q. inr (q.0, q.3))
      ((of_join n n (blocks_next f.blocks h n) params own (params ++ results (taken given env f n)) (flat_map block_locals (pass_blocks given env f.blocks h n)) room (omega arith) b.0 d free
      (params_named f n parts.0 (free_left params own free)) b.1).known y (enter_in params (taken given env f n) (pass_blocks given env f.blocks h n) y i))
