-- Thread calls on words and worlds that are alike.
use Rattle.std.proofs.Common.{◌≡◌, ◌+◌, ℕ, zero, suc, Bool, true, false, not, ◌&&◌, List, [], ◌∷◌, map, length, eqb, leb, Option, Some, None, is_some, slice_get, if◌then◌else◌, refl, sym, ◌∙◌, subst}
use Rattle.std.proofs.lemmas.Bool.{false≢true}
use Rattle.ms_bits.specs.Completion.{Agrees}
use Rattle.ms_bits.specs.Maps.{within, byte_of}
use Rattle.ms_bits.specs.declared.traps.Trap.TheVariants as trap
use Rattle.ms_ir.specs.declared.syntax.Name.{Name}
use Rattle.ms_ir.specs.declared.syntax.Ty.{Ty}
use Rattle.ms_ir.specs.declared.syntax.Operand.{Operand}
use Rattle.ms_ir.specs.declared.syntax.Op.{Op}
use Rattle.ms_ir.specs.declared.syntax.Op.TheVariants as op
use Rattle.ms_ir.specs.declared.calls.External.{External}
use Rattle.ms_ir.specs.declared.calls.External.TheVariants.{PthreadCreate, PthreadJoin, SchedYield}
use Rattle.ms_ir.specs.Names.{lookup, externals}
use Rattle.ms_ir.specs.Instructions.{external_named}
use Rattle.ms_ir.specs.ThreadCalls.{is_asked}
use Rattle.ms_runs.specs.World.{World, Thread, Setting, Here, Effect, Gives, Enters, Ends, traps, stuck, word}
use Rattle.ms_runs.specs.Memory.{is_good, store_number, set_shadow}
use Rattle.ms_runs.specs.Threads.{fiber_limit, thread_at, has_ended, changed_at, changed_thread, with_fiber, with_joined, join_answer}
use Rattle.ms_runs.specs.Externals.{external, create, join}
use Rattle.ms_runs.specs.Origins.{unpoison, store_origin, thread_result}
use Rattle.ms_runs.specs.Act.{act}
use Rattle.ms_runs.specs.Poisoned.{Poisoned}
use Rattle.ms_runs.specs.Masks.{by_formulas, word_at, answer_mask, answer_origin, as_result}
use Rattle.ms_runs.specs.Uses.{uses, callee_uses}
use Rattle.ms_runs.specs.Shadow.{callee_planes, planes, poisoned_result}
use Rattle.ms_runs.specs.LowEqual.{LowWord, LowWorld}
use Rattle.ms_runs_fills_laws.proofs.Effects.{EffectsAlike}
use Rattle.ms_runs_fills_laws.proofs.Passed.{AllPassed}
use Rattle.ms_runs_fills_laws.proofs.Reading.{AlikeWords, word_alike, number_same, refill}
use Rattle.ms_runs_fills_laws.proofs.Worlds.{Unseen, other, BytesAlike, low_other, clean_bytes_low, stored_low, store_origin_low, within_none}
use Rattle.ms_threads_laws.proofs.ThreadCalls.{ThreadCall}
use Rattle.ms_runs_good_laws.proofs.Readings.{word_number}

-- ---- words whose checks passed

-- the words of a thread call that are checked have no poisoned bit
abbrev pub WordsClean : Option External → List Poisoned → Type 0
WordsClean None ps = Unit {0}
WordsClean (Some PthreadCreate) ps = ((word_at 0 ps).mask ≡ 0) × ((word_at 3 ps).mask ≡ 0)
WordsClean (Some PthreadJoin) ps = ((word_at 0 ps).mask ≡ 0) × ((word_at 1 ps).mask ≡ 0)
WordsClean (Some e) ps = Unit {0}

abbrev pub CallClean : (Name → Option ℕ) → Op → List Poisoned → Type 0
CallClean func (op.Call ret callee args) ps = WordsClean (external_named func callee) ps
CallClean func o ps = Unit {0}

pub passed_clean : (func : Name → Option ℕ) (main : Bool) (o : Op) (w : World) (ps : List Poisoned) → ThreadCall func o → AllPassed w ps (uses func main o) → CallClean func o ps
passed_clean func main (op.Call ret callee args) w ps asked p = by_external (external_named func callee) asked p
  where
    by_external : (e : Option External) → is_asked e ≡ true → AllPassed w ps (callee_uses e args) → WordsClean e ps
    by_external None asked p = tt
    by_external (Some PthreadCreate) asked p = (p.0, p.1.1.0)
    by_external (Some PthreadJoin) asked p = (p.0, p.1.0)
    by_external (Some SchedYield) asked p = tt
    by_external (Some e) asked p = absurd (false≢true asked)
passed_clean func main _ w ps asked p = absurd asked

-- ---- a joined fiber has still ended

joined_at : (k : ℕ) (ts : List Thread) → has_ended (slice_get (changed_at k (λ t. record t { joined = true }) ts) k) ≡ has_ended (slice_get ts k)
joined_at k [] = refl
joined_at zero (t ∷ ts) = refl
joined_at (suc k) (t ∷ ts) = joined_at k ts

joined_ended : (id : ℕ) (ts : List Thread) → has_ended (thread_at id (changed_thread id (λ t. record t { joined = true }) ts)) ≡ has_ended (thread_at id ts)
joined_ended zero ts = refl
joined_ended (suc k) ts = joined_at k ts

-- ---- effects

-- numbers that a call is given
record Numbers : Type 0 where
  one : ℕ
  two : ℕ
  three : ℕ

module _ (s : Setting) (fill : List ℕ) (site : ℕ) (l l' : ℕ → World → Poisoned) (lifts : (v : ℕ) (u z : World) → LowWord (l v u) (l' v z)) (w : World) (b : Unseen) (alike : BytesAlike w b) where
  none_clean : (id : ℕ) → LowWorld (unpoison id 0 w) (unpoison id 0 (other w b))
  none_clean id = record {
    allocs = refl;
    shadow = refl;
    origins = refl;
    pairs = refl;
    made = refl;
    input = refl;
    output = refl;
    reports = refl;
    blind = refl;
    turn = refl;
    threads = refl;
    answer_masks = refl;
    answer_origins = refl;
    answers = alike.1;
    bytes = λ x. by_test (within id 0 x) (within_none id x) x;
  }
    where
      by_test : (t : Bool) → t ≡ false → (x : ℕ) → Agrees 8 (if t then 0 else w.shadow x) (w.bytes x) (b.bytes x)
      by_test true e x = absurd (false≢true (sym e))
      by_test false e x = alike.0 x

  -- what `pthread_create` cleans
  abbrev created : ℕ → ℕ → World → World
  created id v u = unpoison id (if eqb v 0 then 8 else 0) u

  abbrev CreateAlike : (id other_id : ℕ) → Numbers → Numbers → Type 0
  CreateAlike id other_id n k = EffectsAlike l l' (created id) (created other_id) (create site n.one n.two n.three w) (create site k.one k.two k.three (other w b))

  create_numbers : (n : Numbers) → CreateAlike n.one n.one n n
  create_numbers n = by_tests (leb fiber_limit (length w.threads + 1)) (is_good w n.one 8) refl
    where
      by_tests : (t g : Bool) → is_good w n.one 8 ≡ g
          → EffectsAlike l l' (created n.one) (created n.one)
          (if t then Gives 11 w else (if g then Gives 0 (store_number n.one 8 (length w.threads + 1) (with_fiber n.two n.three w)) else traps trap.BadAddress site w))
          (if t then Gives 11 (other w b) else (if g then Gives 0 (store_number n.one 8 (length w.threads + 1) (with_fiber n.two n.three (other w b))) else traps trap.BadAddress site (other w b)))
      by_tests true g e = (lifts 11 w (other w b), none_clean n.one)
      by_tests false true e = (
        lifts 0 _ _,
        subst (λ t. LowWorld
            (if t then set_shadow n.one 8 (λ k. 0) (store_number n.one 8 (length w.threads + 1) (with_fiber n.two n.three w)) else store_number n.one 8 (length w.threads + 1) (with_fiber n.two n.three w))
            (if t then set_shadow n.one 8 (λ k. 0) (store_number n.one 8 (length w.threads + 1) (with_fiber n.two n.three (other w b))) else store_number n.one 8 (length w.threads + 1) (with_fiber n.two n.three (other w b))))
            (sym e) (clean_bytes_low n.one 8 (byte_of (length w.threads + 1)) (with_fiber n.two n.three w) b alike),
      )
      by_tests false false e = (refl, low_other w b alike)

  -- what `pthread_join` does to shadow
  abbrev resulted : Setting → (id r : ℕ) → ℕ → World → World
  resulted g id r v u = thread_result g r id v site u

  join_numbers : (id r : ℕ) → EffectsAlike l l' (resulted s id r) (resulted (refill s fill) id r) (join site id r w) (join site id r (other w b))
  join_numbers id r = by_tests (eqb (join_answer w.turn id w.threads) 0) refl (has_ended (thread_at id w.threads)) refl (eqb r 0) refl (is_good w r 8) refl
    where
      by_tests : (t : Bool) → eqb (join_answer w.turn id w.threads) 0 ≡ t → (h : Bool) → has_ended (thread_at id w.threads) ≡ h → (z : Bool) → eqb r 0 ≡ z → (g : Bool) → is_good w r 8 ≡ g
          → EffectsAlike l l' (resulted s id r) (resulted (refill s fill) id r)
          (if t then (if h then (if z then Gives 0 (with_joined id w) else (if g then Gives 0 (store_number r 8 (w.answers id) (with_joined id w)) else traps trap.BadAddress site w)) else traps trap.Deadlock site w)
          else Gives (join_answer w.turn id w.threads) w)
          (if t then (if h then (if z then Gives 0 (with_joined id (other w b)) else (if g then Gives 0 (store_number r 8 (b.answers id) (with_joined id (other w b))) else traps trap.BadAddress site (other w b))) else traps trap.Deadlock site (other w b))
          else Gives (join_answer w.turn id w.threads) (other w b))
      by_tests false e h eh z ez g eg = (
        lifts _ _ _,
        subst (λ t. LowWorld
            (if t && not (eqb r 0) && is_good w r 8 && has_ended (thread_at id w.threads)
            then store_origin s r (w.answer_masks id) (w.answer_origins id) site (set_shadow r 8 (byte_of (w.answer_masks id)) w) else w)
            (if t && not (eqb r 0) && is_good w r 8 && has_ended (thread_at id w.threads)
            then store_origin (refill s fill) r (w.answer_masks id) (w.answer_origins id) site (set_shadow r 8 (byte_of (w.answer_masks id)) (other w b)) else other w b)) (sym e) (low_other w b alike),
      )
      by_tests true e false eh z ez g eg = (refl, low_other w b alike)
      by_tests true e true eh true ez g eg = (
        lifts _ _ _,
        subst (λ t. LowWorld
            (if not t && is_good w r 8 && has_ended (thread_at id (changed_thread id (λ t. record t { joined = true }) w.threads))
            then store_origin s r (w.answer_masks id) (w.answer_origins id) site (set_shadow r 8 (byte_of (w.answer_masks id)) (with_joined id w)) else with_joined id w)
            (if not t && is_good w r 8 && has_ended (thread_at id (changed_thread id (λ t. record t { joined = true }) w.threads))
            then store_origin (refill s fill) r (w.answer_masks id) (w.answer_origins id) site (set_shadow r 8 (byte_of (w.answer_masks id)) (with_joined id (other w b))) else with_joined id (other w b)))
            (sym ez) (low_other (with_joined id w) b alike),
      )
      by_tests true e true eh false ez true eg =
          let u = store_number r 8 (w.answers id) (with_joined id w) in
          let v = store_number r 8 (b.answers id) (with_joined id (other w b)) in
          let cond : (not (eqb r 0) && is_good w r 8 && has_ended (thread_at id (changed_thread id (λ t. record t { joined = true }) w.threads))) ≡ true =
          λ i. not (ez i) && eg i && (joined_ended id w.threads ∙ eh) i in (
            lifts _ _ _,
            subst (λ t. LowWorld
                (if t then store_origin s r (w.answer_masks id) (w.answer_origins id) site (set_shadow r 8 (byte_of (w.answer_masks id)) u) else u)
                (if t then store_origin (refill s fill) r (w.answer_masks id) (w.answer_origins id) site (set_shadow r 8 (byte_of (w.answer_masks id)) v) else v)) (sym cond)
                (store_origin_low s r (w.answer_masks id) (w.answer_origins id) site (set_shadow r 8 (byte_of (w.answer_masks id)) u) (set_shadow r 8 (byte_of (w.answer_masks id)) v)
                (stored_low r 8 (w.answer_masks id) (w.answers id) (b.answers id) (with_joined id w) b alike (alike.1 id))),
          )
      by_tests true e true eh false ez false eg = (refl, low_other w b alike)

  yield_alike : EffectsAlike l l' (λ v u. u) (λ v u. u) (Gives 0 w) (Gives 0 (other w b))
  yield_alike = (lifts 0 w (other w b), low_other w b alike)

  -- ---- the numbers of words

  module _ (ps qs : List Poisoned) (words : AlikeWords ps qs) where
    same_at : (k : ℕ) → (word_at k ps).mask ≡ 0 → (word_at k qs).value ≡ (word_at k ps).value
    same_at k z = sym (number_same (word_at k ps) (word_at k qs) (word_alike k ps qs words) z)

    -- the numbers at three places
    abbrev numbers_at : List ℕ → (i j k : ℕ) → Numbers
    numbers_at vs i j k = record { one = word i vs; two = word j vs; three = word k vs }

    abbrev at_words : (i j k : ℕ) → Numbers
    at_words i j k = record { one = (word_at i ps).value; two = (word_at j ps).value; three = (word_at k ps).value }

    left_numbers : (i j k : ℕ) → numbers_at (map (λ p. p.value) ps) i j k ≡ at_words i j k
    left_numbers i j k = λ t. record { one = word_number i ps t; two = word_number j ps t; three = word_number k ps t }

    right_numbers : (i j k : ℕ) → (word_at i ps).mask ≡ 0 → (word_at j ps).mask ≡ 0 → (word_at k ps).mask ≡ 0 → numbers_at (map (λ p. p.value) qs) i j k ≡ at_words i j k
    right_numbers i j k x y z =
        let a = word_number i qs ∙ same_at i x in let c = word_number j qs ∙ same_at j y in let d = word_number k qs ∙ same_at k z in λ t. record { one = a t; two = c t; three = d t }

    create_alike : (word_at 0 ps).mask ≡ 0 → (word_at 2 ps).mask ≡ 0 → (word_at 3 ps).mask ≡ 0
        → CreateAlike (word_at 0 ps).value (word_at 0 qs).value (numbers_at (map (λ p. p.value) ps) 0 2 3) (numbers_at (map (λ p. p.value) qs) 0 2 3)
    create_alike x y z =
        subst (λ id. CreateAlike (word_at 0 ps).value id (numbers_at (map (λ p. p.value) ps) 0 2 3) (numbers_at (map (λ p. p.value) qs) 0 2 3)) (sym (same_at 0 x))
        (subst (λ n. CreateAlike (word_at 0 ps).value (word_at 0 ps).value n (numbers_at (map (λ p. p.value) qs) 0 2 3)) (sym (left_numbers 0 2 3))
        (subst (λ n. CreateAlike (word_at 0 ps).value (word_at 0 ps).value (at_words 0 2 3) n) (sym (right_numbers 0 2 3 x y z)) (create_numbers (at_words 0 2 3))))

    -- the words of a join, whose planes see them by their own
    abbrev JoinedAlike : (id r id' r' : ℕ) → Numbers → Numbers → Type 0
    JoinedAlike id r id' r' n k = EffectsAlike l l' (resulted s id r) (resulted (refill s fill) id' r') (join site n.one n.two w) (join site k.one k.two (other w b))

    join_alike : (word_at 0 ps).mask ≡ 0 → (word_at 1 ps).mask ≡ 0
        → JoinedAlike (word_at 0 ps).value (word_at 1 ps).value (word_at 0 qs).value (word_at 1 qs).value (numbers_at (map (λ p. p.value) ps) 0 1 0) (numbers_at (map (λ p. p.value) qs) 0 1 0)
    join_alike x y =
        subst (λ id. JoinedAlike (word_at 0 ps).value (word_at 1 ps).value id (word_at 1 qs).value (numbers_at (map (λ p. p.value) ps) 0 1 0) (numbers_at (map (λ p. p.value) qs) 0 1 0)) (sym (same_at 0 x))
        (subst (λ r. JoinedAlike (word_at 0 ps).value (word_at 1 ps).value (word_at 0 ps).value r (numbers_at (map (λ p. p.value) ps) 0 1 0) (numbers_at (map (λ p. p.value) qs) 0 1 0)) (sym (same_at 1 y))
        (subst (λ n. JoinedAlike (word_at 0 ps).value (word_at 1 ps).value (word_at 0 ps).value (word_at 1 ps).value n (numbers_at (map (λ p. p.value) qs) 0 1 0)) (sym (left_numbers 0 1 0))
        (subst (λ n. JoinedAlike (word_at 0 ps).value (word_at 1 ps).value (word_at 0 ps).value (word_at 1 ps).value (at_words 0 1 0) n) (sym (right_numbers 0 1 0 x y x))
        (join_numbers (word_at 0 ps).value (word_at 1 ps).value))))

    abbrev ExternalAlike : (root : ℕ) → List Ty → Option External → Type 0
    ExternalAlike root ts e =
        EffectsAlike l l' (callee_planes s site root e ps w) (callee_planes (refill s fill) site root e qs (other w b))
        (elim e as (λ z. Effect) [ Some x ↦ external s site x ts (map (λ p. p.value) ps) w | None ↦ Ends stuck w ])
        (elim e as (λ z. Effect) [ Some x ↦ external (refill s fill) site x ts (map (λ p. p.value) qs) (other w b) | None ↦ Ends stuck (other w b) ])

    pub external_alike : (root : ℕ) (ts : List Ty) (e : Option External) → is_asked e ≡ true → WordsClean e ps → (e ≡ Some PthreadCreate → (word_at 2 ps).mask ≡ 0) → ExternalAlike root ts e
    external_alike root ts None asked clean third = absurd (false≢true asked)
    external_alike root ts (Some PthreadCreate) asked clean third = create_alike clean.0 (third refl) clean.1
    external_alike root ts (Some PthreadJoin) asked clean third = join_alike clean.0 clean.1
    external_alike root ts (Some SchedYield) asked clean third = yield_alike
    external_alike root ts (Some e) asked clean third = absurd (false≢true asked)

-- ---- the call

-- what is put under the name of a call
abbrev result_of : Option Ty → Option External → ℕ → List Poisoned → Poisoned
result_of ret e v ps = record { value = v; mask = as_result ret (answer_mask e ps); origin = answer_origin e ps }

asked_results : (ret : Option Ty) (e : Option External) → is_asked e ≡ true → (v : ℕ) (ps qs : List Poisoned) → LowWord (result_of ret e v ps) (result_of ret e v qs)
asked_results ret None asked v ps qs = absurd (false≢true asked)
asked_results ret (Some PthreadCreate) asked v ps qs = record { mask = refl; origin = refl; value = λ i k. refl }
asked_results ret (Some PthreadJoin) asked v ps qs = record { mask = refl; origin = refl; value = λ i k. refl }
asked_results ret (Some SchedYield) asked v ps qs = record { mask = refl; origin = refl; value = λ i k. refl }
asked_results ret (Some e) asked v ps qs = absurd (false≢true asked)

module _ (s : Setting) (fill : List ℕ) (h : Here) (root : ℕ) (w : World) (b : Unseen) (alike : BytesAlike w b) (ps qs : List Poisoned) (words : AlikeWords ps qs) where
  abbrev pub OpAlike : Op → Type 0
  OpAlike o =
      EffectsAlike (poisoned_result by_formulas o ps) (poisoned_result by_formulas o qs) (planes s h.site root o ps w) (planes (refill s fill) h.site root o qs (other w b))
      (act s h o (map (λ p. p.value) ps) w) (act (refill s fill) h o (map (λ p. p.value) qs) (other w b))

  -- a thread call whose checks passed comes to the same in both
  pub call_alike : (ret : Option Ty) (callee : Name) (args : List (Ty × Operand)) → is_asked (external_named s.func callee) ≡ true → WordsClean (external_named s.func callee) ps
      → (s.func callee ≡ None → lookup externals callee ≡ Some PthreadCreate → (word_at 2 ps).mask ≡ 0) → OpAlike (op.Call ret callee args)
  call_alike ret callee args asked clean third = by_own (s.func callee) refl asked clean
    where
      by_own : (q : Option ℕ) → s.func callee ≡ q → is_asked (if is_some q then None else lookup externals callee) ≡ true → WordsClean (if is_some q then None else lookup externals callee) ps
          → EffectsAlike (poisoned_result by_formulas (op.Call ret callee args) ps) (poisoned_result by_formulas (op.Call ret callee args) qs)
          (callee_planes s h.site root (if is_some q then None else lookup externals callee) ps w) (callee_planes (refill s fill) h.site root (if is_some q then None else lookup externals callee) qs (other w b))
          (elim q as (λ z. Effect) [
            | Some f ↦ Enters f w
            | None ↦ elim (if is_some q then None else lookup externals callee) as (λ z. Effect) [
              | Some x ↦ external s h.site x (map (λ a. a.0) args) (map (λ p. p.value) ps) w
              | None ↦ Ends stuck w
            ]
          ])
          (elim q as (λ z. Effect) [
            | Some f ↦ Enters f (other w b)
            | None ↦ elim (if is_some q then None else lookup externals callee) as (λ z. Effect) [
              | Some x ↦ external (refill s fill) h.site x (map (λ a. a.0) args) (map (λ p. p.value) qs) (other w b)
              | None ↦ Ends stuck (other w b)
            ]
          ])
      by_own (Some f) own asked clean = absurd (false≢true asked)
      by_own None own asked clean =
          external_alike s fill h.site (poisoned_result by_formulas (op.Call ret callee args) ps) (poisoned_result by_formulas (op.Call ret callee args) qs)
          (λ v u z. asked_results ret (lookup externals callee) asked v ps qs) w b alike ps qs words root (map (λ a. a.0) args) (lookup externals callee) asked clean (third own)
