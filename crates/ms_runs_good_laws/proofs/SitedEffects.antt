-- Where an instruction of a valid module ends a run by a trap, it has a site.
use Rattle.std.proofs.Common.{◌≡◌, ◌+◌, ◌*◌, ◌-◌, ◌%◌, ◌/◌, ◌^◌, ℕ, List, [], ◌∷◌, ◌++◌, length, map, min, Bool, false, ◌&&◌, leb, ltb, eqb, Option, Some, None, is_some, Result, Ok, Err, refl, ap, ◌∙◌, arith, if◌then◌else◌, true≢false, bit_xor}
use Rattle.ms_bits.specs.declared.traps.Trap.{Trap}
use Rattle.ms_bits.specs.declared.traps.Trap.TheVariants as trap
use Rattle.ms_bits.specs.Maps.{byte_of, bytes_at, number_at, first_nonzero}
use Rattle.ms_bits.specs.Arithmetic.{binary_of}
use Rattle.ms_bits.specs.WordFunctions.{bits_of, word_answer}
use Rattle.ms_bits.specs.Conversions.{compare_of, cast_of}
use Rattle.ms_runs.specs.Threads.{fiber_limit, thread_at, has_ended, with_joined, join_answer}
use Rattle.ms_runs.specs.declared.runs.End.TheVariants as «end»
use Rattle.ms_runs.specs.declared.runs.Report.{Report}
use Rattle.ms_ir.specs.declared.syntax.Name.{Name}
use Rattle.ms_ir.specs.declared.syntax.Ty.{Ty}
use Rattle.ms_ir.specs.declared.syntax.Module.{Module}
use Rattle.ms_ir.specs.declared.syntax.Op.{Op}
use Rattle.ms_ir.specs.declared.syntax.Op.TheVariants as op
use Rattle.ms_ir.specs.declared.calls.External.{External}
use Rattle.ms_ir.specs.declared.calls.External.TheVariants.{Malloc, Calloc, Realloc, Free, Memcpy, Memmove, Memset, Memcmp, Strlen, Putchar, Puts, Getchar, Read, Write, Exit, Abort, LlvmMemcpy, LlvmMemmove, LlvmMemset, LifetimeStart, LifetimeEnd, Printf, LlvmTrap, LlvmAssume, LlvmObjectSize, PthreadCreate, PthreadJoin, SchedYield, Word}
use Rattle.ms_ir.specs.declared.calls.RuntimeFn.{RuntimeFn}
use Rattle.ms_ir.specs.declared.calls.RuntimeFn.TheVariants.{Check, CheckMemory, CheckString, CheckFormat}
use Rattle.ms_ir.specs.Names.{lookup, externals, runtime_functions, slots}
use Rattle.ms_ir.specs.Layout.{width_of, stored_size, size_in}
use Rattle.ms_ir.specs.Areas.{Heap}
use Rattle.ms_runs.specs.World.{World, Setting, Here, Effect, Gives, Does, Goes, Enters, Leaves, Ends, traps, stuck, word, gives}
use Rattle.ms_runs.specs.Memory.{fits, next_base, local_area, is_good, heap_size, end_block, make, make_unset, copy_bytes, copy_shadow, set_shadow, store_number, bytes_left}
use Rattle.ms_runs.specs.Origins.{trail, is_hidden, add_report, check, check_byte, check_memory, check_string, asks_string_at, check_format, first_in_string}
use Rattle.ms_runs.specs.Externals.{minus_one, malloc, reallocated, realloc, free, where_good, string_at, printed, taken, next_byte, formatted, prints, external, joined}
use Rattle.ms_runs.specs.Runtime.{runtime}
use Rattle.ms_ir.specs.Instructions.{external_named, is_phi}
use Rattle.ms_runs.specs.Act.{truth, act}
use Rattle.ms_runs.specs.Plain.{shadow_bits, in_slots, act_marked}
use Rattle.ms_runs_good_laws.specs.Sited.{IsSite, HasSite}
use Rattle.ms_runs_good_laws.proofs.WorldChanges.{chosen, either}

-- an effect that ends the run has a site, and a return is one from another function than `main`
abbrev pub IsSited : Module → (main : Bool) → Effect → Type 0
IsSited m main (Ends e world) = HasSite m e
IsSited m main (Leaves world) = main ≡ false
IsSited m main effect = Unit {0}

-- ---- externals

module _ (m : Module) (main : Bool) (setting : Setting) (site : ℕ) (sited : IsSite m site) (w : World) where
  malloc_sited : (n : ℕ) → IsSited m main (malloc setting.fill n w)
  malloc_sited n = either (IsSited m main) (fits Heap n w) (Gives (next_base Heap w) (make_unset setting.fill Heap n w)) (Gives 0 w) tt tt

  realloc_sited : (p n : ℕ) → IsSited m main (realloc setting.fill site p n w)
  realloc_sited p n =
      either (IsSited m main) (eqb p 0) (malloc setting.fill n w) (elim (heap_size w p) [
        | Some old ↦ reallocated setting.fill p old n w
        | None ↦ traps trap.BadFree site w
      ]) (malloc_sited n) (by_size (heap_size w p))
    where
      by_size : (o : Option ℕ) → IsSited m main (elim o [ Some old ↦ reallocated setting.fill p old n w | None ↦ traps trap.BadFree site w ])
      by_size (Some old) =
          let q = next_base Heap w in let k = min old n in
          either (IsSited m main) (fits Heap n w) (Gives q (end_block p (copy_shadow q p k (copy_bytes q p k (make_unset setting.fill Heap n w))))) (Gives 0 w) tt tt
      by_size None = sited

  free_sited : (p : ℕ) → IsSited m main (free site p w)
  free_sited p =
      either (IsSited m main) (eqb p 0) (Does w) (if is_some (heap_size w p) then Does (end_block p w) else traps trap.BadFree site w) tt
      (either (IsSited m main) (is_some (heap_size w p)) (Does (end_block p w)) (traps trap.BadFree site w) tt sited)

  where_good_sited : (a n : ℕ) (e : Effect) → IsSited m main e → IsSited m main (where_good site a n w e)
  where_good_sited a n e h = either (IsSited m main) (is_good w a n) e (traps trap.BadAddress site w) h sited

  both_good_sited : (a b n : ℕ) (e : Effect) → IsSited m main e → IsSited m main (where_good site a n w (where_good site b n w e))
  both_good_sited a b n e h = where_good_sited a n (where_good site b n w e) (where_good_sited b n e h)

  printed_sited : (v : ℕ) (bs : List ℕ) → IsSited m main (printed site bs (Gives v) w)
  printed_sited v bs = either (IsSited m main) (leb (length w.output + length bs) 1048576) (Gives v (record w { output = w.output ++ bs })) (traps trap.Output site w) tt sited

  strlen_sited : (o : Option (List ℕ)) → IsSited m main (elim o [ Some bs ↦ Gives (length bs) w | None ↦ traps trap.BadAddress site w ])
  strlen_sited (Some bs) = tt
  strlen_sited None = sited

  puts_sited : (o : Option (List ℕ)) → IsSited m main (elim o [ Some bs ↦ printed site (bs ++ 10 ∷ []) (Gives 1) w | None ↦ traps trap.BadAddress site w ])
  puts_sited (Some bs) = printed_sited 1 (bs ++ 10 ∷ [])
  puts_sited None = sited

  next_byte_sited : (bs : List ℕ) → IsSited m main (next_byte bs w)
  next_byte_sited [] = tt
  next_byte_sited (b ∷ bs) = tt

  prints_sited : (r : Result (List ℕ) Trap) → IsSited m main (prints site r w)
  prints_sited (Ok bs) = printed_sited (length bs) bs
  prints_sited (Err t) = sited

  answer_sited : (r : Result ℕ Trap) → IsSited m main (gives site r w)
  answer_sited (Ok v) = tt
  answer_sited (Err t) = sited

  pub external_sited : (e : External) (types : List Ty) (words : List ℕ) → IsSited m main (external setting site e types words w)
  external_sited Malloc types words = malloc_sited (word 0 words)
  external_sited Calloc types words =
      let n = word 0 words * word 1 words in
      either (IsSited m main) (ltb n (2 ^ 64) && fits Heap n w) (Gives (next_base Heap w) (make Heap n w)) (Gives 0 w) tt tt
  external_sited Realloc types words = realloc_sited (word 0 words) (word 1 words)
  external_sited Free types words = free_sited (word 0 words)
  external_sited Memcpy types words = both_good_sited (word 0 words) (word 1 words) (word 2 words) _ tt
  external_sited Memmove types words = both_good_sited (word 0 words) (word 1 words) (word 2 words) _ tt
  external_sited Memset types words = where_good_sited (word 0 words) (word 2 words) _ tt
  external_sited Memcmp types words = both_good_sited (word 0 words) (word 1 words) (word 2 words) _ tt
  external_sited Strlen types words = strlen_sited (string_at w (word 0 words))
  external_sited Putchar types words = printed_sited (word 0 words % 256) (word 0 words % 256 ∷ [])
  external_sited Puts types words = puts_sited (string_at w (word 0 words))
  external_sited Getchar types words = next_byte_sited w.input
  external_sited Read types words =
      where_good_sited (word 1 words) (word 2 words) (if eqb (word 0 words) 0 then taken (word 1 words) (word 2 words) w else Gives (minus_one 64) w)
      (either (IsSited m main) (eqb (word 0 words) 0) (taken (word 1 words) (word 2 words) w) (Gives (minus_one 64) w) tt tt)
  external_sited Write types words =
      let bs = bytes_at w.bytes (word 1 words) (word 2 words) in
      where_good_sited (word 1 words) (word 2 words) (if eqb (word 0 words) 1 then printed site bs (Gives (word 2 words)) w else Gives (minus_one 64) w)
      (either (IsSited m main) (eqb (word 0 words) 1) (printed site bs (Gives (word 2 words)) w) (Gives (minus_one 64) w) (printed_sited (word 2 words) bs) tt)
  external_sited Exit types words = tt
  external_sited Abort types words = sited
  external_sited LlvmMemcpy types words = both_good_sited (word 0 words) (word 1 words) (word 2 words) _ tt
  external_sited LlvmMemmove types words = both_good_sited (word 0 words) (word 1 words) (word 2 words) _ tt
  external_sited LlvmMemset types words = where_good_sited (word 0 words) (word 2 words) _ tt
  external_sited LifetimeStart types words = where_good_sited (word 1 words) (word 0 words) _ tt
  external_sited LifetimeEnd types words = tt
  external_sited LlvmTrap types words = sited
  external_sited LlvmAssume types words = either (IsSited m main) (eqb (word 0 words) 0) (traps trap.Unreachable site w) (Does w) sited tt
  external_sited LlvmObjectSize types words = tt
  external_sited PthreadCreate types words = either (IsSited m main) (leb fiber_limit (length w.threads + 1)) (Gives 11 w) _ tt (where_good_sited (word 0 words) 8 _ tt)
  external_sited PthreadJoin types words =
      let id = word 0 words in let r = word 1 words in
      either (IsSited m main) (eqb (join_answer w.turn id w.threads) 0) (if has_ended (thread_at id w.threads) then joined site id r w else traps trap.Deadlock site w) (Gives (join_answer w.turn id w.threads) w)
      (either (IsSited m main) (has_ended (thread_at id w.threads)) (joined site id r w) (traps trap.Deadlock site w)
      (either (IsSited m main) (eqb r 0) (Gives 0 (with_joined id w)) _ tt (where_good_sited r 8 _ tt)) sited) tt
  external_sited SchedYield types words = tt
  external_sited Printf types words = prints_sited (formatted w types words)
  external_sited (Word f n) types words = answer_sited (word_answer f (bits_of n) (word 0 words) (word 1 words) (word 2 words))

-- ---- checks

-- a check goes on or ends the run as reported
abbrev pub Checks : Effect → Type 0
Checks (Does w) = Unit {0}
Checks (Ends e w) = e ≡ «end».Reported
Checks e = ⊥

module _ (setting : Setting) (w : World) where
  reported : (report : Report) → Checks (add_report setting report w)
  reported report =
      let next = record w { reports = w.reports ++ report ∷ [] } in
      either Checks (is_hidden setting report w) (Does w) _ tt (either Checks (leb setting.limit (length next.reports)) (Ends «end».Reported next) (Does next) refl tt)

  pub check_checks : (mask width origin kind part site : ℕ) → Checks (check setting mask width origin kind part site w)
  check_checks mask width origin kind part site =
      let report : Report = record {
        site = site;
        kind = kind;
        part = part;
        width = width;
        mask = mask;
        origin = origin;
        chain = trail setting w origin;
      } in
      either Checks (eqb mask 0) (Does w) (add_report setting report w) tt (reported report)

  byte_checks : (kind site start : ℕ) (o : Option ℕ) → Checks (check_byte setting kind site start o w)
  byte_checks kind site start None = tt
  byte_checks kind site start (Some x) = check_checks (w.shadow x) 8 (w.origins (x / 4)) kind (x - start) site

  pub memory_checks : (a n kind site : ℕ) → Checks (check_memory setting a n kind site w)
  memory_checks a n kind site = either Checks (is_good w a n) (check_byte setting kind site a (first_nonzero w.shadow a n) w) (Does w) (byte_checks kind site a (first_nonzero w.shadow a n)) tt

  pub string_checks : (a site : ℕ) → Checks (check_string setting a site w)
  string_checks a site = byte_checks 10 site a (first_in_string w a (bytes_left w a))

  pub format_checks : (format index a site : ℕ) → Checks (check_format setting format index a site w)
  format_checks format index a site = either Checks (asks_string_at w format index) (check_string setting a site w) (Does w) (string_checks a site) tt

checks_sited : (m : Module) (main : Bool) (e : Effect) → Checks e → IsSited m main e
checks_sited m main (Does w) h = tt
checks_sited m main (Ends («end».Trap k s) w) h = absurd (no_trap h)
  where
    no_trap : («end».Trap k s) ≡ «end».Reported → ⊥
    no_trap e = grind arith
checks_sited m main (Ends («end».Exit n) w) h = tt
checks_sited m main (Ends «end».Reported w) h = tt
checks_sited m main (Ends «end».Spent w) h = tt
checks_sited m main (Gives v w) h = tt
checks_sited m main (Goes to w) h = tt
checks_sited m main (Enters n w) h = tt
checks_sited m main (Leaves w) h = absurd h

pub runtime_sited : (m : Module) (main : Bool) (setting : Setting) (f : RuntimeFn) (words : List ℕ) (w : World) → IsSited m main (runtime setting f words w)
runtime_sited m main setting Check words w =
    checks_sited m main (runtime setting Check words w) (check_checks setting w (word 0 words) (word 1 words) (word 2 words) (word 3 words) (word 4 words) (word 5 words))
runtime_sited m main setting CheckMemory words w = checks_sited m main (runtime setting CheckMemory words w) (memory_checks setting w (word 0 words) (word 1 words) (word 2 words) (word 3 words))
runtime_sited m main setting CheckString words w = checks_sited m main (runtime setting CheckString words w) (string_checks setting w (word 0 words) (word 1 words))
runtime_sited m main setting CheckFormat words w =
    checks_sited m main (runtime setting CheckFormat words w) (format_checks setting w (word 0 words) (word 1 words) (word 2 words) (word 3 words))
runtime_sited m main setting f words w = tt

-- ---- instructions

-- a callee is a function of the module or an external
abbrev pub IsKnown : (Name → Option ℕ) → Op → Type 0
IsKnown func (op.Call ret callee args) = func callee ≡ None → (e : External) × (lookup externals callee ≡ Some e)
IsKnown func o = Unit {0}

-- a callee of a marked call is a runtime function
abbrev pub IsRuntime : Op → Type 0
IsRuntime (op.Call ret callee args) = (f : RuntimeFn) × (lookup runtime_functions callee ≡ Some f)
IsRuntime o = Unit {0}

module _ (m : Module) (setting : Setting) (here : Here) (sited : IsSite m here.site) (w : World) where
  gives_sited : (r : Result ℕ Trap) → IsSited m here.main (gives here.site r w)
  gives_sited r = answer_sited m here.main setting here.site sited w r

  call_sited : (callee : Name) (types : List Ty) (words : List ℕ) → (setting.func callee ≡ None → (e : External) × (lookup externals callee ≡ Some e))
      → IsSited m here.main (elim (setting.func callee) [
        | Some f ↦ Enters f w
        | None ↦ elim (external_named setting.func callee) [ Some e ↦ external setting here.site e types words w | None ↦ Ends stuck w ]
      ])
  call_sited callee types words known = by_index (setting.func callee) refl
    where
      by_external : (q : Option External) → (e : External) × (q ≡ Some e) → IsSited m here.main (elim q [ Some e ↦ external setting here.site e types words w | None ↦ Ends stuck w ])
      by_external (Some e) h = external_sited m here.main setting here.site sited w e types words
      by_external None h = absurd (none_some h.0 h.1)
        where
          none_some : (e : External) → None ≡ Some e → ⊥
          none_some e h = grind arith

      by_index : (o : Option ℕ) → setting.func callee ≡ o → IsSited m here.main (elim o [
        | Some f ↦ Enters f w
        | None ↦ elim (external_named setting.func callee) [ Some e ↦ external setting here.site e types words w | None ↦ Ends stuck w ]
      ])
      by_index (Some f) e = tt
      by_index None e =
          let found = known e in
          by_external (external_named setting.func callee) (found.0, ap (λ o. if is_some o then None else lookup externals callee) e ∙ found.1)

  pub act_sited : (o : Op) (words : List ℕ) → is_phi o ≡ false → IsKnown setting.func o → IsSited m here.main (act setting here o words w)
  act_sited (op.Binary o flags t a b) words p k = gives_sited (binary_of o flags (width_of t) (word 0 words) (word 1 words))
  act_sited (op.Icmp o flags t a b) words p k = gives_sited (truth (compare_of o flags (width_of t) (word 0 words) (word 1 words)))
  act_sited (op.Cast o flags t a u) words p k = gives_sited (cast_of o flags (width_of t) (word 0 words) (width_of u))
  act_sited (op.Select c t a b) words p k = tt
  act_sited (op.Freeze t a) words p k = tt
  act_sited (op.Phi t edges) words p k = absurd (true≢false p)
  act_sited (op.Alloca t u count) words p k =
      let n = size_in setting.types t * word 0 words in
      let area = local_area w in
      either (IsSited m here.main) (fits area n w) (Gives (next_base area w) (make_unset setting.fill area n w)) (traps trap.Stack here.site w) tt sited
  act_sited (op.Load t addr) words p k =
      either (IsSited m here.main) (is_good w (word 0 words) (stored_size t)) (Gives (number_at w.bytes (word 0 words) (stored_size t) % 2 ^ width_of t) w) (traps trap.BadAddress here.site w) tt sited
  act_sited (op.Store t v addr) words p k =
      either (IsSited m here.main) (is_good w (word 1 words) (stored_size t)) (Does (store_number (word 1 words) (stored_size t) (word 0 words) w)) (traps trap.BadAddress here.site w) tt sited
  act_sited (op.Gep t base indices) words p k = tt
  act_sited (op.Call ret callee args) words p k = call_sited callee (map (λ a. a.0) args) words k
  act_sited (op.Br to) words p k = tt
  act_sited (op.CondBr c to other) words p k = tt
  act_sited (op.Switch t v other cases) words p k = tt
  act_sited (op.Ret v) words p k = chosen (IsSited m here.main) here.main (Ends («end».Exit (word 0 words)) w) (Leaves w) (λ e. tt) (λ e. e)
  act_sited op.Unreachable words p k = sited

  pub marked_sited : (o : Op) (words : List ℕ) (cells : ℕ → ℕ) → is_phi o ≡ false → IsRuntime o → IsSited m here.main (act_marked setting here o words cells w)
  marked_sited (op.Load t addr) words cells p k =
      let n = stored_size t in let b = bit_xor (word 0 words) shadow_bits in
      let u = number_at w.shadow b n % 2 ^ width_of t in
      either (IsSited m here.main) (in_slots (word 0 words) n slots) (Gives (number_at cells (word 0 words) n % 2 ^ width_of t) w) (if is_good w b n then Gives u w else traps trap.BadAddress here.site w) tt
      (either (IsSited m here.main) (is_good w b n) (Gives u w) (traps trap.BadAddress here.site w) tt sited)
  marked_sited (op.Store t v addr) words cells p k =
      let n = stored_size t in let b = bit_xor (word 1 words) shadow_bits in
      let next = set_shadow b n (byte_of (word 0 words)) w in
      either (IsSited m here.main) (in_slots (word 1 words) n slots) (Does w) (if is_good w b n then Does next else traps trap.BadAddress here.site w) tt
      (either (IsSited m here.main) (is_good w b n) (Does next) (traps trap.BadAddress here.site w) tt sited)
  marked_sited (op.Call ret callee args) words cells p k = by_function (lookup runtime_functions callee) k
    where
      by_function : (q : Option RuntimeFn) → (f : RuntimeFn) × (q ≡ Some f) → IsSited m here.main (elim q [ Some f ↦ runtime setting f words w | None ↦ Ends stuck w ])
      by_function (Some f) h = runtime_sited m here.main setting f words w
      by_function None h = absurd (none_some h.0 h.1)
        where
          none_some : (f : RuntimeFn) → None ≡ Some f → ⊥
          none_some f h = grind arith
  marked_sited (op.Binary o flags t a b) words cells p k = act_sited (op.Binary o flags t a b) words p tt
  marked_sited (op.Icmp o flags t a b) words cells p k = act_sited (op.Icmp o flags t a b) words p tt
  marked_sited (op.Cast o flags t a u) words cells p k = act_sited (op.Cast o flags t a u) words p tt
  marked_sited (op.Select c t a b) words cells p k = tt
  marked_sited (op.Freeze t a) words cells p k = tt
  marked_sited (op.Phi t edges) words cells p k = absurd (true≢false p)
  marked_sited (op.Alloca t u count) words cells p k = act_sited (op.Alloca t u count) words p tt
  marked_sited (op.Gep t base indices) words cells p k = tt
  marked_sited (op.Br to) words cells p k = tt
  marked_sited (op.CondBr c to other) words cells p k = tt
  marked_sited (op.Switch t v other cases) words cells p k = tt
  marked_sited (op.Ret v) words cells p k = act_sited (op.Ret v) words p tt
  marked_sited op.Unreachable words cells p k = sited
