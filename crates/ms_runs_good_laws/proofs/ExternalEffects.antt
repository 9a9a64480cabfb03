-- What an external answers is in the range of its type, and leaves a good world.
use Rattle.std.proofs.Common.{◌≡◌, ◌<◌, ◌≤◌, ℕ, zero, suc, ◌+◌, ◌-◌, ◌*◌, ◌%◌, ◌^◌, min, List, [], ◌∷◌, ◌++◌, length, take, drop, get_or, Bool, true, false, ◌&&◌, leb, ltb, eqb, Option, Some, None, option_map, unwrap_or, is_some, IfSome, IfOk, All, Result, Ok, Err, refl, ap, subst, arith, if◌then◌else◌, leb-true}
use Rattle.std.proofs.lemmas.Nat.{mod_below}
use Rattle.std.proofs.lemmas.Bool.{and_parts}
use Rattle.std.proofs.lemmas.List.Elements.{All-nil, All-cons, All-head, All-tail, All-append, All-take, All-drop}
use Rattle.std.specs.Prelude.{zip, slice_get}
use Rattle.ms_bits.specs.declared.traps.Trap.{Trap}
use Rattle.ms_bits.specs.declared.traps.Trap.TheVariants as trap
use Rattle.ms_bits.specs.declared.word_functions.WordFn.{WordFn}
use Rattle.ms_bits.specs.declared.word_functions.WordFn.TheVariants.{Ctpop, Smax, Smin, Umax, Umin}
use Rattle.ms_bits.specs.declared.word_functions.WordWidth.{WordWidth}
use Rattle.ms_bits.specs.WordFunctions.{bits_of, word_answer}
use Rattle.ms_bits_laws.proofs.WordAgreement.{SecondFits, answer_lt, width_some, width_few}
use Rattle.ms_bits_laws.proofs.MapLemmas.{byte_of-lt}
use Rattle.ms_bits.specs.Maps.{bytes_at, string_within, byte_of}
use Rattle.ms_ir.specs.declared.syntax.Ty.{Ty, Int, Ptr}
use Rattle.ms_ir.specs.declared.calls.External.{External}
use Rattle.ms_ir.specs.declared.calls.External.TheVariants.{Malloc, Calloc, Realloc, Free, Memcpy, Memmove, Memset, Memcmp, Strlen, Putchar, Puts, Getchar, Read, Write, Exit, Abort, LlvmMemcpy, LlvmMemmove, LlvmMemset, LifetimeStart, LifetimeEnd, Printf, LlvmTrap, LlvmAssume, LlvmObjectSize, PthreadCreate, PthreadJoin, SchedYield, Word}
use Rattle.ms_ir.specs.Layout.{width_of}
use Rattle.ms_ir.specs.Areas.{Area, Fixed, Heap, Stack, room}
use Rattle.ms_runs.specs.Threads.{fiber_limit, thread_at, has_ended, with_fiber, with_joined, join_of, join_answer}
use Rattle.ms_runs.specs.World.{Allocation, World, Setting, Effect, Gives, Does, traps, word, gives, Thread}
use Rattle.ms_runs.specs.Memory.{used, fits, next_base, first_that, covers, is_good, block_of, is_heap_block, heap_size, end_block, set_bytes, copy_bytes, make_bytes, copy_shadow, make, make_unset, bytes_left, store_number}
use Rattle.ms_runs.specs.Externals.{minus_one, unknown_size, malloc, calloc, reallocated, realloc, free, where_good, compared, string_at, printed, taken, next_byte, cut_shown, formatted, prints, external, joined, join}
use Rattle.ms_ir.specs.Signatures.{external_signature, called_params, word_params}
use Rattle.ms_runs_good_laws.specs.GoodWorlds.{GoodWorld}
use Rattle.ms_runs_good_laws.specs.GoodStates.{IsBelow}
use Rattle.ms_runs_good_laws.specs.Straight.{Answers, HaveTypes}
use Rattle.ms_runs_good_laws.proofs.FormatBytes.{AreBytes, format_bytes}
use Rattle.ms_runs_good_laws.proofs.WorldChanges.{chosen, either, item_below, with_input, with_output, set_bytes_good, copy_bytes_good, make_bytes_good, copy_shadow_good, make_good, make_unset_good, end_block_good, GoodSetting, with_threads}

-- a word of a type is one of each type that is the same
pub in_type : (u : Ty) (v : ℕ) → v < 2 ^ width_of u → (t : Ty) → Some u ≡ Some t → v < 2 ^ width_of t
in_type u v h t e = subst (λ x. v < 2 ^ width_of x) (ap (λ o. unwrap_or o u) e) h

-- ---- allocations

pub room_above : (n : ℕ) → n ≤ room n
room_above n = omega arith

-- an allocation that fits is small, and begins below 2^64
pub fits_small : (area : Area) (n : ℕ) (w : World) → fits area n w ≡ true → (n ≤ 2 ^ 26) × (next_base area w < 2 ^ 64)
fits_small Fixed n w e = let l = leb-true (used Fixed w.allocs + room n) (2 ^ 24) e in let r = room_above n in (omega (arith, l, r), omega (arith, l))
fits_small Heap n w e = let l = leb-true (used Heap w.allocs + room n) (2 ^ 26) e in let r = room_above n in (omega (arith, l, r), omega (arith, l))
fits_small Stack n w e = let l = leb-true (used Stack w.allocs + room n) (2 ^ 20) e in let r = room_above n in (omega (arith, l, r), omega (arith, l))

first_passes : (Q : Allocation → Type 0) (passes : Allocation → Bool) (xs : List Allocation) → All Q xs → IfSome (first_that passes xs) (λ b. (passes b ≡ true) × Q b)
first_passes Q passes [] h = tt
first_passes Q passes (x ∷ xs) h =
    chosen (λ o. IfSome o (λ b. (passes b ≡ true) × Q b)) (passes x) (Some x) (first_that passes xs)
    (λ e. (e, All-head Q x xs h)) (λ e. first_passes Q passes xs (All-tail Q x xs h))

pub room_small : (P : ℕ → Type 0) (w : World) (a : ℕ) → GoodWorld P w → bytes_left w a ≤ 2 ^ 26
room_small P w a g = by_block (block_of w a) (first_passes (λ b. b.size ≤ 2 ^ 26) (covers a 1) w.allocs g.sizes)
  where
    by_block : (o : Option Allocation) → IfSome o (λ b. (covers a 1 b ≡ true) × (b.size ≤ 2 ^ 26)) → unwrap_or (option_map (λ b. b.base + b.size - a) o) 0 ≤ 2 ^ 26
    by_block None h = omega arith
    by_block (Some b) h =
        let l = leb-true b.base a (and_parts b.live (leb b.base a) (and_parts (b.live && leb b.base a) (leb (a + 1) (b.base + b.size)) h.0).0).1 in
        omega (arith, l, h.1)

pub heap_small : (P : ℕ → Type 0) (w : World) (a : ℕ) → GoodWorld P w → unwrap_or (heap_size w a) 0 ≤ 2 ^ 26
heap_small P w a g = by_block (first_that (is_heap_block a) w.allocs) (first_passes (λ b. b.size ≤ 2 ^ 26) (is_heap_block a) w.allocs g.sizes)
  where
    by_block : (o : Option Allocation) → IfSome o (λ b. (is_heap_block a b ≡ true) × (b.size ≤ 2 ^ 26)) → unwrap_or (option_map (λ b. b.size) o) 0 ≤ 2 ^ 26
    by_block None h = omega arith
    by_block (Some b) h = h.1

-- ---- lists of bytes

bytes_at_below : (map : ℕ → ℕ) → ((a : ℕ) → map a < 256) → (a n : ℕ) → All (λ b. b < 256) (bytes_at map a n)
bytes_at_below map h a zero = All-nil (λ b. b < 256)
bytes_at_below map h a (suc n) = All-cons (λ b. b < 256) (map a) (bytes_at map (a + 1) n) (h a) (bytes_at_below map h (a + 1) n)

-- a string within so many bytes has no more, and each is a byte
pub string_good : (map : ℕ → ℕ) → ((a : ℕ) → map a < 256) → (a n : ℕ) → IfSome (string_within map a n) (λ bs. (length bs ≤ n) × All (λ b. b < 256) bs)
string_good map h a zero = tt
string_good map h a (suc n) =
    either (λ o. IfSome o (λ bs. (length bs ≤ suc n) × All (λ b. b < 256) bs)) (eqb (map a) 0) (Some []) (option_map (λ rest. map a ∷ rest) (string_within map (a + 1) n))
    (omega arith, All-nil (λ b. b < 256)) (by_rest (string_within map (a + 1) n) (string_good map h (a + 1) n))
  where
    by_rest : (o : Option (List ℕ)) → IfSome o (λ bs. (length bs ≤ n) × All (λ b. b < 256) bs) → IfSome (option_map (λ rest. map a ∷ rest) o) (λ bs. (length bs ≤ suc n) × All (λ b. b < 256) bs)
    by_rest None k = tt
    by_rest (Some bs) k = (omega (arith, k.0), All-cons (λ b. b < 256) (map a) bs (h a) k.1)

take_short : (n : ℕ) (xs : List ℕ) → length (take n xs) ≤ n
take_short zero xs = omega arith
take_short (suc n) [] = omega arith
take_short (suc n) (x ∷ xs) = omega (arith, take_short n xs)

compared_below : (first second : List ℕ) → compared first second < 2 ^ 32
compared_below [] bs = omega arith
compared_below (a ∷ rest) [] = omega arith
compared_below (a ∷ rest) (b ∷ bs) =
    either (λ v. v < 2 ^ 32) (ltb a b) (minus_one 32) (if ltb b a then 1 else compared rest bs) (omega arith)
    (either (λ v. v < 2 ^ 32) (ltb b a) 1 (compared rest bs) (omega arith) (compared_below rest bs))

-- ---- functions of whole words

pub first_param : (f : WordFn) (w : ℕ) → slice_get (word_params f w) 0 ≡ Some (Int w)
first_param Ctpop w = refl
first_param f w = refl

-- a size that isn't known is a word
unknown_below : (least : ℕ) → unknown_size least < 2 ^ 64
unknown_below least = either (λ n. n < 2 ^ 64) (eqb least 0) (minus_one 64) 0 (omega arith) (omega arith)

-- what a function of words in range answers is in range
word_below : (f : WordFn) (n : WordWidth) (words : List ℕ) → HaveTypes IsBelow 0 words (word_params f (bits_of n)) → (x : ℕ)
    → word_answer f (bits_of n) (word 0 words) (word 1 words) (word 2 words) ≡ Ok x → x < 2 ^ bits_of n
word_below f n words h x e =
    answer_lt f (bits_of n) (word 0 words) (word 1 words) (word 2 words) x (omega (arith, width_some n)) (width_few n) (h 0 (Int (bits_of n)) (first_param f (bits_of n))) (second f h) e
  where
    second : (f : WordFn) → HaveTypes IsBelow 0 words (word_params f (bits_of n)) → SecondFits f (bits_of n) (word 1 words)
    second Smax h = h 1 (Int (bits_of n)) refl
    second Smin h = h 1 (Int (bits_of n)) refl
    second Umax h = h 1 (Int (bits_of n)) refl
    second Umin h = h 1 (Int (bits_of n)) refl
    second f h = tt

-- ---- the externals

module _ (P : ℕ → Type 0) (setting : Setting) (given : GoodSetting P setting) (site : ℕ) (w : World) (g : GoodWorld P w) where
  gives_pointer : (v : ℕ) (u : World) → v < 2 ^ 64 → GoodWorld P u → Answers (GoodWorld P) (Some Ptr) (Gives v u)
  gives_pointer v u l h = (in_type Ptr v l, h)

  malloc_answers : (n : ℕ) → Answers (GoodWorld P) (Some Ptr) (malloc setting.fill n w)
  malloc_answers n =
      chosen (Answers (GoodWorld P) (Some Ptr)) (fits Heap n w) (Gives (next_base Heap w) (make_unset setting.fill Heap n w)) (Gives 0 w)
      (λ e. gives_pointer (next_base Heap w) (make_unset setting.fill Heap n w) (fits_small Heap n w e).1 (make_unset_good P setting.fill Heap n w given.fill g given.none (fits_small Heap n w e).0))
      (λ e. gives_pointer 0 w (omega arith) g)

  calloc_answers : (n : ℕ) → Answers (GoodWorld P) (Some Ptr) (calloc n w)
  calloc_answers n =
      chosen (Answers (GoodWorld P) (Some Ptr)) (ltb n (2 ^ 64) && fits Heap n w) (Gives (next_base Heap w) (make Heap n w)) (Gives 0 w)
      (λ e. let small = fits_small Heap n w (and_parts (ltb n (2 ^ 64)) (fits Heap n w) e).1 in
      gives_pointer (next_base Heap w) (make Heap n w) small.1 (make_good P Heap n w g given.none small.0))
      (λ e. gives_pointer 0 w (omega arith) g)

  moved_answers : (p old n : ℕ) → Answers (GoodWorld P) (Some Ptr) (reallocated setting.fill p old n w)
  moved_answers p old n =
      let q = next_base Heap w in let k = min old n in
      let made = make_unset setting.fill Heap n w in
      chosen (Answers (GoodWorld P) (Some Ptr)) (fits Heap n w) (Gives q (end_block p (copy_shadow q p k (copy_bytes q p k made)))) (Gives 0 w)
      (λ e. gives_pointer q (end_block p (copy_shadow q p k (copy_bytes q p k made))) (fits_small Heap n w e).1
      (end_block_good P p (copy_shadow q p k (copy_bytes q p k made)) (copy_shadow_good P q p k (copy_bytes q p k made)
      (copy_bytes_good P q p k made (make_unset_good P setting.fill Heap n w given.fill g given.none (fits_small Heap n w e).0)))))
      (λ e. gives_pointer 0 w (omega arith) g)

  realloc_answers : (p n : ℕ) → Answers (GoodWorld P) (Some Ptr) (realloc setting.fill site p n w)
  realloc_answers p n =
      either (Answers (GoodWorld P) (Some Ptr)) (eqb p 0) (malloc setting.fill n w) (elim (heap_size w p) [
        | Some old ↦ reallocated setting.fill p old n w
        | None ↦ traps trap.BadFree site w
      ]) (malloc_answers n) (by_size (heap_size w p))
    where
      by_size : (o : Option ℕ) → Answers (GoodWorld P) (Some Ptr) (elim o [ Some old ↦ reallocated setting.fill p old n w | None ↦ traps trap.BadFree site w ])
      by_size (Some old) = moved_answers p old n
      by_size None = g

  free_answers : (p : ℕ) → Answers (GoodWorld P) None (free site p w)
  free_answers p =
      either (Answers (GoodWorld P) None) (eqb p 0) (Does w) (if is_some (heap_size w p) then Does (end_block p w) else traps trap.BadFree site w) (refl, g)
      (either (Answers (GoodWorld P) None) (is_some (heap_size w p)) (Does (end_block p w)) (traps trap.BadFree site w) (refl, end_block_good P p w g) g)

  where_good_answers : (r : Option Ty) (a n : ℕ) (e : Effect) → Answers (GoodWorld P) r e → Answers (GoodWorld P) r (where_good site a n w e)
  where_good_answers r a n e h = either (Answers (GoodWorld P) r) (is_good w a n) e (traps trap.BadAddress site w) h g

  both_good_answers : (r : Option Ty) (a b n : ℕ) (e : Effect) → Answers (GoodWorld P) r e → Answers (GoodWorld P) r (where_good site a n w (where_good site b n w e))
  both_good_answers r a b n e h = where_good_answers r a n (where_good site b n w e) (where_good_answers r b n e h)

  printed_answers : (u : Ty) (v : ℕ) (bs : List ℕ) → v < 2 ^ width_of u → All (λ b. b < 256) bs → Answers (GoodWorld P) (Some u) (printed site bs (Gives v) w)
  printed_answers u v bs l h =
      either (Answers (GoodWorld P) (Some u)) (leb (length w.output + length bs) 1048576) (Gives v (record w { output = w.output ++ bs })) (traps trap.Output site w)
      (in_type u v l, with_output P w g (w.output ++ bs) (All-append (λ b. b < 256) w.output bs g.output h)) g

  string_is : (a : ℕ) → IfSome (string_at w a) (λ bs. (length bs ≤ bytes_left w a) × All (λ b. b < 256) bs)
  string_is a = string_good w.bytes g.bytes a (bytes_left w a)

  strlen_answers : (a : ℕ) → Answers (GoodWorld P) (Some (Int 64)) (elim (string_at w a) [ Some bs ↦ Gives (length bs) w | None ↦ traps trap.BadAddress site w ])
  strlen_answers a = by_string (string_at w a) (string_is a)
    where
      by_string : (o : Option (List ℕ)) → IfSome o (λ bs. (length bs ≤ bytes_left w a) × All (λ b. b < 256) bs)
          → Answers (GoodWorld P) (Some (Int 64)) (elim o [ Some bs ↦ Gives (length bs) w | None ↦ traps trap.BadAddress site w ])
      by_string (Some bs) h = (in_type (Int 64) (length bs) (omega (arith, h.0, room_small P w a g)), g)
      by_string None h = g

  puts_answers : (a : ℕ) → Answers (GoodWorld P) (Some (Int 32)) (elim (string_at w a) [ Some bs ↦ printed site (bs ++ 10 ∷ []) (Gives 1) w | None ↦ traps trap.BadAddress site w ])
  puts_answers a = by_string (string_at w a) (string_is a)
    where
      by_string : (o : Option (List ℕ)) → IfSome o (λ bs. (length bs ≤ bytes_left w a) × All (λ b. b < 256) bs)
          → Answers (GoodWorld P) (Some (Int 32)) (elim o [ Some bs ↦ printed site (bs ++ 10 ∷ []) (Gives 1) w | None ↦ traps trap.BadAddress site w ])
      by_string (Some bs) h =
          printed_answers (Int 32) 1 (bs ++ 10 ∷ []) (omega arith)
          (All-append (λ b. b < 256) bs (10 ∷ []) h.1 (All-cons (λ b. b < 256) 10 [] (omega arith) (All-nil (λ b. b < 256))))
      by_string None h = g

  next_byte_answers : Answers (GoodWorld P) (Some (Int 32)) (next_byte w.input w)
  next_byte_answers = by_input w.input g.input
    where
      by_input : (bs : List ℕ) → All (λ b. b < 256) bs → Answers (GoodWorld P) (Some (Int 32)) (next_byte bs w)
      by_input [] h = (in_type (Int 32) (minus_one 32) (omega arith), g)
      by_input (b ∷ bs) h = let l : b < 256 = All-head (λ c. c < 256) b bs h in (in_type (Int 32) b (omega (arith, l)), with_input P w g bs (All-tail (λ c. c < 256) b bs h))

  taken_answers : (a n : ℕ) → n < 2 ^ 64 → Answers (GoodWorld P) (Some (Int 64)) (taken a n w)
  taken_answers a n l =
      let bs = take n w.input in
      let bytes = All-take (λ b. b < 256) n w.input g.input in (
        in_type (Int 64) (length bs) (omega (arith, take_short n w.input, l)),
        with_input P (set_bytes a (length bs) (λ k. get_or bs k 0) w) (set_bytes_good P a (length bs) (λ k. get_or bs k 0) w g (item_below bs bytes)) (drop n w.input)
            (All-drop (λ b. b < 256) n w.input g.input),
      )

  join_small : (own id : ℕ) → join_answer own id w.threads < 2 ^ 32
  join_small own id = by_test (eqb id own) (thread_at id w.threads)
    where
      by_joined : (t : Bool) → (if t then 3 else 0) < 2 ^ 32
      by_joined true = omega arith
      by_joined false = omega arith

      by_test : (t : Bool) (o : Option Thread) → (if t then 35 else join_of o) < 2 ^ 32
      by_test true o = omega arith
      by_test false None = omega arith
      by_test false (Some t) = by_joined t.joined

  join_answers : (id r : ℕ) → Answers (GoodWorld P) (Some (Int 32)) (join site id r w)
  join_answers id r =
      let stored = where_good site r 8 w (Gives 0 (store_number r 8 (w.answers id) (with_joined id w))) in
      either (Answers (GoodWorld P) (Some (Int 32))) (eqb (join_answer w.turn id w.threads) 0) (if has_ended (thread_at id w.threads) then joined site id r w else traps trap.Deadlock site w) (Gives (join_answer w.turn id w.threads) w)
      (either (Answers (GoodWorld P) (Some (Int 32))) (has_ended (thread_at id w.threads)) (joined site id r w) (traps trap.Deadlock site w)
      (either (Answers (GoodWorld P) (Some (Int 32))) (eqb r 0) (Gives 0 (with_joined id w)) stored (in_type (Int 32) 0 (omega arith), with_threads P w g _)
      (where_good_answers (Some (Int 32)) r 8 (Gives 0 (store_number r 8 (w.answers id) (with_joined id w)))
      (in_type (Int 32) 0 (omega arith), set_bytes_good P r 8 (byte_of (w.answers id)) (with_joined id w) (with_threads P w g _) (byte_of-lt (w.answers id))))) g)
      (in_type (Int 32) (join_answer w.turn id w.threads) (join_small w.turn id), g)

  prints_answers : (r : Result (List ℕ) Trap) → IfOk r AreBytes → Answers (GoodWorld P) (Some (Int 32)) (prints site r w)
  prints_answers (Ok bs) h =
      chosen (Answers (GoodWorld P) (Some (Int 32))) (leb (length w.output + length bs) 1048576) (Gives (length bs) (record w { output = w.output ++ bs })) (traps trap.Output site w)
      (λ e. let l = leb-true (length w.output + length bs) 1048576 e in
      (in_type (Int 32) (length bs) (omega (arith, l)), with_output P w g (w.output ++ bs) (All-append (λ b. b < 256) w.output bs g.output h))) (λ e. g)
  prints_answers (Err t) h = g

  string_bytes : (a : ℕ) → IfSome (string_at w a) AreBytes
  string_bytes a = by_string (string_at w a) (string_is a)
    where
      by_string : (o : Option (List ℕ)) → IfSome o (λ bs. (length bs ≤ bytes_left w a) × All (λ b. b < 256) bs) → IfSome o AreBytes
      by_string (Some bs) h = h.1
      by_string None h = tt

  formatted_bytes : (types : List Ty) (words : List ℕ) → IfOk (formatted w types words) AreBytes
  formatted_bytes types words = by_string (string_at w (word 0 words)) (string_bytes (word 0 words))
    where
      by_string : (o : Option (List ℕ)) → IfSome o AreBytes
          → IfOk (elim o as (λ z. Result (List ℕ) Trap) [ Some format ↦ cut_shown w format (drop 1 types) (drop 1 words) | None ↦ Err trap.BadAddress ]) AreBytes
      by_string (Some format) h = format_bytes (string_at w) string_bytes format (zip (drop 1 types) (drop 1 words)) h
      by_string None h = tt

  word_answers : (n : WordWidth) (r : Result ℕ Trap) → ((x : ℕ) → r ≡ Ok x → x < 2 ^ bits_of n) → Answers (GoodWorld P) (Some (Int (bits_of n))) (gives site r w)
  word_answers n (Ok v) h = (in_type (Int (bits_of n)) v (h v refl), g)
  word_answers n (Err t) h = g

  pub external_answers : (e : External) (types : List Ty) (words : List ℕ) → HaveTypes IsBelow 0 words (called_params e types)
      → Answers (GoodWorld P) (external_signature e).ret (external setting site e types words w)
  external_answers Malloc types words h = malloc_answers (word 0 words)
  external_answers Calloc types words h = calloc_answers (word 0 words * word 1 words)
  external_answers Realloc types words h = realloc_answers (word 0 words) (word 1 words)
  external_answers Free types words h = free_answers (word 0 words)
  external_answers Memcpy types words h =
      both_good_answers (Some Ptr) (word 0 words) (word 1 words) (word 2 words) (Gives (word 0 words) (copy_bytes (word 0 words) (word 1 words) (word 2 words) w))
      (in_type Ptr (word 0 words) (h 0 Ptr refl), copy_bytes_good P (word 0 words) (word 1 words) (word 2 words) w g)
  external_answers Memmove types words h =
      both_good_answers (Some Ptr) (word 0 words) (word 1 words) (word 2 words) (Gives (word 0 words) (copy_bytes (word 0 words) (word 1 words) (word 2 words) w))
      (in_type Ptr (word 0 words) (h 0 Ptr refl), copy_bytes_good P (word 0 words) (word 1 words) (word 2 words) w g)
  external_answers Memset types words h =
      where_good_answers (Some Ptr) (word 0 words) (word 2 words) (Gives (word 0 words) (set_bytes (word 0 words) (word 2 words) (λ k. word 1 words % 256) w))
      (in_type Ptr (word 0 words) (h 0 Ptr refl), set_bytes_good P (word 0 words) (word 2 words) (λ k. word 1 words % 256) w g (λ k. mod_below (word 1 words) 256 (omega arith)))
  external_answers Memcmp types words h =
      let c = compared (bytes_at w.bytes (word 0 words) (word 2 words)) (bytes_at w.bytes (word 1 words) (word 2 words)) in
      both_good_answers (Some (Int 32)) (word 0 words) (word 1 words) (word 2 words) (Gives c w)
      (in_type (Int 32) c (compared_below (bytes_at w.bytes (word 0 words) (word 2 words)) (bytes_at w.bytes (word 1 words) (word 2 words))), g)
  external_answers Strlen types words h = strlen_answers (word 0 words)
  external_answers Putchar types words h =
      let l : word 0 words % 256 < 256 = mod_below (word 0 words) 256 (omega arith) in
      printed_answers (Int 32) (word 0 words % 256) (word 0 words % 256 ∷ []) (omega (arith, l)) (All-cons (λ b. b < 256) (word 0 words % 256) [] l (All-nil (λ b. b < 256)))
  external_answers Puts types words h = puts_answers (word 0 words)
  external_answers Getchar types words h = next_byte_answers
  external_answers Read types words h =
      let rest = if eqb (word 0 words) 0 then taken (word 1 words) (word 2 words) w else Gives (minus_one 64) w in
      where_good_answers (Some (Int 64)) (word 1 words) (word 2 words) rest
      (either (Answers (GoodWorld P) (Some (Int 64))) (eqb (word 0 words) 0) (taken (word 1 words) (word 2 words) w) (Gives (minus_one 64) w)
      (taken_answers (word 1 words) (word 2 words) (h 2 (Int 64) refl)) (in_type (Int 64) (minus_one 64) (omega arith), g))
  external_answers Write types words h =
      let bs = bytes_at w.bytes (word 1 words) (word 2 words) in
      let rest = if eqb (word 0 words) 1 then printed site bs (Gives (word 2 words)) w else Gives (minus_one 64) w in
      where_good_answers (Some (Int 64)) (word 1 words) (word 2 words) rest
      (either (Answers (GoodWorld P) (Some (Int 64))) (eqb (word 0 words) 1) (printed site bs (Gives (word 2 words)) w) (Gives (minus_one 64) w)
      (printed_answers (Int 64) (word 2 words) bs (h 2 (Int 64) refl) (bytes_at_below w.bytes g.bytes (word 1 words) (word 2 words))) (in_type (Int 64) (minus_one 64) (omega arith), g))
  external_answers Exit types words h = g
  external_answers Abort types words h = g
  external_answers LlvmMemcpy types words h =
      both_good_answers None (word 0 words) (word 1 words) (word 2 words) (Does (copy_bytes (word 0 words) (word 1 words) (word 2 words) w))
      (refl, copy_bytes_good P (word 0 words) (word 1 words) (word 2 words) w g)
  external_answers LlvmMemmove types words h =
      both_good_answers None (word 0 words) (word 1 words) (word 2 words) (Does (copy_bytes (word 0 words) (word 1 words) (word 2 words) w))
      (refl, copy_bytes_good P (word 0 words) (word 1 words) (word 2 words) w g)
  external_answers LlvmMemset types words h =
      where_good_answers None (word 0 words) (word 2 words) (Does (set_bytes (word 0 words) (word 2 words) (λ k. word 1 words % 256) w))
      (refl, set_bytes_good P (word 0 words) (word 2 words) (λ k. word 1 words % 256) w g (λ k. mod_below (word 1 words) 256 (omega arith)))
  external_answers LifetimeStart types words h =
      where_good_answers None (word 1 words) (word 0 words) (Does (make_bytes setting.fill (word 1 words) (word 0 words) w))
      (refl, make_bytes_good P setting.fill (word 1 words) (word 0 words) w given.fill g)
  external_answers LifetimeEnd types words h = (refl, g)
  external_answers LlvmTrap types words h = g
  external_answers LlvmAssume types words h = either (Answers (GoodWorld P) None) (eqb (word 0 words) 0) (traps trap.Unreachable site w) (Does w) g (refl, g)
  external_answers LlvmObjectSize types words h = (in_type (Int 64) (unknown_size (word 1 words)) (unknown_below (word 1 words)), g)
  external_answers PthreadCreate types words h =
      let made = store_number (word 0 words) 8 (length w.threads + 1) (with_fiber (word 2 words) (word 3 words) w) in
      either (Answers (GoodWorld P) (Some (Int 32))) (leb fiber_limit (length w.threads + 1)) (Gives 11 w) (where_good site (word 0 words) 8 w (Gives 0 made)) (in_type (Int 32) 11 (omega arith), g)
      (where_good_answers (Some (Int 32)) (word 0 words) 8 (Gives 0 made)
      (in_type (Int 32) 0 (omega arith), set_bytes_good P (word 0 words) 8 (byte_of (length w.threads + 1)) (with_fiber (word 2 words) (word 3 words) w) (with_threads P w g _) (byte_of-lt (length w.threads + 1))))
  external_answers PthreadJoin types words h = join_answers (word 0 words) (word 1 words)
  external_answers SchedYield types words h = (in_type (Int 32) 0 (omega arith), g)
  external_answers (Word f n) types words h = word_answers n (word_answer f (bits_of n) (word 0 words) (word 1 words) (word 2 words)) (word_below f n words h)
  external_answers Printf types words h = prints_answers (formatted w types words) (formatted_bytes types words)
