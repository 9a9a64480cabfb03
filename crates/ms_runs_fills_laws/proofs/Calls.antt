-- Calls on words and worlds that are alike.
use Rattle.std.proofs.Common.{◌≡◌, ℕ, ◌^◌, ◌<◌, List, [], ◌∷◌, map, Option, Some, None, refl, sym, ap, ◌∙◌, subst, zero, suc, ◌+◌, ◌++◌, length, drop, get_or, Bool, false, Result, Err, arith, true≢false, true, if◌then◌else◌}
use Rattle.std.specs.Prelude.{zip, slice_get, unwrap_or, is_some}
use Rattle.ms_bits.specs.declared.traps.Trap.{Trap}
use Rattle.ms_bits.specs.declared.traps.Trap.TheVariants as trap
use Rattle.ms_ir.specs.declared.syntax.Name.{Name}
use Rattle.ms_ir.specs.declared.syntax.Ty.{Ty, Ptr}
use Rattle.ms_ir.specs.declared.syntax.Operand.{Operand}
use Rattle.ms_ir.specs.declared.syntax.Op.{Op}
use Rattle.ms_ir.specs.declared.syntax.Op.TheVariants as op
use Rattle.ms_ir.specs.declared.calls.External.{External}
use Rattle.ms_ir.specs.declared.calls.External.TheVariants.{Malloc, Calloc, Realloc, Free, Memcpy, Memmove, Memset, Memcmp, Strlen, Putchar, Puts, Getchar, Read, Write, Exit, Abort, LlvmMemcpy, LlvmMemmove, LlvmMemset, LifetimeStart, LifetimeEnd, Printf, LlvmTrap, LlvmAssume, LlvmObjectSize, PthreadCreate, PthreadJoin, SchedYield}
use Rattle.ms_ir.specs.declared.calls.External.TheVariants as called
use Rattle.ms_bits.specs.declared.word_functions.WordWidth.{WordWidth}
use Rattle.ms_bits.specs.WordFunctions.{bits_of}
use Rattle.std.proofs.Math.Nat.{zero-mod}
use Rattle.ms_ir.specs.Names.{lookup, externals}
use Rattle.ms_ir.specs.Equal.{type_eq}
use Rattle.ms_ir.specs.Layout.{width_of}
use Rattle.ms_runs.specs.World.{World, Setting, Here, Enters, Ends, stuck, word}
use Rattle.ms_ir.specs.Instructions.{operands, external_named}
use Rattle.ms_runs.specs.Control.{read_all}
use Rattle.ms_runs.specs.Externals.{external, string_at, cut_shown, formatted}
use Rattle.ms_runs.specs.Formats.{cut_of, asks_string, with_arguments, shown, all_shown}
use Rattle.ms_runs.specs.Origins.{first_in_string, asks_string_at}
use Rattle.ms_runs.specs.Memory.{bytes_left}
use Rattle.ms_runs.specs.Poisoned.{Poisoned}
use Rattle.ms_runs.specs.Masks.{union, word_at, as_result}
use Rattle.ms_runs.specs.Uses.{external_uses, callee_uses, uses, blinded, blind_words, CheckedUse, Asked, value_uses, string_uses}
use Rattle.ms_runs.specs.Shadow.{external_planes, callee_planes}
use Rattle.ms_runs_fills_laws.proofs.Passed.{AllPassed, Passed}
use Rattle.ms_runs_fills_laws.proofs.Effects.{EffectsAlike}
use Rattle.ms_runs_fills_laws.proofs.Words.{LowAt}
use Rattle.ms_runs_fills_laws.proofs.Reading.{AlikeWords, word_alike, read_all_alike, number_same, refill}
use Rattle.ms_runs_fills_laws.proofs.Worlds.{Unseen, other, BytesAlike, low_other, FitWorld}
use Rattle.ms_runs_fills_laws.proofs.Addresses.{AddressStands}
use Rattle.ms_runs_fills_laws.proofs.Ops.{CastStands, OpAlike, ReadAlike, op_alike}
use Rattle.ms_runs_fills_laws.proofs.WordCalls.{NoneWider, WordStands, WordsStand, called_result, word_call, words_low}
use Rattle.ms_runs_fills_laws.proofs.Externals.{answered, is_plain, ExtAlike, three_alike, prints_alike, checked_string}
use Rattle.ms_runs_fills_laws.proofs.Formats.{StringsSame, all_same, zip_same, zip_at}
use Rattle.ms_runs_good_laws.proofs.Readings.{word_number}

-- the second word of a call has 64 bits at most
abbrev pub CallStands : Op → List Poisoned → Type 0
CallStands (op.Call r x args) ps = (word_at 1 ps).value < 2 ^ 64
CallStands o ps = Unit {0}

-- an external looks at three words at most
abbrev three_words : List Poisoned → List Poisoned
three_words ps = word_at 0 ps ∷ word_at 1 ps ∷ word_at 2 ps ∷ []

-- the first three words, which are all that an external looks at
abbrev three_numbers : List ℕ → List ℕ
three_numbers vs = word 0 vs ∷ word 1 vs ∷ word 2 vs ∷ []

by_three : (s : Setting) (site : ℕ) (e : External) → is_plain e ≡ true → (ts : List Ty) (vs : List ℕ) (w : World) → external s site e ts vs w ≡ external s site e ts (three_numbers vs) w
by_three s site Malloc f ts vs w = refl
by_three s site Calloc f ts vs w = refl
by_three s site Realloc f ts vs w = refl
by_three s site Free f ts vs w = refl
by_three s site Memcpy f ts vs w = refl
by_three s site Memmove f ts vs w = refl
by_three s site Memset f ts vs w = refl
by_three s site Memcmp f ts vs w = refl
by_three s site Strlen f ts vs w = refl
by_three s site Putchar f ts vs w = refl
by_three s site Puts f ts vs w = refl
by_three s site Getchar f ts vs w = refl
by_three s site Read f ts vs w = refl
by_three s site Write f ts vs w = refl
by_three s site Exit f ts vs w = refl
by_three s site Abort f ts vs w = refl
by_three s site LlvmMemcpy f ts vs w = refl
by_three s site LlvmMemmove f ts vs w = refl
by_three s site LlvmMemset f ts vs w = refl
by_three s site LifetimeStart f ts vs w = refl
by_three s site LifetimeEnd f ts vs w = refl
by_three s site LlvmTrap f ts vs w = refl
by_three s site LlvmAssume f ts vs w = refl
by_three s site LlvmObjectSize f ts vs w = refl
by_three s site PthreadCreate f ts vs w = absurd (true≢false (sym f))
by_three s site PthreadJoin f ts vs w = absurd (true≢false (sym f))
by_three s site SchedYield f ts vs w = absurd (true≢false (sym f))
by_three s site Printf f ts vs w = absurd (true≢false (sym f))
by_three s site (called.Word g n) f ts vs w = absurd (true≢false (sym f))

numbers_three : (ps : List Poisoned) → three_numbers (map (λ p. p.value) ps) ≡ map (λ p. p.value) (three_words ps)
numbers_three ps = λ i. word_number 0 ps i ∷ word_number 1 ps i ∷ word_number 2 ps i ∷ []

external_three : (s : Setting) (site : ℕ) (e : External) → is_plain e ≡ true → (ts : List Ty) (ps : List Poisoned) (w : World)
    → external s site e ts (map (λ p. p.value) ps) w ≡ external s site e ts (map (λ p. p.value) (three_words ps)) w
external_three s site e f ts ps w = by_three s site e f ts (map (λ p. p.value) ps) w ∙ ap (λ vs. external s site e ts vs w) (numbers_three ps)

planes_three : (s : Setting) (site root : ℕ) (e : External) (ps : List Poisoned) (w : World) → external_planes s site root e ps w ≡ external_planes s site root e (three_words ps) w
planes_three s site root Malloc ps w = refl
planes_three s site root Calloc ps w = refl
planes_three s site root Realloc ps w = refl
planes_three s site root Free ps w = refl
planes_three s site root Memcpy ps w = refl
planes_three s site root Memmove ps w = refl
planes_three s site root Memset ps w = refl
planes_three s site root Memcmp ps w = refl
planes_three s site root Strlen ps w = refl
planes_three s site root Putchar ps w = refl
planes_three s site root Puts ps w = refl
planes_three s site root Getchar ps w = refl
planes_three s site root Read ps w = refl
planes_three s site root Write ps w = refl
planes_three s site root Exit ps w = refl
planes_three s site root Abort ps w = refl
planes_three s site root LlvmMemcpy ps w = refl
planes_three s site root LlvmMemmove ps w = refl
planes_three s site root LlvmMemset ps w = refl
planes_three s site root LifetimeStart ps w = refl
planes_three s site root LifetimeEnd ps w = refl
planes_three s site root LlvmTrap ps w = refl
planes_three s site root LlvmAssume ps w = refl
planes_three s site root LlvmObjectSize ps w = refl
planes_three s site root PthreadCreate ps w = refl
planes_three s site root PthreadJoin ps w = refl
planes_three s site root SchedYield ps w = refl
planes_three s site root Printf ps w = refl
planes_three s site root (called.Word f n) ps w = refl

passed_three : (w : World) (ps : List Poisoned) (args : List (Ty × Operand)) (e : External) → is_plain e ≡ true → AllPassed w ps (external_uses e args) → AllPassed w (three_words ps) (external_uses e args)
passed_three w ps args Malloc f p = p
passed_three w ps args Calloc f p = p
passed_three w ps args Realloc f p = p
passed_three w ps args Free f p = p
passed_three w ps args Memcpy f p = p
passed_three w ps args Memmove f p = p
passed_three w ps args Memset f p = p
passed_three w ps args Memcmp f p = p
passed_three w ps args Strlen f p = p
passed_three w ps args Putchar f p = p
passed_three w ps args Puts f p = p
passed_three w ps args Getchar f p = p
passed_three w ps args Read f p = p
passed_three w ps args Write f p = p
passed_three w ps args Exit f p = p
passed_three w ps args Abort f p = p
passed_three w ps args LlvmMemcpy f p = p
passed_three w ps args LlvmMemmove f p = p
passed_three w ps args LlvmMemset f p = p
passed_three w ps args LifetimeStart f p = p
passed_three w ps args LifetimeEnd f p = p
passed_three w ps args LlvmTrap f p = p
passed_three w ps args LlvmAssume f p = p
passed_three w ps args LlvmObjectSize f p = p
passed_three w ps args PthreadCreate f p = absurd (true≢false (sym f))
passed_three w ps args PthreadJoin f p = absurd (true≢false (sym f))
passed_three w ps args SchedYield f p = absurd (true≢false (sym f))
passed_three w ps args Printf f p = absurd (true≢false (sym f))
passed_three w ps args (called.Word g n) f p = absurd (true≢false (sym f))

-- ---- the words and the strings of `printf`

passed_values : (w : World) (ps : List Poisoned) (k : ℕ) (args : List (Ty × Operand)) (us : List CheckedUse) → AllPassed w ps (value_uses k args ++ us)
    → ((j : ℕ) → j < length args → (word_at (k + j) ps).mask ≡ 0) × AllPassed w ps us
passed_values w ps k [] us p = ((λ j l. absurd (none j l)), p)
  where
    none : (j : ℕ) → j < 0 → ⊥
    none j l = omega arith
passed_values w ps k (a ∷ args) us p = let later = passed_values w ps (suc k) args us p.1 in (by_place later.0, later.1)
  where
    first : (m : ℕ) → m ≡ m + 0
    first m = omega arith

    next : (m j : ℕ) → suc m + j ≡ m + suc j
    next m j = omega arith

    by_place : ((j : ℕ) → j < length args → (word_at (suc k + j) ps).mask ≡ 0) → (j : ℕ) → j < suc (length args) → (word_at (k + j) ps).mask ≡ 0
    by_place h zero l = ap (λ n. (word_at n ps).mask) (sym (first k)) ∙ p.0
    by_place h (suc j) l = ap (λ n. (word_at n ps).mask) (sym (next k j)) ∙ h j (omega (arith, l))

passed_strings : (w : World) (ps : List Poisoned) (k : ℕ) (args : List (Ty × Operand)) → AllPassed w ps (string_uses k args)
    → (j : ℕ) (t : Ty) → slice_get (map (λ a. a.0) args) j ≡ Some t → type_eq t Ptr ≡ true → Passed w ps (Asked (k + j))
passed_strings w ps k [] p j t e s = grind arith
passed_strings w ps k (a ∷ args) p zero t e s = subst (λ n. Passed w ps (Asked n)) (first k) (by_test (type_eq a.0 Ptr) (ap (λ o. type_eq (unwrap_or o a.0) Ptr) e ∙ s) p)
  where
    first : (m : ℕ) → m ≡ m + 0
    first m = omega arith

    by_test : (b : Bool) → b ≡ true → AllPassed w ps (if b then Asked k ∷ string_uses (suc k) args else string_uses (suc k) args) → Passed w ps (Asked k)
    by_test true h q = q.0
    by_test false h q = absurd (true≢false (sym h))
passed_strings w ps k (a ∷ args) p (suc j) t e s = subst (λ n. Passed w ps (Asked n)) (next k j) (passed_strings w ps (suc k) args (by_test (type_eq a.0 Ptr) p) j t e s)
  where
    next : (m j : ℕ) → suc m + j ≡ m + suc j
    next m j = omega arith

    by_test : (b : Bool) → AllPassed w ps (if b then Asked k ∷ string_uses (suc k) args else string_uses (suc k) args) → AllPassed w ps (string_uses (suc k) args)
    by_test true q = q.1
    by_test false q = q

module _ (s : Setting) (fill : List ℕ) (h : Here) (root : ℕ) (w : World) (b : Unseen) (alike : BytesAlike w b) (fit : FitWorld w) (others : (x : ℕ) → b.bytes x < 256) where
  module _ (ps qs : List Poisoned) (words : AlikeWords ps qs) (small : (word_at 1 ps).value < 2 ^ 64) where
    fixed_alike : (args : List (Ty × Operand)) (e : External) → is_plain e ≡ true → AllPassed w ps (external_uses e args) → ExtAlike s fill h.site root w b alike fit others e (map (λ a. a.0) args) ps qs
    fixed_alike args e f p =
        subst (λ g. EffectsAlike answered answered g (external_planes (refill s fill) h.site root e qs (other w b)) (external s h.site e (map (λ a. a.0) args) (map (λ p. p.value) ps) w) (external (refill s fill) h.site e (map (λ a. a.0) args) (map (λ p. p.value) qs) (other w b)))
        (sym (planes_three s h.site root e ps w))
        (subst (λ g. EffectsAlike answered answered (external_planes s h.site root e (three_words ps) w) g (external s h.site e (map (λ a. a.0) args) (map (λ p. p.value) ps) w) (external (refill s fill) h.site e (map (λ a. a.0) args) (map (λ p. p.value) qs) (other w b)))
        (sym (planes_three (refill s fill) h.site root e qs (other w b)))
        (subst (λ x. EffectsAlike answered answered (external_planes s h.site root e (three_words ps) w) (external_planes (refill s fill) h.site root e (three_words qs) (other w b)) x (external (refill s fill) h.site e (map (λ a. a.0) args) (map (λ p. p.value) qs) (other w b)))
        (sym (external_three s h.site e f (map (λ a. a.0) args) ps w))
        (subst (λ x. EffectsAlike answered answered (external_planes s h.site root e (three_words ps) w) (external_planes (refill s fill) h.site root e (three_words qs) (other w b)) (external s h.site e (map (λ a. a.0) args) (map (λ p. p.value) (three_words ps)) w) x)
        (sym (external_three (refill s fill) h.site e f (map (λ a. a.0) args) qs (other w b)))
        (three_alike s fill h.site root w b alike fit others (word_at 0 ps) (word_at 1 ps) (word_at 2 ps) (word_at 0 qs) (word_at 1 qs) (word_at 2 qs)
        (word_alike 0 ps qs words) (word_alike 1 ps qs words) (word_alike 2 ps qs words) (map (λ a. a.0) args) args small e f (passed_three w ps args e f p)))))

    -- `printf` looks at all its words, and at the strings that its format asks for
    printf_alike : (args : List (Ty × Operand)) → AllPassed w ps (external_uses Printf args) → ExtAlike s fill h.site root w b alike fit others Printf (map (λ a. a.0) args) ps qs
    printf_alike args p = prints_alike s fill h.site root w b alike fit others (formatted w types (map (λ q. q.value) ps)) (formatted (other w b) types (map (λ q. q.value) qs)) same
      where
        types : List Ty
        types = map (λ a. a.0) args

        format : (word_at 0 ps).value ≡ (word_at 0 qs).value
        format = number_same (word_at 0 ps) (word_at 0 qs) (word_alike 0 ps qs words) p.0

        strings : (a : ℕ) → first_in_string w a (bytes_left w a) ≡ None → string_at w a ≡ string_at (other w b) a
        strings a e = checked_string s fill h.site root w b alike fit others a e

        values : ((j : ℕ) → j < length (drop 1 args) → (word_at (1 + j) ps).mask ≡ 0) × AllPassed w ps (string_uses 1 (drop 1 args))
        values = passed_values w ps 1 (drop 1 args) (string_uses 1 (drop 1 args)) p.1.1

        rest_types : (args : List (Ty × Operand)) → drop 1 (map (λ a. a.0) args) ≡ map (λ a. a.0) (drop 1 args)
        rest_types [] = refl
        rest_types (a ∷ rest) = refl

        many : (rest : List (Ty × Operand)) → length (map (λ a. a.0) rest) ≡ length rest
        many [] = refl
        many (a ∷ rest) = ap suc (many rest)

        rest_values : (rs : List Poisoned) → map (λ q. q.value) (drop 1 rs) ≡ drop 1 (map (λ q. q.value) rs)
        rest_values [] = refl
        rest_values (r ∷ rs) = refl

        rest_alike : (rs ts : List Poisoned) → AlikeWords rs ts → AlikeWords (drop 1 rs) (drop 1 ts)
        rest_alike [] [] k = tt
        rest_alike (r ∷ rs) (t ∷ ts) k = k.1
        rest_alike [] (t ∷ ts) k = absurd k
        rest_alike (r ∷ rs) [] k = absurd k

        rest_at : (rs : List Poisoned) (j : ℕ) → word_at j (drop 1 rs) ≡ word_at (1 + j) rs
        rest_at [] j = refl
        rest_at (r ∷ rs) j = ap (λ n. word_at n (r ∷ rs)) (next j)
          where
            next : (m : ℕ) → suc m ≡ 1 + m
            next m = omega arith

        zipped : zip (drop 1 types) (drop 1 (map (λ q. q.value) ps)) ≡ zip (drop 1 types) (drop 1 (map (λ q. q.value) qs))
        zipped =
            ap (λ l. zip (drop 1 types) l) (sym (rest_values ps))
            ∙ zip_same (drop 1 types) (drop 1 ps) (drop 1 qs) (rest_alike ps qs words)
            (λ j l. ap (λ x. x.mask) (rest_at ps j) ∙ values.0 j (subst (λ n. j < n) (ap length (rest_types args) ∙ many (drop 1 args)) l))
            ∙ ap (λ l. zip (drop 1 types) l) (rest_values qs)

        asked : (bs : List ℕ) → string_at w (word_at 0 ps).value ≡ Some bs → StringsSame (string_at w) (string_at (other w b)) (cut_of bs).pieces (zip (drop 1 types) (drop 1 (map (λ q. q.value) ps)))
        asked bs e j is a found pointer =
            let at = zip_at (drop 1 types) (drop 1 (map (λ q. q.value) ps)) j a found in
            let passed = passed_strings w ps 1 (drop 1 args) values.1 j a.0 (ap (λ l. slice_get l j) (sym (rest_types args)) ∙ at.0) pointer in
            let named : asks_string_at w (word_at 0 ps).value (1 + j) ≡ true =
            ap (λ o. elim o as (λ z. Bool) [ Some x ↦ asks_string x (1 + j) | None ↦ false ]) e ∙ ap (λ n. asks_string bs n) (next j) ∙ is in
            let value : (word_at (1 + j) ps).value ≡ a.1 = ap (λ x. x.value) (sym (rest_at ps j)) ∙ sym (word_number j (drop 1 ps)) ∙ ap (λ l. get_or l j 0) (rest_values ps) ∙ at.1 in
            subst (λ v. string_at w v ≡ string_at (other w b) v) value (strings (word_at (1 + j) ps).value (passed named))
          where
            next : (m : ℕ) → 1 + m ≡ suc m
            next m = omega arith

        shown_same : (o : Option (List ℕ)) → string_at w (word_at 0 ps).value ≡ o
            → (elim o as (λ z. Result (List ℕ) Trap) [ Some bs ↦ cut_shown w bs (drop 1 types) (drop 1 (map (λ q. q.value) ps)) | None ↦ Err trap.BadAddress ])
            ≡ (elim o as (λ z. Result (List ℕ) Trap) [ Some bs ↦ cut_shown (other w b) bs (drop 1 types) (drop 1 (map (λ q. q.value) qs)) | None ↦ Err trap.BadAddress ])
        shown_same None e = refl
        shown_same (Some bs) e =
            ap (λ l. all_shown (cut_of bs).bad l) (all_same (string_at w) (string_at (other w b)) (cut_of bs).pieces (zip (drop 1 types) (drop 1 (map (λ q. q.value) ps))) (asked bs e)
            ∙ ap (λ l. map (shown (string_at (other w b))) (with_arguments (cut_of bs).pieces l)) zipped)

        same : formatted w types (map (λ q. q.value) ps) ≡ formatted (other w b) types (map (λ q. q.value) qs)
        same =
            ap (λ v. elim (string_at w v) as (λ z. Result (List ℕ) Trap) [ Some bs ↦ cut_shown w bs (drop 1 types) (drop 1 (map (λ q. q.value) ps)) | None ↦ Err trap.BadAddress ]) (word_number 0 ps)
            ∙ shown_same (string_at w (word_at 0 ps).value) refl
            ∙ ap (λ o. elim o as (λ z. Result (List ℕ) Trap) [ Some bs ↦ cut_shown (other w b) bs (drop 1 types) (drop 1 (map (λ q. q.value) qs)) | None ↦ Err trap.BadAddress ])
            (strings (word_at 0 ps).value p.1.0 ∙ ap (string_at (other w b)) (format ∙ sym (word_number 0 qs)))

    -- what a call comes to under its name, where it is no function of whole words
    plain_result : (r : Option Ty) → (λ (v : ℕ) (u : World). record { value = v; mask = as_result r 0; origin = 0 }) ≡ answered
    plain_result r = λ i v u. record { value = v; mask = result_zero r i; origin = 0 }
      where
        result_zero : (r : Option Ty) → as_result r 0 ≡ 0
        result_zero None = refl
        result_zero (Some t) = zero-mod (2 ^ width_of t)

    -- the same externals, under the name of a call
    abbrev CallAlike : Option Ty → External → List (Ty × Operand) → Type 0
    CallAlike r e args =
        EffectsAlike (called_result r (Some e) ps) (called_result r (Some e) qs) (external_planes s h.site root e ps w) (external_planes (refill s fill) h.site root e qs (other w b))
        (external s h.site e (map (λ a. a.0) args) (map (λ p. p.value) ps) w) (external (refill s fill) h.site e (map (λ a. a.0) args) (map (λ p. p.value) qs) (other w b))

    as_called : (r : Option Ty) (e : External) (args : List (Ty × Operand)) → (called_result r (Some e) ps ≡ answered) → (called_result r (Some e) qs ≡ answered)
        → ExtAlike s fill h.site root w b alike fit others e (map (λ a. a.0) args) ps qs → CallAlike r e args
    as_called r e args p q same =
        subst (λ l. EffectsAlike l (called_result r (Some e) qs) (external_planes s h.site root e ps w) (external_planes (refill s fill) h.site root e qs (other w b))
        (external s h.site e (map (λ a. a.0) args) (map (λ p. p.value) ps) w) (external (refill s fill) h.site e (map (λ a. a.0) args) (map (λ p. p.value) qs) (other w b))) (sym p)
        (subst (λ l. EffectsAlike answered l (external_planes s h.site root e ps w) (external_planes (refill s fill) h.site root e qs (other w b))
        (external s h.site e (map (λ a. a.0) args) (map (λ p. p.value) ps) w) (external (refill s fill) h.site e (map (λ a. a.0) args) (map (λ p. p.value) qs) (other w b))) (sym q) same)

    ext_alike : (r : Option Ty) (args : List (Ty × Operand)) (e : External) → AllPassed w ps (external_uses e args) → WordStands (Some e) r args ps
        → ((k : ℕ) (n : WordWidth) → NoneWider (bits_of n) args → LowAt (bits_of n) (word_at k ps) (word_at k qs))
        → union (map (λ p. p.mask) (blind_words (Some e) args ps)) ≡ 0 → CallAlike r e args
    ext_alike r args Printf p stands low quiet = as_called r Printf args (plain_result r) (plain_result r) (printf_alike args p)
    ext_alike r args (called.Word f n) p stands low quiet =
        word_call h.site r f n args ps qs words (λ k. low k n stands.1) stands quiet w (other w b) (low_other w b alike)
    ext_alike r args PthreadCreate p stands low quiet = absurd stands
    ext_alike r args PthreadJoin p stands low quiet = absurd stands
    ext_alike r args SchedYield p stands low quiet = absurd stands
    ext_alike r args e p stands low quiet = as_called r e args (plain_result r) (plain_result r) (fixed_alike args e refl p)

    call_alike : (r : Option Ty) (x : Name) (args : List (Ty × Operand)) → AllPassed w ps (uses s.func h.main (op.Call r x args)) → WordsStand s.func (op.Call r x args) ps
        → ((k : ℕ) (n : WordWidth) → NoneWider (bits_of n) args → LowAt (bits_of n) (word_at k ps) (word_at k qs))
        → union (map (λ p. p.mask) (blinded s.func (op.Call r x args) ps)) ≡ 0 → OpAlike s fill h root w b alike fit others (op.Call r x args) ps qs
    call_alike r x args p stands low quiet = by_place (s.func x) (lookup externals x) (external_named s.func x) refl p stands quiet
      where
        none_alike : (e : Option External) → AllPassed w ps (callee_uses e args) → WordStands e r args ps → union (map (λ p. p.mask) (blind_words e args ps)) ≡ 0
            → EffectsAlike (called_result r e ps) (called_result r e qs) (callee_planes s h.site root e ps w) (callee_planes (refill s fill) h.site root e qs (other w b))
            (elim e [ Some x ↦ external s h.site x (map (λ a. a.0) args) (map (λ p. p.value) ps) w | None ↦ Ends stuck w ])
            (elim e [ Some x ↦ external (refill s fill) h.site x (map (λ a. a.0) args) (map (λ p. p.value) qs) (other w b) | None ↦ Ends stuck (other w b) ])
        none_alike (Some e) p stands quiet = ext_alike r args e p stands low quiet
        none_alike None p stands quiet = (refl, low_other w b alike)

        by_place : (o : Option ℕ) (e q : Option External) → q ≡ (if is_some o then None else e) → AllPassed w ps (callee_uses q args) → WordStands q r args ps
            → union (map (λ p. p.mask) (blind_words q args ps)) ≡ 0
            → EffectsAlike (called_result r e ps) (called_result r e qs) (callee_planes s h.site root q ps w) (callee_planes (refill s fill) h.site root q qs (other w b))
            (elim o [ Some f ↦ Enters f w | None ↦ elim q [ Some x ↦ external s h.site x (map (λ a. a.0) args) (map (λ p. p.value) ps) w | None ↦ Ends stuck w ] ])
            (elim o [ Some f ↦ Enters f (other w b) | None ↦ elim q [ Some x ↦ external (refill s fill) h.site x (map (λ a. a.0) args) (map (λ p. p.value) qs) (other w b) | None ↦ Ends stuck (other w b) ] ])
        by_place (Some f) e q is p stands quiet = (refl, low_other w b alike)
        by_place None e q is p stands quiet =
            subst
            (λ (z : Option External). AllPassed w ps (callee_uses z args) → WordStands z r args ps → union (map (λ p. p.mask) (blind_words z args ps)) ≡ 0
            → EffectsAlike (called_result r e ps) (called_result r e qs) (callee_planes s h.site root z ps w) (callee_planes (refill s fill) h.site root z qs (other w b))
            (elim z [ Some x ↦ external s h.site x (map (λ a. a.0) args) (map (λ p. p.value) ps) w | None ↦ Ends stuck w ])
            (elim z [ Some x ↦ external (refill s fill) h.site x (map (λ a. a.0) args) (map (λ p. p.value) qs) (other w b) | None ↦ Ends stuck (other w b) ]))
            (sym is) (λ given held silent. none_alike e given held silent) p stands quiet

  module _ (read others_read : ℕ → Ty → Operand → Poisoned) (reads : (n : ℕ) (t : Ty) (o : Operand) → LowAt (width_of t) (read n t o) (others_read n t o)) (n : ℕ) where
    -- what an instruction comes to, where its checks found nothing and it loses no poisoned bit
    pub inst_alike : (o : Op) → CastStands o → CallStands o (read_all read (operands o) n) → WordsStand s.func o (read_all read (operands o) n) → AddressStands s.types o (read_all read (operands o) n) → union (map (λ p. p.mask) (blinded s.func o (read_all read (operands o) n))) ≡ 0
        → AllPassed w (read_all read (operands o) n) (uses s.func h.main o) → ReadAlike s fill h root w b alike fit others read others_read reads n o
    inst_alike (op.Call r x args) fits small words stands quiet passed =
        call_alike (read_all read args n) (read_all others_read args n) (read_all_alike read others_read reads args n) small r x args passed words
        (λ k width narrow. words_low (bits_of width) read others_read reads args n narrow k) quiet
    inst_alike o fits small words stands quiet passed = op_alike s fill h root w b alike fit others read others_read reads n o tt fits stands quiet passed
