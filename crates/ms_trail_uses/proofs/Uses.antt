-- Uses that are checked, one after the other.
use Rattle.std.proofs.Common.{◌≡◌, ◌≢◌, ◌≤◌, ◌<◌, ◌+◌, ◌-◌, ◌%◌, ◌^◌, ℕ, zero, suc, Bool, true, false, eqb, ltb, List, [], ◌∷◌, ◌++◌, drop, length, get_or, if◌then◌else◌, Option, Some, None, refl, sym, ap, ◌∙◌, subst, arith, add-one, IsTrue}
use Rattle.std.proofs.Math.Nat.{mod-eq_of_lt}
use Rattle.std.proofs.lemmas.Bool.{eq-eqb, ne_eqb, ltb-true, ltb-false}
use Rattle.std.proofs.lemmas.Option.{same_Some, none-some}
use Rattle.std.proofs.lemmas.Nat.{pow_pos}
use Rattle.std.specs.Prelude.{All, option_map}
use Rattle.ms_bits.specs.Maps.{first_nonzero}
use Rattle.ms_alloc.specs.Allocations.{Allocations, IsLaidOut, is_good as is_live}
use Rattle.ms_ir.specs.declared.syntax.Ty.{Ty}
use Rattle.ms_ir.specs.declared.syntax.Ty as ty
use Rattle.ms_ir.specs.declared.syntax.Operand.{Operand}
use Rattle.ms_ir.specs.Equal.{type_eq}
use Rattle.ms_ir.proofs.Sizes.{drop_next}
use Rattle.ms_runs.specs.World.{World}
use Rattle.ms_runs.specs.Memory.{is_good, bytes_left}
use Rattle.ms_runs.specs.Origins.{first_in_string}
use Rattle.ms_runs.specs.Poisoned.{Poisoned}
use Rattle.ms_runs.specs.Masks.{word_at}
use Rattle.ms_runs.specs.Uses as meant
use Rattle.ms_runs.specs.Uses.{string_uses}
use Rattle.ms_runs_uses.specs.declared.uses.CheckedUse.{CheckedUse}
use Rattle.ms_runs_uses.specs.Uses.{use_of}
use Rattle.ms_machine_code.specs.declared.code.WordSource.{WordSource}
use Rattle.ms_machine_code.specs.declared.code.WordSource.TheVariants as source
use Rattle.ms_machine_code.specs.Words.{word_of}
use Rattle.ms_machine_code.specs.Fits.{IsSource}
use Rattle.ms_host.specs.declared.shadows.PoisonedByte.{PoisonedByte}
use Rattle.ms_host.specs.Poisonings.{IsFound}
use Rattle.ms_host.proofs.StringSteps.{fits-word}
use Rattle.ms_trail_masks.specs.Shades.{mask_of}
use Rattle.ms_trail_masks.specs.Results.{bare}
use Rattle.ms_trail_uses.specs.declared.used.Used.{Used}
use Rattle.ms_trail_uses.specs.declared.used.Used.TheVariants as read
use Rattle.ms_trail_moves.specs.Sources.{byte_source}
use Rattle.ms_trail_uses.specs.Used.{used_byte, byte_used, found_used, word_read, range_read, string_read, asked_read, use_read, or_used, first_read, string_use_read, seen}

-- ---- arguments

-- an argument is read where its source is
pub seen_at : (fill xs ms : List ℕ) (args : List WordSource) (k : ℕ) → word_at k (seen fill xs ms args) ≡ bare (word_of fill xs (get_or args k (source.Word 0))) (mask_of ms (get_or args k (source.Word 0)))
seen_at fill xs ms [] k = refl
seen_at fill xs ms (s ∷ args) zero = refl
seen_at fill xs ms (s ∷ args) (suc k) = seen_at fill xs ms args k

pub seen_value : (fill xs ms : List ℕ) (args : List WordSource) (k v : ℕ) (s : WordSource) → s ≡ get_or args k (source.Word 0) → v ≡ word_of fill xs s → v ≡ (word_at k (seen fill xs ms args)).value
seen_value fill xs ms args k v s is e = e ∙ ap (word_of fill xs) is ∙ sym (ap (λ (p : Poisoned). p.value) (seen_at fill xs ms args k))

pub seen_mask : (fill xs ms : List ℕ) (args : List WordSource) (k v : ℕ) (s : WordSource) → s ≡ get_or args k (source.Word 0) → v ≡ mask_of ms s → v ≡ (word_at k (seen fill xs ms args)).mask
seen_mask fill xs ms args k v s is e = e ∙ ap (mask_of ms) is ∙ sym (ap (λ (p : Poisoned). p.mask) (seen_at fill xs ms args k))

pub same_default : (args : List WordSource) (k : ℕ) (s d e : WordSource) → k < length args → s ≡ get_or args k d → s ≡ get_or args k e
same_default [] k s d e lt is = absurd (omega (arith, lt))
same_default (x ∷ args) zero s d e lt is = is
same_default (x ∷ args) (suc k) s d e lt is = same_default args k s d e (omega (arith, lt)) is

pub past_default : (args : List WordSource) (k : ℕ) (d : WordSource) → length args ≤ k → d ≡ get_or args k d
past_default [] k d le = refl
past_default (x ∷ args) zero d le = absurd (omega (arith, le))
past_default (x ∷ args) (suc k) d le = past_default args k d (omega (arith, le))

-- an argument is there, or a constant in its place
pub arg_fits : (n : ℕ) (args : List WordSource) (k : ℕ) → All (IsSource n 64) args → IsSource n 64 (get_or args k (source.Word 0))
arg_fits n args k all = by_test (ltb k (length args)) refl
  where
    by_test : (b : Bool) → ltb k (length args) ≡ b → IsSource n 64 (get_or args k (source.Word 0))
    by_test true e = all k (source.Word 0) (ltb-true k (length args) e)
    by_test false e = subst (λ (s : WordSource). IsSource n 64 s) (past_default args k (source.Word 0) (ltb-false k (length args) e)) (pow_pos 64)

-- ---- words

pub word_found : (ps : List Poisoned) (k mask : ℕ) → mask ≡ (word_at k ps).mask → mask ≢ 0 → Some (read.Operand k) ≡ word_read ps k
word_found ps k mask e some = sym (ap (λ (b : Bool). if b then None else Some (read.Operand k)) (ne_eqb (word_at k ps).mask 0 (λ z. some (e ∙ z))))

pub word_clean : (ps : List Poisoned) (k mask : ℕ) → mask ≡ (word_at k ps).mask → mask ≡ 0 → None ≡ word_read ps k
word_clean ps k mask e none = sym (ap (λ (b : Bool). if b then None else Some (read.Operand k)) (eq-eqb (word_at k ps).mask 0 (sym e ∙ none)))

-- ---- bytes

first_within : (map : ℕ → ℕ) (n a x : ℕ) → first_nonzero map a n ≡ Some x → (a ≤ x) × (x < a + n)
first_within map zero a x e = absurd (cc)
first_within map (suc n) a x e = by_test (eqb (map a) 0) e (first_within map n (a + 1) x)
  where
    by_test : (b : Bool) → (if b then first_nonzero map (a + 1) n else Some a) ≡ Some x → (first_nonzero map (a + 1) n ≡ Some x → (a + 1 ≤ x) × (x < a + 1 + n)) → (a ≤ x) × (x < a + suc n)
    by_test true e later = let h = later e in (omega (arith, h.0), omega (arith, h.1))
    by_test false e later = let same : a ≡ x = same_Some a x e in (omega (arith, same), omega (arith, same))

string_within : (w : World) (n a x : ℕ) → first_in_string w a n ≡ Some x → (a ≤ x) × (x < a + n)
string_within w zero a x e = absurd (cc)
string_within w (suc n) a x e = by_tests (eqb (w.shadow a) 0) (eqb (w.bytes a) 0) e (string_within w n (a + 1) x)
  where
    by_tests : (b d : Bool) → (if b then (if d then None else first_in_string w (a + 1) n) else Some a) ≡ Some x → (first_in_string w (a + 1) n ≡ Some x → (a + 1 ≤ x) × (x < a + 1 + n)) → (a ≤ x) × (x < a + suc n)
    by_tests true true e later = absurd (none-some x e)
    by_tests true false e later = let h = later e in (omega (arith, h.0), omega (arith, h.1))
    by_tests false d e later = let same : a ≡ x = same_Some a x e in (omega (arith, same), omega (arith, same))

-- what a search found is the byte that it came to, if its address has 64 bits
found_is : (w : World) (start : ℕ) (o : Option ℕ) (f : Option PoisonedByte) → IsFound w start o f → ((x : ℕ) → o ≡ Some x → (start ≤ x) × (x < 2 ^ 64)) → found_used start f ≡ used_byte o
found_is w start None None h low = refl
found_is w start None (Some p) h low = absurd h
found_is w start (Some x) None h low = absurd h
found_is w start (Some x) (Some p) h low =
    let near = low x refl in
    let part : p.part ≡ x - start = h.0 in
    let sum : start + p.part ≡ x = omega (arith, part, near.0) in
    ap (λ (n : ℕ). Some (read.Byte n)) (ap (λ (n : ℕ). n % 2 ^ 64) sum ∙ mod-eq_of_lt near.1)

-- an address within live bytes has 64 bits
low_within : (t : Allocations) (a n x : ℕ) → IsLaidOut t → IsTrue (is_live a n t) → a ≤ x → x < a + n → x < 2 ^ 64
low_within t a n x laid live above below =
    let within : x - a < n = omega (arith, above, below) in
    let low : a + (x - a) < 2 ^ 64 = fits-word t a n (x - a) laid live within in
    omega (arith, low, above)

pub range_found : (t : Allocations) (w : World) (a n : ℕ) (f : Option PoisonedByte) → IsLaidOut t → IsTrue (is_live a n t) → is_good w a n ≡ true → IsFound w a (first_nonzero w.shadow a n) f → found_used a f ≡ range_read w a n
range_found t w a n f laid live good h =
    found_is w a (first_nonzero w.shadow a n) f h (λ x e. let at = first_within w.shadow n a x e in (at.0, low_within t a n x laid live at.0 at.1))
    ∙ sym (ap (λ (b : Bool). used_byte (if b then first_nonzero w.shadow a n else None)) good)

pub range_bad : (w : World) (a n : ℕ) → is_good w a n ≡ false → None ≡ range_read w a n
range_bad w a n bad = sym (ap (λ (b : Bool). used_byte (if b then first_nonzero w.shadow a n else None)) bad)

pub string_found : (t : Allocations) (w : World) (a room : ℕ) (f : Option PoisonedByte) → IsLaidOut t → IsTrue (is_live a room t) → room ≡ bytes_left w a → IsFound w a (first_in_string w a (bytes_left w a)) f
    → found_used a f ≡ string_read w a
string_found t w a room f laid live is h =
    found_is w a (first_in_string w a (bytes_left w a)) f h
    (λ x e. let at = string_within w (bytes_left w a) a x e in (at.0, low_within t a (bytes_left w a) x laid (subst (λ (n : ℕ). IsTrue (is_live a n t)) is live) at.0 at.1))

-- ---- one use after the other

module _ (w : World) (ps : List Poisoned) where
  -- the first of some uses is poisoned, or isn't
  pub first_stops : (u : meant.CheckedUse) (rest all : List meant.CheckedUse) (o : Option Used) (x : Used) → all ≡ u ∷ rest → o ≡ Some x → o ≡ use_read w ps u → Some x ≡ first_read w ps all
  first_stops u rest all o x next is e = ap (λ (y : Option Used). or_used y (first_read w ps rest)) (sym is ∙ e) ∙ sym (ap (first_read w ps) next)

  pub first_passes : (u : meant.CheckedUse) (rest all : List meant.CheckedUse) (o : Option Used) → all ≡ u ∷ rest → o ≡ None → o ≡ use_read w ps u → first_read w ps all ≡ first_read w ps rest
  first_passes u rest all o next is e = ap (first_read w ps) next ∙ ap (λ (y : Option Used). or_used y (first_read w ps rest)) (sym e ∙ is)

  -- some uses and others after them
  first_append : (us vs : List meant.CheckedUse) → first_read w ps (us ++ vs) ≡ or_used (first_read w ps us) (first_read w ps vs)
  first_append [] vs = refl
  first_append (u ∷ us) vs = ap (or_used (use_read w ps u)) (first_append us vs) ∙ sym (or_or (use_read w ps u) (first_read w ps us) (first_read w ps vs))
    where
      or_or : (x y z : Option Used) → or_used (or_used x y) z ≡ or_used x (or_used y z)
      or_or None y z = refl
      or_or (Some u) y z = refl

  pub all_first : (us vs ws further all : List meant.CheckedUse) → us ++ further ≡ all → further ≡ vs ++ ws → or_used (first_read w ps us) (or_used (first_read w ps vs) (first_read w ps ws)) ≡ first_read w ps all
  all_first us vs ws further all are rest =
      ap (or_used (first_read w ps us)) (sym (first_append vs ws)) ∙ sym (first_append us (vs ++ ws)) ∙ ap (first_read w ps) (ap (λ l. us ++ l) (sym rest) ∙ are)

  -- ---- the string at an argument of `printf`

  pub string_found_used : (t : Ty) (k : ℕ) (o : Option CheckedUse) (u : CheckedUse) → option_map use_of o ≡ (if type_eq t ty.Ptr then Some (meant.Asked k) else None) → o ≡ Some u → use_read w ps (use_of u) ≡ string_use_read w ps t k
  string_found_used t k o u is some = by_test (type_eq t ty.Ptr) (sym (ap (option_map use_of) some) ∙ is)
    where
      by_test : (b : Bool) → Some (use_of u) ≡ (if b then Some (meant.Asked k) else None) → use_read w ps (use_of u) ≡ (if b then asked_read w ps k else None)
      by_test true e = ap (use_read w ps) (same_Some (use_of u) (meant.Asked k) e)
      by_test false e = absurd cc

  pub string_none_used : (t : Ty) (k : ℕ) (o : Option CheckedUse) → option_map use_of o ≡ (if type_eq t ty.Ptr then Some (meant.Asked k) else None) → o ≡ None → None ≡ string_use_read w ps t k
  string_none_used t k o is none = by_test (type_eq t ty.Ptr) (sym (ap (option_map use_of) none) ∙ is)
    where
      by_test : (b : Bool) → None ≡ (if b then Some (meant.Asked k) else None) → None ≡ (if b then asked_read w ps k else None)
      by_test true e = absurd cc
      by_test false e = refl

  strings_first : (typed : List (Ty × Operand)) (k : ℕ) (pair : Ty × Operand) → k < length typed → pair ≡ get_or typed k pair
      → first_read w ps (string_uses k (drop k typed)) ≡ or_used (string_use_read w ps pair.0 k) (first_read w ps (string_uses (k + 1) (drop (k + 1) typed)))
  strings_first typed k pair lt is =
      ap (λ os. first_read w ps (string_uses k os)) (drop_next typed k pair lt is) ∙ by_test (type_eq pair.0 ty.Ptr)
      ∙ ap (λ n. or_used (string_use_read w ps pair.0 k) (first_read w ps (string_uses n (drop (k + 1) typed)))) (sym (add-one k))
    where
      by_test : (b : Bool) → first_read w ps (if b then meant.Asked k ∷ string_uses (suc k) (drop (k + 1) typed) else string_uses (suc k) (drop (k + 1) typed))
          ≡ or_used (if b then asked_read w ps k else None) (first_read w ps (string_uses (suc k) (drop (k + 1) typed)))
      by_test true = refl
      by_test false = refl

  pub strings_stop : (typed : List (Ty × Operand)) (k : ℕ) (pair : Ty × Operand) (o : Option Used) (x : Used) → k < length typed → pair ≡ get_or typed k pair → o ≡ Some x → o ≡ string_use_read w ps pair.0 k
      → Some x ≡ first_read w ps (string_uses k (drop k typed))
  strings_stop typed k pair o x lt is found e =
      ap (λ (y : Option Used). or_used y (first_read w ps (string_uses (k + 1) (drop (k + 1) typed)))) (sym found ∙ e) ∙ sym (strings_first typed k pair lt is)

  pub strings_pass : (typed : List (Ty × Operand)) (k : ℕ) (pair : Ty × Operand) (o : Option Used) → k < length typed → pair ≡ get_or typed k pair → o ≡ None → o ≡ string_use_read w ps pair.0 k
      → first_read w ps (string_uses k (drop k typed)) ≡ first_read w ps (string_uses (k + 1) (drop (k + 1) typed))
  strings_pass typed k pair o lt is none e =
      strings_first typed k pair lt is ∙ ap (λ (y : Option Used). or_used y (first_read w ps (string_uses (k + 1) (drop (k + 1) typed)))) (sym e ∙ none)

-- ---- a byte, as a source

-- the first poisoned one of good bytes, as a source
byte_found_source : (o : Option ℕ) → byte_used (used_byte o) ≡ byte_source o
byte_found_source (Some a) = refl
byte_found_source None = refl

pub range_source : (w : World) (a n : ℕ) → is_good w a n ≡ true → byte_used (range_read w a n) ≡ byte_source (first_nonzero w.shadow a n)
range_source w a n good = ap (λ (b : Bool). byte_used (used_byte (if b then first_nonzero w.shadow a n else None))) good ∙ byte_found_source (first_nonzero w.shadow a n)
