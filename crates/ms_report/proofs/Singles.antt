-- The parts of the printed lines have no newline.
use Rattle.std.proofs.Common.{◌≡◌, ◌∙◌, ◌++◌, ◌+◌, ◌||◌, ℕ, zero, suc, Bool, true, false, List, [], ◌∷◌, Option, Some, None, refl, sym, ap, true≢false, if◌then◌else◌, codes, eqb, arith}
use Rattle.std.specs.Prelude.{not, decimal, flat_map, nat_lt, ◌/◌, ◌%◌, ◌==◌}
use Rattle.std.specs.Fmt.{digits, digits_onto, digit_glyph}
use Rattle.std.specs.List.{list_any, list_all}
use Rattle.std.specs.Char.{is_ascii_digit}
use Rattle.std.proofs.lemmas.Bool.{and_parts, ne_eqb}
use Rattle.ms_bits.specs.declared.traps.Trap.{Trap}
use Rattle.ms_bits.specs.declared.traps.Trap.TheVariants as trap
use Rattle.ms_lex.specs.Tokens.{Text, is_name_byte}
use Rattle.ms_text_grammar.specs.declared.refusals.Outside.{Outside}
use Rattle.ms_text_grammar.specs.declared.refusals.Outside.TheVariants as outside
use Rattle.ms_text_grammar.specs.declared.refusals.Limit.{Limit}
use Rattle.ms_text_grammar.specs.declared.refusals.Limit.TheVariants as limit
use Rattle.ms_read_body.specs.declared.errors.What.{What}
use Rattle.ms_read_body.specs.declared.errors.What.TheVariants as what
use Rattle.ms_ir.specs.declared.syntax.Name.{Name}
use Rattle.ms_ir.specs.declared.syntax.Name.TheVariants.{Number, Text as Called}
use Rattle.ms_ir.specs.declared.syntax.Module.{Module}
use Rattle.ms_ir.specs.declared.places.Root.{Root}
use Rattle.ms_ir.specs.declared.places.RootKind.{RootKind}
use Rattle.ms_ir.specs.declared.places.RootKind.TheVariants.{Alloca, Malloc, Realloc, Lifetime, Undef}
use Rattle.ms_ir.specs.Locals.{Spelled}
use Rattle.ms_ir.specs.Roots.{root_numbered}
use Rattle.ms_runs.specs.declared.runs.End.{End}
use Rattle.ms_runs.specs.declared.runs.End.TheVariants as ends
use Rattle.ms_runs.specs.declared.runs.Origin.{Origin}
use Rattle.ms_runs.specs.declared.runs.Origin.TheVariants as origin
use Rattle.ms_runs.specs.declared.runs.Report.{Report}
use Rattle.ms_runs.specs.Verdict.{Verdict, Poisoned, Unsure, Clean}
use Rattle.ms_text_grammar.specs.LayoutNames.{is_printed, hexadecimal_digit, string_byte, quoted, is_plain, name_text}
use Rattle.ms_where_places.specs.Indented.{is_newline, has_no_newline}
use Rattle.ms_report.specs.RunTexts.{trap_name, function_of, function_text, site_text, end_text, verdict_text}
use Rattle.ms_report.specs.ReportTexts.{hexadecimal, kind_text, root_name, root_text, origin_text, use_text, bits_text}
use Rattle.ms_report.specs.SchedulesTexts.{hex_text}
use Rattle.ms_report.specs.FaultTexts.{signed, at_site, spaced}
use Rattle.ms_report.specs.RefusalTexts.{outside_name, limit_name, cause_name, what_text, token_text}

-- no newline stands in the text
pub record Single (text : List ℕ) : Type 0 where
  pub none : has_no_newline text ≡ true

pub literal : (text : List ℕ) → has_no_newline text ≡ true → Single text
literal text none = record { none = none }

-- ---- one text after another

one_byte : (b : ℕ) (text : List ℕ) → is_newline b ≡ false → has_no_newline text ≡ true → has_no_newline (b ∷ text) ≡ true
one_byte b text other none = ap (λ t. not (t || list_any is_newline text)) other ∙ none

single_byte : (b : ℕ) (text : List ℕ) → is_newline b ≡ false → Single text → Single (b ∷ text)
single_byte b text other single = record { none = one_byte b text other single.none }

both_none : (a b : List ℕ) → has_no_newline a ≡ true → has_no_newline b ≡ true → has_no_newline (a ++ b) ≡ true
both_none [] b first second = second
both_none (x ∷ a) b first second = elim (is_newline x) as (λ t. not (t || list_any is_newline a) ≡ true → not (t || list_any is_newline (a ++ b)) ≡ true) [
  | true ↦ λ h. absurd (true≢false (sym h))
  | false ↦ λ h. both_none a b h second
] first

pub joined : {a b : List ℕ} → Single a → Single b → Single (a ++ b)
joined {a = a} {b = b} first second = record { none = both_none a b first.none second.none }

chosen : (t : Bool) (a b : List ℕ) → Single a → Single b → Single (if t then a else b)
chosen true a b first second = first
chosen false a b first second = second

-- ---- numbers

no_newline : (b : ℕ) → (b ≡ 10 → ⊥) → is_newline b ≡ false
no_newline b other = ne_eqb b 10 other

glyph_other : (d : ℕ) → is_newline (digit_glyph false d) ≡ false
glyph_other d = elim (nat_lt d 10) as (λ t. is_newline (if t then 48 + d else 87 + d) ≡ false) [
  | true ↦ no_newline (48 + d) (λ e. omega (arith, e))
  | false ↦ no_newline (87 + d) (λ e. omega (arith, e))
]

digits_single : (base k n : ℕ) (acc : List ℕ) → Single acc → Single (digits_onto k base false n acc)
digits_single base zero n acc single = single
digits_single base (suc k) n acc single =
    let longer = single_byte (digit_glyph false (n % base)) acc (glyph_other (n % base)) single in
    chosen (n / base == 0) (digit_glyph false (n % base) ∷ acc) (digits_onto k base false (n / base) (digit_glyph false (n % base) ∷ acc)) longer
    (digits_single base k (n / base) (digit_glyph false (n % base) ∷ acc) longer)

pub of_number : (n : ℕ) → Single (decimal n)
unfolding digits
of_number n = digits_single 10 64 n [] (literal _ refl)

pub of_hexadecimal : (n : ℕ) → Single (hexadecimal n)
unfolding digits
of_hexadecimal n = digits_single 16 64 n [] (literal _ refl)

-- ---- schedules

pub of_hex : (bytes : List ℕ) → Single (hex_text bytes)
of_hex [] = literal _ refl
of_hex (b ∷ bytes) = joined (joined (of_hexadecimal (b / 16)) (of_hexadecimal (b % 16))) (of_hex bytes)

-- ---- names

not_named : (b : ℕ) → is_name_byte b ≡ true → is_newline b ≡ false
not_named b named = no_newline b (λ e. absurd (true≢false (sym named ∙ ap is_name_byte e)))

of_run : (w : Text) → list_all is_name_byte w ≡ true → Single w
of_run [] named = literal _ refl
of_run (b ∷ w) named =
    let parts = and_parts (is_name_byte b) (list_all is_name_byte w) named in
    single_byte b w (not_named b parts.0) (of_run w parts.1)

of_plain : (w : Text) → is_plain w ≡ true → Single w
of_plain [] plain = literal _ refl
of_plain (b ∷ w) plain = of_run (b ∷ w) (and_parts (not (is_ascii_digit b)) (list_all is_name_byte (b ∷ w)) plain).1

digit_other : (n : ℕ) → is_newline (hexadecimal_digit n) ≡ false
digit_other n = elim (nat_lt n 10) as (λ t. is_newline (if t then 48 + n else 55 + n) ≡ false) [
  | true ↦ no_newline (48 + n) (λ e. omega (arith, e))
  | false ↦ no_newline (55 + n) (λ e. omega (arith, e))
]

of_string_byte : (b : ℕ) → Single (string_byte b)
unfolding string_byte
of_string_byte b = elim (is_printed b) as (λ t. is_printed b ≡ t → Single (if t then b ∷ [] else 92 ∷ hexadecimal_digit (b / 16) ∷ hexadecimal_digit (b % 16) ∷ [])) [
  | true ↦ λ printed. single_byte b [] (no_newline b (λ e. absurd (true≢false (sym printed ∙ ap is_printed e)))) (literal _ refl)
  | false ↦ λ other. single_byte 92 _ refl (single_byte (hexadecimal_digit (b / 16)) _ (digit_other (b / 16)) (single_byte (hexadecimal_digit (b % 16)) [] (digit_other (b % 16)) (literal _ refl)))
] refl

of_string_bytes : (w : Text) → Single (flat_map string_byte w)
of_string_bytes [] = literal _ refl
of_string_bytes (b ∷ w) = joined (of_string_byte b) (of_string_bytes w)

of_quoted : (w : Text) → Single (quoted w)
unfolding quoted
of_quoted w = single_byte 34 _ refl (joined (of_string_bytes w) (literal (34 ∷ []) refl))

pub of_name : (x : Name) → Single (name_text x)
unfolding name_text
of_name (Number n) = of_number n
of_name (Called w) = elim (is_plain w) as (λ t. is_plain w ≡ t → Single (if t then w else quoted w)) [
  | true ↦ λ plain. of_plain w plain
  | false ↦ λ other. of_quoted w
] refl

-- ---- runs

pub of_function : (f : Option Name) → Single (function_text f)
of_function None = literal _ refl
of_function (Some x) = joined (literal (codes "@") refl) (of_name x)

pub of_site : (m : Module) (site : ℕ) → Single (site_text m site)
of_site m site = joined (joined (joined (literal (codes " at site ") refl) (of_number site)) (literal (codes " in ") refl)) (of_function (function_of m site))

of_trap : (t : Trap) → Single (trap_name t)
of_trap trap.Shift = literal _ refl
of_trap trap.ZeroDivisor = literal _ refl
of_trap trap.ZeroPoison = literal _ refl
of_trap trap.Overflow = literal _ refl
of_trap trap.Nuw = literal _ refl
of_trap trap.Nsw = literal _ refl
of_trap trap.Exact = literal _ refl
of_trap trap.Disjoint = literal _ refl
of_trap trap.Nneg = literal _ refl
of_trap trap.Samesign = literal _ refl
of_trap trap.BadAddress = literal _ refl
of_trap trap.BadFree = literal _ refl
of_trap trap.Stack = literal _ refl
of_trap trap.Depth = literal _ refl
of_trap trap.Output = literal _ refl
of_trap trap.Unreachable = literal _ refl
of_trap trap.Abort = literal _ refl
of_trap trap.Deadlock = literal _ refl
of_trap trap.Format = literal _ refl

pub of_end : (m : Module) (e : End) → Single (end_text m e)
of_end m (ends.Exit n) = joined (literal (codes "exit ") refl) (of_number n)
of_end m (ends.Trap kind site) = joined (joined (literal (codes "trap ") refl) (of_trap kind)) (of_site m site)
of_end m ends.Reported = literal _ refl
of_end m ends.Spent = literal _ refl

pub of_verdict : (v : Verdict) → Single (verdict_text v)
of_verdict Poisoned = literal _ refl
of_verdict Unsure = literal _ refl
of_verdict Clean = literal _ refl

-- ---- reports

of_kind : (k : ℕ) → Single (kind_text k)
of_kind k =
    chosen (eqb k 1) _ _ (literal _ refl) (
    chosen (eqb k 2) _ _ (literal _ refl) (
    chosen (eqb k 3) _ _ (literal _ refl) (
    chosen (eqb k 4) _ _ (literal _ refl) (
    chosen (eqb k 5) _ _ (literal _ refl) (
    chosen (eqb k 6) _ _ (literal _ refl) (
    chosen (eqb k 7) _ _ (literal _ refl) (
    chosen (eqb k 8) _ _ (literal _ refl) (
    chosen (eqb k 9) _ _ (literal _ refl) (
    chosen (eqb k 10) _ _ (literal _ refl) (
    chosen (eqb k 11) _ _ (literal _ refl) (
    chosen (eqb k 12) _ _ (literal _ refl) (
    joined (literal (codes "kind ") refl) (of_number k)))))))))))))

of_root_kind : (k : RootKind) → Single (root_name k)
of_root_kind Alloca = literal _ refl
of_root_kind Malloc = literal _ refl
of_root_kind Realloc = literal _ refl
of_root_kind Lifetime = literal _ refl
of_root_kind Undef = literal _ refl

of_root : (m : Module) (r : Option Root) → Single (root_text m r)
of_root m None = literal _ refl
of_root m (Some r) = joined (of_root_kind r.kind) (of_site m r.site)

pub of_origin : (m : Module) (o : Origin) → Single (origin_text m o)
of_origin m (origin.Root number) = of_root m (root_numbered m number)
of_origin m (origin.Chain old site) = joined (literal (codes "stored") refl) (of_site m site)

pub of_use : (m : Module) (number : ℕ) (r : Report) → Single (use_text m number r)
of_use m number r = joined (joined (joined (joined (literal (codes "report ") refl) (of_number number)) (literal (codes ": ") refl)) (of_kind r.kind)) (of_site m r.site)

pub of_bits : (r : Report) → Single (bits_text r)
of_bits r =
    joined (joined (joined (joined (joined (literal (codes ", part ") refl) (of_number r.part)) (literal (codes ", bits 0x") refl)) (of_hexadecimal r.mask))
    (literal (codes " of i") refl)) (of_number r.width)

-- ---- refusals

pub of_signed : (x : Spelled) → Single (signed x)
of_signed x = joined (chosen x.global (codes "@") (codes "%") (literal _ refl) (literal _ refl)) (of_name x.name)

pub of_place : (site : ℕ) → Single (at_site site)
of_place site = joined (literal (codes " at site ") refl) (of_number site)

pub of_path : (path : List ℕ) → Single (spaced path)
of_path [] = literal _ refl
of_path (n ∷ path) = joined (joined (literal (codes " ") refl) (of_number n)) (of_path path)

of_construct : (o : Outside) → Single (outside_name o)
of_construct outside.FloatingPoint = literal _ refl
of_construct outside.Vector = literal _ refl
of_construct outside.WideInteger = literal _ refl
of_construct outside.AddressSpace = literal _ refl
of_construct outside.ThreadLocal = literal _ refl
of_construct outside.AggregateValue = literal _ refl
of_construct outside.ByValue = literal _ refl
of_construct outside.IndirectCall = literal _ refl
of_construct outside.FunctionType = literal _ refl
of_construct outside.Variadic = literal _ refl
of_construct outside.Exceptions = literal _ refl
of_construct outside.Assembly = literal _ refl
of_construct outside.IndirectBranch = literal _ refl
of_construct outside.Atomics = literal _ refl
of_construct outside.Volatile = literal _ refl
of_construct outside.VariableArguments = literal _ refl
of_construct outside.Alias = literal _ refl
of_construct outside.Comdat = literal _ refl
of_construct outside.ExternalGlobal = literal _ refl
of_construct outside.OpaqueType = literal _ refl
of_construct outside.TypedPointer = literal _ refl
of_construct outside.MetadataOperand = literal _ refl
of_construct outside.OperandBundle = literal _ refl
of_construct outside.ConstantExpression = literal _ refl
of_construct outside.CallOfMain = literal _ refl

of_limit : (l : Limit) → Single (limit_name l)
of_limit limit.Instructions = literal _ refl
of_limit limit.Functions = literal _ refl
of_limit limit.Globals = literal _ refl
of_limit limit.Parameters = literal _ refl
of_limit limit.Types = literal _ refl
of_limit limit.Indices = literal _ refl
of_limit limit.Name = literal _ refl

pub of_cause : (number : ℕ) → Single (cause_name number)
of_cause number =
    chosen (eqb number 4) _ _ (literal _ refl) (
    chosen (eqb number 5) _ _ (literal _ refl) (
    chosen (eqb number 6) _ _ (literal _ refl) (
    chosen (eqb number 7) _ _ (literal _ refl) (
    literal _ refl))))

pub of_what : (w : What) → Single (what_text w)
of_what what.Nothing = literal _ refl
of_what (what.Outside construct) = joined (literal (codes " ") refl) (of_construct construct)
of_what (what.Limit l) = joined (literal (codes " ") refl) (of_limit l)

pub of_token : (token place : ℕ) → Single (token_text token place)
of_token token place = joined (joined (joined (literal (codes " at token ") refl) (of_number token)) (literal (codes ", byte ") refl)) (of_number place)
