-- An external that the host answers has a fixed number of arguments, and is no thread call.
use Rattle.std.proofs.Common.{◌≡◌, ℕ, ◌<◌, ◌^◌, false, List, get_or, refl, ap, ◌∙◌, subst}
use Rattle.ms_bits.specs.declared.word_functions.WordFn.{WordFn}
use Rattle.ms_bits.specs.declared.word_functions.WordWidth.{WordWidth}
use Rattle.ms_bits.specs.WordFunctions.{bits_of}
use Rattle.ms_ir.specs.declared.calls.External.{External}
use Rattle.ms_ir.specs.declared.calls.External.TheVariants as external
use Rattle.ms_ir.specs.Signatures.{is_variadic, is_thread_call}
use Rattle.ms_host.specs.declared.calls.Asked.{Asked}
use Rattle.ms_host.specs.declared.calls.Asked.TheVariants as asked
use Rattle.ms_host.specs.Answers.{IsExternal, FitsFirst}

pub fixed_number : (e : External) → IsExternal (asked.External e) → is_variadic e ≡ false
fixed_number external.Malloc h = refl
fixed_number external.Calloc h = refl
fixed_number external.Realloc h = refl
fixed_number external.Free h = refl
fixed_number external.Memcpy h = refl
fixed_number external.Memmove h = refl
fixed_number external.Memset h = refl
fixed_number external.Memcmp h = refl
fixed_number external.Strlen h = refl
fixed_number external.Putchar h = refl
fixed_number external.Puts h = refl
fixed_number external.Getchar h = refl
fixed_number external.Read h = refl
fixed_number external.Write h = refl
fixed_number external.Exit h = refl
fixed_number external.Abort h = refl
fixed_number external.LlvmMemcpy h = refl
fixed_number external.LlvmMemmove h = refl
fixed_number external.LlvmMemset h = refl
fixed_number external.LifetimeStart h = refl
fixed_number external.LifetimeEnd h = refl
fixed_number external.LlvmTrap h = refl
fixed_number external.LlvmAssume h = refl
fixed_number external.LlvmObjectSize h = refl
fixed_number external.Printf h = absurd h
fixed_number external.PthreadCreate h = absurd h
fixed_number external.PthreadJoin h = absurd h
fixed_number external.SchedYield h = absurd h
fixed_number (external.Word f n) h = refl

-- and is no thread call
pub no_thread_call : (e : External) → IsExternal (asked.External e) → is_thread_call e ≡ false
no_thread_call external.Malloc h = refl
no_thread_call external.Calloc h = refl
no_thread_call external.Realloc h = refl
no_thread_call external.Free h = refl
no_thread_call external.Memcpy h = refl
no_thread_call external.Memmove h = refl
no_thread_call external.Memset h = refl
no_thread_call external.Memcmp h = refl
no_thread_call external.Strlen h = refl
no_thread_call external.Putchar h = refl
no_thread_call external.Puts h = refl
no_thread_call external.Getchar h = refl
no_thread_call external.Read h = refl
no_thread_call external.Write h = refl
no_thread_call external.Exit h = refl
no_thread_call external.Abort h = refl
no_thread_call external.LlvmMemcpy h = refl
no_thread_call external.LlvmMemmove h = refl
no_thread_call external.LlvmMemset h = refl
no_thread_call external.LifetimeStart h = refl
no_thread_call external.LifetimeEnd h = refl
no_thread_call external.LlvmTrap h = refl
no_thread_call external.LlvmAssume h = refl
no_thread_call external.LlvmObjectSize h = refl
no_thread_call external.Printf h = absurd h
no_thread_call external.PthreadCreate h = absurd h
no_thread_call external.PthreadJoin h = absurd h
no_thread_call external.SchedYield h = absurd h
no_thread_call (external.Word f n) h = refl

-- the first argument of a function of whole words fits
pub first_fits : (a : Asked) (e : External) (args : List ℕ) → a ≡ asked.External e → FitsFirst a args → (f : WordFn) (n : WordWidth) → e ≡ external.Word f n → get_or args 0 0 < 2 ^ bits_of n
first_fits a e args is fits f n same = subst (λ (x : Asked). FitsFirst x args) (is ∙ ap asked.External same) fits
