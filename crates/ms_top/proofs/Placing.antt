-- The tokens of a text that reads as a module, and what stands in them.
use Rattle.std.proofs.Common.{◌≡◌, ◌≢◌, ℕ, ◌^◌, ◌<◌, ◌≤◌, List, length, Ok, Err, refl, sym, ap, ◌∙◌, arith}
use Rattle.ms_ir.specs.declared.syntax.Module.{Module}
use Rattle.ms_ir.specs.declared.forms.Form.{Form}
use Rattle.ms_lex.specs.declared.errors.LexError.{LexError}
use Rattle.ms_lex.specs.declared.errors.LexError.TheVariants as lexing
use Rattle.ms_lex.specs.declared.kinds.Token.{Token}
use Rattle.ms_lex.specs.Tokens.{tokens_of}
use Rattle.ms_text_grammar.specs.declared.refusals.Cause.{Cause}
use Rattle.ms_text_grammar.specs.declared.refusals.Cause.TheVariants as refusal
use Rattle.ms_text_grammar.specs.Texts.{HasTokens, Reads, max_tokens}
use Rattle.ms_read_top.proofs.Told.{few_tokens, short_text}
use Rattle.ms_top.specs.Parts.{IsModuleText}

-- it is short
pub short_again : (form : Form) (text : List ℕ) → IsModuleText form text → length text ≤ 2 ^ 27
short_again form text (m, (tokens, has, reads)) = short_text form (length text) has.short

-- it is cut into tokens, but for want of memory
pub cut_again : (form : Form) (text : List ℕ) (limit : ℕ) (found : List Token) → IsModuleText form text → limit ≡ max_tokens form → tokens_of text limit ≡ Ok found → HasTokens form text found
cut_again form text limit found (m, (tokens, has, reads)) is cut = record { short = has.short; cut = ap (tokens_of text) (sym is) ∙ cut }

not_cut : (form : Form) (text : List ℕ) (limit : ℕ) (cause : LexError) → IsModuleText form text → limit ≡ max_tokens form → tokens_of text limit ≡ Err cause → ⊥
not_cut form text limit cause (m, (tokens, has, reads)) is fails =
    let cut : tokens_of text limit ≡ Ok tokens = ap (tokens_of text) is ∙ has.cut in
    absurd cc

pub cut_wants_memory : (form : Form) (text : List ℕ) (limit : ℕ) (cause : LexError) → IsModuleText form text → limit ≡ max_tokens form → (cause ≢ lexing.NoMemory → tokens_of text limit ≡ Err cause)
    → cause ≡ lexing.NoMemory
cut_wants_memory form text limit lexing.NoMemory reads is fails = refl
cut_wants_memory form text limit (lexing.BadByte place) reads is fails = absurd (not_cut form text limit (lexing.BadByte place) reads is (fails (λ none. cc)))
cut_wants_memory form text limit (lexing.OpenString place) reads is fails = absurd (not_cut form text limit (lexing.OpenString place) reads is (fails (λ none. cc)))
cut_wants_memory form text limit lexing.TooManyTokens reads is fails = absurd (not_cut form text limit lexing.TooManyTokens reads is (fails (λ none. cc)))

-- its tokens are few
pub few_again : (form : Form) (text : List ℕ) (tokens : List Token) → HasTokens form text tokens → length tokens < 2 ^ 32
few_again form text tokens has = omega (arith, few_tokens form text tokens has)

-- what stands in them is found, but for want of memory
pub marks_want_memory : (form : Form) (text : List ℕ) (tokens : List Token) (cause : Cause) → IsModuleText form text → HasTokens form text tokens
    → ((m : Module) → Reads form text m → HasTokens form text tokens → cause ≡ refusal.NoMemory) → cause ≡ refusal.NoMemory
marks_want_memory form text tokens cause (m, reads) has only = only m reads has
