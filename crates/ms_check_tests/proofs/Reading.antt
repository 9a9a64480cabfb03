-- A module that is read from bytes is formed, and one that is read from a plain text can be instrumented.
use Rattle.std.proofs.Common.{◌≡◌, ℕ, suc, ◌^◌, ◌<◌, List, [], ◌∷◌, Result, Ok, refl}
use Rattle.std.specs.Prelude.{slice_index_or, nat_lt, IsTrue}
use Rattle.std.proofs.lemmas.Bool.{and_from, lt-ltb}
use Rattle.ms_ir.specs.declared.syntax.Module.{Module}
use Rattle.ms_ir.specs.declared.forms.Form.{Form}
use Rattle.ms_text_grammar.specs.Texts.{Reads}
use Rattle.ms_read_body.specs.declared.errors.ReadError.{ReadError}
use Rattle.ms_read_top.specs.Reading.{AnswersExactly}
use Rattle.ms_check_valid.specs.Formed.{Formed}
use Rattle.ms_check_valid.specs.FormedNames.{are_bytes}
use Rattle.ms_check_valid.specs.Uninstrumented.{CanInstrument}
use Rattle.ms_ir.specs.declared.forms.Form.TheVariants.{Plain}
use Rattle.ms_text_laws.proofs.FormedModules.{read_formed}
use Rattle.ms_text_laws.proofs.SmallLimits.{can_instrument}

bytes_pass : (text : List ℕ) → ((i : ℕ) → slice_index_or text i 0 < 2 ^ 8) → IsTrue (are_bytes text)
bytes_pass [] fit = refl
bytes_pass (b ∷ rest) fit = and_from (nat_lt b 256) (are_bytes rest) (lt-ltb b 256 (fit 0)) (bytes_pass rest (λ i. fit (suc i)))

pub formed : (form : Form) (text : List ℕ) (r : Result Module ReadError) (m : Module) → ((i : ℕ) → slice_index_or text i 0 < 2 ^ 8)
    → ((n : Module) → AnswersExactly r (Ok n) (Reads form text n)) → r ≡ Ok m → Formed m
formed form text r m fit read is = read_formed form text m (bytes_pass text fit) ((read m).0 is)

pub uninstrumented : (text : List ℕ) (r : Result Module ReadError) (m : Module) → ((n : Module) → AnswersExactly r (Ok n) (Reads Plain text n)) → r ≡ Ok m → CanInstrument m
uninstrumented text r m read is = can_instrument text m ((read m).0 is)
