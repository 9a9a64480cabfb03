-- What each operation has that is read, with its suffixes.
use Rattle.std.proofs.Common.{List, refl, sym, subst}
use Rattle.ms_ir.specs.declared.syntax.Op.{Op}
use Rattle.ms_ir.specs.declared.syntax.Op.TheVariants as op
use Rattle.ms_ir.specs.declared.forms.Form.{Form}
use Rattle.ms_text_grammar.specs.Lexemes.{Lexeme}
use Rattle.ms_text_grammar.specs.Steps.{Rule}
use Rattle.ms_text_grammar.specs.Insts.{Marked, with_suffixes}
use Rattle.ms_text_grammar.specs.Texts.{ReadsUpTo}
use Rattle.ms_text_laws.proofs.Sound.{AllSound}
pub use Rattle.ms_text_laws.proofs.Parts.{GivesValue, HasEffect, Ends, IsPhi, IsCall}
pub use Rattle.ms_text_laws.proofs.Arithmetic.{binary_read, cast_read, compare_read, select_read, freeze_read}
pub use Rattle.ms_text_laws.proofs.Memory.{load_read, store_read, alloca_read, gep_read}
pub use Rattle.ms_text_laws.proofs.Calls.{call_read}
pub use Rattle.ms_text_laws.proofs.Jumps.{phi_read, branch_read, switch_read, ret_read}

pub unreachable : Ends op.Unreachable
unreachable = (refl, refl, refl)

-- each operation that a rule reads from sound lexemes is so
abbrev pub Each : (Op → Type 0) → Rule Op → Type 0
Each P rule = (ts : List Lexeme) (o : Op) (rest : List Lexeme) → AllSound ts → ReadsUpTo rule ts o rest → P o

pub suffixed : (P : Op → Type 0) (form : Form) (rule : Rule Op) → Each P rule
    → (ts : List Lexeme) (m : Marked) (rest : List Lexeme) → AllSound ts → ReadsUpTo (with_suffixes form rule) ts m rest → P m.0
unfolding with_suffixes
suffixed P form rule each ts m rest s h = subst (λ n. P n.0) (sym h.3.3.0) (each ts h.0 h.1 s h.2)
