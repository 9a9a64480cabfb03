-- Words of constants that are appended part by part.
use Rattle.std.proofs.Common.{◌≡◌, ℕ, List, [], ◌++◌, sym, ap, subst, ◌∙◌, append_assoc, append-nil}
use Rattle.std.proofs.lemmas.List.{map-append}
use Rattle.ms_ir.specs.declared.syntax.Ty.{Ty}
use Rattle.ms_ir.specs.declared.syntax.Operand.{Operand}
use Rattle.ms_ir.specs.declared.syntax.Init.{Init}
use Rattle.ms_ir.specs.declared.syntax.Init as initial
use Rattle.ms_ir.specs.declared.syntax.Module.{Module}
use Rattle.ms_runs.specs.Globals.{address_of, constant}
use Rattle.ms_machine_code.specs.Constants.{init_constants, parts_constants}
use Rattle.ms_machine_code.proofs.PartConstants.{hidden-constants}
use Rattle.ms_machine_operands.specs.Sized.{IsReadable}
use Rattle.ms_machine_operands.specs.InitialWords.{AreReadable, words_of}
use Rattle.ms_check_valid.proofs.AtInstructions.{all_parts}

-- between two parts: those that are left have words, and these after the words so far are all
pub record Pushing (m : Module) (before now : List ℕ) (all todo : List Operand) : Type 0 where
  pub readable : AreReadable m.types todo
  pub same : now ++ words_of m todo ≡ before ++ words_of m all

split : (m : Module) (before now : List ℕ) (all todo here later : List Operand) → todo ≡ here ++ later → Pushing m before now all todo → AreReadable m.types here × AreReadable m.types later
split m before now all todo here later is p = all_parts (IsReadable m.types []) here later (subst (λ (os : List Operand). AreReadable m.types os) is p.readable)

pub pushing_first : (m : Module) (before now : List ℕ) (all todo here later : List Operand) → todo ≡ here ++ later → Pushing m before now all todo → AreReadable m.types here
pushing_first m before now all todo here later is p = (split m before now all todo here later is p).0

pub pushing_next : (m : Module) (before now now' : List ℕ) (all todo here later : List Operand) → todo ≡ here ++ later → now' ≡ now ++ words_of m here → Pushing m before now all todo → Pushing m before now' all later
pushing_next m before now now' all todo here later is more p = record {
  readable = (split m before now all todo here later is p).1;
  same =
      ap (λ (l : List ℕ). l ++ words_of m later) more
      ∙ append_assoc now (words_of m here) (words_of m later)
      ∙ ap (λ (l : List ℕ). now ++ l) (sym (map-append (constant m.types (address_of m)) here later))
      ∙ ap (λ (os : List Operand). now ++ words_of m os) (sym is)
      ∙ p.same;
}

pub pushing_last : (m : Module) (before now : List ℕ) (all todo : List Operand) → todo ≡ [] → Pushing m before now all todo → now ≡ before ++ words_of m all
pushing_last m before now all todo none p = sym (append-nil now) ∙ ap (λ (os : List Operand). now ++ words_of m os) (sym none) ∙ p.same

-- ---- arrays and structs

pub array_constants : (init : Init) (xs ys : List (Ty × Init)) → init ≡ initial.Array xs → ys ≡ xs → init_constants init ≡ parts_constants ys
array_constants init xs ys is same = ap init_constants is ∙ hidden-constants xs ∙ ap parts_constants (sym same)

pub struct_constants : (init : Init) (packed : _) (xs ys : List (Ty × Init)) → init ≡ initial.Struct packed xs → ys ≡ xs → init_constants init ≡ parts_constants ys
struct_constants init packed xs ys is same = ap init_constants is ∙ hidden-constants xs ∙ ap parts_constants (sym same)
