-- The instructions that the pass takes, and what it must know of names.
use Rattle.std.specs.Prelude.{◌≡◌, ◌<◌, ℕ, ◌+◌, ◌^◌, true, false, List, [], ◌∷◌, map, Option, Some, None, ◌≢◌, ◌≤◌, suc, Bool, not, is_some, length}
use Rattle.ms_bits.specs.Conversions.{Allows}
use Rattle.ms_ir.specs.declared.syntax.Name.{Name}
use Rattle.ms_ir.specs.declared.syntax.Ty.{Ty}
use Rattle.ms_ir.specs.declared.syntax.Operand.{Operand}
use Rattle.ms_ir.specs.declared.syntax.Operand.TheVariants as operand
use Rattle.ms_ir.specs.declared.syntax.Op.{Op}
use Rattle.ms_ir.specs.declared.syntax.Op.TheVariants as op
use Rattle.ms_ir.specs.declared.syntax.Inst.{Inst}
use Rattle.ms_ir.specs.Names.{is_reserved}
use Rattle.ms_ir.specs.Signatures.{external_signature, called_params}
use Rattle.ms_ir.specs.Layout.{width_of}
use Rattle.ms_ir.specs.Instructions.{operands, one_undef, external_named, roots_in}
use Rattle.ms_ir.specs.declared.calls.External.{External}
use Rattle.ms_ir.specs.declared.calls.External.TheVariants.{Word}
use Rattle.ms_bits.specs.WordFunctions.{bits_of}
use Rattle.ms_pass_tasks.specs.Environments.{Env}

-- ---- names

-- a name of the program's own, which is one of the function's first `size` values
pub record KnownName (env : Env) (size : ℕ) (x : Name) : Type 0 where
  pub own : is_reserved x ≡ false
  pub place : ℕ
  pub numbered : env.number x ≡ Some place
  pub below : place < size

-- an operand is a constant, or a name that is known
abbrev pub KnownOperand : Env → ℕ → Operand → Type 0
KnownOperand env size (operand.Local x) = KnownName env size x
KnownOperand env size _ = Unit {0}

-- the same of all operands, which have at most 64 bits
abbrev pub KnownOperands : Env → ℕ → List (Ty × Operand) → Type 0
KnownOperands env size [] = Unit {0}
KnownOperands env size (o ∷ os) = (width_of o.0 ≤ 64) × KnownOperand env size o.1 × KnownOperands env size os

-- a result has no name, or one that is known
abbrev pub KnownResult : Env → ℕ → Option Name → Type 0
KnownResult env size None = Unit {0}
KnownResult env size (Some x) = KnownName env size x

-- no two names have one number
abbrev pub OneName : Env → Type 0
OneName env = (x y : Name) (v : ℕ) → env.number x ≡ Some v → env.number y ≡ Some v → x ≡ y

-- the numbers are those of the function's values
abbrev pub FewNumbers : Env → ℕ → Type 0
FewNumbers env size = (x : Name) (v : ℕ) → env.number x ≡ Some v → v < size

-- ---- operations

-- an operand isn't the result
abbrev pub Apart : Name → Operand → Type 0
Apart x (operand.Local y) = y ≢ x
Apart x _ = Unit {0}

-- no operand is the result
abbrev pub AllApart : Option Name → List (Ty × Operand) → Type 0
AllApart None os = Unit {0}
AllApart (Some x) [] = Unit {0}
AllApart (Some x) (o ∷ os) = Apart x o.1 × AllApart (Some x) os

-- the widths of an external's arguments, where it is called with some types
abbrev pub external_widths : External → List Ty → List ℕ
external_widths e types = map width_of (called_params e types)

-- an external that answers nothing
abbrev pub is_void : External → Bool
is_void e = not (is_some (external_signature e).ret)

-- a call has a result exactly where its external answers
abbrev pub HasResult : External → Option Name → Type 0
HasResult e (Some x) = is_void e ≡ false
HasResult e None = is_void e ≡ true

-- a call that is no call of the module's own: widths and result fit, and operands have numbers of 32 bits
abbrev pub FitsCallee : Option External → Option Name → List (Ty × Operand) → Type 0
FitsCallee None x args = Unit {0}
FitsCallee (Some e) x args = (map (λ a. width_of a.0) args ≡ external_widths e (map (λ a. a.0) args)) × HasResult e x × (length args < 2 ^ 32)

-- a call of a function of whole words has a result of their width
abbrev pub AnswersWord : Option External → Option Ty → Type 0
AnswersWord (Some (Word f n)) (Some t) = width_of t ≡ bits_of n
AnswersWord (Some (Word f n)) None = ⊥
AnswersWord e ret = Unit {0}

-- an operation of the form for which the lists compute what is wanted: words have a bit at least, casts fit, a call of an
-- external fits it, a call of a function of the module has at most 100 arguments, and an `alloca` has a name
abbrev pub IsBuilt : (Name → Option ℕ) → Option Name → Op → Type 0
IsBuilt func x (op.Binary o f t a b) = 1 ≤ width_of t
IsBuilt func x (op.Icmp p f t a b) = 1 ≤ width_of t
IsBuilt func x (op.Cast o f t a u) = Allows o (width_of t) (width_of u)
IsBuilt func x (op.Call ret callee args) = FitsCallee (external_named func callee) x args × (is_some (func callee) ≡ true → length args ≤ 100) × AnswersWord (external_named func callee) ret
IsBuilt func x (op.Phi t es) = ⊥
IsBuilt func (Some x) (op.Alloca t u c) = Unit {0}
IsBuilt func None (op.Alloca t u c) = ⊥
IsBuilt func x _ = Unit {0}

-- an instruction that the pass takes
pub record KnownInst (func : Name → Option ℕ) (env : Env) (size : ℕ) (i : Inst) : Type 0 where
  pub unmarked : i.marked ≡ false
  pub built : IsBuilt func i.result i.op
  pub named : KnownResult env size i.result
  pub reads : KnownOperands env size (operands i.op)

-- ---- phis

-- the operands of a phi's edges are known
abbrev pub KnownEdges : Env → ℕ → List (Operand × Name) → Type 0
KnownEdges env size [] = Unit {0}
KnownEdges env size (e ∷ es) = KnownOperand env size e.0 × KnownEdges env size es

-- an instruction is no phi, or has a name that is known and known operands
abbrev pub KnownPhi : Env → ℕ → Option Name → Op → Type 0
KnownPhi env size (Some x) (op.Phi t es) = KnownName env size x × KnownEdges env size es
KnownPhi env size None (op.Phi t es) = ⊥
KnownPhi env size x _ = Unit {0}

-- no instruction is marked, and each phi among them is known
abbrev pub KnownPhis : Env → ℕ → List Inst → Type 0
KnownPhis env size [] = Unit {0}
KnownPhis env size (i ∷ is) = (i.marked ≡ false) × KnownPhi env size i.result i.op × KnownPhis env size is

-- the number of roots of a phi's edges
abbrev pub edge_roots : List (Operand × Name) → ℕ
edge_roots [] = 0
edge_roots (e ∷ es) = one_undef e.0 + edge_roots es

-- the roots of a phi are numbers of 32 bits, given the number of roots before it
abbrev pub PhiRoot : ℕ → Op → Type 0
PhiRoot root (op.Phi t es) = root + edge_roots es < 2 ^ 32
PhiRoot root _ = Unit {0}

-- the same of all phis among instructions
abbrev pub PhiRoots : (Name → Option ℕ) → List Inst → ℕ → Type 0
PhiRoots func [] root = Unit {0}
PhiRoots func (i ∷ is) root = PhiRoot root i.op × PhiRoots func is (root + roots_in func i)

-- ---- parameters

-- the parameters of a function are its first values, in order, and are words
abbrev pub KnownParams : Env → ℕ → ℕ → List (Ty × Name) → Type 0
KnownParams env size k [] = Unit {0}
KnownParams env size k (p ∷ ps) = (is_reserved p.1 ≡ false) × (env.number p.1 ≡ Some k) × (k < size) × (width_of p.0 ≤ 64) × KnownParams env size (suc k) ps

-- arguments have the widths of parameters, as many
abbrev pub ArgsFit : List (Ty × Name) → List (Ty × Operand) → Type 0
ArgsFit [] [] = Unit {0}
ArgsFit (p ∷ ps) (a ∷ rest) = (width_of a.0 ≡ width_of p.0) × ArgsFit ps rest
ArgsFit ps args = ⊥
