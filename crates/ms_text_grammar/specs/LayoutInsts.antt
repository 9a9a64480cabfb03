-- How instructions are written (LLVM Language Reference, "Instruction Reference").
use Rattle.std.specs.Prelude.{ℕ, Bool, true, false, ◌&&◌, ◌==◌, if◌then◌else◌, List, [], ◌∷◌, ◌++◌, codes, map, flat_map, Option, Some, None}
use Rattle.ms_bits.specs.declared.operations.BinOp.{BinOp}
use Rattle.ms_bits.specs.declared.operations.BinOp.TheVariants as binary
use Rattle.ms_bits.specs.declared.operations.CastOp.{CastOp}
use Rattle.ms_bits.specs.declared.operations.CastOp.TheVariants as cast
use Rattle.ms_bits.specs.declared.operations.Pred.{Pred}
use Rattle.ms_bits.specs.declared.operations.Pred.TheVariants as predicate
use Rattle.ms_bits.specs.declared.operations.Flags.{Flags}
use Rattle.ms_lex.specs.Tokens.{Text}
use Rattle.ms_ir.specs.declared.syntax.Name.{Name}
use Rattle.ms_ir.specs.declared.syntax.Ty.{Ty, Int, Ptr}
use Rattle.ms_ir.specs.declared.syntax.Operand.{Operand}
use Rattle.ms_ir.specs.declared.syntax.Operand.TheVariants as operand
use Rattle.ms_ir.specs.declared.syntax.Op.{Op}
use Rattle.ms_ir.specs.declared.syntax.Op.TheVariants as op
use Rattle.ms_ir.specs.declared.syntax.Inst.{Inst}
use Rattle.ms_ir.specs.Layout.{width_of}
use Rattle.ms_text_grammar.specs.Lexemes.{Lexeme}
use Rattle.ms_text_grammar.specs.Types.{int_width, is_width}
use Rattle.ms_text_grammar.specs.Insts.{names_printf, is_i32}
use Rattle.ms_text_grammar.specs.LayoutPieces.{Line, indented, word, sign, meta, comma, three_dots, with_commas, enclosed}
use Rattle.ms_text_grammar.specs.LayoutNames.{local_token, global_token, number_token}
use Rattle.ms_text_grammar.specs.LayoutTypes.{type_tokens, result_tokens}
use Rattle.ms_text_grammar.specs.LayoutValues.{value_tokens, typed_tokens, pair_tokens}

-- ---- words

-- the word of a binary operation
unfoldable pub binary_word : BinOp → Text
binary_word binary.Add = codes "add"
binary_word binary.Sub = codes "sub"
binary_word binary.Mul = codes "mul"
binary_word binary.Udiv = codes "udiv"
binary_word binary.Sdiv = codes "sdiv"
binary_word binary.Urem = codes "urem"
binary_word binary.Srem = codes "srem"
binary_word binary.Shl = codes "shl"
binary_word binary.Lshr = codes "lshr"
binary_word binary.Ashr = codes "ashr"
binary_word binary.And = codes "and"
binary_word binary.Or = codes "or"
binary_word binary.Xor = codes "xor"

-- the word of a cast
unfoldable pub cast_word : CastOp → Text
cast_word cast.Trunc = codes "trunc"
cast_word cast.Zext = codes "zext"
cast_word cast.Sext = codes "sext"
cast_word cast.PtrToInt = codes "ptrtoint"
cast_word cast.IntToPtr = codes "inttoptr"
cast_word cast.Bitcast = codes "bitcast"

-- the word of a predicate
unfoldable pub predicate_text : Pred → Text
predicate_text predicate.Eq = codes "eq"
predicate_text predicate.Ne = codes "ne"
predicate_text predicate.Ugt = codes "ugt"
predicate_text predicate.Uge = codes "uge"
predicate_text predicate.Ult = codes "ult"
predicate_text predicate.Ule = codes "ule"
predicate_text predicate.Sgt = codes "sgt"
predicate_text predicate.Sge = codes "sge"
predicate_text predicate.Slt = codes "slt"
predicate_text predicate.Sle = codes "sle"

-- a word where a flag is set
abbrev pub flag_token : Bool → Text → List Lexeme
flag_token false text = []
flag_token true text = word text ∷ []

-- the flags that are set; `nuw` stands before `nsw`
unfoldable pub flag_tokens : Flags → List Lexeme
flag_tokens flags =
    flag_token flags.nuw (codes "nuw") ++ (flag_token flags.nsw (codes "nsw") ++ (flag_token flags.exact (codes "exact")
    ++ (flag_token flags.disjoint (codes "disjoint") ++ (flag_token flags.nneg (codes "nneg") ++ flag_token flags.samesign (codes "samesign")))))

-- ---- parts of instructions

-- `ptr` and an address
abbrev pub address_tokens : Operand → List Lexeme
address_tokens a = typed_tokens Ptr a

-- `label` and the name of a block
abbrev pub target_tokens : Name → List Lexeme
target_tokens to = word (codes "label") ∷ local_token to ∷ []

-- a bit after its type
abbrev pub bit_tokens : Operand → List Lexeme
bit_tokens a = typed_tokens (Int 1) a

-- the edge of a phi
abbrev pub edge_tokens : Ty → Operand × Name → List Lexeme
edge_tokens t e = sign (codes "[") ∷ (value_tokens t e.0 ++ comma ∷ local_token e.1 ∷ sign (codes "]") ∷ [])

-- a case of a switch: a number, of a single bit too
abbrev pub case_tokens : Ty → ℕ × Name → List Lexeme
case_tokens t c = type_tokens t ++ (number_token (width_of t) c.0 ∷ comma ∷ target_tokens c.1)

-- the operand is the number 1
abbrev pub is_one : Operand → Bool
is_one (operand.Int n) = n == 1
is_one a = false

-- the count of an `alloca`; that of one item isn't written where its type is `i32`
abbrev pub count_tokens : Ty → Operand → List (List Lexeme)
count_tokens t count = if is_width 32 (int_width t) && is_one count then [] else typed_tokens t count ∷ []

-- a call of `printf` is written with the callee's type where the module declares it so
abbrev pub callee_type_tokens : Bool → Option Ty → Name → List Lexeme
callee_type_tokens dotted ret callee =
    if dotted && is_i32 ret && names_printf callee then enclosed (codes "(") (codes ")") ((word (codes "ptr") ∷ []) ∷ (three_dots ∷ []) ∷ []) else []

-- the value of a `ret`, or `void`
abbrev pub returned_tokens : Option (Ty × Operand) → List Lexeme
returned_tokens None = word (codes "void") ∷ []
returned_tokens (Some p) = pair_tokens p

-- ---- instructions

-- What an instruction does. `dotted` says whether calls of `printf` are written with three dots.
unfoldable pub op_tokens : Bool → Op → List Lexeme
op_tokens dotted (op.Binary o flags t a b) = word (binary_word o) ∷ (flag_tokens flags ++ (typed_tokens t a ++ comma ∷ value_tokens t b))
op_tokens dotted (op.Icmp p flags t a b) = word (codes "icmp") ∷ (flag_tokens flags ++ word (predicate_text p) ∷ (typed_tokens t a ++ comma ∷ value_tokens t b))
op_tokens dotted (op.Cast o flags from a to) = word (cast_word o) ∷ (flag_tokens flags ++ (typed_tokens from a ++ word (codes "to") ∷ type_tokens to))
op_tokens dotted (op.Select c t a b) = word (codes "select") ∷ with_commas (bit_tokens c ∷ typed_tokens t a ∷ typed_tokens t b ∷ [])
op_tokens dotted (op.Freeze t a) = word (codes "freeze") ∷ typed_tokens t a
op_tokens dotted (op.Phi t edges) = word (codes "phi") ∷ (type_tokens t ++ with_commas (map (edge_tokens t) edges))
op_tokens dotted (op.Alloca t u count) = word (codes "alloca") ∷ with_commas (type_tokens t ∷ count_tokens u count)
op_tokens dotted (op.Load t a) = word (codes "load") ∷ with_commas (type_tokens t ∷ address_tokens a ∷ [])
op_tokens dotted (op.Store t v a) = word (codes "store") ∷ with_commas (typed_tokens t v ∷ address_tokens a ∷ [])
op_tokens dotted (op.Gep t base indices) = word (codes "getelementptr") ∷ with_commas (type_tokens t ∷ address_tokens base ∷ map pair_tokens indices)
op_tokens dotted (op.Call ret callee args) =
    word (codes "call") ∷ (result_tokens ret ++ (callee_type_tokens dotted ret callee ++ global_token callee ∷ enclosed (codes "(") (codes ")") (map pair_tokens args)))
op_tokens dotted (op.Br to) = word (codes "br") ∷ target_tokens to
op_tokens dotted (op.CondBr c to other) = word (codes "br") ∷ with_commas (bit_tokens c ∷ target_tokens to ∷ target_tokens other ∷ [])
op_tokens dotted (op.Switch t v other cases) =
    word (codes "switch") ∷ (with_commas (typed_tokens t v ∷ target_tokens other ∷ []) ++ sign (codes "[") ∷ (flat_map (case_tokens t) cases ++ sign (codes "]") ∷ []))
op_tokens dotted (op.Ret value) = word (codes "ret") ∷ returned_tokens value
op_tokens dotted op.Unreachable = word (codes "unreachable") ∷ []

-- the name of a result, which is always written
abbrev pub named_tokens : Option Name → List Lexeme
named_tokens None = []
named_tokens (Some x) = local_token x ∷ sign (codes "=") ∷ []

-- the mark of an inserted instruction
abbrev pub mark_tokens : Bool → List Lexeme
mark_tokens false = []
mark_tokens true = comma ∷ meta (codes "!nosanitize") ∷ meta (codes "!0") ∷ []

-- an instruction
unfoldable pub inst_tokens : Bool → Inst → List Lexeme
inst_tokens dotted inst = named_tokens inst.result ++ (op_tokens dotted inst.op ++ mark_tokens inst.marked)

-- a line of its own
abbrev pub inst_line : Bool → Inst → Line
inst_line dotted inst = indented (inst_tokens dotted inst)
