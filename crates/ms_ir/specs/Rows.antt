-- The rows of the tables of externals, of runtime functions and of slots, as the code keeps them. What is promised of a
-- name does not name these.
use Rattle.std.specs.Prelude.{List, map, option_map}
use Rattle.ms_ir.specs.declared.syntax.Name.{Name}
use Rattle.ms_ir.specs.declared.syntax.Name.TheVariants.{Text}
use Rattle.ms_ir.specs.declared.syntax.Ty.{Ty, Int, Ptr}
use Rattle.ms_ir.specs.declared.syntax.Decl.{Decl}
use Rattle.ms_ir.specs.declared.rows.ParamType.{ParamType}
use Rattle.ms_ir.specs.declared.rows.ParamType.TheVariants as kind
use Rattle.ms_ir.specs.declared.rows.SignatureRow.{SignatureRow}
use Rattle.ms_ir.specs.declared.calls.External.{External}
use Rattle.ms_ir.specs.declared.calls.External.TheVariants.{Word}
use Rattle.ms_ir.specs.declared.word_externals.WordRow.{WordRow}
use Rattle.ms_ir.specs.Signatures.{Signature, declared_as}

-- each row with its name
abbrev pub by_name : {F : Type 0} → List (SignatureRow F) → List (Name × SignatureRow F)
by_name rows = map (λ r. (Text r.name.now, r)) rows

-- which function each row is, with its name
abbrev pub by_kind : {F : Type 0} → List (SignatureRow F) → List (Name × F)
by_kind rows = map (λ r. (Text r.name.now, r.is)) rows

-- the type of a kind
abbrev pub kind_type : ParamType → Ty
kind_type kind.Ptr = Ptr
kind_type (kind.Int n) = Int n

-- the types of the function of a row
abbrev pub row_signature : {F : Type 0} → SignatureRow F → Signature
row_signature r = record { ret = option_map kind_type r.ret; params = map kind_type r.params.now }

-- the function of a row as it is declared
abbrev pub row_declaration : {F : Type 0} → SignatureRow F → Decl
row_declaration r = declared_as (Text r.name.now) (row_signature r)

-- the functions of whole words by the names of their rows
abbrev pub word_rows : List WordRow → List (Name × External)
word_rows rows = map (λ r. (Text r.0.now, Word r.1 r.2)) rows
