-- A `&` to a row of bytes lends each of them.
use lib.ListN.{length}
use base.Fraction.{full_share}
use denote.RawPtr.{lies_at}
use Rattle.ms_raw.specs.Ownership.{spare_bytes, bytes_lent}
use mir.Syntax.{w8}
use denote.Array.{Array, Array-row_laws}
use denote.Builtin.{u8}
use denote.Plain.{uint_row_laws}
use denote.Param.Shared.{copy_shared}
use denote.Shares.{Shares-Array}
use denote.Struct.Field.{RawPtr-field, usize-field, u8-field}
use denote.Struct.Laws.{RawPtr-copy, usize-copy, u8-copy}
use denote.Struct.Lending.{lent_at_shr_laws, Lends-lies, Lends-first, of_Lends}
use Rattle.ms_raw.specs.contracts.bytes.RawBytes as C
use Rattle.ms_raw.proofs.bytes.RawBytes.TheLaw.Statement.{statement}

pub shares : statement
shares = of_Lends C.struct C.the_codes C.the_heap C.the_lent
    (λ d p. lent_at_shr_laws (Array u8 (length d.items)) (Array-row_laws u8 (uint_row_laws w8) (length d.items)) d.at d.items)
    (copy_shared RawPtr-field RawPtr-copy, (copy_shared usize-field usize-copy, tt))
    (λ M 𝓤 𝓛 d p. let l = (C.the_row).lives in
    Lends-first 𝓛 (lies_at (Array u8 (length d.items)) full_share d.at d.items) (spare_bytes d.at d.len d.size (length d.items)) (bytes_lent d.at d.items) l
    (Lends-lies 𝓛 (Array u8 (length d.items)) l d.at d.items (Shares-Array 𝓛 u8 tt (length d.items) l ((copy_shared u8-field u8-copy).shares M 𝓤 𝓛) d.items)))
