-- What contracts see of a text with its table of nodes.
use Rattle.std.specs.Prelude.{◌≡◌, ℕ, ◌<◌, List, length, slice_index}
use Rattle.std.specs.List.{position_or_len}
use Rattle.ms_where_places.specs.Told.{Told}
use Rattle.ms_where.specs.declared.nodes.Debug.TheInside.{Inside}
use Rattle.ms_where.specs.Nodes.{is_number, number_of}

-- of each number below that of the marks, the place of the first node that has it
pub record IsTable (d : Told) (nodes : List ℕ) : Type 0 where
  pub size : length nodes ≡ length d.marks
  pub first : (n : ℕ) → n < length d.marks → slice_index nodes n ≡ position_or_len (λ m. is_number n (number_of d m)) d.marks

-- the table is that of the text's nodes
abbrev pub IsReady : Inside → Type 0
IsReady a = IsTable a.marked a.nodes.items
