-- What an index has at a name (own).
use denote.Ref.{Bor}
use Rattle.std.specs.Global.{Box}
use Rattle.std.specs.Prelude.{ℕ, zero, suc, if◌then◌else◌, nat_eq, List, [], ◌∷◌, Option, Some, None, slice_get}
use Rattle.std.specs.declared.hash.FoldHasher.{FoldHasher}
use Rattle.std.specs.declared.hash.BuildHasherDefault.{BuildHasherDefault}
use Rattle.std.specs.Hash.FoldHasher.{initial, write, finish}
use Rattle.std.specs.HashMap as hash
use Rattle.std.specs.HashMap.{HashMap}
use Rattle.std.specs.BTreeMap.{get, get_by}
use Rattle.std.specs.Ordering.{nat_cmp}
use Rattle.std.specs.Cmp.Lexicographic.{pointwise, slice_cmp}
use Rattle.ms_ir.specs.declared.syntax.Name.{Name}
use Rattle.ms_ir.specs.declared.syntax.Name.TheVariants.{Number, Text}
use Rattle.ms_check_tables.specs.declared.index.Index.{Index}

-- what stands at a place of a list, where not every place is taken
abbrev pub taken_at : List (Option ℕ) → ℕ → Option ℕ
taken_at places n = elim (slice_get places n) [ Some place ↦ place | None ↦ None ]

-- the place of a number among places that begin with that of a first number
abbrev pub place_from : ℕ → List (Option ℕ) → ℕ → Option ℕ
place_from zero places n = taken_at places n
place_from (suc first) places zero = None
place_from (suc first) places (suc n) = place_from first places n

-- the mark of a text
abbrev pub text_mark : List ℕ → ℕ
text_mark text = finish (write initial text)

-- the first text with each mark, and its place
abbrev pub Marked : Type 0
Marked = HashMap ℕ (Bor (List ℕ) × ℕ) (BuildHasherDefault FoldHasher)

-- the first text with a mark, and its place, where texts are found by their marks
abbrev pub first_marked : Option (Box Marked) → ℕ → Option (Bor (List ℕ) × ℕ)
first_marked marked mark = elim marked [ Some m ↦ hash.get nat_eq m.value mark | None ↦ None ]

-- the place of a text, if it is the first with its mark
abbrev pub place_marked : Option (Box Marked) → List ℕ → Option ℕ
place_marked marked text = elim (first_marked marked (text_mark text)) [ Some first ↦ (if pointwise nat_eq first.0.now text then Some first.1 else None) | None ↦ None ]

-- the place of a text among few: that of the last which is equal, or else what was found before
abbrev pub place_few : Option ℕ → List (Bor (List ℕ) × ℕ) → List ℕ → Option ℕ
place_few found [] text = found
place_few found (entry ∷ few) text = place_few (if pointwise nat_eq entry.0.now text then Some entry.1 else found) few text

-- the place of a text that isn't the first with its mark
abbrev pub place_unmarked : Index → List ℕ → Option ℕ
place_unmarked index text = elim (place_few None index.few.items text) [ Some place ↦ Some place | None ↦ get_by (λ k. slice_cmp nat_cmp text k.now) index.texts ]

-- the place of a name
abbrev pub place_in : Index → Name → Option ℕ
place_in index (Number n) = elim (place_from index.first index.near.items n) [ Some place ↦ Some place | None ↦ get nat_cmp index.numbers n ]
place_in index (Text bytes) = elim (place_marked index.marked bytes) [ Some place ↦ Some place | None ↦ place_unmarked index bytes ]
