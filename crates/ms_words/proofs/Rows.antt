-- Rows of what `clap` finds: a new one is the last, and what is found among them.
use Rattle.std.proofs.Common.{◌≡◌, ◌∙◌, ◌++◌, ◌||◌, Bool, true, false, not, cond, List, [], ◌∷◌, Option, Some, None, is_some, refl, sym, ap, find, append-nil, true≢false, if◌then◌else◌}
use Rattle.std.specs.Prelude.{bytes_eq, fold, option_and_then, slice_get}
use Rattle.std.specs.List.{list_all}
use Rattle.std.proofs.lemmas.Bool.{and_parts}
use Rattle.clap.specs.Walk.{Row, Rule, at_row, has_row, with_values, without, more_values, with_default, default_rows, reading_by}
use Rattle.clap.specs.declared.builder.value_parser.Reading.{Reading}
use Rattle.clap.specs.declared.parser.matches.ValueSource.{ValueSource}
use Rattle.clap.specs.declared.parser.matches.ValueSource.TheVariants.{CommandLine, DefaultValue}
use Rattle.ms_words.specs.declared.names.Takes.{Takes}
use Rattle.ms_words.specs.declared.names.Takes.TheVariants.{Nothing, Anything, Hex, Number}
use Rattle.ms_words.specs.Table.{Word}
use Rattle.ms_words.specs.Fields.{found_by, is_set}

-- the row of an id
abbrev pub look : Word → List Row → Option Row
look id rows = find (λ r. bytes_eq r.id id) rows

-- ---- rows after others

kept_by : (b : Bool) (x r : Row) (a m : Option Row) → (a ≡ Some r → m ≡ Some r) → cond b (Some x) a ≡ Some r → cond b (Some x) m ≡ Some r
kept_by true x r a m more found = found
kept_by false x r a m more found = more found

-- a row that is found stays so
pub look_first : (id : Word) (rows more : List Row) (r : Row) → look id rows ≡ Some r → look id (rows ++ more) ≡ Some r
look_first id [] more r found = absurd (true≢false (sym (ap is_some found)))
look_first id (x ∷ rows) more r found = kept_by (bytes_eq x.id id) x r (look id rows) (look id (rows ++ more)) (look_first id rows more r) found

missed_by : (b : Bool) (x : Row) (a m more : Option Row) → (a ≡ None → m ≡ more) → cond b (Some x) a ≡ None → cond b (Some x) m ≡ more
missed_by true x a m more rest none = absurd (true≢false (ap is_some none))
missed_by false x a m more rest none = rest none

-- where none has the id, the others are looked through
pub look_second : (id : Word) (rows more : List Row) → look id rows ≡ None → look id (rows ++ more) ≡ look id more
look_second id [] more none = refl
look_second id (x ∷ rows) more none = missed_by (bytes_eq x.id id) x (look id rows) (look id (rows ++ more)) (look id more) (look_second id rows more) none

has_by : (b : Bool) (x : Row) (h : Bool) (a : Option Row) → h ≡ is_some a → (b || h) ≡ is_some (cond b (Some x) a)
has_by true x h a same = refl
has_by false x h a same = same

has_look : (id : Word) (rows : List Row) → has_row id rows ≡ is_some (look id rows)
has_look id [] = refl
has_look id (x ∷ rows) = has_by (bytes_eq x.id id) x (has_row id rows) (look id rows) (has_look id rows)

pub has_none : (id : Word) (rows : List Row) → look id rows ≡ None → has_row id rows ≡ false
has_none id rows none = has_look id rows ∙ ap is_some none

-- ---- a row that is added

at_by : (b : Bool) (r : Row) (changed rows rest more : List Row) (h : Bool) → (h ≡ false → rest ≡ rows ++ more) → (b || h) ≡ false
    → (if b then changed else r ∷ rest) ≡ r ∷ (rows ++ more)
at_by true r changed rows rest more h same none = absurd (true≢false none)
at_by false r changed rows rest more h same none = ap (λ rs. r ∷ rs) (same none)

-- where no row has the id, what is missing comes last
pub at_absent : (id : Word) (change : Row → List Row) (missing rows : List Row) → has_row id rows ≡ false → at_row id change missing rows ≡ rows ++ missing
at_absent id change missing [] none = refl
at_absent id change missing (r ∷ rows) none =
    at_by (bytes_eq r.id id) r (change r ++ rows) rows (at_row id change missing rows) missing (has_row id rows) (at_absent id change missing rows) none

abbrev pub new_row : Word → Reading → ValueSource → List Word → Row
new_row id how source values = record { id = id; values = values; count = None; source = Some source; reading = how }

-- the use of an argument that has no row yet
pub replaced : (id : Word) (how : Reading) (values : List Word) (rows : List Row) → has_row id rows ≡ false
    → with_values id how CommandLine values (without id rows) ≡ rows ++ new_row id how CommandLine values ∷ []
replaced id how values rows none =
    ap (with_values id how CommandLine values) (at_absent id (λ _. []) [] rows none ∙ append-nil rows)
    ∙ at_absent id (more_values CommandLine values) (new_row id how CommandLine values ∷ []) rows none

-- ---- defaults

abbrev extra : Bool → Word → Reading → List Word → List Row
extra true id how values = []
extra false id how [] = []
extra false id how (v ∷ vs) = new_row id how DefaultValue (v ∷ vs) ∷ []

default_new : (id : Word) (how : Reading) (values : List Word) (rows : List Row) → has_row id rows ≡ false → default_rows id how values rows ≡ rows ++ extra false id how values
default_new id how [] rows none = sym (append-nil rows)
default_new id how (v ∷ vs) rows none = at_absent id (more_values DefaultValue (v ∷ vs)) (new_row id how DefaultValue (v ∷ vs) ∷ []) rows none

default_by : (b : Bool) (id : Word) (how : Reading) (values : List Word) (rows : List Row) → has_row id rows ≡ b
    → (if b then rows else default_rows id how values rows) ≡ rows ++ extra b id how values
default_by true id how values rows is = sym (append-nil rows)
default_by false id how values rows is = default_new id how values rows is

default_added : (rows : List Row) (a : Rule) → with_default rows a ≡ rows ++ extra (has_row a.id rows) a.id (reading_by a) a.defaults
default_added rows a = default_by (has_row a.id rows) a.id (reading_by a) a.defaults rows refl

-- no default takes the place of a row that is found
pub look_kept : (rules : List Rule) (rows : List Row) (id : Word) (r : Row) → look id rows ≡ Some r → look id (fold with_default rows rules) ≡ Some r
look_kept [] rows id r found = found
look_kept (a ∷ rules) rows id r found =
    look_kept rules (with_default rows a) id r
    (ap (look id) (default_added rows a) ∙ look_first id rows (extra (has_row a.id rows) a.id (reading_by a) a.defaults) r found)

-- defaults that are found as no value
abbrev pub unset_by : Takes → List Word → Bool
unset_by t [] = true
unset_by Nothing (v ∷ vs) = not (is_set (Some v))
unset_by t (v ∷ vs) = false

abbrev pub first_text : Option Row → Option Word
first_text row = option_and_then (λ r. slice_get r.values 0) row

found_none : (t : Takes) → found_by t None ≡ None
found_none Nothing = refl
found_none Anything = refl
found_none (Hex most) = refl
found_none (Number least most) = refl

abbrev found_if : Bool → Option Word
found_if b = if b then Some [] else None

unset_if : (b : Bool) → not b ≡ true → found_if b ≡ None
unset_if true h = absurd (true≢false (sym h))
unset_if false h = refl

found_unset : (t : Takes) (v : Word) (vs : List Word) → unset_by t (v ∷ vs) ≡ true → found_by t (Some v) ≡ None
found_unset Nothing v vs unset = unset_if (is_set (Some v)) unset
found_unset Anything v vs unset = absurd (true≢false (sym unset))
found_unset (Hex most) v vs unset = absurd (true≢false (sym unset))
found_unset (Number least most) v vs unset = absurd (true≢false (sym unset))

-- where no row has the id, its argument is found as no value
module _ (t : Takes) (id : Word) where
  abbrev pub Unset : Option Row → Type 0
  Unset row = found_by t (first_text row) ≡ None

  abbrev pub fits : Rule → Bool
  fits a = not (bytes_eq a.id id) || unset_by t a.defaults

  other_extra : (b : Bool) (a : Word) (how : Reading) (values : List Word) → bytes_eq a id ≡ false → look id (extra b a how values) ≡ None
  other_extra true a how values other = refl
  other_extra false a how [] other = refl
  other_extra false a how (v ∷ vs) other = ap (λ (b : Bool). cond b (Some (new_row a how DefaultValue (v ∷ vs))) None) other

  module _ (rules : List Rule) (rest : (rows : List Row) → look id rows ≡ None → Unset (look id (fold with_default rows rules))) where
    own_extra : (b : Bool) (a : Word) (how : Reading) (values : List Word) (rows : List Row) → bytes_eq a id ≡ true → unset_by t values ≡ true → look id rows ≡ None
        → Unset (look id (fold with_default (rows ++ extra b a how values) rules))
    own_extra true a how values rows own unset none = rest (rows ++ []) (look_second id rows [] none)
    own_extra false a how [] rows own unset none = rest (rows ++ []) (look_second id rows [] none)
    own_extra false a how (v ∷ vs) rows own unset none =
        let row : Row = new_row a how DefaultValue (v ∷ vs) in
        let here : look id (rows ++ row ∷ []) ≡ Some row = look_second id rows (row ∷ []) none ∙ ap (λ (b : Bool). cond b (Some row) None) own in
        ap (λ (r : Option Row). found_by t (first_text r)) (look_kept rules (rows ++ row ∷ []) id row here) ∙ found_unset t v vs unset

    unset_with : (b : Bool) (a : Rule) (rows : List Row) → bytes_eq a.id id ≡ b → (not b || unset_by t a.defaults) ≡ true → look id rows ≡ None
        → Unset (look id (fold with_default (rows ++ extra (has_row a.id rows) a.id (reading_by a) a.defaults) rules))
    unset_with true a rows is unset none = own_extra (has_row a.id rows) a.id (reading_by a) a.defaults rows is unset none
    unset_with false a rows is unset none =
        rest (rows ++ extra (has_row a.id rows) a.id (reading_by a) a.defaults)
        (look_second id rows (extra (has_row a.id rows) a.id (reading_by a) a.defaults) none ∙ other_extra (has_row a.id rows) a.id (reading_by a) a.defaults is)

  pub unset : (rules : List Rule) (rows : List Row) → list_all fits rules ≡ true → look id rows ≡ None → Unset (look id (fold with_default rows rules))
  unset [] rows all none = ap (λ (r : Option Row). found_by t (first_text r)) none ∙ found_none t
  unset (a ∷ rules) rows all none =
      let both = and_parts (fits a) (list_all fits rules) all in
      ap (λ (rs : List Row). found_by t (first_text (look id (fold with_default rs rules)))) (default_added rows a)
      ∙ unset_with rules (λ rs h. unset rules rs both.1 h) (bytes_eq a.id id) a rows refl both.0 none
