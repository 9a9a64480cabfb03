-- The lines of sites are indented.
use Rattle.std.proofs.Common.{◌≡◌, ◌∙◌, ℕ, zero, suc, ◌+◌, ◌-◌, ◌||◌, Bool, true, false, List, [], ◌∷◌, ◌++◌, length, take, map, Option, Some, None, refl, sym, ap, subst, true≢false, append_assoc, append-nil, ◌&&◌, arith, if◌then◌else◌, codes}
use Rattle.std.specs.Prelude.{not, decimal, flat_map, nat_lt, ◌==◌, ◌/◌, ◌%◌, slice_get, unwrap_or}
use Rattle.std.specs.Fmt.{digits, digits_onto, digit_glyph}
use Rattle.std.specs.List.{list_any, list_all}
use Rattle.std.specs.Option.{option_map, option_and_then}
use Rattle.std.proofs.lemmas.Bool.{ne_eqb}
use Rattle.std.proofs.lemmas.Grind.{flat_map-append}
use Rattle.std.proofs.lemmas.List.Folds.{list_any-append, list_all-append}
use Rattle.std.proofs.lemmas.Option.{slice_get-map}
use Rattle.ms_lex.specs.Tokens.{Text}
use Rattle.ms_ir.specs.declared.syntax.Module.{Module}
use Rattle.ms_where_places.specs.declared.marks.Mark.{Mark}
use Rattle.ms_where_places.specs.Told.{Told, mark_at}
use Rattle.ms_where_places.specs.Indented.{is_newline, has_no_newline, indented, IsIndented}
use Rattle.ms_where.specs.Variables.{record_of}
use Rattle.ms_where.specs.declared.positions.Position.{Position}
use Rattle.ms_where.specs.Nodes.{field, node_of, node_in}
use Rattle.ms_where.specs.Positions.{printed, column_text, position_text, remark_text, position_line, line_if, position, line_of, along, most, call_lines, lines_if, location_lines}
use Rattle.ms_where.specs.Sites.{site_places}
use Rattle.ms_where.specs.Shown.{newlines_before_tokens, shown_bytes, shown_length, instruction_bytes, numbered_line, line_after, text_line}
use Rattle.ms_where.specs.Lines.{variable_name, variable_lines, source_lines_by, source_lines, lines_of_mark, lines_of_instruction, lines_of_sites, lines_of_site}

-- ---- texts without a newline

abbrev Single : List ℕ → Type 0
Single text = list_any is_newline text ≡ false

joined : (a b : List ℕ) → Single a → Single b → Single (a ++ b)
joined a b first second = list_any-append is_newline a b ∙ ap (λ t. t || list_any is_newline b) first ∙ second

after : (b : ℕ) (text : List ℕ) → is_newline b ≡ false → Single text → Single (b ∷ text)
after b text other single = ap (λ t. t || list_any is_newline text) other ∙ single

chosen : (t : Bool) (a b : List ℕ) → Single a → Single b → Single (if t then a else b)
chosen true a b first second = first
chosen false a b first second = second

glyph_other : (d : ℕ) → is_newline (digit_glyph false d) ≡ false
glyph_other d = elim (nat_lt d 10) as (λ t. is_newline (if t then 48 + d else 87 + d) ≡ false) [
  | true ↦ ne_eqb (48 + d) 10 (λ e. omega (arith, e))
  | false ↦ ne_eqb (87 + d) 10 (λ e. omega (arith, e))
]

digits_single : (base k n : ℕ) (acc : List ℕ) → Single acc → Single (digits_onto k base false n acc)
digits_single base zero n acc single = single
digits_single base (suc k) n acc single =
    let longer = after (digit_glyph false (n % base)) acc (glyph_other (n % base)) single in
    chosen (n / base == 0) (digit_glyph false (n % base) ∷ acc) (digits_onto k base false (n / base) (digit_glyph false (n % base) ∷ acc)) longer
    (digits_single base k (n / base) (digit_glyph false (n % base) ∷ acc) longer)

of_number : (n : ℕ) → Single (decimal n)
unfolding digits
of_number n = digits_single 10 64 n [] refl

abbrev is_hidden : ℕ → Bool
is_hidden b = nat_lt b 32 || b == 127

shown_other : (b : ℕ) → is_newline (printed b) ≡ false
unfolding printed
shown_other b = elim (is_hidden b) as (λ t. is_hidden b ≡ t → is_newline (if t then 63 else b) ≡ false) [
  | true ↦ λ _. refl
  | false ↦ λ shown. ne_eqb b 10 (λ e. absurd (true≢false (sym (ap is_hidden e) ∙ shown)))
] refl

of_printed : (bytes : List ℕ) → Single (map printed bytes)
of_printed [] = refl
of_printed (b ∷ bytes) = after (printed b) (map printed bytes) (shown_other b) (of_printed bytes)

-- ---- indented texts

pub none : IsIndented []
none = record { lines = []; single = refl; whole = refl }

one : (line : List ℕ) → Single line → IsIndented (indented line)
one line single = record { lines = line ∷ []; single = ap (λ t. not t && true) single; whole = sym (append-nil (indented line)) }

both : (a b : List ℕ) → IsIndented a → IsIndented b → IsIndented (a ++ b)
both a b first second = record {
  lines = first.lines ++ second.lines;
  single = list_all-append has_no_newline first.lines second.lines ∙ ap (λ t. t && list_all has_no_newline second.lines) first.single ∙ second.single;
  whole = ap (λ xs. xs ++ b) first.whole ∙ ap (λ xs. flat_map indented first.lines ++ xs) second.whole ∙ sym (flat_map-append indented first.lines second.lines);
}

each : {X : Type 0} (f : X → List ℕ) (xs : List X) → ((x : X) → IsIndented (f x)) → IsIndented (flat_map f xs)
each f [] all = none
each f (x ∷ xs) all = both (f x) (flat_map f xs) (all x) (each f xs all)

-- ---- the line in the text

of_shown : (bytes : Text) → Single (shown_bytes bytes)
unfolding shown_bytes
of_shown bytes = joined (map printed (take (shown_length bytes) bytes)) (if nat_lt (shown_length bytes) (length bytes) then codes " .." else [])
    (of_printed (take (shown_length bytes) bytes)) (chosen (nat_lt (shown_length bytes) (length bytes)) (codes " ..") [] refl refl)

of_numbered : (file : Text) (number : ℕ) (bytes : Text) → IsIndented (numbered_line file number bytes)
of_numbered file number bytes =
    let named = joined (map printed file) (codes ":") (of_printed file) refl in
    let numbered = joined (map printed file ++ codes ":") (decimal number) named (of_number number) in
    let begun = joined (map printed file ++ codes ":" ++ decimal number) (codes ": ") numbered refl in
    one (map printed file ++ codes ":" ++ decimal number ++ codes ": " ++ shown_bytes bytes)
    (joined (map printed file ++ codes ":" ++ decimal number ++ codes ": ") (shown_bytes bytes) begun (of_shown bytes))

of_line_after : (file : Text) (d : Told) (m : Mark) (newlines : Option ℕ) → IsIndented (line_after file d m newlines)
of_line_after file d m None = none
of_line_after file d m (Some n) = of_numbered file (n + 1) (instruction_bytes d m)

of_text_line : (file : Text) (d : Told) (m : Mark) → IsIndented (text_line file d m)
unfolding text_line
of_text_line file d m = of_line_after file d m (slice_get (newlines_before_tokens d.text d.tokens) m.first)

-- ---- the lines in the source

of_column : (column : ℕ) → Single (column_text column)
of_column column = chosen (column == 0) [] (58 ∷ decimal column) refl (of_number column)

of_position : (p : Position) → Single (position_text p)
unfolding position_text
of_position p = joined (map printed p.file ++ 58 ∷ decimal p.line) (column_text p.column)
    (joined (map printed p.file) (58 ∷ decimal p.line) (of_printed p.file) (of_number p.line)) (of_column p.column)

of_remark : (remark : Option Text) → Single (remark_text remark)
of_remark None = refl
of_remark (Some text) = of_printed text

of_position_line : (remark : Option Text) (p : Position) → IsIndented (position_line remark p)
unfolding position_line
of_position_line remark p =
    subst IsIndented (ap (λ xs. xs ++ 10 ∷ []) (sym (append_assoc (codes "    ") (position_text p) (remark_text remark))))
    (one (position_text p ++ remark_text remark) (joined (position_text p) (remark_text remark) (of_position p) (of_remark remark)))

of_line_if : (remark : Option Text) (p : Option Position) → IsIndented (line_if remark p)
of_line_if remark None = none
of_line_if remark (Some p) = of_position_line remark p

of_line : (d : Told) (remark : Option Text) (m : Mark) → IsIndented (line_of d remark m)
unfolding line_of
of_line d remark m = of_line_if remark (position d m)

of_calls : (d : Told) (call : Option Mark) → IsIndented (call_lines d call)
unfolding call_lines
of_calls d call = each (line_of d (Some (codes "inlined here"))) (along d (codes "inlinedAt:") most call) (of_line d (Some (codes "inlined here")))

of_lines_if : (d : Told) (name : Option Text) (m : Option Mark) → IsIndented (lines_if d name m)
of_lines_if d name None = none
of_lines_if d name (Some m) = both (line_of d name m) (call_lines d (node_in d (codes "inlinedAt:") m)) (of_line d name m) (of_calls d (node_in d (codes "inlinedAt:") m))

of_location : (d : Told) (name : Option Text) (token : ℕ) → IsIndented (location_lines d name token)
unfolding location_lines
of_location d name token = of_lines_if d name (node_of d token)

of_variable : (d : Told) (record_mark : Option Mark) → IsIndented (variable_lines d record_mark)
of_variable d None = none
of_variable d (Some r) = of_location d (variable_name d r) (r.after - 2)

of_source_by : (d : Told) (place : ℕ) (location : Option ℕ) → IsIndented (source_lines_by d place location)
of_source_by d place (Some token) = of_location d None token
of_source_by d place None = of_variable d (option_and_then (mark_at d) (record_of d place))

of_source : (d : Told) (place : ℕ) (m : Mark) → IsIndented (source_lines d place m)
unfolding source_lines
of_source d place m = of_source_by d place (field d (codes "!dbg") m)

-- ---- those of a site

of_mark : (file : Text) (d : Told) (place : ℕ) (m : Option Mark) → IsIndented (lines_of_mark file d place m)
of_mark file d place None = none
of_mark file d place (Some m) = both (text_line file d m) (source_lines d place m) (of_text_line file d m) (of_source d place m)

of_instruction : (file : Text) (d : Told) (place : ℕ) → IsIndented (lines_of_instruction file d place)
unfolding lines_of_instruction
of_instruction file d place = of_mark file d place (mark_at d place)

of_some : (file : Text) (d : Told) (place : Option ℕ) → IsIndented (unwrap_or (option_map (lines_of_instruction file d) place) [])
of_some file d None = none
of_some file d (Some place) = of_instruction file d place

of_number_from : (file : Text) (d : Told) (places : List ℕ) (number : ℕ) → IsIndented (unwrap_or (slice_get (map (lines_of_instruction file d) places) number) [])
of_number_from file d places number =
    subst (λ o. IsIndented (unwrap_or o [])) (sym (slice_get-map (lines_of_instruction file d) places number)) (of_some file d (slice_get places number))

either : (t : Bool) (a : List ℕ) → IsIndented a → IsIndented (if t then [] else a)
either true a is = none
either false a is = is

pub of_site : (file : Text) (d : Told) (m : Module) (site : ℕ) → IsIndented (lines_of_site file d m site)
unfolding lines_of_site
of_site file d m site = either (site == 0) (unwrap_or (slice_get (lines_of_sites file d m) (site - 1)) []) (of_number_from file d (site_places m d.marks) (site - 1))
