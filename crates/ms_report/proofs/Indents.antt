-- A text without its indented lines, line by line.
use Rattle.std.proofs.Common.{◌≡◌, ◌∙◌, ◌++◌, ◌||◌, ℕ, Bool, true, false, List, [], ◌∷◌, Option, Some, None, refl, sym, ap, true≢false, append_assoc, append-nil, if◌then◌else◌, codes}
use Rattle.std.specs.Prelude.{not, nat_eq, flat_map}
use Rattle.std.specs.List.{list_any, list_all, starts_with}
use Rattle.std.proofs.lemmas.Bool.{and_parts}
use Rattle.ms_where_places.specs.Indented.{is_newline, has_no_newline, indented, IsIndented, in_front, lines_of, unless_indented, unindented}
use Rattle.ms_report.specs.WithLines.{Lines, under_line}
use Rattle.ms_report.proofs.Singles.{Single, literal, joined}

-- ---- lines

abbrev is_empty : List ℕ → Bool
is_empty [] = true
is_empty (b ∷ bs) = false

abbrev ends_first : List ℕ → Bool
ends_first [] = false
ends_first (b ∷ bs) = if is_newline b then is_empty bs else ends_first bs

-- the only newline of the text is its last byte
pub record IsLine (text : List ℕ) : Type 0 where
  pub ends : ends_first text ≡ true

pub newline : IsLine (codes "\n")
newline = record { ends = refl }

ends_after : (a b : List ℕ) → has_no_newline a ≡ true → ends_first b ≡ true → ends_first (a ++ b) ≡ true
ends_after [] b none ends = ends
ends_after (x ∷ a) b none ends = elim (is_newline x) as (λ t. not (t || list_any is_newline a) ≡ true → (if t then is_empty (a ++ b) else ends_first (a ++ b)) ≡ true) [
  | true ↦ λ h. absurd (true≢false (sym h))
  | false ↦ λ h. ends_after a b h ends
] none

-- a line is still one after a text without a newline
pub line_after : {a b : List ℕ} → Single a → IsLine b → IsLine (a ++ b)
line_after {a = a} {b = b} single line = record { ends = ends_after a b single.none line.ends }

-- the first line of a text
nothing_more : (b : ℕ) (bs rest : List ℕ) → is_empty bs ≡ true → (b ∷ []) ∷ lines_of (bs ++ rest) ≡ (b ∷ bs) ∷ lines_of rest
nothing_more b [] rest none = refl
nothing_more b (c ∷ bs) rest none = absurd (true≢false (sym none))

pub first_cut : (line rest : List ℕ) → ends_first line ≡ true → lines_of (line ++ rest) ≡ line ∷ lines_of rest
first_cut [] rest is = absurd (true≢false (sym is))
first_cut (b ∷ bs) rest is = elim (is_newline b) as (λ t. (if t then is_empty bs else ends_first bs) ≡ true
    → (if t then (b ∷ []) ∷ lines_of (bs ++ rest) else in_front b (lines_of (bs ++ rest))) ≡ (b ∷ bs) ∷ lines_of rest) [
      | true ↦ λ none. nothing_more b bs rest none
      | false ↦ λ more. ap (in_front b) (first_cut bs rest more)
    ] is

first_line : (line rest : List ℕ) → IsLine line → unindented (line ++ rest) ≡ unless_indented line ++ unindented rest
first_line line rest is = ap (flat_map unless_indented) (first_cut line rest is.ends)

-- ---- what is left

-- in front of any text, this one becomes that one
pub record Leaves (text left : List ℕ) : Type 0 where
  pub with : (rest : List ℕ) → unindented (text ++ rest) ≡ left ++ unindented rest

pub nothing : Leaves [] []
nothing = record { with = λ rest. refl }

pub whole : (text left : List ℕ) → Leaves text left → unindented text ≡ left
whole text left leaves = ap unindented (sym (append-nil text)) ∙ leaves.with [] ∙ append-nil left

pub both : {a b x y : List ℕ} → Leaves a x → Leaves b y → Leaves (a ++ b) (x ++ y)
both {a = a} {b = b} {x = x} {y = y} first second = record {
  with = λ rest. ap unindented (append_assoc a b rest) ∙ first.with (b ++ rest) ∙ ap (λ t. x ++ t) (second.with rest) ∙ sym (append_assoc x y (unindented rest));
}

-- with an indented text after it
pub without : {a b x : List ℕ} → Leaves a x → Leaves b [] → Leaves (a ++ b) x
without {a = a} {b = b} {x = x} first second = record { with = λ rest. ap unindented (append_assoc a b rest) ∙ first.with (b ++ rest) ∙ ap (λ t. x ++ t) (second.with rest) }

-- a line that doesn't begin with four blanks
kept : (line rest : List ℕ) → IsLine line → starts_with nat_eq line (codes "    ") ≡ false → unindented (line ++ rest) ≡ line ++ unindented rest
kept line rest is plain = first_line line rest is ∙ ap (λ (t : Bool). (if t then [] else line) ++ unindented rest) plain

pub stays : (line : List ℕ) → IsLine line → starts_with nat_eq line (codes "    ") ≡ false → Leaves line line
stays line is plain = record { with = λ rest. kept line rest is plain }

-- one that does goes
pub goes_alone : (line : List ℕ) → IsLine line → starts_with nat_eq line (codes "    ") ≡ true → Leaves line []
goes_alone line is begins = record { with = λ rest. first_line line rest is ∙ ap (λ (t : Bool). (if t then [] else line) ++ unindented rest) begins }

-- indented lines
indented_line : (line : List ℕ) → Single line → IsLine (indented line)
indented_line line single = line_after (joined (literal (codes "    ") refl) single) newline

all_taken_out : (lines : List (List ℕ)) (rest : List ℕ) → list_all has_no_newline lines ≡ true → unindented (flat_map indented lines ++ rest) ≡ unindented rest
all_taken_out [] rest single = refl
all_taken_out (line ∷ lines) rest single =
    let parts = and_parts (has_no_newline line) (list_all has_no_newline lines) single in
    ap unindented (append_assoc (indented line) (flat_map indented lines) rest)
    ∙ first_line (indented line) (flat_map indented lines ++ rest) (indented_line line (literal line parts.0)) ∙ all_taken_out lines rest parts.1

pub goes : (text : List ℕ) → IsIndented text → Leaves text []
goes text i = record { with = λ rest. ap (λ (t : List ℕ). unindented (t ++ rest)) i.whole ∙ all_taken_out i.lines rest i.single }

pub goes_under : (under : Lines) (site : Option ℕ) → ((s : ℕ) → IsIndented (under s)) → Leaves (under_line under site) []
goes_under under None all = nothing
goes_under under (Some site) all = goes (under site) (all site)
