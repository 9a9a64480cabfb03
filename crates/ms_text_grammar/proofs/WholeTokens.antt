-- Which tokens are whole: a run, a sign, and a name.
use Rattle.std.proofs.Common.{◌≡◌, ◌≢◌, ℕ, ◌<◌, Bool, true, false, ◌||◌, cond, eqb, [], ◌∷◌, ◌++◌, length, take, Some, refl, sym, ap, ◌∙◌, inl, inr, arith}
use Rattle.std.specs.Prelude.{codes, slice_index}
use Rattle.std.specs.List.{list_all, prefix_len}
use Rattle.std.proofs.lemmas.List.{take_at}
use Rattle.std.proofs.lemmas.Bool.Decides.{eqb_tells}
use Rattle.std.proofs.lemmas.Bool.{and_parts}
use Rattle.ms_lex.specs.declared.kinds.Kind.{Kind}
use Rattle.ms_lex.specs.declared.kinds.Kind.TheVariants as k
use Rattle.ms_lex.specs.Tokens.{Text, is_blank, is_name_byte, is_one_of, is_number, begins_word, is_c}
use Rattle.ms_lex.proofs.Forms.{no_c, fits_run, differs}
use Rattle.ms_text_grammar.specs.Lexemes.{lexeme}
use Rattle.ms_text_grammar.specs.LayoutApart.{Fronts, ends_token, IsWhole}

-- ---- bytes

-- a byte after which a token ends
abbrev is_end : ℕ → Bool
is_end b = is_blank b || is_one_of (codes ",()") b

end_is_no_name : (b : ℕ) → is_end b ≡ true → is_name_byte b ≡ false
end_is_no_name b h = elim (eqb_tells b 32) [
  | inl same ↦ rw same.1 refl
  | inr a ↦ elim (eqb_tells b 9) [
    | inl same ↦ rw same.1 refl
    | inr c ↦ elim (eqb_tells b 13) [
      | inl same ↦ rw same.1 refl
      | inr d ↦ elim (eqb_tells b 10) [
        | inl same ↦ rw same.1 refl
        | inr e ↦ elim (eqb_tells b 44) [
          | inl same ↦ rw same.1 refl
          | inr f ↦ elim (eqb_tells b 40) [
            | inl same ↦ rw same.1 refl
            | inr g ↦ elim (eqb_tells b 41) [
              | inl same ↦ rw same.1 refl
              | inr i ↦ let none : is_end b ≡ false = rw (a.0, c.0, d.0, e.0, f.0, g.0, i.0) refl in let clash = sym none ∙ h in absurd cc
            ]
          ]
        ]
      ]
    ]
  ]
]

end_is_no_colon : (b : ℕ) → is_end b ≡ true → b ≢ 58
end_is_no_colon b h e = let clash = sym (ap is_end e) ∙ h in absurd cc

pub name_is_no_blank : (b : ℕ) → is_name_byte b ≡ true → is_blank b ≡ false
name_is_no_blank b h = rw (differs b 32 h refl, differs b 9 h refl, differs b 13 h refl, differs b 10 h refl) refl

-- ---- runs

pub run_length : (w rest : Text) → list_all is_name_byte w ≡ true → ends_token rest ≡ true → prefix_len is_name_byte (w ++ rest) ≡ length w
run_length [] [] h e = absurd cc
run_length [] (b ∷ rest) h e = rw (end_is_no_name b e) refl
run_length (b ∷ w) rest h e =
    let parts = and_parts (is_name_byte b) (list_all is_name_byte w) h in
    let more = run_length w rest parts.1 e in
    rw (parts.0, more) (omega arith)

after_run : (w rest : Text) → ends_token rest ≡ true → slice_index (w ++ rest) (length w) ≢ 58
after_run [] [] e = absurd cc
after_run [] (b ∷ rest) e = end_is_no_colon b e
after_run (b ∷ w) rest e = after_run w rest e

-- the kind of a run
abbrev pub run_kind : Text → Kind
run_kind w = cond (is_number w) k.Number (cond (begins_word w) k.Word k.Other)

run_fronts : (b : ℕ) (w rest : Text) → list_all is_name_byte (b ∷ w) ≡ true → is_c (b ∷ w) ≡ false → ends_token rest ≡ true
    → Fronts (run_kind (b ∷ w)) (length (b ∷ w)) (b ∷ w ++ rest)
run_fronts b w rest h c e =
    let named = (and_parts (is_name_byte b) (list_all is_name_byte w) h).0 in
    let all : length (b ∷ w) ≡ prefix_len is_name_byte ((b ∷ w) ++ rest) = sym (run_length (b ∷ w) rest h e) in
    let some : 0 < length (b ∷ w) = omega arith in
    let same : take (length (b ∷ w)) ((b ∷ w) ++ rest) ≡ b ∷ w = take_at (b ∷ w) rest (length (b ∷ w)) refl in
    let no = no_c ((b ∷ w) ++ rest) (length (b ∷ w)) all some (ap is_c same ∙ c) in (
      name_is_no_blank b named,
      differs b 59 named refl,
      fits_run ((b ∷ w) ++ rest) (length (b ∷ w)) all some (after_run (b ∷ w) rest e) no ∙ ap (λ x. Some (run_kind x, length (b ∷ w))) same,
      some,
    )

or_false : (a b : Bool) → a ≡ false → (a || b) ≡ true → b ≡ true
or_false true b n h = absurd cc
or_false false b n h = h

-- a run is whole as a token of its kind
pub run_whole : (b : ℕ) (w : Text) → list_all is_name_byte (b ∷ w) ≡ true → is_c (b ∷ w) ≡ false → IsWhole (lexeme (run_kind (b ∷ w)) (b ∷ w))
run_whole b w h c = record {
  spelled = refl;
  fronts = λ rest e. run_fronts b w rest h c (or_false (eqb b 40) (ends_token rest) (differs b 40 (and_parts (is_name_byte b) (list_all is_name_byte w) h).0 refl) e);
}
