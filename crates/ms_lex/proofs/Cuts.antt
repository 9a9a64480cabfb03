-- The tokens of a text, as the loop finds them.
use Rattle.std.proofs.Common.{◌≡◌, ℕ, zero, suc, ◌+◌, ◌-◌, ◌<◌, ◌≤◌, true, false, cond, eqb, List, [], ◌∷◌, ◌++◌, length, drop, get_or, Option, Some, None, Ok, Err, refl, sym, ap, ◌∙◌, append_assoc, arith, ltb, length-append, length-drop}
use Rattle.std.specs.Prelude.{slice_index}
use Rattle.std.specs.List.{position_or_len}
use Rattle.std.proofs.lemmas.List.{append-nil, drop-drop, get_or-drop}
use Rattle.std.proofs.lemmas.Bool.{lt-ltb, le-ltb}
use Rattle.ms_lex.specs.declared.kinds.Kind.{Kind}
use Rattle.ms_lex.specs.declared.kinds.Token.{Token}
use Rattle.ms_lex.specs.declared.errors.LexError.TheVariants.{TooManyTokens}
use Rattle.ms_lex.specs.Tokens.{Text, Cut, is_blank, is_newline, token_at, cut_from, cut_of, with_first, refusal_of, unless_stopped, tokens_of}

-- what was found, and what is still found
abbrev pub before : List Token → Cut → Cut
before front c = record { tokens = front ++ c.tokens; stop = c.stop }

-- the bytes that belong to the token or the comment in front are passed over
past : (left place : ℕ) (z : Text) → cut_from left place z ≡ cut_from 0 (place + left) (drop left z)
past zero place z = ap (λ k. cut_from 0 k z) (omega arith)
past (suc left) place [] = refl
past (suc left) place (b ∷ z) = past left (place + 1) z ∙ ap (λ k. cut_from 0 k (drop left z)) (omega arith)

pub at_blank : (b : ℕ) (z : Text) (place : ℕ) → is_blank b ≡ true → cut_from 0 place (b ∷ z) ≡ cut_from 0 (place + 1) z
at_blank b z place h = rw h refl

pub at_comment : (b : ℕ) (z : Text) (place : ℕ) → is_blank b ≡ false → eqb b 59 ≡ true → cut_from 0 place (b ∷ z) ≡ cut_from 0 (place + 1 + position_or_len is_newline z) (drop (position_or_len is_newline z) z)
at_comment b z place h c = rw (h, c) (past (position_or_len is_newline z) (place + 1) z)

pub at_token : (b : ℕ) (z : Text) (place : ℕ) (kind : Kind) (n : ℕ) → is_blank b ≡ false → eqb b 59 ≡ false → token_at (b ∷ z) ≡ Some (kind, n) → 0 < n
    → cut_from 0 place (b ∷ z) ≡ with_first (record { kind = kind; start = place; end = place + n }) (cut_from 0 (place + n) (drop n (b ∷ z)))
at_token b z place kind zero h c t some = absurd (omega arith)
at_token b z place kind (suc n) h c t some =
    let one : suc n - 1 ≡ n = omega arith in
    let moved : place + 1 + n ≡ place + suc n = omega arith in
    rw (h, c, t) (ap (λ r. with_first (record { kind = kind; start = place; end = place + suc n }) r) (ap (λ k. cut_from k (place + 1) z) one ∙ past n (place + 1) z ∙ ap (λ k. cut_from 0 k (drop n z)) moved))

pub at_stop : (b : ℕ) (z : Text) (place : ℕ) → is_blank b ≡ false → eqb b 59 ≡ false → token_at (b ∷ z) ≡ None → cut_from 0 place (b ∷ z) ≡ record { tokens = []; stop = Some place }
at_stop b z place h c t = rw (h, c, t) refl

-- ---- What the loop knows, and its ends

pub record Found (text : Text) (limit : ℕ) (found : List Token) (place : ℕ) (rest : Text) : Type 0 where
  pub all : before found (cut_from 0 place rest) ≡ cut_of text
  pub after : rest ≡ drop place text
  pub inside : place + length rest ≡ length text
  pub few : length found ≤ limit

within : (text : Text) (limit : ℕ) (front : List Token) → length front ≤ limit → (stop : Option ℕ) → (c : Cut) → record { tokens = front; stop = stop } ≡ c → cond (ltb limit (length c.tokens)) (Err TooManyTokens) (unless_stopped text c.tokens c.stop) ≡ unless_stopped text front stop
within text limit front few stop c e = rw (← e, le-ltb limit (length front) few) refl

pub began : (text : Text) (limit : ℕ) → Found text limit [] 0 text
unfolding cut_of
began text limit = record { all = refl; after = refl; inside = omega arith; few = omega arith }

pub ended : (text : Text) (limit : ℕ) (found : List Token) (place : ℕ) (rest : Text) → Found text limit found place rest → rest ≡ [] → tokens_of text limit ≡ Ok found
unfolding tokens_of
ended text limit found place [] so_far e = within text limit found so_far.few None (cut_of text) (ap (λ ts. record { tokens = ts; stop = None }) (sym (append-nil found)) ∙ so_far.all)
ended text limit found place (b ∷ z) so_far e = absurd cc

module _ (text : Text) (limit : ℕ) (found : List Token) (place : ℕ) (rest : Text) (b : ℕ) (z : Text) (so_far : Found text limit found place rest) (parts : rest ≡ b ∷ z) where
  here : before found (cut_from 0 place (b ∷ z)) ≡ cut_of text
  here = ap (λ r. before found (cut_from 0 place r)) (sym parts) ∙ so_far.all

  len : length rest ≡ length z + 1
  len = rw parts (omega arith)

  this_byte : slice_index text place ≡ b
  this_byte = ap (λ k. get_or text k 0) (omega arith) ∙ sym (get_or-drop place text 0 0) ∙ ap (λ r. get_or r 0 0) (sym so_far.after ∙ parts)

  next_rest : drop (place + 1) text ≡ z
  next_rest = sym (drop-drop 1 place text) ∙ ap (drop 1) (sym so_far.after ∙ parts)

  pub blank_more : is_blank b ≡ true → Found text limit found (place + 1) z
  blank_more h = record {
    all = ap (before found) (sym (at_blank b z place h)) ∙ here;
    after = sym next_rest;
    inside = omega (arith, so_far.inside, len);
    few = so_far.few;
  }

  pub comment_more : is_blank b ≡ false → eqb b 59 ≡ true → position_or_len is_newline z ≤ length z → Found text limit found (place + 1 + position_or_len is_newline z) (drop (position_or_len is_newline z) z)
  comment_more h c long = record {
    all = ap (before found) (sym (at_comment b z place h c)) ∙ here;
    after = ap (drop (position_or_len is_newline z)) (sym next_rest) ∙ drop-drop (position_or_len is_newline z) (place + 1) text;
    inside = omega (arith, so_far.inside, len, length-drop (position_or_len is_newline z) z);
    few = so_far.few;
  }

  pub refused : is_blank b ≡ false → eqb b 59 ≡ false → token_at (b ∷ z) ≡ None → tokens_of text limit ≡ Err (refusal_of b place)
  unfolding tokens_of
  refused h c t =
      within text limit found so_far.few (Some place) (cut_of text) (ap (λ ts. record { tokens = ts; stop = Some place }) (sym (append-nil found)) ∙ ap (before found) (sym (at_stop b z place h c t)) ∙ here)
      ∙ ap (λ byte. Err (refusal_of byte place)) this_byte

  module _ (kind : Kind) (n : ℕ) (h : is_blank b ≡ false) (c : eqb b 59 ≡ false) (t : token_at (b ∷ z) ≡ Some (kind, n)) (some : 0 < n) where
    pub too_many : limit ≤ length found → tokens_of text limit ≡ Err TooManyTokens
    unfolding tokens_of
    too_many full =
        let long : limit < length (cut_of text).tokens = rw (← here, at_token b z place kind n h c t some) (omega (arith, length-append {A = Token})) in
        rw (lt-ltb limit (length (cut_of text).tokens) long) refl

    pub one_more : n ≤ length rest → length found < limit → Found text limit (found ++ record { kind = kind; start = place; end = place + n } ∷ []) (place + n) (drop n rest)
    one_more long room = record {
      all = ap (λ ts. record { tokens = ts; stop = (cut_from 0 (place + n) (drop n rest)).stop }) (append_assoc found _ _) ∙ ap (λ r. before found (with_first (record { kind = kind; start = place; end = place + n }) (cut_from 0 (place + n) (drop n r)))) parts ∙ ap (before found) (sym (at_token b z place kind n h c t some)) ∙ here;
      after = ap (drop n) so_far.after ∙ drop-drop n place text;
      inside = omega (arith, so_far.inside, length-drop n rest);
      few = omega (arith, length-append {A = Token});
    }
