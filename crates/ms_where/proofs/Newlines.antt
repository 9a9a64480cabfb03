-- Newlines in front of one token after another.
use Rattle.std.proofs.Common.{◌≡◌, ◌∙◌, ℕ, ◌+◌, ◌-◌, ◌<◌, ◌≤◌, List, [], ◌∷◌, ◌++◌, length, take, drop, slice_range, sym, ap, arith}
use Rattle.std.specs.Prelude.{count_by, slice_index_or}
use Rattle.std.proofs.Math.Seq.{take-add}
use Rattle.std.proofs.lemmas.List.{take_more, map-append, get_or_default}
use Rattle.std.proofs.lemmas.List.Sums.{sum_by-append}
use Rattle.ms_lex.specs.declared.kinds.Token.{Token}
use Rattle.ms_lex.specs.Tokens.{Text, InOrder, is_newline}
use Rattle.ms_where.specs.Shown.{newlines_before, newlines_before_tokens}

-- the tokens from a number on begin no earlier than this place, which lies in the text
pub record ComeAfter (text : Text) (tokens : List Token) (number place : ℕ) : Type 0 where
  pub inside : place ≤ length text
  pub after : (k : ℕ) (t : Token) → number ≤ k → k < length tokens → place ≤ (slice_index_or tokens k t).start

-- how far the count has come: of so many tokens the newlines in front of them are known, and so are those in front of a place
pub record Counted (text : Text) (tokens : List Token) (number place count : ℕ) (found : List ℕ) : Type 0 where
  pub before : found ≡ newlines_before_tokens text (take number tokens)
  pub here : count ≡ newlines_before text place
  pub left : ComeAfter text tokens number place

-- those in front of a later place
pub further : (text : Text) (place later : ℕ) → place ≤ later → newlines_before text place + count_by is_newline (slice_range text place later) ≡ newlines_before text later
further text place later h =
    sym (sum_by-append _ (take place text) (take (later - place) (drop place text)))
    ∙ ap (count_by is_newline) (sym (take-add place (later - place) text))
    ∙ ap (newlines_before text) (omega arith)

-- the next token begins no earlier, and lies in the text
pub reached : (text : Text) (tokens : List Token) (number place : ℕ) (t : Token) → InOrder tokens (length text) → ComeAfter text tokens number place
    → number < length tokens → t ≡ slice_index_or tokens number t → (place ≤ t.start) × (t.start ≤ length text)
reached text tokens number place t order come below is =
    let w = order.within number t below in
    let start = ap (λ (x : Token). x.start) is in
    let last = ap (λ (x : Token). x.end) is in
    (omega (arith, come.after number t (omega arith) below), omega (arith, w.0, w.1))

pub come_next : (text : Text) (tokens : List Token) (number place : ℕ) (t : Token) → InOrder tokens (length text) → ComeAfter text tokens number place
    → number < length tokens → t ≡ slice_index_or tokens number t → ComeAfter text tokens (number + 1) t.start
come_next text tokens number place t order come below is = record {
  inside = (reached text tokens number place t order come below is).1;
  after = λ k u h last.
      let here = ap (λ (x : Token). x.start) is in
      let there = ap (λ (x : Token). x.end) is in
      let same = ap (λ (x : Token). x.end) (get_or_default tokens number t u below) in
      let w = order.within number t below in
      omega (arith, w.0, order.ordered number k u (omega arith) last);
}

-- one token more
pub counted_more : (text : Text) (tokens : List Token) (number place count more : ℕ) (found pushed : List ℕ) (d : Token) → InOrder tokens (length text)
    → Counted text tokens number place count found → number < length tokens
    → more ≡ count_by is_newline (slice_range text place (slice_index_or tokens number d).start) → pushed ≡ found ++ (count + more) ∷ []
    → Counted text tokens (number + 1) (slice_index_or tokens number d).start (count + more) pushed
counted_more text tokens number place count more found pushed d order counted below e grown =
    let t = slice_index_or tokens number d in
    let is : t ≡ slice_index_or tokens number t = get_or_default tokens number d t below in
    let here = further text place t.start (reached text tokens number place t order counted.left below is).0 in
    let sum : count + more ≡ newlines_before text t.start = ap (λ n. n + more) counted.here ∙ ap (λ n. newlines_before text place + n) e ∙ here in
    record {
      before = grown ∙ ap (λ n. found ++ n ∷ []) sum
          ∙ ap (λ xs. xs ++ newlines_before text t.start ∷ []) counted.before
          ∙ sym (map-append (λ (x : Token). newlines_before text x.start) (take number tokens) (t ∷ []))
          ∙ ap (newlines_before_tokens text) (sym (take_more tokens number d below));
      here = sum;
      left = come_next text tokens number place t order counted.left below is;
    }
