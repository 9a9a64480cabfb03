-- Places of texts by their marks.
use denote.Ref.{Bor}
use Rattle.std.proofs.Common.{◌≡◌, ◌<◌, ◌≤◌, ◌-◌, ◌+◌, ℕ, Bool, true, false, List, [], ◌∷◌, ◌++◌, length, drop, drop_of_length-le, get_or, Option, Some, None, refl, sym, ap, subst, ◌∙◌, arith, if◌then◌else◌, ⊎_elim, true≢false}
use Rattle.std.specs.Prelude.{nat_eq, slice_get, option_to_list, IsSome, Vec}
use Rattle.std.proofs.lemmas.List.{length-append}
use Rattle.std.specs.Global.{Box, Global}
use Rattle.std.specs.Option.{is_some}
use Rattle.std.specs.HashMap as hash
use Rattle.std.specs.BTreeMap.{BTreeMap, get_by, UpdatesBy}
use Rattle.std.specs.Ordering.{nat_cmp}
use Rattle.std.specs.Cmp.Lexicographic.{pointwise, slice_cmp, bytes_decides}
use Rattle.std.proofs.lemmas.Bool.{cases_Bool, eqb-true, eq-eqb}
use Rattle.std.proofs.lemmas.Map.Text.{btree_map_updates_str}
use Rattle.ms_ir.specs.declared.syntax.Name.{Name}
use Rattle.ms_ir.specs.declared.syntax.Name.TheVariants.{Number, Text}
use Rattle.ms_ir.specs.Names.{name_eq}
use Rattle.ms_ir.proofs.Sizes.{drop_next}
use Rattle.ms_check_tables.specs.declared.index.Index.{Index}
use Rattle.ms_check_tables.specs.Index.{Marked, text_mark, first_marked, place_marked, place_few, place_unmarked, place_in}

-- ---- marks

-- texts with different marks are different
marks_apart : (a b : List ℕ) → nat_eq (text_mark a) (text_mark b) ≡ false → pointwise nat_eq a b ≡ false
marks_apart a b differ =
    ⊎_elim
    (λ same. absurd (true≢false (sym (eq-eqb (text_mark a) (text_mark b) (ap text_mark ((bytes_decides a b).0 same))) ∙ differ)))
    (λ other. other)
    (cases_Bool (pointwise nat_eq a b))

-- ---- places

-- the place of a text, where this is known of the first with its mark
first_place : List ℕ → Option (Bor (List ℕ) × ℕ) → Option ℕ
first_place text first = elim first [ Some f ↦ (if pointwise nat_eq f.0.now text then Some f.1 else None) | None ↦ None ]

-- a place, or else that among the other texts
or_rest : Option ℕ → Option ℕ → Option ℕ
or_rest o rest = elim o [ Some p ↦ Some p | None ↦ rest ]

seen : List ℕ → Option (Bor (List ℕ) × ℕ) → Option ℕ → Option ℕ
seen text first rest = or_rest (first_place text first) rest

chosen : (t : Bool) (place : ℕ) (rest : Option ℕ) → or_rest (if t then Some place else None) rest ≡ (if t then Some place else rest)
unfolding or_rest
chosen true place rest = refl
chosen false place rest = refl

none_first : (o rest : Option ℕ) → or_rest o rest ≡ None → o ≡ None
unfolding or_rest
none_first None rest none = refl
none_first (Some p) rest none = none

chosen_rest : (t : Bool) (place : ℕ) (o rest : Option ℕ) → or_rest (if t then Some place else o) rest ≡ (if t then Some place else or_rest o rest)
unfolding or_rest
chosen_rest true place o rest = refl
chosen_rest false place o rest = refl

none_rest : (o rest : Option ℕ) → or_rest o rest ≡ None → rest ≡ None
unfolding or_rest
none_rest None rest none = none
none_rest (Some p) rest none = absurd (cc)

-- what is put in after others has its place
placed_after : (bytes other : List ℕ) (first rest : Option ℕ) (place : ℕ) (after : Option ℕ) → after ≡ (if pointwise nat_eq bytes other then Some place else rest)
    → (pointwise nat_eq bytes other ≡ true → or_rest first rest ≡ None) → or_rest first after ≡ (if pointwise nat_eq bytes other then Some place else or_rest first rest)
unfolding or_rest
placed_after bytes other first rest place after found absent =
    ⊎_elim
    (λ same.
    ap (λ o. or_rest o after) (none_first first rest (absent same)) ∙ found ∙ ap (λ b. if b then Some place else rest) same
    ∙ sym (ap (λ b. if b then Some place else or_rest first rest) same)
    )
    (λ differ. ap (λ r. or_rest first r) (found ∙ ap (λ b. if b then Some place else rest) differ) ∙ sym (ap (λ b. if b then Some place else or_rest first rest) differ))
    (cases_Bool (pointwise nat_eq bytes other))

-- where each mark has the same first text, each name has the same place
pub held_same : (index : Index) (marked : Option (Box Marked)) → ((mark : ℕ) → first_marked marked mark ≡ first_marked index.marked mark)
    → (x : Name) → place_in (record index { marked = marked }) x ≡ place_in index x
unfolding seen first_place or_rest
held_same index marked same (Number n) = refl
held_same index marked same (Text other) =
    let rest = place_unmarked index other in
    ap (λ o. seen other o rest) (same (text_mark other))

-- the first text with its mark has its place, and each other name the one that it had
pub marked_placed : (index : Index) (before after : Box Marked) (mark : ℕ) (text : Bor (List ℕ)) (place : ℕ) → index.marked ≡ Some before → mark ≡ text_mark text.now → first_marked index.marked mark ≡ None
    → hash.Updates nat_eq before.value after.value mark (Some (text, place)) → (x : Name) → place_in (record index { marked = Some after }) x ≡ (if name_eq (Text text.now) x then Some place else place_in index x)
unfolding seen first_place or_rest
marked_placed index before after mark text place held is first updates (Number n) = refl
marked_placed index before after mark text place held is first updates (Text other) =
    let rest = place_unmarked index other in
    let t = pointwise nat_eq text.now other in
    ⊎_elim
    (λ same.
    let marks : mark ≡ text_mark other = eqb-true mark (text_mark other) same in
    let found : hash.get nat_eq after.value (text_mark other) ≡ Some (text, place) = subst (λ m. hash.get nat_eq after.value m ≡ Some (text, place)) marks updates.1 in
    let none : first_marked index.marked (text_mark other) ≡ None = subst (λ m. first_marked index.marked m ≡ None) marks first in
    let right : (if t then Some place else place_in index (Text other)) ≡ (if t then Some place else rest) = ap (λ o. if t then Some place else seen other o rest) none in
    ap (λ o. seen other o rest) found ∙ chosen t place rest ∙ sym right
    )
    (λ differ.
    let apart : t ≡ false = marks_apart text.now other (ap (λ m. nat_eq m (text_mark other)) (sym is) ∙ differ) in
    let kept : hash.get nat_eq after.value (text_mark other) ≡ first_marked index.marked (text_mark other) =
    updates.2 (text_mark other) differ ∙ sym (ap (λ h. first_marked h (text_mark other)) held) in
    ap (λ o. seen other o rest) kept ∙ sym (ap (λ b. if b then Some place else place_in index (Text other)) apart)
    )
    (cases_Bool (nat_eq mark (text_mark other)))

-- ---- few texts

few_more : (found : Option ℕ) (few : List (Bor (List ℕ) × ℕ)) (entry : Bor (List ℕ) × ℕ) (text : List ℕ)
    → place_few found (few ++ entry ∷ []) text ≡ (if pointwise nat_eq entry.0.now text then Some entry.1 else place_few found few text)
few_more found [] entry text = refl
few_more found (e ∷ few) entry text = few_more (if pointwise nat_eq e.0.now text then Some e.1 else found) few entry text

-- the next of few texts is equal
pub few_hit : (found : Option ℕ) (few : List (Bor (List ℕ) × ℕ)) (text : List ℕ) (i : ℕ) (entry : Bor (List ℕ) × ℕ) → i < length few → entry ≡ get_or few i entry
    → pointwise nat_eq entry.0.now text ≡ true → place_few (Some entry.1) (drop (i + 1) few) text ≡ place_few found (drop i few) text
few_hit found few text i entry below here equal =
    sym (ap (λ l. place_few found l text) (drop_next few i entry below here) ∙ ap (λ t. place_few (if t then Some entry.1 else found) (drop (i + 1) few) text) equal)

-- it isn't
pub few_miss : (found : Option ℕ) (few : List (Bor (List ℕ) × ℕ)) (text : List ℕ) (i : ℕ) (entry : Bor (List ℕ) × ℕ) → i < length few → entry ≡ get_or few i entry
    → pointwise nat_eq entry.0.now text ≡ false → place_few found (drop (i + 1) few) text ≡ place_few found (drop i few) text
few_miss found few text i entry below here other =
    sym (ap (λ l. place_few found l text) (drop_next few i entry below here) ∙ ap (λ t. place_few (if t then Some entry.1 else found) (drop (i + 1) few) text) other)

-- there is none left
pub few_end : (found : Option ℕ) (few : List (Bor (List ℕ) × ℕ)) (text : List ℕ) (i : ℕ) → length few ≤ i → place_few found (drop i few) text ≡ found
few_end found few text i end = ap (λ l. place_few found l text) (drop_of_length-le few end)

-- one of few texts has its place, and each other name the one that it had
pub few_placed : (index : Index) (after : Vec (Bor (List ℕ) × ℕ) Global) (text : Bor (List ℕ)) (place : ℕ) → place_in index (Text text.now) ≡ None
    → after.items ≡ index.few.items ++ (text, place) ∷ [] → (x : Name) → place_in (record index { few = after }) x ≡ (if name_eq (Text text.now) x then Some place else place_in index x)
unfolding or_rest
few_placed index after text place absent appended (Number n) = refl
few_placed index after text place absent appended (Text other) =
    let first = place_marked index.marked other in
    let rest = get_by (λ (k : Bor (List ℕ)). slice_cmp nat_cmp other k.now) index.texts in
    let t = pointwise nat_eq text.now other in
    let found : place_few None after.items other ≡ (if t then Some place else place_few None index.few.items other) =
    ap (λ few. place_few None few other) appended ∙ few_more None index.few.items (text, place) other in
    let there : place_unmarked (record index { few = after }) other ≡ (if t then Some place else place_unmarked index other) =
    ap (λ o. or_rest o rest) found ∙ chosen_rest t place (place_few None index.few.items other) rest in
    placed_after text.now other first (place_unmarked index other) place (place_unmarked (record index { few = after }) other) there
    (λ same. subst (λ b. place_in index (Text b) ≡ None) ((bytes_decides text.now other).0 same) absent)

-- another text has its place, and each other name the one that it had
pub after_placed : (index : Index) (after : BTreeMap (Bor (List ℕ)) ℕ) (bytes : List ℕ) (place : ℕ) → place_in index (Text bytes) ≡ None
    → UpdatesBy (λ x y. slice_cmp nat_cmp x.now y.now) (λ k. slice_cmp nat_cmp bytes k.now) index.texts after (Some place)
    → (x : Name) → place_in (record index { texts = after }) x ≡ (if name_eq (Text bytes) x then Some place else place_in index x)
unfolding or_rest
after_placed index after bytes place absent updates (Number n) = refl
after_placed index after bytes place absent updates (Text other) =
    let first = place_marked index.marked other in
    let few = place_few None index.few.items other in
    let rest = get_by (λ (k : Bor (List ℕ)). slice_cmp nat_cmp other k.now) index.texts in
    let t = pointwise nat_eq bytes other in
    let found : get_by (λ (k : Bor (List ℕ)). slice_cmp nat_cmp other k.now) after ≡ (if t then Some place else rest) = btree_map_updates_str bytes index.texts after (Some place) updates other in
    let none : t ≡ true → place_in index (Text other) ≡ None = λ same. subst (λ b. place_in index (Text b) ≡ None) ((bytes_decides bytes other).0 same) absent in
    let there : place_unmarked (record index { texts = after }) other ≡ (if t then Some place else place_unmarked index other) =
    placed_after bytes other few rest place (get_by (λ (k : Bor (List ℕ)). slice_cmp nat_cmp other k.now) after) found (λ same. none_rest first (place_unmarked index other) (none same)) in
    placed_after bytes other first (place_unmarked index other) place (place_unmarked (record index { texts = after }) other) there none

-- ---- a text that moves

none_there : {X : Type 0} (o : Option X) → is_some o ≡ false → o ≡ None
none_there None empty = refl
none_there (Some x) empty = absurd (true≢false empty)

at_end : {A : Type 0} (items : List A) (item : A) → slice_get (items ++ item ∷ []) (length items) ≡ Some item
at_end [] item = refl
at_end (i ∷ items) item = at_end items item

same_item : {A : Type 0} (x y : A) → Some x ≡ Some y → x ≡ y
same_item x y same = ap (λ o. elim o [ Some z ↦ z | None ↦ x ]) same

-- the last of a list is what is popped
popped : {A : Type 0} (old new : List A) (last : Option A) (item : A) → old ≡ new ++ option_to_list last → (0 < length old → IsSome last) → slice_get old (length old - 1) ≡ Some item
    → old ≡ new ++ item ∷ []
popped [] new None item was some is = absurd (cc)
popped (i ∷ old) new None item was some is = absurd (true≢false (sym (some (omega arith))))
popped {A = A} old new (Some last) item was some is =
    let count : length old - 1 ≡ length new = omega (arith, ap length was, length-append new (last ∷ [])) in
    let there : slice_get (new ++ last ∷ []) (length new) ≡ Some item = subst (λ (l : List A). slice_get l (length new) ≡ Some item) was (subst (λ (n : ℕ). slice_get old n ≡ Some item) count is) in
    was ∙ ap (λ i. new ++ i ∷ []) (same_item last item (sym (at_end new last) ∙ there))

-- a text that gets its own place changes nothing
placed_again : (index : Index) (bytes : List ℕ) (place : ℕ) → place_in index (Text bytes) ≡ Some place
    → (x : Name) → (if name_eq (Text bytes) x then Some place else place_in index x) ≡ place_in index x
placed_again index bytes place found (Number n) = refl
placed_again index bytes place found (Text other) =
    ⊎_elim
    (λ same.
    ap (λ b. if b then Some place else place_in index (Text other)) same
    ∙ sym (subst (λ b. place_in index (Text b) ≡ Some place) ((bytes_decides bytes other).0 same) found)
    )
    (λ differ. ap (λ b. if b then Some place else place_in index (Text other)) differ)
    (cases_Bool (pointwise nat_eq bytes other))

-- a text that is the first with its mark may leave the few
text_left : (index : Index) (after : Vec (Bor (List ℕ) × ℕ) Global) (text : Bor (List ℕ)) (place : ℕ) → place_marked index.marked text.now ≡ Some place
    → index.few.items ≡ after.items ++ (text, place) ∷ [] → (x : Name) → place_in (record index { few = after }) x ≡ place_in index x
unfolding or_rest
text_left index after text place found was (Number n) = refl
text_left index after text place found was (Text other) =
    let first = place_marked index.marked other in
    let rest = get_by (λ (k : Bor (List ℕ)). slice_cmp nat_cmp other k.now) index.texts in
    let left = place_unmarked (record index { few = after }) other in
    let t = pointwise nat_eq text.now other in
    let few : place_few None index.few.items other ≡ (if t then Some place else place_few None after.items other) = ap (λ l. place_few None l other) was ∙ few_more None after.items (text, place) other in
    ⊎_elim
    (λ same.
    let here : first ≡ Some place = subst (λ b. place_marked index.marked b ≡ Some place) ((bytes_decides text.now other).0 same) found in
    ap (λ o. or_rest o left) here ∙ sym (ap (λ o. or_rest o (place_unmarked index other)) here)
    )
    (λ differ. ap (λ o. or_rest first (or_rest o rest)) (sym (few ∙ ap (λ b. if b then Some place else place_few None after.items other) differ)))
    (cases_Bool t)

-- a text that moves from the few to the first with their marks keeps its place, and so does each other name
pub marked_moved : (index : Index) (before after : Box Marked) (few : Vec (Bor (List ℕ) × ℕ) Global) (last : Option (Bor (List ℕ) × ℕ)) (mark : ℕ) (text : Bor (List ℕ)) (place : ℕ)
    → index.marked ≡ Some before → mark ≡ text_mark text.now → is_some (hash.get nat_eq before.value mark) ≡ false → slice_get index.few.items (length index.few.items - 1) ≡ Some (text, place)
    → hash.Updates nat_eq before.value after.value mark (Some (text, place)) → index.few.items ≡ few.items ++ option_to_list last → (0 < length index.few.items → IsSome last)
    → (x : Name) → place_in (record index { few = few; marked = Some after }) x ≡ place_in index x
unfolding seen first_place or_rest
marked_moved index before after few last mark text place held is taken found updates left some x =
    let was : index.few.items ≡ few.items ++ (text, place) ∷ [] = popped index.few.items few.items last (text, place) left some found in
    let equal : pointwise nat_eq text.now text.now ≡ true = (bytes_decides text.now text.now).1 refl in
    let rest = get_by (λ (k : Bor (List ℕ)). slice_cmp nat_cmp text.now k.now) index.texts in
    let free : first_marked index.marked mark ≡ None = ap (λ h. first_marked h mark) held ∙ none_there (hash.get nat_eq before.value mark) taken in
    let none : first_marked index.marked (text_mark text.now) ≡ None = subst (λ m. first_marked index.marked m ≡ None) is free in
    let there : hash.get nat_eq after.value (text_mark text.now) ≡ Some (text, place) = subst (λ m. hash.get nat_eq after.value m ≡ Some (text, place)) is updates.1 in
    let last_place : place_few None index.few.items text.now ≡ Some place =
    ap (λ l. place_few None l text.now) was ∙ few_more None few.items (text, place) text.now ∙ ap (λ b. if b then Some place else place_few None few.items text.now) equal in
    let old : place_in index (Text text.now) ≡ Some place = ap (λ o. seen text.now o (place_unmarked index text.now)) none ∙ ap (λ o. or_rest o rest) last_place in
    let new : place_marked (Some after) text.now ≡ Some place = ap (λ o. first_place text.now o) there ∙ ap (λ b. if b then Some place else None) equal in
    text_left (record index { marked = Some after }) few text place new was x
    ∙ marked_placed index before after mark text place held is free updates x
    ∙ placed_again index text.now place old x
