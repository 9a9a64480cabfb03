-- From the words of the blocks to uses that are undefined, and from these to paths.
use Rattle.std.proofs.Common.{◌≡◌, ℕ, zero, suc, ◌+◌, ◌-◌, ◌<◌, ◌≤◌, ◌⊎◌, ◌↔◌, Bool, true, false, List, [], ◌∷◌, ◌++◌, length, get_or, take, drop, refl, sym, ap, ◌∙◌, inl, inr, ⊎_elim, subst, arith, get_or-set_other, All, Any, Contains, IsTrue, Option, slice_get}
use Rattle.std.specs.Option.{IfSome}
use Rattle.std.proofs.lemmas.Option.{slice_get-get_or}
use Rattle.std.proofs.Math.ListN.{set}
use Rattle.std.proofs.lemmas.Bool.{cases_eq, cases_lt, cases_Bool, true≢false}
use Rattle.std.proofs.lemmas.List.{get_or_default, get_or-take, get_or-drop, length-take, length-drop}
use Rattle.std.proofs.lemmas.List.Elements.{All-nil, All-cons, All-head, All-tail, All-take, All-drop, All-contains, Contains-get_or}
use Rattle.ms_flow.specs.declared.graphs.Graph.{Graph}
use Rattle.ms_flow.specs.declared.graphs.Use.{Use}
use Rattle.ms_flow.specs.Paths.{Defines, Follows, IsPath, IsDefined, Misses}
use Rattle.ms_flow.specs.Search.{Has, Arrives, Comes, IsUndefined, StandsAt, Leaves, use_at}
use Rattle.ms_flow.specs.Search.Arrives.{Entry, Along}
use Rattle.ms_flow.proofs.States.{get_set_same, has_same}
use Rattle.ms_flow.proofs.Members.{within}

-- ---- judge

-- the flag of the use is set where its value leaves
abbrev pub Judged : List Use → List ℕ → List ℕ → List ℕ → List Bool → ℕ → Type 0
Judged uses values kills words flags which =
    (i : ℕ) × StandsAt values (use_at uses which) i × (Leaves kills words (use_at uses which) i → get_or flags which false ≡ true)

-- a flag that is set was set before, or the use's value leaves
abbrev pub IsRight : List Use → List ℕ → List ℕ → List ℕ → List Bool → ℕ → Type 0
IsRight uses values kills words flags which =
    (get_or flags which false ≡ true) ⊎ ((i : ℕ) × StandsAt values (use_at uses which) i × Leaves kills words (use_at uses which) i)

pub flag_kept : (flags : List Bool) (c k : ℕ) → c < length flags → get_or flags k false ≡ true → get_or (set flags c true) k false ≡ true
flag_kept flags c k lt on =
    ⊎_elim (λ e. get_set_same flags c k true false lt e) (λ ne. get_or-set_other flags c k true false ne ∙ on) (cases_eq k c)

pub judged_kept : (uses : List Use) (values kills words : List ℕ) (flags flags' : List Bool) (which : ℕ)
    → (get_or flags which false ≡ true → get_or flags' which false ≡ true)
    → Judged uses values kills words flags which → Judged uses values kills words flags' which
judged_kept uses values kills words flags flags' which kept (i, at, set) = (i, at, λ l. kept (set l))

pub right_set : (uses : List Use) (values kills words : List ℕ) (first flags : List Bool) (c k : ℕ)
    → ((k : ℕ) → get_or flags k false ≡ true → IsRight uses values kills words first k)
    → (i : ℕ) × StandsAt values (use_at uses c) i × Leaves kills words (use_at uses c) i
    → get_or (set flags c true) k false ≡ true → IsRight uses values kills words first k
right_set uses values kills words first flags c k right here on =
    ⊎_elim
    (λ e. inr (let P : ℕ → Type 0 = λ z. (i : ℕ) × StandsAt values (use_at uses z) i × Leaves kills words (use_at uses z) i in subst P (sym e) here))
    (λ ne. right k (sym (get_or-set_other flags c k true false ne) ∙ on))
    (cases_eq k c)

-- ---- words and graph

arrives_map : (g : Graph) (P Q : ℕ → Type 0) → ((b : ℕ) → Q b → P b) → (b : ℕ) → Arrives g P b → Arrives g Q b
arrives_map g P Q f _ Entry = Entry
arrives_map g P Q f _ (Along b c way free edge) = Along b c (arrives_map g P Q f b way) (λ q. free (f b q)) edge

-- the words `kills` tell the definitions of the graph
abbrev pub Tells : Graph → List ℕ → List ℕ → Type 0
Tells g values kills = (b i : ℕ) → i < length values → Has (get_or kills b 0) i ↔ Defines g b (get_or values i 0)

pub leaves_is : (g : Graph) (values kills words : List ℕ) (u : Use) (i : ℕ)
    → length values ≤ 64
    → Tells g values kills
    → ((b i : ℕ) → i < 64 → Has (get_or words b 0) i ↔ Comes g kills i b)
    → StandsAt values u i
    → Leaves kills words u i ↔ IsUndefined g u
leaves_is g values kills words u i few tells comes (small, at) =
    let in_word : i < 64 = omega arith in
    let Killed : ℕ → Type 0 = λ b. Has (get_or kills b 0) i in
    let Defined : ℕ → Type 0 = λ b. Defines g b u.value in
    let down : (b : ℕ) → Killed b → Defined b = λ b h. let P : ℕ → Type 0 = λ v. Defines g b v in subst P at ((tells b i small).0 h) in
    let up : (b : ℕ) → Defined b → Killed b = λ b h. (tells b i small).1 (let P : ℕ → Type 0 = λ v. Defines g b v in subst P (sym at) h) in (
      λ l. (arrives_map g Killed Defined up u.block ((comes u.block i in_word).0 l.0), λ a d. l.1 a (up u.block d)),
      λ h. ((comes u.block i in_word).1 (arrives_map g Defined Killed down u.block h.0), λ a k. h.1 a (down u.block k)),
    )

-- ---- paths

arrives_along : (g : Graph) (P : ℕ → Type 0) (last : ℕ) (rest : List ℕ) (b : ℕ) → Arrives g P b → (P b → ⊥) → Follows g b (rest ++ last ∷ []) → All (λ z. P z → ⊥) rest → Arrives g P last
arrives_along g P last [] b way free follows all = Along b last way free follows.0
arrives_along g P last (c ∷ rest) b way free follows all =
    arrives_along g P last rest c (Along b c way free follows.0) (All-head (λ z. P z → ⊥) c rest all) follows.1 (All-tail (λ z. P z → ⊥) c rest all)

pub arrives_path : (g : Graph) (P : ℕ → Type 0) (before : List ℕ) (last : ℕ) → IsPath g (before ++ last ∷ []) → All (λ z. P z → ⊥) before → Arrives g P last
arrives_path g P [] last path all = let Q : ℕ → Type 0 = λ z. Arrives g P z in subst Q (sym path.0) Entry
arrives_path g P (b ∷ rest) last path all =
    let Q : ℕ → Type 0 = λ z. Arrives g P z in
    arrives_along g P last rest b (subst Q (sym path.0) Entry) (All-head (λ z. P z → ⊥) b rest all) path.1 (All-tail (λ z. P z → ⊥) b rest all)

has_or_not : (xs : List ℕ) (x : ℕ) → Contains xs x ⊎ (Contains xs x → ⊥)
has_or_not [] x = inr (λ h. let lt = h.1 in absurd (omega arith))
has_or_not (y ∷ ys) x = ⊎_elim
    (λ e. inl (zero, omega arith, e))
    (λ ne. ⊎_elim
    (λ h. let lt = h.1 in inl (suc h.0, omega arith, h.2))
    (λ none. inr (λ (k, lt, e). at k lt e ne none))
    (has_or_not ys x))
    (cases_eq y x)
  where
    at : (k : ℕ) → k < length (y ∷ ys) → get_or (y ∷ ys) k x ≡ x → (y ≡ x → ⊥) → (Contains ys x → ⊥) → ⊥
    at zero lt e ne none = ne e
    at (suc k) lt e ne none = none (k, omega arith, e)

some_or_none : (g : Graph) (v : ℕ) (before : List ℕ) → Any (λ b. Defines g b v) before ⊎ All (λ b. Defines g b v → ⊥) before
some_or_none g v [] = inr (All-nil (λ b. Defines g b v → ⊥))
some_or_none g v (b ∷ rest) = ⊎_elim
    (λ d. inl (zero, b, omega arith, refl, d))
    (λ free. ⊎_elim
    (λ (k, x, lt, e, d). inl (suc k, x, omega arith, e, d))
    (λ all. inr (All-cons (λ b. Defines g b v → ⊥) b rest free all))
    (some_or_none g v rest))
    (has_or_not (get_or g.defs b []) v)

pub defined_unless : (g : Graph) (u : Use) → (IsUndefined g u → ⊥) → IsDefined g u
defined_unless g u not_undefined before path = ⊎_elim
    (λ some. inl some)
    (λ none.
    let way = arrives_path g (λ b. Defines g b u.value) before u.block path none in
    ⊎_elim
    (λ own. ⊎_elim
    (λ after. inr (after, own))
    (λ not_after. absurd (not_undefined (way, λ a d. absurd (true≢false (sym a ∙ not_after)))))
    (cases_Bool u.after))
    (λ free. absurd (not_undefined (way, λ a d. free d)))
    (has_or_not (get_or g.defs u.block []) u.value))
    (some_or_none g u.value before)

-- ---- arrives

pub leaves_after : (kills words : List ℕ) (u : Use) (i word : ℕ) → u.after ≡ true
    → Has word i ↔ (Has (get_or words u.block 0) i × (Has (get_or kills u.block 0) i → ⊥))
    → Has word i ↔ Leaves kills words u i
leaves_after kills words u i word after h = (λ p. let q = h.0 p in (q.0, λ a. q.1), λ l. h.1 (l.0, l.1 after))

pub leaves_before : (kills words : List ℕ) (u : Use) (i word : ℕ) → u.after ≡ false → word ≡ get_or words u.block 0 → Has word i ↔ Leaves kills words u i
leaves_before kills words u i word before is =
    (λ p. (has_same word _ i is p, λ a. absurd (true≢false (sym a ∙ before))), λ l. has_same _ word i (sym is) l.0)

pub leaves_answer : (kills words : List ℕ) (u : Use) (i word : ℕ) (r : Bool)
    → IsTrue r ↔ Has word i → Has word i ↔ Leaves kills words u i → IsTrue r ↔ Leaves kills words u i
leaves_answer kills words u i word r h k = (λ p. k.0 (h.0 p), λ l. h.1 (k.1 l))

-- ---- one batch of questions

pub tells_graph : (g : Graph) (values values' kills : List ℕ) (defs : List (ℕ × ℕ)) → values' ≡ values
    → ((b v : ℕ) → Contains defs (b, v) ↔ Defines g b v)
    → ((b i : ℕ) → i < length values' → Has (get_or kills b 0) i ↔ Contains defs (b, get_or values' i 0))
    → Tells g values kills
tells_graph g values values' kills defs e d t b i small =
    let P : List ℕ → Type 0 = λ l. (b i : ℕ) → i < length l → Has (get_or kills b 0) i ↔ Contains defs (b, get_or l i 0) in
    let h = subst P e t b i small in
    let v = get_or values i 0 in
    (λ p. (d b v).0 (h.0 p), λ p. h.1 ((d b v).1 p))

pub comes_graph : (g : Graph) (kills kills' words : List ℕ) → kills' ≡ kills
    → ((b i : ℕ) → i < 64 → Has (get_or words b 0) i ↔ Comes g kills' i b)
    → (b i : ℕ) → i < 64 → Has (get_or words b 0) i ↔ Comes g kills i b
comes_graph g kills kills' words e h =
    let P : List ℕ → Type 0 = λ l. (b i : ℕ) → i < 64 → Has (get_or words b 0) i ↔ Comes g l i b in subst P e h

pub judged_same : (uses : List Use) (values values' kills kills' words words' : List ℕ) (flags : List Bool) (qs : List (ℕ × ℕ))
    → values' ≡ values → kills' ≡ kills → words' ≡ words
    → All (λ q. Judged uses values' kills' words' flags q.1) qs → All (λ q. Judged uses values kills words flags q.1) qs
judged_same uses values values' kills kills' words words' flags qs e f h all =
    let P : List ℕ → Type 0 = λ l. All (λ q. Judged uses l kills' words' flags q.1) qs in
    let Q : List ℕ → Type 0 = λ l. All (λ q. Judged uses values l words' flags q.1) qs in
    let R : List ℕ → Type 0 = λ l. All (λ q. Judged uses values kills l flags q.1) qs in
    subst R h (subst Q f (subst P e all))

pub right_same : (uses : List Use) (values values' kills kills' words words' : List ℕ) (flags : List Bool) (k : ℕ)
    → values' ≡ values → kills' ≡ kills → words' ≡ words
    → IsRight uses values' kills' words' flags k → IsRight uses values kills words flags k
right_same uses values values' kills kills' words words' flags k e f h r =
    let P : List ℕ → Type 0 = λ l. IsRight uses l kills' words' flags k in
    let Q : List ℕ → Type 0 = λ l. IsRight uses values l words' flags k in
    let R : List ℕ → Type 0 = λ l. IsRight uses values kills l flags k in
    subst R h (subst Q f (subst P e r))

-- the words of the batch answer for the graph
abbrev pub Answers : Graph → List ℕ → List ℕ → List ℕ → Type 0
Answers g values kills words = (u : Use) (i : ℕ) → StandsAt values u i → Leaves kills words u i ↔ IsUndefined g u

pub batch_marked : (g : Graph) (uses : List Use) (values kills words : List ℕ) (flags flags' : List Bool) (qs : List (ℕ × ℕ)) (from count : ℕ)
    → from + count ≤ length qs
    → Answers g values kills words
    → ((k : ℕ) → k < from → IsUndefined g (use_at uses (get_or qs k (0, 0)).1) → get_or flags (get_or qs k (0, 0)).1 false ≡ true)
    → ((k : ℕ) → get_or flags k false ≡ true → get_or flags' k false ≡ true)
    → All (λ q. Judged uses values kills words flags' q.1) (take (from + count - from) (drop from qs))
    → (k : ℕ) → k < from + count → IsUndefined g (use_at uses (get_or qs k (0, 0)).1) → get_or flags' (get_or qs k (0, 0)).1 false ≡ true
batch_marked g uses values kills words flags flags' qs from count within answers before kept all k lt undefined = ⊎_elim
    (λ early. kept (get_or qs k (0, 0)).1 (before k early undefined))
    (λ late.
    let j = k - from in
    let in_part : j < length (take (from + count - from) (drop from qs)) = omega (arith, length-take (from + count - from) (drop from qs), length-drop from qs) in
    let same : from + j ≡ k = omega arith in
    let at : get_or (take (from + count - from) (drop from qs)) j (0, 0) ≡ get_or qs k (0, 0) =
    get_or-take (from + count - from) (drop from qs) j (0, 0) (omega arith) ∙ get_or-drop from qs j (0, 0) ∙ ap (λ (n : ℕ). get_or qs n (0, 0)) same in
    let P : ℕ × ℕ → Type 0 = λ q. Judged uses values kills words flags' q.1 in
    let h = subst P at (all j (0, 0) in_part) in
    h.2 ((answers (use_at uses (get_or qs k (0, 0)).1) h.0 h.1).1 undefined))
    (cases_lt k from)

pub batch_right : (g : Graph) (uses : List Use) (values kills words : List ℕ) (first flags flags' : List Bool)
    → Answers g values kills words
    → ((k : ℕ) → get_or flags k false ≡ true → (get_or first k false ≡ true) ⊎ IsUndefined g (use_at uses k))
    → ((k : ℕ) → get_or flags' k false ≡ true → IsRight uses values kills words flags k)
    → (k : ℕ) → get_or flags' k false ≡ true → (get_or first k false ≡ true) ⊎ IsUndefined g (use_at uses k)
batch_right g uses values kills words first flags flags' answers before right k on =
    ⊎_elim (λ was. before k was) (λ h. inr ((answers (use_at uses k) h.0 h.1).0 h.2)) (right k on)

pub batch_values : (uses : List Use) (values : List ℕ) (qs : List (ℕ × ℕ)) (from count : ℕ)
    → All (λ q. q.0 ≡ (use_at uses q.1).value) qs
    → ((j : ℕ) → j < count → Contains values (get_or (drop from qs) j (0, 0)).0)
    → All (λ q. Contains values (use_at uses q.1).value) (take (from + count - from) (drop from qs))
batch_values uses values qs from count all has k d lt =
    let P : ℕ × ℕ → Type 0 = λ q. q.0 ≡ (use_at uses q.1).value in
    let m = from + count - from in
    let short = length-take m (drop from qs) in
    let small : k < m = omega arith in
    let in_rest : k < length (drop from qs) = omega arith in
    let at : get_or (take m (drop from qs)) k d ≡ get_or (drop from qs) k (0, 0) =
    get_or-take m (drop from qs) k d small ∙ get_or_default (drop from qs) k d (0, 0) in_rest in
    let value = All-take P m (drop from qs) (All-drop P from qs all) k d lt in
    let Q : ℕ × ℕ → Type 0 = λ q. Contains values q.0 in
    let R : ℕ → Type 0 = λ v. Contains values v in
    subst R value (subst Q (sym at) (has k (omega arith)))

-- ---- all uses

abbrev pub Known : Graph → List (ℕ × ℕ) → Type 0
Known g defs = (b v : ℕ) → Contains defs (b, v) ↔ Defines g b v

pub known_blocks : (g : Graph) (defs : List (ℕ × ℕ)) → length g.next ≡ length g.defs → Known g defs → All (λ d. d.0 < length g.next) defs
known_blocks g defs same known k d lt =
    let p = get_or defs k d in
    let inside = within g.defs p.0 p.1 ((known p.0 p.1).0 (Contains-get_or defs k d lt)) in
    omega arith

-- what is asked about a use
abbrev pub AskedAt : List Use → List (ℕ × ℕ) → List (ℕ × ℕ) → ℕ → Type 0
AskedAt uses defs qs k =
    Contains qs ((use_at uses k).value, k) ⊎ (IsTrue (use_at uses k).after × Contains defs ((use_at uses k).block, (use_at uses k).value))

pub asked_undefined : (g : Graph) (uses : List Use) (defs qs : List (ℕ × ℕ)) (k : ℕ) → Known g defs → AskedAt uses defs qs k
    → IsUndefined g (use_at uses k) → Contains qs ((use_at uses k).value, k)
asked_undefined g uses defs qs k known (inl asked) undefined = asked
asked_undefined g uses defs qs k known (inr settled) undefined = absurd (undefined.1 settled.0 ((known _ _).0 settled.1))

pub flags_answer : (g : Graph) (uses : List Use) (defs qs : List (ℕ × ℕ)) (first flags : List Bool) (k : ℕ) → Known g defs → AskedAt uses defs qs k
    → ((b : ℕ) → get_or first b false ≡ false)
    → All (λ q. IsUndefined g (use_at uses q.1) → get_or flags q.1 false ≡ true) qs
    → (get_or flags k false ≡ true → (get_or first k false ≡ true) ⊎ IsUndefined g (use_at uses k))
    → (get_or flags k false ≡ true) ↔ IsUndefined g (use_at uses k)
flags_answer g uses defs qs first flags k known asked blank marked right = (
  λ on. ⊎_elim (λ was. absurd (true≢false (sym was ∙ blank k))) (λ u. u) (right on),
  λ u. All-contains (λ q. IsUndefined g (use_at uses q.1) → get_or flags q.1 false ≡ true) qs ((use_at uses k).value, k) marked (asked_undefined g uses defs qs k known asked u) u,
)

pub flags_none : (g : Graph) (uses : List Use) (defs qs : List (ℕ × ℕ)) (flags : List Bool) (k : ℕ) → Known g defs → AskedAt uses defs qs k
    → ((b : ℕ) → get_or flags b false ≡ false)
    → length qs ≡ 0
    → (get_or flags k false ≡ true) ↔ IsUndefined g (use_at uses k)
flags_none g uses defs qs flags k known asked blank empty = (
  λ on. absurd (true≢false (sym on ∙ blank k)),
  λ u. let c = asked_undefined g uses defs qs k known asked u in let lt = c.1 in absurd (omega arith),
)

-- ---- the answer

abbrev pub Flags : Graph → List Use → List Bool → Type 0
Flags g uses flags = (k : ℕ) → k < length uses → (get_or flags k false ≡ true) ↔ IsUndefined g (use_at uses k)

pub defined_at : (g : Graph) (uses : List Use) (flags : List Bool) (k : ℕ) (d : Use) → Flags g uses flags → k < length uses → get_or flags k false ≡ false → IsDefined g (get_or uses k d)
defined_at g uses flags k d are lt off =
    let P : Use → Type 0 = λ u. IsDefined g u in
    subst P (get_or_default uses k (record { block = 0; value = 0; after = false }) d lt)
    (defined_unless g (use_at uses k) (λ undefined. true≢false (sym ((are k lt).1 undefined) ∙ off)))

pub defined_before : (g : Graph) (uses : List Use) (flags : List Bool) (which : ℕ) → Flags g uses flags → which ≤ length uses
    → ((j : ℕ) → j < which → get_or flags j false ≡ false) → All (IsDefined g) (take which uses)
defined_before g uses flags which are within off k d lt =
    let short = length-take which uses in
    let small : k < which = omega arith in
    let P : Use → Type 0 = λ u. IsDefined g u in
    subst P (sym (get_or-take which uses k d small)) (defined_at g uses flags k d are (omega arith) (off k small))

pub misses_at : (g : Graph) (uses : List Use) (which : ℕ) (d : Use) (path path' : List ℕ) → which < length uses → path ≡ path'
    → Misses g (get_or uses which d) path' → IfSome (slice_get uses which) (λ u. Misses g u path)
misses_at g uses which d path path' lt e m =
    let P : Option Use → Type 0 = λ o. IfSome o (λ u. Misses g u path) in
    let Q : List ℕ → Type 0 = λ l. Misses g (get_or uses which d) l in
    subst P (sym (slice_get-get_or uses which d lt)) (subst Q (sym e) m)
