-- The search for an unmarked instruction by its number, a step at a time: what is left to pass is the number, less what
-- was passed.
use Rattle.std.proofs.Common.{◌≡◌, ◌<◌, ◌≤◌, ℕ, suc, ◌+◌, ◌-◌, ◌^◌, min, List, refl, sym, ap, ◌∙◌, arith, drop, length, get_or, add-one, false}
use Rattle.std.proofs.Math.Seq.{drop-cons}
use Rattle.std.proofs.lemmas.Option.{slice_get_read}
use Rattle.ms_ir.specs.declared.syntax.Inst.{Inst}
use Rattle.ms_ir.specs.declared.syntax.Block.{Block}
use Rattle.ms_ir.specs.declared.syntax.Func.{Func}
use Rattle.ms_ir.specs.Instructions.{over_insts, over_blocks, over_funcs, one_unmarked}
use Rattle.ms_ir.specs.Searches.{FoundInst, FoundBlock, FoundFunc}
use Rattle.ms_ir.proofs.Counting.{insts_split, blocks_split, funcs_split}

pub insts_drop : (xs : List Inst) (i : ℕ) (x : Inst) → i < length xs → x ≡ get_or xs i x → over_insts one_unmarked (drop i xs) ≡ one_unmarked x + over_insts one_unmarked (drop (i + 1) xs)
insts_drop xs i x l is =
    ap (over_insts one_unmarked) (drop-cons xs i x l) ∙ ap (λ y. one_unmarked y + over_insts one_unmarked (drop (suc i) xs)) (sym is)
    ∙ ap (λ n. one_unmarked x + over_insts one_unmarked (drop n xs)) (sym (add-one i))

blocks_drop : (xs : List Block) (i : ℕ) (x : Block) → i < length xs → x ≡ get_or xs i x → over_blocks one_unmarked (drop i xs) ≡ over_insts one_unmarked x.insts + over_blocks one_unmarked (drop (i + 1) xs)
blocks_drop xs i x l is =
    ap (over_blocks one_unmarked) (drop-cons xs i x l) ∙ ap (λ y. over_insts one_unmarked y.insts + over_blocks one_unmarked (drop (suc i) xs)) (sym is)
    ∙ ap (λ n. over_insts one_unmarked x.insts + over_blocks one_unmarked (drop n xs)) (sym (add-one i))

funcs_drop : (xs : List Func) (i : ℕ) (x : Func) → i < length xs → x ≡ get_or xs i x → over_funcs one_unmarked (drop i xs) ≡ over_blocks one_unmarked x.blocks + over_funcs one_unmarked (drop (i + 1) xs)
funcs_drop xs i x l is =
    ap (over_funcs one_unmarked) (drop-cons xs i x l) ∙ ap (λ y. over_blocks one_unmarked y.blocks + over_funcs one_unmarked (drop (suc i) xs)) (sym is)
    ∙ ap (λ n. over_blocks one_unmarked x.blocks + over_funcs one_unmarked (drop n xs)) (sym (add-one i))

pub inst_found : (xs : List Inst) (i left number : ℕ) (x : Inst) → i < length xs → x ≡ get_or xs i x → x.marked ≡ false
    → over_insts one_unmarked xs + left ≡ over_insts one_unmarked (drop i xs) + number → left ≡ 0 → FoundInst xs number i
inst_found xs i left number x l is unmarked rest none =
    let s = insts_split i xs in
    record { inst = x; here = slice_get_read xs (length xs) i x refl l is; unmarked = unmarked; before = omega (arith, s, rest, none) }

pub block_found : (xs : List Block) (i left number count : ℕ) (x : Block) (ys : List Inst) → i < length xs → x ≡ get_or xs i x → over_blocks one_unmarked xs + left ≡ over_blocks one_unmarked (drop i xs) + number
    → ys ≡ x.insts → count ≡ min (over_insts one_unmarked ys) (2 ^ 32 - 1) → left < count → FoundBlock xs number i left
block_found xs i left number count x ys l is rest same counted low =
    let s = blocks_split i xs in
    let e = ap (over_insts one_unmarked) same in
    record { block = x; here = slice_get_read xs (length xs) i x refl l is; before = omega (arith, s, rest); within = omega (arith, e, counted, low) }

pub func_found : (xs : List Func) (i left number count : ℕ) (x : Func) (ys : List Block) → i < length xs → x ≡ get_or xs i x → over_funcs one_unmarked xs + left ≡ over_funcs one_unmarked (drop i xs) + number
    → ys ≡ x.blocks → count ≡ min (over_blocks one_unmarked ys) (2 ^ 32 - 1) → left < count → FoundFunc xs number i left
func_found xs i left number count x ys l is rest same counted low =
    let s = funcs_split i xs in
    let e = ap (over_blocks one_unmarked) same in
    record { func = x; here = slice_get_read xs (length xs) i x refl l is; before = omega (arith, s, rest); within = omega (arith, e, counted, low) }

pub blocks_passed : (xs : List Block) (i left number count : ℕ) (x : Block) (ys : List Inst) → i < length xs → x ≡ get_or xs i x → over_blocks one_unmarked xs < 2 ^ 32
    → over_blocks one_unmarked xs + left ≡ over_blocks one_unmarked (drop i xs) + number → left ≤ number
    → ys ≡ x.insts → count ≡ min (over_insts one_unmarked ys) (2 ^ 32 - 1) → count ≤ left
    → (over_blocks one_unmarked xs + (left - count) ≡ over_blocks one_unmarked (drop (i + 1) xs) + number) × (left - count ≤ number)
blocks_passed xs i left number count x ys l is few rest below same counted high =
    let s = blocks_split i xs in
    let d = blocks_drop xs i x l is in
    let e = ap (over_insts one_unmarked) same in
    (omega (arith, s, d, e, few, rest, counted, high), omega (arith, below))

pub funcs_passed : (xs : List Func) (i left number count : ℕ) (x : Func) (ys : List Block) → i < length xs → x ≡ get_or xs i x → over_funcs one_unmarked xs < 2 ^ 32
    → over_funcs one_unmarked xs + left ≡ over_funcs one_unmarked (drop i xs) + number → left ≤ number
    → ys ≡ x.blocks → count ≡ min (over_blocks one_unmarked ys) (2 ^ 32 - 1) → count ≤ left
    → (over_funcs one_unmarked xs + (left - count) ≡ over_funcs one_unmarked (drop (i + 1) xs) + number) × (left - count ≤ number)
funcs_passed xs i left number count x ys l is few rest below same counted high =
    let s = funcs_split i xs in
    let d = funcs_drop xs i x l is in
    let e = ap (over_blocks one_unmarked) same in
    (omega (arith, s, d, e, few, rest, counted, high), omega (arith, below))
