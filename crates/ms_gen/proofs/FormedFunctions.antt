-- Generated functions are formed, keep the limits of a plain text, and have no inserted code.
use Rattle.std.proofs.Common.{◌≡◌, ◌<◌, ◌≤◌, ◌+◌, ◌-◌, ◌*◌, ◌/◌, ◌^◌, ◌∙◌, ◌++◌, ℕ, zero, suc, true, map, refl, ap, arith}
use Rattle.std.specs.Prelude.{not, ◌&&◌, nat_lt, nat_le, length}
use Rattle.std.specs.List.{list_all, range_with_len}
use Rattle.std.proofs.lemmas.Bool.{lt-ltb, and_from}
use Rattle.std.proofs.lemmas.Nat.{mod_below}
use Rattle.std.proofs.lemmas.List.Folds.{list_all-append}
use Rattle.ms_ir.specs.declared.syntax.Func.{Func}
use Rattle.ms_ir.specs.Names.{is_reserved}
use Rattle.ms_ir.specs.Instructions.{operands, over_blocks}
use Rattle.ms_ir.specs.Locals.{locals}
use Rattle.ms_ir.specs.Builders.{block}
use Rattle.ms_check_valid.specs.FormedNames.{are_numbered}
use Rattle.ms_check_valid.specs.FormedCode.{inst_formed, is_body}
use Rattle.ms_check_valid.specs.Formed.{block_formed, func_formed, count_written}
use Rattle.ms_check_valid.specs.ReadLimits.{func_names}
use Rattle.ms_gen.specs.Generator.{function_of, main_of, operation_on, operations, ending, body_of, draw, state_after}
use Rattle.ms_gen.proofs.Names.{name_is_global}

-- ---- operations

-- an operation on the result with a number
operation_formed : (value state : ℕ) → value < 1000 → inst_formed (operation_on value state) ≡ true
operation_formed value state few =
    let known : nat_lt value (2 ^ 32) ≡ true = lt-ltb value (2 ^ 32) (omega (arith, few)) in
    let next : nat_lt (value + 1) (2 ^ 32) ≡ true = lt-ltb (value + 1) (2 ^ 32) (omega (arith, few)) in
    let constant : nat_lt (draw 2 state 65536) (2 ^ 32) ≡ true = lt-ltb _ (2 ^ 32) (omega (arith, mod_below (state_after 2 state / 2 ^ 33) 65536 (omega arith))) in
    rw (known, next, constant) refl

-- those from a number on
operations_from : (state a n : ℕ) → a + n < 900 → list_all inst_formed (map (λ k. operation_on (k + 3) (state_after (2 * k) state)) (range_with_len a n)) ≡ true
operations_from state a zero few = refl
operations_from state a (suc n) few =
    and_from _ _ (operation_formed (a + 3) (state_after (2 * a) state) (omega (arith, few))) (operations_from state (a + 1) n (omega (arith, few)))

ending_formed : (number : ℕ) → number < 2 ^ 63 → list_all inst_formed (ending number) ≡ true
ending_formed zero few = refl
ending_formed (suc before) few = rw (name_is_global before (omega (arith, few))) refl

body_formed : (number state : ℕ) → number < 2 ^ 63 → list_all inst_formed (operations 8 state ++ ending number) ≡ true
unfolding operations
body_formed number state few = list_all-append inst_formed (operations 8 state) (ending number) ∙ and_from _ _ (operations_from state 0 8 (omega arith)) (ending_formed number few)

-- ---- functions

-- a function is formed, and small
pub record IsSmallFunc (f : Func) : Type 0 where
  pub formed : func_formed f ≡ true
  pub written : over_blocks count_written f.blocks ≤ 40
  pub instructions : over_blocks (λ inst. 1) f.blocks ≤ 40
  pub operands : over_blocks (λ inst. length (operands inst.op)) f.blocks ≤ 40
  pub parameters : nat_le (length f.params) 100 ≡ true
  pub free : list_all (λ x. not (is_reserved x)) (func_names f) ≡ true

function_formed : (number state : ℕ) → number < 2 ^ 63 → are_numbered (locals (function_of number state)) ≡ true → is_body (body_of number state) ≡ true → func_formed (function_of number state) ≡ true
function_formed number state few numbered ends =
    let block : block_formed (block 1 (body_of number state)) ≡ true = and_from _ _ ends (body_formed number state few) in
    and_from _ _ (and_from _ _ (ap (λ t. t && true && true && true) (name_is_global number (omega (arith, few)))) (ap (λ t. t && true) block)) numbered

pub first_small : (state : ℕ) → IsSmallFunc (function_of 0 state)
unfolding operations
first_small state = record {
  formed = function_formed 0 state (omega arith) refl refl;
  written = omega arith;
  instructions = omega arith;
  operands = omega arith;
  parameters = refl;
  free = refl;
}

pub later_small : (before state : ℕ) → before + 1 < 2 ^ 63 → IsSmallFunc (function_of (suc before) state)
unfolding operations
later_small before state few = record {
  formed = function_formed (suc before) state (omega (arith, few)) refl refl;
  written = omega arith;
  instructions = omega arith;
  operands = omega arith;
  parameters = refl;
  free = refl;
}

pub main_small : (count : ℕ) → count < 2 ^ 63 → IsSmallFunc (main_of count)
main_small count few = record {
  formed = rw (name_is_global (count - 1) (omega (arith, few))) refl;
  written = omega arith;
  instructions = omega arith;
  operands = omega arith;
  parameters = refl;
  free = refl;
}
