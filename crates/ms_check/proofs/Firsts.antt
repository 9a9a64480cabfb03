-- Where no fault is the first, there is none; and the clauses make a valid module.
use Rattle.std.proofs.Common.{◌≡◌, List, [], ◌∷◌, refl, arith}
use Rattle.std.specs.Prelude.{None, slice_get}
use Rattle.ms_ir.specs.declared.syntax.Module.{Module}
use Rattle.ms_check_valid.specs.Refusals.{UpToMarks}
use Rattle.ms_check_valid.specs.SizesFit.{unsized}
use Rattle.ms_check_valid.specs.Valid.{Valid}

-- a list without a first item is empty
pub none_first : {A : Type 0} (xs : List A) → slice_get xs 0 ≡ None → xs ≡ []
none_first [] e = refl
none_first (x ∷ rest) e = grind arith

-- all clauses but the last, and the last
pub all_clauses : (m : Module) → UpToMarks m → unsized m ≡ [] → Valid m
all_clauses m h last = record {
  names_once = h.0.0.0.0.0.0.0;
  names_known = h.0.0.0.0.0.0.1;
  types_agree = h.0.0.0.0.0.1;
  phis_fit = h.0.0.0.0.1;
  has_main = h.0.0.0.1;
  externals_fit = h.0.0.1;
  uses_defined = h.0.1;
  marks_fit = h.1;
  sizes_fit = last;
}
