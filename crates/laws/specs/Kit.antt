-- What most files take from the kit, under one name.

-- equality, sums and booleans
pub use Rattle.std.specs.Prelude.{◌≡◌, refl, ◌≢◌, ◌⊎◌, Bool, true, false, not, ◌&&◌, ◌||◌, cond, ℕ, zero, suc, ◌+◌, ◌-◌, ◌*◌, ◌/◌, ◌%◌, ◌^◌, min, max, ◌<◌, ◌≤◌, eqb, ltb, leb, ℤ, pos, negsuc, length, get_or, set, take, drop, replicate, Float}
pub use Rattle.std.proofs.Common.{sym, ◌∙◌, ap, ap₂, subst, inl, inr, true≢false, arith, rules, not-suc-le-zero, mul-pos, mul-le-mul, mul-le-mul_left, mul-le-mul_right, mul-lt-mul_of_pos_right, le_of_mul-le-mul_right, lit<, lit≤, eq-eqb, ne_eqb, eqb-true, lt-ltb, le-ltb, ltb-true, ltb-false, le-leb, leb-false, pow_pos, pow-add, pow_mono, length-set, length-append, get_or-set_same, get_or-set_other}
pub use Rattle.std.proofs.lemmas.Bool.{false≢true, eqb-false, lt-leb, not-true, not-false}
pub use Rattle.std.proofs.Math.Option.{Option, none, some}
-- numbers, and the tactics' rule sets
pub use Rattle.std.proofs.Math.Decide.{ℕ_discrete, dec_lt, dec_le}
unfoldable pub use Rattle.std.proofs.Math.Dec.{T}
-- lists
pub use mathlib.Core.List.{List, [], ◌∷◌, ◌++◌, map, foldl, append-nil, append_assoc}
pub use Rattle.std.proofs.lemmas.List.{length-map}
-- doubles
pub use Rattle.std.specs.Float.{binary64, nan, fin, inf}
pub use Rattle.std.specs.Float.Ieee.{down, up}
unfoldable pub use Rattle.std.specs.Float.Ieee.{of_bits, to_bits, fits, round, eq, lt, le, neg, add, sub, mul, div}
