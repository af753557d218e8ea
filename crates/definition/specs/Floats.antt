-- The f64 operations that run_front uses, each one of lib.Ieee's at binary64, and its constants by their bits.
use Rattle.std.specs.Prelude.{Bool, true, false, cond, ℕ, ◌*◌, ◌%◌, eqb, Float}
use Rattle.std.specs.Float.{nan, inf, fin, binary64}
use Rattle.std.specs.Float.Ieee.{up, down, add, sub, mul, div, lt, le, of_bits}

infixl 65 ◌⊕◌
infixl 65 ◌⊖◌
infixl 70 ◌⊗◌
infixl 70 ◌⊘◌
infix 50 ◌≺◌
infix 50 ◌≼◌
-- the sum, rounded
unfoldable pub ◌⊕◌ : Float → Float → Float
x ⊕ y = add binary64 x y

-- the difference, rounded
unfoldable pub ◌⊖◌ : Float → Float → Float
x ⊖ y = sub binary64 x y

-- the product, rounded
unfoldable pub ◌⊗◌ : Float → Float → Float
x ⊗ y = mul binary64 x y

-- the quotient, rounded
unfoldable pub ◌⊘◌ : Float → Float → Float
x ⊘ y = div binary64 x y

-- Rust's <, false where one is a NaN. Rust's a > b is written b ≺ a.
unfoldable pub ◌≺◌ : Float → Float → Bool
x ≺ y = lt x y

-- Rust's <=, false where one is a NaN
unfoldable pub ◌≼◌ : Float → Float → Bool
x ≼ y = le x y

-- the number without its sign
unfoldable pub abs : Float → Float
abs nan = nan
abs (inf s) = inf false
abs (fin s m e) = fin false m e

-- the number is neither infinite nor a NaN
unfoldable pub finite : Float → Bool
finite nan = false
finite (inf s) = false
finite (fin s m e) = true

-- the number is a multiple of 1 / 1024: so many times the number, m * up e / down e without its sign, is whole
unfoldable pub on_grid : Float → Bool
on_grid nan = false
on_grid (inf s) = false
on_grid (fin s m e) = eqb (m * up e * 1024 % down e) 0

-- the smaller of two numbers; the first where they are equal or the second is a NaN
unfoldable pub lesser : Float → Float → Float
lesser x y = cond (y ≺ x) y x

-- the greater of two numbers; the first where they are equal or the second is a NaN
unfoldable pub greater : Float → Float → Float
greater x y = cond (x ≺ y) y x

-- the double of these bits
unfoldable pub f64 : ℕ → Float
f64 bits = of_bits binary64 bits

-- ---- the constants: the double nearest to the decimal that is the name

unfoldable pub 0·0 : Float
0·0 = f64 0x0000000000000000

unfoldable pub 1e-12 : Float
1e-12 = f64 0x3d719799812dea11

unfoldable pub 1e-9 : Float
1e-9 = f64 0x3e112e0be826d695

unfoldable pub 1/64 : Float
1/64 = f64 0x3f90000000000000

unfoldable pub 0·1 : Float
0·1 = f64 0x3fb999999999999a

unfoldable pub 0·2 : Float
0·2 = f64 0x3fc999999999999a

unfoldable pub 0·25 : Float
0·25 = f64 0x3fd0000000000000

unfoldable pub 0·3 : Float
0·3 = f64 0x3fd3333333333333

unfoldable pub 0·4 : Float
0·4 = f64 0x3fd999999999999a

unfoldable pub 0·5 : Float
0·5 = f64 0x3fe0000000000000

unfoldable pub 0·6 : Float
0·6 = f64 0x3fe3333333333333

unfoldable pub 0·7 : Float
0·7 = f64 0x3fe6666666666666

unfoldable pub 0·8 : Float
0·8 = f64 0x3fe999999999999a

unfoldable pub 0·866 : Float
0·866 = f64 0x3febb645a1cac083

unfoldable pub 0·9 : Float
0·9 = f64 0x3feccccccccccccd

unfoldable pub 0·90630778703665 : Float
0·90630778703665 = f64 0x3fed0079302dd768

unfoldable pub 0·99 : Float
0·99 = f64 0x3fefae147ae147ae

unfoldable pub 1·0 : Float
1·0 = f64 0x3ff0000000000000

unfoldable pub 1·5 : Float
1·5 = f64 0x3ff8000000000000

unfoldable pub 2·0 : Float
2·0 = f64 0x4000000000000000

unfoldable pub 2·2 : Float
2·2 = f64 0x400199999999999a

unfoldable pub 2·5 : Float
2·5 = f64 0x4004000000000000

unfoldable pub 3·0 : Float
3·0 = f64 0x4008000000000000

unfoldable pub 4·0 : Float
4·0 = f64 0x4010000000000000

unfoldable pub 8·0 : Float
8·0 = f64 0x4020000000000000
