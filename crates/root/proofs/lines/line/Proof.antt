-- `root::lines::line` meets its contract: the numbers of the table have 16 digits,
-- and their product with a part of a row fits.
-- Assumes nothing.
use Rattle.std.specs.Prelude.{◌-◌, ◌*◌, ◌^◌, ◌<◌, ◌≤◌}
use Rattle.laws.specs.Kit.{ℕ, arith, rules, mul-le-mul}
use Rattle.root.proofs.lines.line.Statement.{statement}
use Rattle.root.proofs.lines.line.Tie as tie

product : (a x : ℕ) → a < 2 ^ 16 → x < 2 ^ 20 → a * x < 2 ^ 36
product a x h k =
    let p : a ≤ 2 ^ 16 - 1 = omega arith in
    let q : x ≤ 2 ^ 20 - 1 = omega arith in
    omega (arith, mul-le-mul p q)

rise : (c : tie.After-wide-2) → c.wide-2.result * c.args.x < 2 ^ 36
rise c = product c.wide-2.result c.args.x c.wide-2.ensures c.requires.1

pub line_spec : {M : Type 1} → statement M
line_spec =
    tie.close
    (tie.spec
    (λ c. search rules) (λ c. search rules) (λ c κs. search rules) (λ c. search rules) (λ c. search rules) (λ c. search rules) (λ c κs. search rules) (λ c. omega (arith, rise c)) (λ c. omega (arith, rise c)) (λ c. search rules))
