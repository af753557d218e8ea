-- `root::exact::scaled` meets its contract, by `proofs/Radicands.antt`. Assumes nothing.
use Rattle.std.specs.Prelude.{◌+◌, ◌-◌, ◌*◌, ◌/◌, ◌%◌, ◌^◌}
use Rattle.laws.specs.Kit.{sym, subst, ℕ, rules}
use Rattle.root.specs.Exact.{Radicand}
use Rattle.root.proofs.Radicands.{normal, subnormal}
use Rattle.root.proofs.exact.scaled.Goals as goal

pub returns : goal.returns
returns c =
    let start = c.args.b in
    let z = c.spare-z.result in
    subst (λ (n : ℕ). Radicand start (n % 2 ^ 52 + (52 - z) % 2 * 2 ^ 52) ((52 - z) / 2 + 485)) (sym c.shifted.ensures)
    (subnormal start z c.if-b-ge-LEAD.false c.spare-z.ensures)

pub returns-then-b-ge-LEAD : goal.returns-then-b-ge-LEAD
returns-then-b-ge-LEAD c = normal c.args.b c.if-b-ge-LEAD.true
