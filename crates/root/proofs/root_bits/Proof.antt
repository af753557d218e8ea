-- `root::root_bits` meets its contract: the number under the root, the exact result and the rounding,
-- put together by `proofs/Rounds.antt`.
-- Assumes nothing.
use Rattle.laws.specs.Kit.{arith, rules}
use Rattle.root.proofs.Rounds.{RootBits, root_bits}
use Rattle.root.proofs.root_bits.Statement.{statement}
use Rattle.root.proofs.root_bits.Tie as tie

at_end : (c : tie.After-rounded) → RootBits c.args.b c.scaled-s.result.half c.rounded.result
at_end c =
    let start = c in
    let parts = c.scaled-s in
    let twice = c.doubled in
    let whole = c.whole_root-w in
    root_bits start.args.b parts.result.last parts.result.half twice.result whole.result.root whole.result.rest c.rounded.result
    start.requires.0 start.requires.1 parts.ensures twice.ensures whole.ensures c.rounded.ensures

pub root_bits_spec : {M : Type 1} → statement M
root_bits_spec =
    tie.close
    (tie.spec
    (λ c κs. search rules) (λ c κs. search rules) (λ c κs. search rules) (λ c. search rules) (λ c κs. search rules) (λ c. omega (arith, (at_end c).below)) (λ c. ((at_end c).below, (at_end c).is)))
