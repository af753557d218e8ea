-- `values::bits`. Invariant: v is the number of the digits before the index.
use Rattle.std.specs.Prelude.{◌≡◌, ◌<◌}
use Rattle.laws.specs.Kit.{sym, ◌∙◌, ap, arith, ℕ, List, take, get_or}
use lib.Seq.{get_or-take}
use Rattle.definition.specs.Text.{is_hex, hex_digit}
use Rattle.reading.specs.Found.{taken}
use Rattle.reading.proofs.Chains.{refused}
use Rattle.reading.proofs.Hexes.{below, hex_short, hex_start, hexes_other, hexes_more, hexes_done, bits_more, bits_fit}
use Rattle.reading.proofs.values.bits.Goals as goal

-- a byte of the first sixteen
same_byte : (front s : List ℕ) (i : ℕ) → front ≡ take 16 s → i < 16 → get_or front i 0 ≡ get_or s i 0
same_byte front s i e h = ap (λ l. get_or l i 0) e ∙ get_or-take 16 s i 0 h

pub returns-in_err-front : goal.returns-in_err-front
returns-in_err-front c = refused _ _ c.from_residual.ensures (hex_short c.args.s.now c.in_err-front.ensures.cases)

pub loop-c-init : goal.loop-c-init
loop-c-init c = (omega arith, hex_start c.args.s.now)

pub returns-in_err-d : goal.returns-in_err-d
returns-in_err-d c =
    let s = c.args.s.now in
    let l = c.loop-c in
    let f = c.in_ok-front.ensures.cases in
    let at = same_byte c.in_ok-front.front.now s l.c-index f.1 (omega (arith, f.3, c.loop-c-test.true)) in
    refused _ _ c.from_residual-in_err-d.ensures
    (hexes_other s l.v l.c-index (omega (arith, f.3, c.loop-c-test.true)) (omega (arith, f.0, f.3, c.loop-c-test.true)) (ap is_hex (sym at) ∙ c.in_err-d.ensures) ∙ sym l.invariant.1)

pub overflow_mul-v : goal.overflow_mul-v
overflow_mul-v c =
    let d = c.in_ok-d in
    let l = c.loop-c in
    omega (arith, bits_fit l.v d.d l.c-index (omega (arith, c.in_ok-front.ensures.cases.3, c.loop-c-test.true)) (omega (arith, below _ d.ensures.0, d.ensures.1)) l.invariant.0)

pub overflow_add-v : goal.overflow_add-v
overflow_add-v c =
    let d = c.in_ok-d in
    let l = c.loop-c in
    omega (arith, bits_fit l.v d.d l.c-index (omega (arith, c.in_ok-front.ensures.cases.3, c.loop-c-test.true)) (omega (arith, below _ d.ensures.0, d.ensures.1)) l.invariant.0)

pub loop-c-preserved : goal.loop-c-preserved
loop-c-preserved c =
    let s = c.args.s.now in
    let l = c.loop-c in
    let d = c.in_ok-d in
    let f = c.in_ok-front.ensures.cases in
    let at = same_byte c.in_ok-front.front.now s l.c-index f.1 (omega (arith, f.3, c.loop-c-test.true)) in (
      bits_more l.v d.d l.c-index (omega (arith, below _ d.ensures.0, d.ensures.1)) l.invariant.0,
      l.invariant.1 ∙ hexes_more s l.v l.c-index (omega (arith, f.3, c.loop-c-test.true)) (omega (arith, f.0, f.3, c.loop-c-test.true)) d.d (ap is_hex (sym at) ∙ d.ensures.0, d.ensures.1 ∙ ap hex_digit at),
    )

pub returns : goal.returns
returns c =
    let l = c.loop-c in
    let f = c.in_ok-front.ensures.cases in
    ap (taken l.v) f.2 ∙ hexes_done c.args.s.now l.v l.c-index (omega (arith, f.3, c.loop-c-test.false)) ∙ sym l.invariant.1
