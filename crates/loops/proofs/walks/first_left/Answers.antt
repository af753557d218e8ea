-- The loop's invariant: the first edge in no loop at the node is the first such from c on.
-- The measure is how many edges stand from c on.
use Rattle.std.specs.Prelude.{◌+◌}
use Rattle.laws.specs.Kit.{sym, ◌∙◌, ap, ℕ, arith, eqb, eq-eqb, ne_eqb, get_or}
use Rattle.loops.proofs.Unused.{seeking_start, seeking_end, seeking_found, seeking_past, seeking_on, seeking_at, behind}
use Rattle.loops.proofs.walks.first_left.Goals as goal

pub loop-c-init : goal.loop-c-init
loop-c-init c =
    let a = c.args in
    (c.front_used_at-used.ensures, λ n es r k. seeking_start (c.wide-c.ensures ∙ ap (λ (x : ℕ). get_or a.w.now (x + a.v) 0) c.heads_at.ensures ∙ r.lists.heads a.v k))

pub returns-then-w-used-eq0 : goal.returns-then-w-used-eq0
returns-then-w-used-eq0 c =
    let x = c.loop-c in
    let w = c.args.w.now in
    λ n es r k. seeking_found (x.invariant.1 n es r k) c.loop-c-test.true (ap (λ (y : ℕ). eqb (get_or w (y + x.c) 0) 0) (sym x.invariant.0) ∙ eq-eqb _ 0 c.if-w-used-eq0.true)

pub next_at-c-requires : goal.next_at-c-requires
next_at-c-requires c =
    let x = c.loop-c in
    let h = c.loop-c-test.true in
    let y = c.requires in
    (y.0, c.args.k, (behind c.args.k x.c h).l, y.1, seeking_at (x.invariant.1 y.0 y.1 y.2 y.3) h y.2)

pub loop-c-smaller : goal.loop-c-smaller
loop-c-smaller c =
    let x = c.loop-c in
    let h = c.loop-c-test.true in
    let y = c.requires in
    let g = x.invariant.1 y.0 y.1 y.2 y.3 in
    omega (arith, h, seeking_past g h (c.next_at-c.ensures y.0 c.args.k (behind c.args.k x.c h).l y.1 (seeking_at g h y.2)))

pub loop-c-preserved : goal.loop-c-preserved
loop-c-preserved c =
    let x = c.loop-c in
    let a = c.args in
    let h = c.loop-c-test.true in (
      x.invariant.0,
      λ n es r k.
          let g = x.invariant.1 n es r k in
          seeking_on g h (c.next_at-c.ensures n a.k (behind a.k x.c h).l es (seeking_at g h r)) (ap (λ (y : ℕ). eqb (get_or a.w.now (y + x.c) 0) 0) (sym x.invariant.0) ∙ ne_eqb _ 0 c.if-w-used-eq0.false),
    )

pub returns : goal.returns
returns c = λ n es r k. seeking_end (c.loop-c.invariant.1 n es r k) c.loop-c-test.false
