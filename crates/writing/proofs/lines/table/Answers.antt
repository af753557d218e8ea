-- `lines::table`.
use Rattle.std.specs.Prelude.{◌≡◌, ◌+◌, ◌-◌, ◌*◌, ◌<◌, ◌≤◌}
use lib.ListN.{length-drop}
use lib.Seq.{length-take-le}
use Rattle.laws.specs.Kit.{length, map, take, drop, refl, ◌∙◌, ℕ, arith, mul-le-mul_left}
use Rattle.writing.proofs.Puts.{and_next, no_text, same_text}
use Rattle.writing.proofs.Rows.{shown_line, no_lines}
use Rattle.writing.proofs.lines.table.Goals as goal

-- the next row is within the rows
fits_next : (w i n : ℕ) → i < n → w * (i + 1) ≤ w * n
fits_next w i n h = mul-le-mul_left w (omega arith)

pub loop-i-init : goal.loop-i-init
loop-i-init g c = (omega arith, omega arith, refl, same_text (no_text _ _) (no_lines g.T.Shown.text c.args.w (map g.T.Shown.number_of c.args.xs.now)))

pub loop-i-preserved : goal.loop-i-preserved
loop-i-preserved g c =
    let a = c.args in
    let l = c.loop-i in
    let f = c.line-p in
    let most = g.T.Shown.most in
    let next = fits_next a.w l.i a.n c.loop-i-test.true in
    let e : a.w * l.i + a.w - a.w * l.i ≡ a.w = omega arith in
    let long : length (take a.w (drop (a.w * l.i) a.xs.now)) ≡ a.w = length-take-le a.w _ (omega (arith, length-drop (a.w * l.i) a.xs.now, next)) in
    let short = rw (e, long) at f.ensures.short in
    let more : most * (a.w * (l.i + 1)) ≡ most * (a.w * l.i) + most * a.w = omega arith in
    let room : most * (a.w * (l.i + 1)) ≤ most * (a.w * a.n) = mul-le-mul_left most next in (
      omega arith,
      omega (arith, short, l.invariant.1, more),
      f.auto.out ∙ l.invariant.2,
      same_text (and_next l.invariant.3 (omega (arith, room, more, l.invariant.1, c.requires)) f.ensures.written)
          (rw e (shown_line g.T.Shown.text g.T.Shown.number_of a.w l.i a.xs.now)),
    )
