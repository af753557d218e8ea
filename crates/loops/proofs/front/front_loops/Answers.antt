-- The loop's invariant: the loops that stand, and behind them those of the edges left, are the front's;
-- the definition's fuel suffices for these. An edge that is in a loop is passed.
use Rattle.std.specs.Prelude.{◌≡◌, ◌≢◌, ◌+◌}
use Rattle.laws.specs.Kit.{refl, sym, ◌∙◌, ap, ℕ, true, false, List, eqb, eq-eqb, ne_eqb, get_or}
use Rattle.edges.specs.Parts.{edge_of}
use Rattle.cells.specs.Layout.{front_used_at}
use Rattle.loops.specs.Trace.{fresh, walk_of}
use Rattle.loops.proofs.Looping.{looping_start, looping_end, looping_past, looping_trace, looping_keep, looping_on, listed_sift, looping_to}
use Rattle.loops.proofs.front.front_loops.Goals as goal
use Rattle.loops.proofs.front.front_loops.Goals.{then-w-used-eq0, else-w-used-eq0}

-- the flag that was read
read_free : (w : List ℕ) (s p i u : ℕ) → u ≡ front_used_at s p → get_or w (u + i) 0 ≡ 0 → fresh w s p i ≡ true
read_free w s p i u e h = ap (λ (y : ℕ). eqb (get_or w (y + i) 0) 0) (sym e) ∙ eq-eqb (get_or w (u + i) 0) 0 h

read_used : (w : List ℕ) (s p i u : ℕ) → u ≡ front_used_at s p → get_or w (u + i) 0 ≢ 0 → fresh w s p i ≡ false
read_used w s p i u e h = ap (λ (y : ℕ). eqb (get_or w (y + i) 0) 0) (sym e) ∙ ne_eqb (get_or w (u + i) 0) 0 h

pub list_edges-requires : goal.list_edges-requires
list_edges-requires c = let t = c.requires in (t.1, t.3.front)

pub loop-i-init : goal.loop-i-init
loop-i-init c = (c.front_used_at-used.ensures, refl, refl, λ m es bl k cl. looping_start m.points bl cl)

pub trace-e-requires : goal.trace-e-requires
trace-e-requires c =
    let a = c.args in
    let l = c.loop-i in
    let t = c.requires in
    let z = c.list_edges.ensures t.1 t.3.front in
    let k = listed_sift z t.3 in
    let g = l.invariant.3 t.0 t.1 t.2 k z.clear in
    let h = looping_trace g c.loop-i-test.true (read_free l.w a.lay.slots a.lay.points l.i c.front_used_at-used.result l.invariant.0 c.if-w-used-eq0.true) in
    (a.n, t.1, h)

pub keep-x-requires : goal.keep-x-requires
keep-x-requires c =
    let a = c.args in
    let l = c.loop-i in
    let t = c.requires in
    let z = c.list_edges.ensures t.1 t.3.front in
    let k = listed_sift z t.3 in
    let g = l.invariant.3 t.0 t.1 t.2 k z.clear in
    let h = looping_trace g c.loop-i-test.true (read_free l.w a.lay.slots a.lay.points l.i c.front_used_at-used.result l.invariant.0 c.if-w-used-eq0.true) in
    let v = read_free l.w a.lay.slots a.lay.points l.i c.front_used_at-used.result l.invariant.0 c.if-w-used-eq0.true in
    (t.0, t.2, (walk_of (edge_of t.1 l.i) h.rest).path, g.ls, looping_keep g c.loop-i-test.true v (c.trace-e.ensures a.n t.1 h) refl k)

pub loop-i-preserved : goal.loop-i-preserved
loop-i-preserved c =
    let a = c.args in
    let l = c.loop-i in
    let u = c.front_used_at-used.result in
    let i = c.loop-i-test.true in (
      l.invariant.0,
      c.if-w-used-eq0.auto.w ∙ l.invariant.1,
      c.if-w-used-eq0.auto.f ∙ l.invariant.2,
      λ m es bl k cl.
          let g = l.invariant.3 m es bl k cl in
          elim c.if-w-used-eq0.branch [
            | then-w-used-eq0 b ↦
                let v = read_free l.w a.lay.slots a.lay.points l.i u l.invariant.0 b.if-w-used-eq0.true in
                let h = looping_trace g i v in
                let t = b.trace-e.ensures a.n es h in
                rw (b.w-is, b.f-is, b.x-is) (looping_on g i v t b.keep-x.auto.f (b.keep-x.ensures m bl (walk_of (edge_of es l.i) h.rest).path g.ls (looping_keep g i v t refl k)))
            | else-w-used-eq0 b ↦ rw (b.w-is, b.f-is, b.x-is) (looping_past g i (read_used l.w a.lay.slots a.lay.points l.i u l.invariant.0 b.if-w-used-eq0.false))
          ],
    )

pub returns : goal.returns
returns c = λ m es bl q.
    let z = c.list_edges.ensures es q.front in
    looping_to z (looping_end (c.loop-i.invariant.3 m es bl (listed_sift z q) z.clear) c.loop-i-test.false)
