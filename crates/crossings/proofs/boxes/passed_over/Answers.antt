-- The box of a is known before it is looked at.
use Rattle.laws.specs.Kit.{false≢true, arith, rules}
use Rattle.laws.specs.Frames.{keeps_refl}
use Rattle.cells.specs.Layout.{mesh_end}
use Rattle.crossings.proofs.Noted.{can_note, can_look, away}
use Rattle.crossings.proofs.boxes.passed_over.Goals as goal

pub returns-then-a-lay : goal.returns-then-a-lay
returns-then-a-lay c =
    let a = c.args in
    record { keeps = keeps_refl a.w.now (mesh_end a.lay.slots a.lay.points); is = λ k m h. (h, λ e. absurd (false≢true e)) }

pub far_off-requires : goal.far_off-requires
far_off-requires c =
    let a = c.args in
    let y = c.requires.known in
    can_look a.w.now a.q.now a.lay.slots a.lay.points a.n y.0 y.1 y.2 a.a c.requires.a_lt_n (omega (arith, c.note_of.ensures, c.if-note_of-ge4.true)) c.if-a-lay.false

pub returns-then-note_of-ge4 : goal.returns-then-note_of-ge4
returns-then-note_of-ge4 c =
    let a = c.args in record {
      keeps = keeps_refl a.w.now (mesh_end a.lay.slots a.lay.points);
      is = λ k m h. (
        h,
        λ e. away a.w.now a.q.now a.lay.slots a.lay.points a.n k m h a.a c.requires.a_lt_n (omega (arith, c.note_of.ensures, c.if-note_of-ge4.true)) a.l (c.far_off.ensures e),
      );
    }

pub make_box-requires : goal.make_box-requires
make_box-requires c =
    let a = c.args in
    let y = c.requires.known in
    record { known = y; a_lt_n = c.requires.a_lt_n; can_note = can_note a.w.now a.q.now a.lay.slots a.lay.points a.n y.0 y.1 y.2 a.a c.requires.a_lt_n c.if-a-lay.false (omega (arith, c.note_of.ensures, c.if-note_of-ge4.false)) }

pub far_off-requires-then-make_box : goal.far_off-requires-then-make_box
far_off-requires-then-make_box c =
    let a = c.args in
    let y = c.requires.known in
    can_look c.make_box.new.w a.q.now a.lay.slots a.lay.points a.n y.0 y.1 (c.make_box.ensures.is y.0 y.1 y.2) a.a c.requires.a_lt_n (c.make_box.ensures.noted c.if-make_box.true) c.if-a-lay.false

pub returns-then-make_box : goal.returns-then-make_box
returns-then-make_box c =
    let a = c.args in record {
      keeps = c.make_box.ensures.keeps;
      is = λ k m h.
          let h' = c.make_box.ensures.is k m h in (
            h',
            λ e. away c.make_box.new.w a.q.now a.lay.slots a.lay.points a.n k m h' a.a c.requires.a_lt_n (c.make_box.ensures.noted c.if-make_box.true) a.l (c.far_off-then-make_box.ensures e),
          );
    }

pub returns : goal.returns
returns c = let b = c in record { keeps = b.make_box.ensures.keeps; is = λ k m h. (b.make_box.ensures.is k m h, λ e. absurd (false≢true e)) }
