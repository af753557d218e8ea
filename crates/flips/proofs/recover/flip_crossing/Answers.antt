-- The first crossing edge, whether its entry fits, its flip, and the entry.
use mathlib.Core.Path.{refl, subst}
use mathlib.Core.Bool.{true, false}
use native.Mathlib.Omega.{arith}
use Rattle.definition.specs.Cells.{Mesh, key}
use Rattle.definition.specs.Flips.{flip}
use Rattle.laws.specs.Frames.{keeps_trans}
use Rattle.cells.specs.Layout.{mesh_end}
use Rattle.crossings.specs.Crossings.{IsFirst}
use Rattle.flips.specs.declared.recover.Flipping.{Flipping}
use Rattle.flips.proofs.Recovers.{is_up, flip_yes, once_none, once_not, once_short, once_enters, once_made}
use Rattle.flips.proofs.recover.flip_crossing.Goals as goal

pub returns-in_default : goal.returns-in_default
returns-in_default c =
    let a = c.args in
    record {
      is = λ base m k o l b.
          let z = c.first_crossing-e.ensures.is m k in
          once_none c.first_crossing-e.new.w a.q.now base a.t.now a.lay.slots a.lay.points a.n a.bucket a.at a.u a.v m z.0 l _
          (subst (λ x. IsFirst m a.n a.u a.v x) c.in_default.is (z.1 b)) refl refl refl;
      few = c.requires.from_le_n;
      keeps = c.first_crossing-e.ensures.keeps;
    }

pub below_flip-low-requires : goal.below_flip-low-requires
below_flip-low-requires c =
    let a = c.args in
    let t = c.requires.by_index in
    let m = t.1 in
    let z = c.first_crossing-e.ensures.is m t.2 in
    let g = subst (λ x. IsFirst m a.n a.u a.v x) c.in-Some.is (z.1 t.5) in
    record {
      rep = (m, z.0.rep);
      up = is_up c.first_crossing-e.new.w a.q.now a.lay.slots a.lay.points a.n a.bucket m z.0 a.u a.v c.in-Some.x.0 c.in-Some.x.1 g;
    }

pub flip-f-requires : goal.flip-f-requires
flip-f-requires c =
    let a = c.args in
    let t = c.requires.by_index in
    let m = t.1 in
    let z = c.first_crossing-e.ensures.is m t.2 in
    let g = subst (λ x. IsFirst m a.n a.u a.v x) c.in-Some.is (z.1 t.5) in
    record {
      rep = (m, z.0.rep, z.0.pts, t.3);
      up = is_up c.first_crossing-e.new.w a.q.now a.lay.slots a.lay.points a.n a.bucket m z.0 a.u a.v c.in-Some.x.0 c.in-Some.x.1 g;
    }

pub note_flip-next-requires : goal.note_flip-next-requires
note_flip-next-requires c =
    let a = c.args in
    let t = c.requires.by_index in
    let base = t.0 in
    let m = t.1 in
    let k = t.2 in
    let z = c.first_crossing-e.ensures.is m k in
    let g = subst (λ x. IsFirst m a.n a.u a.v x) c.in-Some.is (z.1 t.5) in
    let x = c.flip-f.ensures.is m z.0.rep z.0.pts t.3 in
    let y = c.in-Flipped.is in
    record {
      by_index = (
        base,
        m,
        (flip_yes c.flip-f.new.w a.lay.slots a.lay.points m (flip m (key c.in-Some.x.0 c.in-Some.x.1)) c.fits-room.result c.flip-f.result x y).mesh,
        t.4,
        once_enters c.first_crossing-e.new.w a.q.now base a.t.now a.lay.slots a.lay.points a.n a.bucket a.at a.u a.v m z.0 t.4 (record { made = true; short = false; at = 0; from = 0 }) c.in-Some.x.0 c.in-Some.x.1 g
            c.fits-room.result (λ m m' v h n l. c.fits-room.ensures base m m' v h n l) c.flip-f.new.w c.flip-f.result x y,
      );
      u_bound = (omega (arith, g.up, g.known, k.count, k.rep.points, k.rep.room.small), omega (arith, g.known, k.count, k.rep.points, k.rep.room.small));
    }

pub returns-in-Not : goal.returns-in-Not
returns-in-Not c =
    let a = c.args in
    record {
      is = λ base m k o l b.
          let z = c.first_crossing-e.ensures.is m k in
          once_not c.first_crossing-e.new.w a.q.now base a.t.now a.lay.slots a.lay.points a.n a.bucket a.at a.u a.v m z.0 l _ c.in-Some.x.0 c.in-Some.x.1
          (subst (λ x. IsFirst m a.n a.u a.v x) c.in-Some.is (z.1 b)) c.fits-room.result (λ m m' v h n l. c.fits-room.ensures base m m' v h n l) c.flip-f.new.w c.flip-f.result
          (c.flip-f.ensures.is m z.0.rep z.0.pts o) c.in-Not.is refl refl refl;
      few = c.requires.from_le_n;
      keeps = keeps_trans a.w.now c.first_crossing-e.new.w c.flip-f.new.w (mesh_end a.lay.slots a.lay.points) c.first_crossing-e.ensures.keeps c.flip-f.ensures.keeps;
    }

pub returns-in-Short : goal.returns-in-Short
returns-in-Short c =
    let a = c.args in
    record {
      is = λ base m k o l b.
          let z = c.first_crossing-e.ensures.is m k in
          once_short c.first_crossing-e.new.w a.q.now base a.t.now a.lay.slots a.lay.points a.n a.bucket a.at a.u a.v m z.0 l _ c.in-Some.x.0 c.in-Some.x.1
          (subst (λ x. IsFirst m a.n a.u a.v x) c.in-Some.is (z.1 b)) c.fits-room.result (λ m m' v h n l. c.fits-room.ensures base m m' v h n l) c.flip-f.new.w c.flip-f.result
          (c.flip-f.ensures.is m z.0.rep z.0.pts o) c.in-Short.is refl refl refl;
      few = c.requires.from_le_n;
      keeps = keeps_trans a.w.now c.first_crossing-e.new.w c.flip-f.new.w (mesh_end a.lay.slots a.lay.points) c.first_crossing-e.ensures.keeps c.flip-f.ensures.keeps;
    }

pub returns-in-Flipped : goal.returns-in-Flipped
returns-in-Flipped c =
    let a = c.args in
    let y = c.in-Flipped.is in
    record {
      is = λ base m k o l b.
          let z = c.first_crossing-e.ensures.is m k in
          let g = subst (λ x. IsFirst m a.n a.u a.v x) c.in-Some.is (z.1 b) in
          let x = c.flip-f.ensures.is m z.0.rep z.0.pts o in
          let r : Flipping = record { made = true; short = false; at = c.note_flip-next.result; from = c.below_flip-low.result } in
          let m' = (flip_yes c.flip-f.new.w a.lay.slots a.lay.points m (flip m (key c.in-Some.x.0 c.in-Some.x.1)) c.fits-room.result c.flip-f.result x y).mesh in
          let enters = once_enters c.first_crossing-e.new.w a.q.now base a.t.now a.lay.slots a.lay.points a.n a.bucket a.at a.u a.v m z.0 l r c.in-Some.x.0 c.in-Some.x.1 g c.fits-room.result
          (λ m m' v h n l. c.fits-room.ensures base m m' v h n l) c.flip-f.new.w c.flip-f.result x y in
          once_made c.first_crossing-e.new.w a.q.now base a.t.now a.lay.slots a.lay.points a.n a.bucket a.at a.u a.v m z.0 l r c.in-Some.x.0 c.in-Some.x.1 g c.fits-room.result
          (λ m m' v h n l. c.fits-room.ensures base m m' v h n l) c.flip-f.new.w c.flip-f.result x y c.note_flip-next.new.t (c.note_flip-next.ensures base m m' l enters) refl (c.below_flip-low.ensures.is m z.0.rep);
      few =
          let t = c.requires.by_index in
          let g = subst (λ x. IsFirst t.1 a.n a.u a.v x) c.in-Some.is ((c.first_crossing-e.ensures.is t.1 t.2).1 t.5) in
          omega (arith, c.below_flip-low.ensures.few, g.up, g.known);
      keeps = keeps_trans a.w.now c.first_crossing-e.new.w c.flip-f.new.w (mesh_end a.lay.slots a.lay.points) c.first_crossing-e.ensures.keeps c.flip-f.ensures.keeps;
    }
