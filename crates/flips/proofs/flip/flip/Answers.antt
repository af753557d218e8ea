use mathlib.Core.Path.{◌∙◌, subst}
use Rattle.definition.specs.Cells.{key}
use Rattle.definition.specs.Flips.{flipped}
use Rattle.account.proofs.Flips.{locked_flip}
use Rattle.laws.specs.Frames.{keeps_refl}
use Rattle.cells.specs.Layout.{mesh_end}
use Rattle.flips.specs.Nodes.{tri_read}
use Rattle.flips.specs.Twins.{IsTwins}
use Rattle.flips.proofs.Flips.{lock_is, flip_none, flip_short, flip_some}
use Rattle.flips.proofs.Found.{see1, see2, four_within, four_nodes, none_flat, is_flip}
use Rattle.flips.proofs.flip.flip.Goals as goal

pub locked-requires : goal.locked-requires
locked-requires c = let t = c.requires.rep in (t.0.locked, t.3)

pub returns-then-locked : goal.returns-then-locked
returns-then-locked c =
    let a = c.args in
    record {
      is = λ m r q l.
          flip_none a.w.now a.lay.slots a.lay.points m a.u a.v a.room
          (locked_flip m (key a.u a.v) (lock_is m a.u a.v c.locked.result c.requires.up.up (c.locked.ensures m.locked l) ∙ c.if-locked.true)) r;
      keeps = keeps_refl a.w.now (mesh_end a.lay.slots a.lay.points);
    }

pub returns-in_default : goal.returns-in_default
returns-in_default c =
    let a = c.args in
    record {
      is = λ m r q l. flip_none a.w.now a.lay.slots a.lay.points m a.u a.v a.room (subst (λ x. IsTwins m a.u a.v x) c.in_default.is (c.two_tris-t.ensures m r)) r;
      keeps = keeps_refl a.w.now (mesh_end a.lay.slots a.lay.points);
    }

pub third-x-requires : goal.third-x-requires
third-x-requires c =
    let a = c.args in
    let t = c.requires.rep in
    see1 a.w.now a.lay.slots a.lay.points a.u a.v t.0 t.1 c.requires.up c.in-Some.two.0 c.in-Some.two.1 (subst (λ x. IsTwins t.0 a.u a.v x) c.in-Some.is (c.two_tris-t.ensures t.0 t.1))

pub third-y-requires : goal.third-y-requires
third-y-requires c =
    let a = c.args in
    let t = c.requires.rep in
    see2 a.w.now a.lay.slots a.lay.points a.u a.v t.0 t.1 c.requires.up c.in-Some.two.0 c.in-Some.two.1 (subst (λ x. IsTwins t.0 a.u a.v x) c.in-Some.is (c.two_tris-t.ensures t.0 t.1))

pub convex_pair-requires : goal.convex_pair-requires
convex_pair-requires c =
    let a = c.args in
    let t = c.requires.rep in
    four_within a.w.now a.lay.slots a.lay.points a.u a.v t.0 t.1 c.requires.up c.in-Some.two.0 c.in-Some.two.1 (subst (λ x. IsTwins t.0 a.u a.v x) c.in-Some.is (c.two_tris-t.ensures t.0 t.1))
    c.third-x.result c.third-y.result c.third-x.ensures c.third-y.ensures a.q.now t.2

pub returns-then-not-convex_pair : goal.returns-then-not-convex_pair
returns-then-not-convex_pair c =
    let a = c.args in
    record {
      is = λ m r q l.
          let is = subst (λ x. IsTwins m a.u a.v x) c.in-Some.is (c.two_tris-t.ensures m r) in
          let four = four_nodes a.w.now a.lay.slots a.lay.points a.u a.v m r c.requires.up c.in-Some.two.0 c.in-Some.two.1 is c.third-x.result c.third-y.result c.third-x.ensures c.third-y.ensures a.q.now q in
          flip_none a.w.now a.lay.slots a.lay.points m a.u a.v a.room
          (none_flat a.w.now a.lay.slots a.lay.points a.u a.v m r c.requires.up c.in-Some.two.0 c.in-Some.two.1 is c.third-x.result c.third-y.result c.third-x.ensures c.third-y.ensures
          c.convex_pair.result (c.convex_pair.ensures m four) c.if-not-convex_pair.true) r;
      keeps = keeps_refl a.w.now (mesh_end a.lay.slots a.lay.points);
    }

pub returns-then-not-room : goal.returns-then-not-room
returns-then-not-room c =
    let a = c.args in
    record {
      is = λ m r q l.
          let is = subst (λ x. IsTwins m a.u a.v x) c.in-Some.is (c.two_tris-t.ensures m r) in
          let four = four_nodes a.w.now a.lay.slots a.lay.points a.u a.v m r c.requires.up c.in-Some.two.0 c.in-Some.two.1 is c.third-x.result c.third-y.result c.third-x.ensures c.third-y.ensures a.q.now q in
          let h = is_flip a.w.now a.lay.slots a.lay.points a.u a.v m r c.requires.up c.in-Some.two.0 c.in-Some.two.1 is c.third-x.result c.third-y.result c.third-x.ensures c.third-y.ensures
          c.convex_pair.result (c.convex_pair.ensures m four)
          (lock_is m a.u a.v c.locked.result c.requires.up.up (c.locked.ensures m.locked l) ∙ c.if-locked.false) c.if-not-convex_pair.false in
          flip_short a.w.now a.lay.slots a.lay.points m a.u a.v a.room (flipped m (a.u, a.v) c.in-Some.two.0 (tri_read a.w.now a.lay.slots c.in-Some.two.0) c.in-Some.two.1 c.third-x.result c.third-y.result)
          h.is c.if-not-room.true r;
      keeps = keeps_refl a.w.now (mesh_end a.lay.slots a.lay.points);
    }

pub turn_evenly-requires : goal.turn_evenly-requires
turn_evenly-requires c =
    let a = c.args in
    let t = c.requires.rep in
    let m = t.0 in
    let is = subst (λ x. IsTwins m a.u a.v x) c.in-Some.is (c.two_tris-t.ensures m t.1) in
    let four = four_nodes a.w.now a.lay.slots a.lay.points a.u a.v m t.1 c.requires.up c.in-Some.two.0 c.in-Some.two.1 is c.third-x.result c.third-y.result c.third-x.ensures c.third-y.ensures a.q.now t.2 in (
      m,
      t.1,
      is_flip a.w.now a.lay.slots a.lay.points a.u a.v m t.1 c.requires.up c.in-Some.two.0 c.in-Some.two.1 is c.third-x.result c.third-y.result c.third-x.ensures c.third-y.ensures
          c.convex_pair.result (c.convex_pair.ensures m four)
          (lock_is m a.u a.v c.locked.result c.requires.up.up (c.locked.ensures m.locked t.3) ∙ c.if-locked.false) c.if-not-convex_pair.false,
    )

pub returns : goal.returns
returns c =
    let a = c.args in
    record {
      is = λ m r q l.
          let is = subst (λ x. IsTwins m a.u a.v x) c.in-Some.is (c.two_tris-t.ensures m r) in
          let four = four_nodes a.w.now a.lay.slots a.lay.points a.u a.v m r c.requires.up c.in-Some.two.0 c.in-Some.two.1 is c.third-x.result c.third-y.result c.third-x.ensures c.third-y.ensures a.q.now q in
          let h = is_flip a.w.now a.lay.slots a.lay.points a.u a.v m r c.requires.up c.in-Some.two.0 c.in-Some.two.1 is c.third-x.result c.third-y.result c.third-x.ensures c.third-y.ensures
          c.convex_pair.result (c.convex_pair.ensures m four)
          (lock_is m a.u a.v c.locked.result c.requires.up.up (c.locked.ensures m.locked l) ∙ c.if-locked.false) c.if-not-convex_pair.false in
          flip_some c.turn_evenly.new.w a.lay.slots a.lay.points m a.u a.v a.room (flipped m (a.u, a.v) c.in-Some.two.0 (tri_read a.w.now a.lay.slots c.in-Some.two.0) c.in-Some.two.1 c.third-x.result c.third-y.result)
          h.is c.if-not-room.false (c.turn_evenly.ensures.rep m r h);
      keeps = c.turn_evenly.ensures.keeps;
    }
