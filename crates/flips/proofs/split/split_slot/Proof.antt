use Prim.Native.Nat.{ℕ, ◌+◌}
use native.Mathlib.Omega.{arith}
use Rattle.definition.specs.Plane.{Node}
use Rattle.definition.specs.Cells.{Mesh, set_cell, push_cell}
use Rattle.definition.specs.Insertion.{with_point}
use Rattle.laws.specs.Frames.{keeps_trans}
use Rattle.cells.specs.Layout.{mesh_end}
use Rattle.cells.specs.Rep.{Rep}
use Rattle.meshes.specs.Changes.{CanSet, CanPush, tri_of_nodes}
use Rattle.cells.proofs.Slots.{rep_point}
use Rattle.flips.specs.Split.{CanSplit}
use Rattle.flips.proofs.Splits.{origin, Parts, parts, split_see, can_set, can_push, can_push2, split_is}
use borrow.Author.Rules.{rules}
use Rattle.flips.proofs.split.split_slot.Statement.{statement}
use Rattle.flips.proofs.split.split_slot.Tie as tie

-- the function's entry, and the three nodes that were read
abbrev top : tie.After-node-c → tie.Start
top k = k.before.before.before.before

abbrev first : tie.After-node-c → ℕ
first k = k.node-a.result

abbrev second : tie.After-node-c → ℕ
second k = k.node-b.result

abbrev third : tie.After-node-c → ℕ
third k = k.node-c.result

module _ (k : tie.After-node-c) (m : Mesh) (r : Rep (top k).args.w.now (top k).args.lay.slots (top k).args.lay.points m) (h : CanSplit m (top k).args.i (top k).args.used (top k).args.n) where
  has_parts : Parts m (top k).args.i (top k).args.n (first k) (second k) (third k)
  has_parts =
      let a = (top k).args in
      parts a.w.now a.lay.slots a.lay.points m r a.i a.used a.n h (first k) (second k) (third k)
      k.node-a.ensures k.node-b.ensures k.node-c.ensures

  with_new : (z : Node) → Rep (top k).args.w.now (top k).args.lay.slots (top k).args.lay.points (with_point m z)
  with_new z = let a = (top k).args in rep_point a.w.now a.lay.slots a.lay.points m r z (omega (arith, h.count, (top k).requires.1.point))

  set_ok : (z : Node) → CanSet (with_point m z) (top k).args.i (tri_of_nodes (first k) (second k) (top k).args.n)
  set_ok z = let a = (top k).args in can_set m z a.lay.slots a.lay.points a.i a.used a.n (first k) (second k) (third k) h (top k).requires.1 has_parts

  push_ok : (z : Node)
      → CanPush (set_cell (with_point m z) (top k).args.i (tri_of_nodes (first k) (second k) (top k).args.n)) (top k).args.lay.slots (top k).args.used (tri_of_nodes (second k) (third k) (top k).args.n)
  push_ok z = let a = (top k).args in can_push m z a.lay.slots a.lay.points a.i a.used a.n (first k) (second k) (third k) h (top k).requires.1 has_parts

  push_ok2 : (z : Node)
      → CanPush (push_cell (set_cell (with_point m z) (top k).args.i (tri_of_nodes (first k) (second k) (top k).args.n)) (tri_of_nodes (second k) (third k) (top k).args.n))
      (top k).args.lay.slots ((top k).args.used + 1) (tri_of_nodes (third k) (first k) (top k).args.n)
  push_ok2 z = let a = (top k).args in can_push2 m z a.lay.slots a.lay.points a.i a.used a.n (first k) (second k) (third k) h (top k).requires.1 has_parts

node_requires : tie.Need-node-a-requires
node_requires c κs =
    let t = c in
    let a = t.args in
    (split_see a.w.now a.lay.slots a.lay.points t.requires.0.0 t.requires.0.1 a.i a.used a.n t.requires.0.2, omega arith)

node_requires_2 : tie.Need-node-b-requires
node_requires_2 c κs =
    let t = c in
    let a = t.args in
    (split_see a.w.now a.lay.slots a.lay.points t.requires.0.0 t.requires.0.1 a.i a.used a.n t.requires.0.2, omega arith)

node_requires_3 : tie.Need-node-c-requires
node_requires_3 c κs =
    let t = c in
    let a = t.args in
    (split_see a.w.now a.lay.slots a.lay.points t.requires.0.0 t.requires.0.1 a.i a.used a.n t.requires.0.2, omega arith)

set_tri_requires : tie.Need-set_tri-requires
set_tri_requires c κs =
    let k = c in
    let t = top k.before in
    let m = t.requires.0.0 in
    (with_point m origin, with_new k.before m t.requires.0.1 t.requires.0.2 origin, set_ok k.before m t.requires.0.1 t.requires.0.2 origin)

push_tri_requires : tie.Need-push_tri-requires
push_tri_requires c κs =
    let s1 = c in
    let k = s1 in
    let t = top k.before.before.before.before.before in
    let a = t.args in
    let m = t.requires.0.0 in
    let r = t.requires.0.1 in
    let h = t.requires.0.2 in (
      set_cell (with_point m origin) a.i (tri_of_nodes (first k.before.before.before.before.before) (second k.before.before.before.before.before) a.n),
      s1.set_tri.ensures.rep (with_point m origin) (with_new k.before.before.before.before.before m r h origin) (set_ok k.before.before.before.before.before m r h origin),
      push_ok k.before.before.before.before.before m r h origin,
    )

push_tri_requires_2 : tie.Need-push_tri-requires-2
push_tri_requires_2 c κs =
    let s2 = c in
    let s1 = s2 in
    let k = s1 in
    let t = top k.before.before.before.before.before.before.before.before.before in
    let a = t.args in
    let m = t.requires.0.0 in
    let r = t.requires.0.1 in
    let h = t.requires.0.2 in
    let m1 = set_cell (with_point m origin) a.i (tri_of_nodes (first k.before.before.before.before.before.before.before.before.before) (second k.before.before.before.before.before.before.before.before.before) a.n) in (
      push_cell m1 (tri_of_nodes (second k.before.before.before.before.before.before.before.before.before) (third k.before.before.before.before.before.before.before.before.before) a.n),
      s2.push_tri.ensures.rep m1 (s1.set_tri.ensures.rep (with_point m origin) (with_new k.before.before.before.before.before.before.before.before.before m r h origin) (set_ok k.before.before.before.before.before.before.before.before.before m r h origin)) (push_ok k.before.before.before.before.before.before.before.before.before m r h origin),
      push_ok2 k.before.before.before.before.before.before.before.before.before m r h origin,
    )

returns : tie.Need-returns
returns c = λ z.
    let s3 = c in
    let s2 = s3 in
    let s1 = s2 in
    let k = s1 in
    let a = (top k.before.before.before.before.before.before.before.before.before.before.before.before).args in
    record {
      rep = λ m r h.
          let m1 = set_cell (with_point m z) a.i (tri_of_nodes (first k.before.before.before.before.before.before.before.before.before.before.before.before) (second k.before.before.before.before.before.before.before.before.before.before.before.before) a.n) in
          let m2 = push_cell m1 (tri_of_nodes (second k.before.before.before.before.before.before.before.before.before.before.before.before) (third k.before.before.before.before.before.before.before.before.before.before.before.before) a.n) in
          split_is s3.push_tri-2.new.w a.lay.slots a.lay.points m z a.i a.n (first k.before.before.before.before.before.before.before.before.before.before.before.before) (second k.before.before.before.before.before.before.before.before.before.before.before.before) (third k.before.before.before.before.before.before.before.before.before.before.before.before) _ _ _ h.count
          k.node-a.ensures k.node-b.ensures k.node-c.ensures
          (s3.push_tri-2.ensures.rep m2
          (s2.push_tri.ensures.rep m1 (s1.set_tri.ensures.rep (with_point m z) (with_new k.before.before.before.before.before.before.before.before.before.before.before.before m r h z) (set_ok k.before.before.before.before.before.before.before.before.before.before.before.before m r h z)) (push_ok k.before.before.before.before.before.before.before.before.before.before.before.before m r h z)) (push_ok2 k.before.before.before.before.before.before.before.before.before.before.before.before m r h z));
      keeps = keeps_trans a.w.now s2.push_tri.new.w s3.push_tri-2.new.w (mesh_end a.lay.slots a.lay.points)
          (keeps_trans a.w.now s1.set_tri.new.w s2.push_tri.new.w (mesh_end a.lay.slots a.lay.points) s1.set_tri.ensures.keeps s2.push_tri.ensures.keeps)
          s3.push_tri-2.ensures.keeps;
    }

pub split_slot_spec : {M : Type 1} → statement M
split_slot_spec =
    tie.close
    (tie.spec
    node_requires node_requires_2 node_requires_3 set_tri_requires push_tri_requires (λ c. search rules) push_tri_requires_2 (λ c. search rules) returns)
