-- Piece after piece: those taken are whole and even, and `found` is a triangle beside the region that is not listed.
use Rattle.std.specs.Prelude.{is_some, ◌++◌}
use Rattle.laws.specs.Kit.{ap, refl, ◌∙◌, arith, List}
use Rattle.definition.specs.Cells.{Mesh, Live}
use Rattle.components.specs.Flood.{Marked}
use Rattle.components.proofs.Sweeps.{joined}
use Rattle.components.proofs.Looks.{found_tri}
use Rattle.components.proofs.Pieces.{Taking, start_around, taking_start, taking_few, taking_around, pieced_more, pieced_few, taking_on, odd_piece, none_after, none_beside}
use Rattle.components.proofs.near.leaves_odd_near.Goals as goal

pub mark_listed-requires : goal.mark_listed-requires
mark_listed-requires c = let q = c.requires.listed in (q.0, q.1, q.2, q.4)

pub beside-found-requires : goal.beside-found-requires
beside-found-requires c =
    let q = c.requires.listed in
    let v = (c.mark_listed.ensures q.0 q.1 q.2 q.4).state in
    (c.args.n, q.0, q.1, q.1, start_around v)

pub loop-found-init : goal.loop-found-init
loop-found-init c =
    let a = c.args in
    let q = c.requires.listed in
    let v = (c.mark_listed.ensures q.0 q.1 q.2 q.4).state in
    let begin : (m : Mesh) (xs : List Live) → Marked c.mark_listed.new.w a.lay.slots a.lay.points a.n m xs → Taking c.mark_listed.new.w c.mark_listed.new.w a.lay.slots a.lay.points a.n c.beside-found.result m xs =
    λ m xs h. taking_start h (c.beside-found.ensures a.n m xs xs (start_around h)) in
    (refl, taking_few (begin q.0 q.1 v), begin)

pub take_piece-took-requires : goal.take_piece-took-requires
take_piece-took-requires c =
    let q = c.requires.listed in
    let v = (c.mark_listed.ensures q.0 q.1 q.2 q.4).state in
    let g = c.loop-found.invariant.2 q.0 q.1 v in
    let f = found_tri g.looked c.in-Some.is in
    (q.0, q.1, q.1 ++ joined g.pieces, taking_around g v.len, f.0, f.1)

pub shape_of-w-then-is_none : goal.shape_of-w-then-is_none
shape_of-w-then-is_none c = c.take_piece-took.auto.w ∙ c.loop-found.invariant.0 ∙ c.mark_listed.auto.w

pub returns-then-is_none : goal.returns-then-is_none
returns-then-is_none c = λ m xs hs e u.
    let h = c.mark_listed.ensures m xs hs u in
    let v = h.state in
    let g = c.loop-found.invariant.2 m xs v in
    let f = found_tri g.looked c.in-Some.is in
    let b = c.take_piece-took.ensures m xs (xs ++ joined g.pieces) (taking_around g v.len) f.0 f.1 in
    none_after g hs.len c.requires.n_value e b c.if-is_none.ensures hs h.aside

pub overflow_sub-took : goal.overflow_sub-took
overflow_sub-took c =
    let q = c.requires.listed in
    let v = (c.mark_listed.ensures q.0 q.1 q.2 q.4).state in
    let g = c.loop-found.invariant.2 q.0 q.1 v in
    let f = found_tri g.looked c.in-Some.is in
    let b = c.take_piece-took.ensures q.0 q.1 (q.1 ++ joined g.pieces) (taking_around g v.len) f.0 f.1 in
    omega (arith, pieced_more g b)

pub shape_of-w-then-took-k-ne0 : goal.shape_of-w-then-took-k-ne0
shape_of-w-then-took-k-ne0 c = c.take_piece-took.auto.w ∙ c.loop-found.invariant.0 ∙ c.mark_listed.auto.w

pub returns-then-took-k-ne0 : goal.returns-then-took-k-ne0
returns-then-took-k-ne0 c = λ m xs hs e u.
    let h = c.mark_listed.ensures m xs hs u in
    let v = h.state in
    let g = c.loop-found.invariant.2 m xs v in
    let f = found_tri g.looked c.in-Some.is in
    let b = c.take_piece-took.ensures m xs (xs ++ joined g.pieces) (taking_around g v.len) f.0 f.1 in
    odd_piece g b c.if-is_none.ensures c.if-took-k-ne0.true hs h.aside

pub loop-found-smaller : goal.loop-found-smaller
loop-found-smaller c =
    let q = c.requires.listed in
    let v = (c.mark_listed.ensures q.0 q.1 q.2 q.4).state in
    let g = c.loop-found.invariant.2 q.0 q.1 v in
    let f = found_tri g.looked c.in-Some.is in
    let b = c.take_piece-took.ensures q.0 q.1 (q.1 ++ joined g.pieces) (taking_around g v.len) f.0 f.1 in
    omega (arith, pieced_more g b, pieced_few g b)

pub loop-found-preserved : goal.loop-found-preserved
loop-found-preserved c =
    let q = c.requires.listed in
    let v = (c.mark_listed.ensures q.0 q.1 q.2 q.4).state in
    let g = c.loop-found.invariant.2 q.0 q.1 v in
    let f = found_tri g.looked c.in-Some.is in
    let b = c.take_piece-took.ensures q.0 q.1 (q.1 ++ joined g.pieces) (taking_around g v.len) f.0 f.1 in (
      c.take_piece-took.auto.w ∙ c.loop-found.invariant.0,
      pieced_few g b,
      λ m xs v.
          let g = c.loop-found.invariant.2 m xs v in
          let f = found_tri g.looked c.in-Some.is in
          let b = c.take_piece-took.ensures m xs (xs ++ joined g.pieces) (taking_around g v.len) f.0 f.1 in
          taking_on g b c.if-is_none.ensures c.if-took-k-ne0.false,
    )

pub shape_of-w : goal.shape_of-w
shape_of-w c = c.loop-found.invariant.0 ∙ c.mark_listed.auto.w

pub returns : goal.returns
returns c = λ m xs hs e u.
    let h = c.mark_listed.ensures m xs hs u in
    none_beside (c.loop-found.invariant.2 m xs h.state) hs.len c.requires.n_value e (ap is_some c.in_default.is) hs h.aside
