-- The edges gathered, then sorted by their second nodes.
use Rattle.std.specs.Prelude.{◌+◌}
use Rattle.laws.specs.Kit.{subst, ℕ, arith}
use Rattle.front_edges.specs.Rows.{SortTo}
use Rattle.front_edges.proofs.Gathers.{can_sort, sorted}
use Rattle.front_edges.proofs.front_at.Goals as goal

pub overflow_add-b-2 : goal.overflow_add-b-2
overflow_add-b-2 c =
    let h = c.requires.1 in
    omega (arith, c.front_v_at-b.ensures, (c.gather-k.ensures c.requires.0 h).inside, h.rep.room.small)

pub sort_row-requires : goal.sort_row-requires
sort_row-requires c =
    let a = c.args in
    rw c.front_v_at-b.ensures
    (can_sort a.w.now c.gather-k.new.w a.lay.slots a.lay.points a.u a.from c.gather-k.result c.requires.0 c.requires.1 (c.gather-k.ensures c.requires.0 c.requires.1))

pub returns : goal.returns
returns c = λ m h.
    let a = c.args in
    sorted a.w.now c.gather-k.new.w a.lay.slots a.lay.points a.u a.from c.gather-k.result m h (c.gather-k.ensures m h) c.sort_row.new.w
    (subst (λ (z : ℕ). SortTo c.gather-k.new.w c.sort_row.new.w (z + a.from) (z + c.gather-k.result)) c.front_v_at-b.ensures c.sort_row.ensures)
